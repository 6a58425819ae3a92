-- An index of slabs as one of them leaves it, or enters it.
use Rattle.std.proofs.Common.{◌≡◌, ◌≢◌, ℕ, ◌+◌, ◌-◌, ◌*◌, ◌/◌, ◌%◌, ◌<◌, ◌≤◌, Bool, true, false, cond, not, ◌&&◌, ◌||◌, ◌==◌, is_some, zero, suc, List, [], ◌∷◌, map, length, get_or, set, replicate, count_by, sum_by, Option, Some, None, IfSome, ⊎_elim, sym, ◌∙◌, ap, ap₂, arith, refl, subst, length-set, mul-zero}
use Rattle.std.proofs.lemmas.Bool.{cases_eq, cases_lt, eq-eqb, ne_eqb, eqb-true, or_parts, not-false, both_ways}
use Rattle.std.proofs.lemmas.List.{get_or-set_same, get_or-set_other, get_or_past, length-replicate, get_or-replicate, ext_get_or, get_or-map, length-map}
use Rattle.std.proofs.lemmas.List.Sums.{sum_by-set, sum_by-le, count_by-le-length, get_or-le-sum_by}
use Rattle.std.proofs.lemmas.List.Folds.{sum_by-replicate}
use Rattle.number_set.specs.Sets.{has}
use Rattle.kmem_model.specs.CacheState.{SlabState, slab_at, no_slab, slab_in_source, is_listed, is_dead, is_out_on, used}
use Rattle.kmem_model.specs.CacheOrder.{is_the}
use Rattle.kmem_model.specs.CacheEnter.{unmarked}
use Rattle.slab_list.specs.Slabs.{is_unused, ListState, IsListWhole, IsSlab}
use Rattle.slab_list.specs.Bins.{bin_of, has_note, IsIndexOf, IsEmptyIndex, with_place}
use Rattle.slab_list.specs.declared.index.Index.{Index}
use Rattle.kmem_model.specs.CacheState.{is_same_standing}
use Rattle.kmem_model.specs.declared.cache_state.Standing.TheVariants.{Listed, Dead}
use Rattle.number_set.specs.Sets.{SetState}
use Rattle.number_set.specs.Places.{IsLastBelow}
use Rattle.slab_list.specs.Bins.{IsSpent, IsLastUnspent}
use Rattle.std.proofs.lemmas.Nat.{div-mul-add}
use Rattle.slab_list.proofs.Steps.{out_within}
use Rattle.slab_list.specs.Bins.{bin_at}
use Rattle.slab_list.specs.declared.line.Line.{Line}
use Rattle.slab_list.proofs.Binned.{but, left, entered, length-with_place, levels-with_place, still_standing, elsewhere, put_there}

-- the bins of all slabs but one are those with that one in the source
pub but_is : (chunks : ℕ) (slabs : List SlabState) (i : ℕ) → i < length slabs → (j : ℕ) →
    bin_of chunks (slab_at (set slabs i no_slab) j) ≡ but (λ k. bin_of chunks (slab_at slabs k)) i j
but_is chunks slabs i below j =
    ⊎_elim
    (λ (same : j ≡ i).
    ap (λ k. bin_of chunks (slab_at (set slabs i no_slab) k)) same
    ∙ (ap (bin_of chunks) (get_or-set_same slabs i no_slab no_slab below) ∙ sym (ap (λ b. cond b None (bin_of chunks (slab_at slabs j))) (eq-eqb j i same))))
    (λ apart.
    ap (bin_of chunks) (get_or-set_other slabs i j no_slab no_slab apart) ∙ sym (ap (λ b. cond b None (bin_of chunks (slab_at slabs j))) (ne_eqb j i apart)))
    (cases_eq j i)

-- a sum without one slab
pub sum_but : (f : SlabState → ℕ) (slabs : List SlabState) (i : ℕ) → i < length slabs → f no_slab ≡ 0 →
    sum_by f (set slabs i no_slab) + f (slab_at slabs i) ≡ sum_by f slabs
sum_but f slabs i below none = omega (arith, sum_by-set f slabs i no_slab no_slab below, none)

-- notes of all slabs but one
pub note_but : (slabs : List SlabState) (flags : List Bool) (i : ℕ) (there : Bool) → i < length slabs → i < length flags →
    ((j : ℕ) → j ≢ i → get_or flags j false ≡ has_note (slab_at slabs j)) → there ≡ has_note (slab_at slabs i) →
    (j : ℕ) → get_or (set flags i there) j false ≡ has_note (slab_at slabs j)
note_but slabs flags i there below room told is j =
    ⊎_elim
    (λ (same : j ≡ i).
    ap (λ k. get_or (set flags i there) k false) same ∙ (get_or-set_same flags i there false room ∙ (is ∙ ap (λ k. has_note (slab_at slabs k)) (sym same))))
    (λ apart. get_or-set_other flags i j there false apart ∙ told j apart)
    (cases_eq j i)

pub few_out : (s : ListState) → IsListWhole s → s.chunks ≤ 64 → length s.slabs ≤ 4096 → sum_by used s.slabs ≤ 262144
few_out s whole narrow few =
    omega (
      arith,
      sum_by-le used 64 s.slabs
          (λ i d below. let slab : IsSlab s.chunks (get_or s.slabs i d) = whole.slabs i d below in
          omega (arith, count_by-le-length (λ (o : Bool). o) (get_or s.slabs i d).out, slab.size, narrow)),
      few,
    )

-- slabs of the source alone
pub index_empty : (n chunks : ℕ) (skip : List Bool) (x : Index) → n ≤ 4096 → chunks ≤ 64 → length skip ≡ n * chunks → IsEmptyIndex x →
    IsIndexOf chunks (replicate n (slab_in_source chunks)) skip x
index_empty n chunks skip x few narrow as_many e =
    let slabs : List SlabState = replicate n (slab_in_source chunks) in
    record {
      narrow = narrow;
      few = omega (arith, few, length-replicate n (slab_in_source chunks));
      tall = e.tall;
      room = e.room;
      wide = e.wide;
      notes = e.notes;
      as_many = as_many ∙ ap (λ m. m * chunks) (sym (length-replicate n (slab_in_source chunks)));
      standing = λ p given. absurd (both_ways (has x.unspent p) (e.unspent p) given);
      spent = λ p given. absurd (both_ways (has x.places p) (e.places p) given);
      places = λ p. e.places p ∙ sym (at (λ slab. is_the (bin_of chunks slab) (p / 4096) ≡ false) refl refl (p % 4096));
      noted = λ i. e.noted i ∙ sym (at (λ slab. has_note slab ≡ false) refl refl i);
      listed = e.counts.0 ∙ sym (sum_by-replicate (λ slab. cond (is_listed slab) 1 0) n (slab_in_source chunks) ∙ mul-zero n);
      unused = e.counts.1 ∙ sym (sum_by-replicate (λ slab. cond (is_unused slab) 1 0) n (slab_in_source chunks) ∙ mul-zero n);
      dead = e.counts.2 ∙ sym (sum_by-replicate (λ slab. cond (is_dead slab) 1 0) n (slab_in_source chunks) ∙ mul-zero n);
      out = e.counts.3 ∙ sym (sum_by-replicate used n (slab_in_source chunks) ∙ (ap (λ u. n * u) none_out ∙ mul-zero n));
    }
  where
    none_out : used (slab_in_source chunks) ≡ 0
    none_out = sum_by-replicate (λ (o : Bool). cond o 1 0) chunks false ∙ mul-zero chunks

    at : (P : SlabState → Type 0) → P (slab_in_source chunks) → P no_slab → (i : ℕ) → P (slab_at (replicate n (slab_in_source chunks)) i)
    at P here past i =
        ⊎_elim
        (λ (below : i < n). subst P (sym (get_or-replicate n i (slab_in_source chunks) no_slab below)) here)
        (λ over. subst P (sym (get_or_past (replicate n (slab_in_source chunks)) i no_slab (omega (arith, over, length-replicate n (slab_in_source chunks))))) past)
        (cases_lt i n)

-- no buffer of a slab that was taken out is out
nothing_out : (slabs : List SlabState) (i j : ℕ) → i < length slabs → is_out_on (slab_at (set slabs i no_slab) i) j ≡ true → ⊥
nothing_out slabs i j below out =
    both_ways (is_out_on no_slab j) refl (ap (λ slab. is_out_on slab j) (sym (get_or-set_same slabs i no_slab no_slab below)) ∙ out)

pub set_twice : (slabs : List SlabState) (i : ℕ) (x y : SlabState) → set (set slabs i x) i y ≡ set slabs i y
set_twice [] i x y = refl
set_twice (s ∷ rest) zero x y = refl
set_twice (s ∷ rest) (suc i) x y = ap (λ slabs. s ∷ slabs) (set_twice rest i x y)

abbrev pub one : Bool → ℕ
one b = cond b 1 0

-- a line that tells of its slab
pub record Tells (line : Line) (slab : SlabState) : Type 0 where
  pub standing : line.standing ≡ slab.standing
  pub used : line.used ≡ used slab
  pub later : line.later ≡ slab.later
  pub stuck : line.stuck ≡ slab.stuck

module _ (chunks : ℕ) (slabs : List SlabState) (x : Index) (i : ℕ) (below : i < length slabs) (line : Line) (t : Tells line (slab_at slabs i)) where
  abbrev it : SlabState
  it = slab_at slabs i

  line_bin : bin_at chunks line.standing line.used (is_some line.stuck) ≡ bin_of chunks it
  line_bin =
      ap (λ st. bin_at chunks st line.used (is_some line.stuck)) t.standing
      ∙ ap₂ (λ u o. bin_at chunks it.standing u (is_some o)) t.used t.stuck

  line_note : (not (line.later == 0) || is_some line.stuck) ≡ has_note it
  line_note = ap₂ (λ n o. not (n == 0) || is_some o) t.later t.stuck

  line_listed : one (is_same_standing Listed line.standing) ≡ one (is_listed it)
  line_listed = ap (λ st. one (is_same_standing Listed st)) t.standing

  line_unused : one (is_same_standing Listed line.standing && line.used == 0) ≡ one (is_unused it)
  line_unused = ap₂ (λ st u. one (is_same_standing Listed st && u == 0)) t.standing t.used

  line_dead : one (is_same_standing Dead line.standing) ≡ one (is_dead it)
  line_dead = ap (λ st. one (is_same_standing Dead st)) t.standing

  -- what the slab counts for is part of the whole
  pub listed_part : one (is_same_standing Listed line.standing) ≤ count_by is_listed slabs
  listed_part = omega (arith, line_listed, get_or-le-sum_by (λ (y : SlabState). one (is_listed y)) slabs i no_slab below)

  pub unused_part : one (is_same_standing Listed line.standing && line.used == 0) ≤ count_by is_unused slabs
  unused_part = omega (arith, line_unused, get_or-le-sum_by (λ (y : SlabState). one (is_unused y)) slabs i no_slab below)

  pub dead_part : one (is_same_standing Dead line.standing) ≤ count_by is_dead slabs
  dead_part = omega (arith, line_dead, get_or-le-sum_by (λ (y : SlabState). one (is_dead y)) slabs i no_slab below)

  pub out_part : line.used ≤ sum_by used slabs
  out_part = omega (arith, t.used, get_or-le-sum_by used slabs i no_slab below)

  module _ (bin : Option ℕ) (is : bin ≡ bin_at chunks line.standing line.used (is_some line.stuck)) (small : IfSome bin (λ b. b < 130))
      (places unspent noted : SetState) (skip : List Bool) (listed unused dead out : ℕ) where
    pub leaves : IsIndexOf chunks slabs skip x → places ≡ with_place x.places bin i false → unspent ≡ with_place x.unspent bin i false → noted ≡ record x.noted { flags = set x.noted.flags i false } →
        listed ≡ x.listed - one (is_same_standing Listed line.standing) →
        unused ≡ x.unused - one (is_same_standing Listed line.standing && line.used == 0) →
        dead ≡ x.dead - one (is_same_standing Dead line.standing) → out ≡ x.out - line.used →
        IsIndexOf chunks (set slabs i no_slab) skip
        (record { places = places; unspent = unspent; noted = noted; listed = listed; unused = unused; dead = dead; out = out })
    leaves k ep eq en el eu ed eo =
        let low : i < 4096 = omega (arith, below, k.few) in
        record {
          narrow = k.narrow;
          few = omega (arith, k.few, length-set slabs i no_slab);
          tall = ap (λ s. s.levels) ep ∙ (levels-with_place x.places bin i false ∙ k.tall);
          room = omega (arith, k.room, ap {A = SetState} {B = ℕ} (λ s. length s.flags) ep, length-with_place x.places bin i false);
          wide = omega (arith, k.wide, ap {A = SetState} {B = ℕ} (λ s. length s.flags) eq, length-with_place x.unspent bin i false);
          notes = omega (arith, k.notes, ap {A = SetState} {B = ℕ} (λ s. length s.flags) en, length-set x.noted.flags i false);
          as_many = k.as_many ∙ ap (λ n. n * chunks) (sym (length-set slabs i no_slab));
          standing = λ p given.
              ap (λ s. has s p) ep
              ∙ still_standing x.unspent x.places bin i false low small k.wide k.room k.standing p (sym (ap (λ s. has s p) eq) ∙ given);
          spent = λ p given shut j out.
              ⊎_elim
              (λ (same : p % 4096 ≡ i). absurd (nothing_out slabs i j below (sym (ap (λ n. is_out_on (slab_at (set slabs i no_slab) n) j) same) ∙ out)))
              (λ apart.
              k.spent p
              (sym (ap (λ s. has s p) ep ∙ elsewhere x.places bin i false low p apart) ∙ given)
              (sym (ap (λ s. has s p) eq ∙ elsewhere x.unspent bin i false low p apart) ∙ shut) j
              (sym (ap (λ slab. is_out_on slab j) (get_or-set_other slabs i (p % 4096) no_slab no_slab apart)) ∙ out))
              (cases_eq (p % 4096) i);
          places = λ p.
              ap (λ s. has s p) ep
              ∙ (left (λ j. bin_of chunks (slab_at slabs j)) x.places i low k.room bin (sym (is ∙ line_bin)) small k.places p
              ∙ sym (ap (λ o. is_the o (p / 4096)) (but_is chunks slabs i below (p % 4096))));
          noted = λ j.
              ap (λ s. has s j) en
              ∙ note_but (set slabs i no_slab) x.noted.flags i false (omega (arith, below, length-set slabs i no_slab)) (omega (arith, low, k.notes))
              (λ m apart. k.noted m ∙ ap has_note (sym (get_or-set_other slabs i m no_slab no_slab apart)))
              (sym (ap has_note (get_or-set_same slabs i no_slab no_slab below))) j;
          listed = omega (arith, el, k.listed, line_listed, sum_but (λ y. one (is_listed y)) slabs i below refl);
          unused = omega (arith, eu, k.unused, line_unused, sum_but (λ y. one (is_unused y)) slabs i below refl);
          dead = omega (arith, ed, k.dead, line_dead, sum_but (λ y. one (is_dead y)) slabs i below refl);
          out = omega (arith, eo, k.out, t.used, sum_but used slabs i below refl);
        }

    placed : IsIndexOf chunks (set slabs i no_slab) skip x → places ≡ with_place x.places bin i true →
        (p : ℕ) → has places p ≡ is_the (bin_of chunks (slab_at slabs (p % 4096))) (p / 4096)
    placed k ep p =
        ap (λ s. has s p) ep
        ∙ entered (λ j. bin_of chunks (slab_at slabs j)) x.places i (omega (arith, below, k.few, length-set slabs i no_slab)) k.room bin (sym (is ∙ line_bin)) small
        (λ q. k.places q ∙ ap (λ o. is_the o (q / 4096)) (but_is chunks slabs i below (q % 4096))) p

    pub enters : IsIndexOf chunks (set slabs i no_slab) skip x → places ≡ with_place x.places bin i true → unspent ≡ with_place x.unspent bin i true →
        noted ≡ record x.noted { flags = set x.noted.flags i (not (line.later == 0) || is_some line.stuck) } →
        listed ≡ x.listed + one (is_same_standing Listed line.standing) →
        unused ≡ x.unused + one (is_same_standing Listed line.standing && line.used == 0) →
        dead ≡ x.dead + one (is_same_standing Dead line.standing) → out ≡ x.out + line.used →
        IsIndexOf chunks slabs skip
        (record { places = places; unspent = unspent; noted = noted; listed = listed; unused = unused; dead = dead; out = out })
    enters k ep eq en el eu ed eo =
        let few : length slabs ≤ 4096 = omega (arith, k.few, length-set slabs i no_slab) in
        let low : i < 4096 = omega (arith, below, few) in
        record {
          narrow = k.narrow;
          few = few;
          tall = ap (λ s. s.levels) ep ∙ (levels-with_place x.places bin i true ∙ k.tall);
          room = omega (arith, k.room, ap {A = SetState} {B = ℕ} (λ s. length s.flags) ep, length-with_place x.places bin i true);
          wide = omega (arith, k.wide, ap {A = SetState} {B = ℕ} (λ s. length s.flags) eq, length-with_place x.unspent bin i true);
          notes = omega (arith, k.notes, ap {A = SetState} {B = ℕ} (λ s. length s.flags) en, length-set x.noted.flags i (not (line.later == 0) || is_some line.stuck));
          as_many = k.as_many ∙ ap (λ n. n * chunks) (length-set slabs i no_slab);
          standing = λ p given.
              ap (λ s. has s p) ep
              ∙ still_standing x.unspent x.places bin i true low small k.wide k.room k.standing p (sym (ap (λ s. has s p) eq) ∙ given);
          spent = λ p given shut j out.
              ⊎_elim
              (λ (same : p % 4096 ≡ i).
              absurd (both_ways (has unspent p) shut
              (ap (λ s. has s p) eq ∙ put_there x.unspent bin i low k.wide small p same
              (ap (λ o. is_the o (p / 4096)) (is ∙ line_bin ∙ ap (λ n. bin_of chunks (slab_at slabs n)) (sym same)) ∙ (sym (placed k ep p) ∙ given)))))
              (λ apart.
              k.spent p
              (sym (ap (λ s. has s p) ep ∙ elsewhere x.places bin i true low p apart) ∙ given)
              (sym (ap (λ s. has s p) eq ∙ elsewhere x.unspent bin i true low p apart) ∙ shut) j
              (ap (λ slab. is_out_on slab j) (get_or-set_other slabs i (p % 4096) no_slab no_slab apart) ∙ out))
              (cases_eq (p % 4096) i);
          places = placed k ep;
          noted = λ j.
              ap (λ s. has s j) en
              ∙ note_but slabs x.noted.flags i (not (line.later == 0) || is_some line.stuck) below (omega (arith, low, k.notes))
              (λ m apart. k.noted m ∙ ap has_note (get_or-set_other slabs i m no_slab no_slab apart)) line_note j;
          listed = omega (arith, el, k.listed, line_listed, sum_but (λ y. one (is_listed y)) slabs i below refl);
          unused = omega (arith, eu, k.unused, line_unused, sum_but (λ y. one (is_unused y)) slabs i below refl);
          dead = omega (arith, ed, k.dead, line_dead, sum_but (λ y. one (is_dead y)) slabs i below refl);
          out = omega (arith, eo, k.out, t.used, sum_but used slabs i below refl);
        }

    -- and the count of buffers that are out fits
    pub out_fits : IsIndexOf chunks (set slabs i no_slab) skip x → sum_by used slabs ≤ 262144 → x.out + line.used ≤ 262144
    out_fits k few = omega (arith, few, k.out, t.used, sum_but used slabs i below refl)

-- the index fits a list of which one slab was changed since that slab left it
pub reenter : (s t : ListState) (i : ℕ) (y : SlabState) (x : Index) → t ≡ record s { slabs = set s.slabs i y } →
    IsIndexOf s.chunks (set s.slabs i no_slab) s.skip x → IsIndexOf t.chunks (set t.slabs i no_slab) t.skip x
reenter s t i y x e old =
    subst (λ u. IsIndexOf u.chunks (set u.slabs i no_slab) u.skip x) (sym e)
    (subst (λ slabs. IsIndexOf s.chunks slabs s.skip x) (sym (set_twice s.slabs i y no_slab)) old)

-- and one in which a scan leaves out a buffer of that slab, or doesn't any more
pub reskip : (s t : ListState) (b : ℕ) (left_out : Bool) (x : Index) → IsListWhole s → t ≡ record s { skip = set s.skip b left_out } → b / s.chunks < length s.slabs →
    IsIndexOf s.chunks (set s.slabs (b / s.chunks) no_slab) s.skip x → IsIndexOf t.chunks (set t.slabs (b / s.chunks) no_slab) t.skip x
reskip s t b left_out x whole e below k =
    let i = b / s.chunks in
    subst (λ u. IsIndexOf u.chunks (set u.slabs i no_slab) u.skip x) (sym e)
    (record {
      narrow = k.narrow;
      few = k.few;
      tall = k.tall;
      room = k.room;
      wide = k.wide;
      notes = k.notes;
      as_many = length-set s.skip b left_out ∙ k.as_many;
      places = k.places;
      standing = k.standing;
      noted = k.noted;
      listed = k.listed;
      unused = k.unused;
      dead = k.dead;
      out = k.out;
      spent = λ p given shut j out.
          ⊎_elim
          (λ (same : p % 4096 ≡ i). absurd (nothing_out s.slabs i j below (sym (ap (λ n. is_out_on (slab_at (set s.slabs i no_slab) n) j) same) ∙ out)))
          (λ apart.
          get_or-set_other s.skip b (p % 4096 * s.chunks + j) left_out false
          (λ same. apart (sym (div-mul-add (p % 4096) s.chunks j (inside p j apart out)) ∙ ap (λ n. n / s.chunks) same))
          ∙ k.spent p given shut j out)
          (cases_eq (p % 4096) i);
    })
  where
    inside : (p j : ℕ) → p % 4096 ≢ b / s.chunks → is_out_on (slab_at (set s.slabs (b / s.chunks) no_slab) (p % 4096)) j ≡ true → j < s.chunks
    inside p j apart out =
        let here : is_out_on (slab_at s.slabs (p % 4096)) j ≡ true =
        sym (ap (λ slab. is_out_on slab j) (get_or-set_other s.slabs (b / s.chunks) (p % 4096) no_slab no_slab apart)) ∙ out in
        let low = out_within s.slabs (p % 4096) j here in
        let slab : IsSlab s.chunks (slab_at s.slabs (p % 4096)) = whole.slabs (p % 4096) no_slab low in
        ⊎_elim (λ less. less)
        (λ past. absurd (both_ways (is_out_on (slab_at s.slabs (p % 4096)) j) (get_or_past (slab_at s.slabs (p % 4096)).out j false (omega (arith, past, slab.size))) here))
        (cases_lt j s.chunks)

-- a slab that has no buffer left to ask about can be closed
pub spends : (chunks : ℕ) (slabs : List SlabState) (skip : List Bool) (x : Index) (p : ℕ) → IsIndexOf chunks slabs skip x → p < 532480 →
    IsSpent chunks slabs skip (p % 4096) → IsIndexOf chunks slabs skip (record x { unspent = record x.unspent { flags = set x.unspent.flags p false } })
spends chunks slabs skip x p k low none =
    record {
      narrow = k.narrow;
      few = k.few;
      tall = k.tall;
      room = k.room;
      wide = omega (arith, k.wide, length-set x.unspent.flags p false);
      notes = k.notes;
      as_many = k.as_many;
      places = k.places;
      noted = k.noted;
      listed = k.listed;
      unused = k.unused;
      dead = k.dead;
      out = k.out;
      standing = λ q given.
          ⊎_elim
          (λ (same : q ≡ p).
          absurd (both_ways (get_or (set x.unspent.flags p false) q false)
          (ap (λ n. get_or (set x.unspent.flags p false) n false) same ∙ get_or-set_same x.unspent.flags p false false (omega (arith, low, k.wide))) given))
          (λ apart. k.standing q (sym (get_or-set_other x.unspent.flags p q false false apart) ∙ given))
          (cases_eq q p);
      spent = λ q given shut.
          ⊎_elim
          (λ (same : q ≡ p). subst (λ n. IsSpent chunks slabs skip (n % 4096)) (sym same) none)
          (λ apart. k.spent q given (sym (get_or-set_other x.unspent.flags p q false false apart) ∙ shut))
          (cases_eq q p);
    }

-- the last place that is open is that of the last slab that may have a buffer left
pub last_unspent : (s : ListState) (x : Index) (to : ℕ) (o : Option ℕ) → IsIndexOf s.chunks s.slabs s.skip x → IsLastBelow (has x.unspent) to o → IsLastUnspent s to o
last_unspent s x to None k none = λ p low given. k.spent p (k.places p ∙ given) (none p low)
last_unspent s x to (Some n) k found = (
  found.0,
  sym (k.places n) ∙ k.standing n found.1,
  λ p over low given. k.spent p (k.places p ∙ given) (found.2 p over low),
)

pub still_within : (s t : ListState) (i : ℕ) (y : SlabState) → t ≡ record s { slabs = set s.slabs i y } → i < length s.slabs → i < length t.slabs
still_within s t i y e below = omega (arith, below, ap {A = ListState} {B = ℕ} (λ u. length u.slabs) e, length-set s.slabs i y)

pub set_within : (slabs : List SlabState) (i : ℕ) → length (set slabs i no_slab) ≤ 4096 → length slabs ≤ 4096
set_within slabs i few = omega (arith, few, length-set slabs i no_slab)

-- where no slab has a count or a mark, none has to be taken away
quiet : (slab : SlabState) → has_note slab ≡ false → unmarked slab ≡ slab
quiet slab none =
    let parts = or_parts (not (slab.later == 0)) (is_some slab.stuck) none in
    let zero_later : slab.later ≡ 0 = eqb-true slab.later 0 (not-false (slab.later == 0) parts.0) in
    ap₂ (λ n o. record slab { later = n; stuck = o }) (sym zero_later) (sym (is_none_from slab.stuck parts.1))
  where
    is_none_from : (o : Option ℕ) → is_some o ≡ false → o ≡ None
    is_none_from None e = refl
    is_none_from (Some k) e = absurd (both_ways true e refl)

pub forget_all : (old new : List SlabState) → length new ≡ length old → ((i : ℕ) → unmarked (slab_at new i) ≡ unmarked (slab_at old i)) →
    ((i : ℕ) → has_note (slab_at new i) ≡ false) → new ≡ map unmarked old
forget_all old new size same none =
    ext_get_or no_slab new (map unmarked old) (size ∙ sym (length-map old unmarked))
    (λ i below.
    sym (quiet (slab_at new i) (none i))
    ∙ (same i ∙ sym (get_or-map unmarked old i no_slab no_slab (omega (arith, below, size)))))
