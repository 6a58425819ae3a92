-- How the source and the slabs stay in step where one slab changes.
use Rattle.std.proofs.Common.{◌≡◌, ◌≢◌, ℕ, zero, suc, ◌<◌, ◌&&◌, ◌||◌, not, nat_lt, Bool, true, false, cond, count_by, List, [], ◌∷◌, map, length, set, replicate, sym, ◌∙◌, ap, ap₂, refl, arith, ⊎_elim, subst}
use Rattle.std.specs.FinSet as fin
use Rattle.std.specs.Cmp.{nat_cmp_total, unsigned_tied}
use Rattle.std.proofs.lemmas.Bool.{cases_Bool, cases_lt, cases_eq, lt-ltb, eq-eqb, ne_eqb}
use Rattle.std.proofs.lemmas.List.{get_or-set_same, get_or-set_other, length-set, length-map, ext_get_or, get_or_past, length-replicate, get_or-replicate}
use Rattle.std.proofs.lemmas.List.Sums.{sum_by-set}
use Rattle.slab_source.specs.Source.{SourceState}
use Rattle.slab_list.specs.Slabs.{is_unused}
use Rattle.kmem_model.specs.CacheState.{SlabState, slab_at, no_slab, slab_in_source, is_in_source, is_dead}
use Rattle.kmem_model.specs.CacheEnter.{slab_given_back}
use Rattle.object_cache.specs.Stock.{AreHeld, OthersAreUsed, IsStocked}

-- what is read where all slabs were changed
pub mapped_at : (f : SlabState → SlabState) (slabs : List SlabState) → f no_slab ≡ no_slab → (i : ℕ) → slab_at (map f slabs) i ≡ f (slab_at slabs i)
mapped_at f [] default i = sym default
mapped_at f (x ∷ xs) default zero = refl
mapped_at f (x ∷ xs) default (suc i) = mapped_at f xs default i

-- what is read where one slab was changed
pub reads : {Y : Type 0} (f : SlabState → Y) (slabs : List SlabState) (i j : ℕ) (x : SlabState) → i < length slabs → (P : Y → Type 0) →
    (j ≡ i → P (f x)) → (j ≢ i → P (f (slab_at slabs j))) → P (f (slab_at (set slabs i x) j))
reads f slabs i j x below P here there =
    ⊎_elim
    (λ same.
    subst (λ (slab : SlabState). P (f slab))
    (sym (ap (λ n. slab_at (set slabs i x) n) same ∙ get_or-set_same slabs i x no_slab below))
    (here same))
    (λ apart. subst (λ (slab : SlabState). P (f slab)) (sym (get_or-set_other slabs i j x no_slab apart)) (there apart))
    (cases_eq j i)

pub used-set : (slabs : List SlabState) (i : ℕ) (x : SlabState) → i < length slabs → is_unused x ≡ false → OthersAreUsed i slabs →
    (j : ℕ) → is_unused (slab_at (set slabs i x) j) ≡ false
used-set slabs i x below here others j = reads is_unused slabs i j x below (λ b. b ≡ false) (λ _. here) (λ apart. others j apart)

module _ (slabs : List SlabState) (source : SourceState) (i : ℕ) (x : SlabState) (below : i < length slabs) (kept : AreHeld slabs source) where
  pub held-set : (next : SourceState) → next.slabs ≡ source.slabs → fin.contains next.held i ≡ is_in_source x →
      ((j : ℕ) → j ≢ i → fin.contains next.held j ≡ fin.contains source.held j) → AreHeld (set slabs i x) next
  held-set next as_many here others =
      record {
        size = as_many ∙ (kept.size ∙ sym (length-set slabs i x));
        held = λ j.
            ⊎_elim
            (λ same.
            ap (fin.contains next.held) same
            ∙ (here
            ∙ (sym
            (ap₂ (λ (a b : Bool). a && b) (lt-ltb i (length (set slabs i x)) (omega (arith, below, length-set slabs i x))) (ap is_in_source (get_or-set_same slabs i x no_slab below)))
            ∙ ap (λ n. nat_lt n (length (set slabs i x)) && is_in_source (slab_at (set slabs i x) n)) (sym same))))
            (λ apart.
            others j apart
            ∙ (kept.held j
            ∙ sym (ap₂ (λ n (slab : SlabState). nat_lt j n && is_in_source slab) (length-set slabs i x) (get_or-set_other slabs i j x no_slab apart))))
            (cases_eq j i);
      }

  -- what the source says of the slab
  pub stood : fin.contains source.held i ≡ is_in_source (slab_at slabs i)
  stood = kept.held i ∙ ap (λ b. b && is_in_source (slab_at slabs i)) (lt-ltb i (length slabs) below)

  pub held-same : is_in_source x ≡ is_in_source (slab_at slabs i) → AreHeld (set slabs i x) source
  held-same same = held-set source refl (stood ∙ sym same) (λ j apart. refl)

  pub held-taken : is_in_source x ≡ false → AreHeld (set slabs i x) (record { slabs = source.slabs; held = fin.remove source.held i })
  held-taken gone =
      held-set (record { slabs = source.slabs; held = fin.remove source.held i }) refl
      (fin.contains-remove nat_cmp_total source.held i i
      ∙ (ap (λ b. not b && fin.contains source.held i) (unsigned_tied i i ∙ eq-eqb i i refl) ∙ sym gone))
      (λ j apart.
      fin.contains-remove nat_cmp_total source.held i j
      ∙ ap (λ b. not b && fin.contains source.held j) (unsigned_tied j i ∙ ne_eqb j i apart))

  pub held-given : is_in_source x ≡ true → AreHeld (set slabs i x) (record { slabs = source.slabs; held = fin.insert source.held i })
  held-given back =
      held-set (record { slabs = source.slabs; held = fin.insert source.held i }) refl
      (fin.contains-insert nat_cmp_total source.held i i
      ∙ (ap (λ b. b || fin.contains source.held i) (unsigned_tied i i ∙ eq-eqb i i refl) ∙ sym back))
      (λ j apart.
      fin.contains-insert nat_cmp_total source.held i j
      ∙ ap (λ b. b || fin.contains source.held j) (unsigned_tied j i ∙ ne_eqb j i apart))

-- a change of all slabs that the source doesn't see
pub map_stocked : (f : SlabState → SlabState) (slabs : List SlabState) (source : SourceState) → f no_slab ≡ no_slab →
    ((slab : SlabState) → is_in_source (f slab) ≡ is_in_source slab) → ((slab : SlabState) → is_unused (f slab) ≡ is_unused slab) →
    IsStocked slabs source → IsStocked (map f slabs) source
map_stocked f slabs source default in_source unused stocked =
    record {
      held = record {
        size = stocked.held.size ∙ sym (length-map slabs f);
        held = λ i.
            stocked.held.held i
            ∙ ap₂ (λ n (b : Bool). nat_lt i n && b) (sym (length-map slabs f)) (sym (ap is_in_source (mapped_at f slabs default i) ∙ in_source (slab_at slabs i)));
      };
      used = λ i. ap is_unused (mapped_at f slabs default i) ∙ (unused (slab_at slabs i) ∙ stocked.used i);
    }

pub back_source : (slab : SlabState) → is_dead slab ≡ true → is_in_source (slab_given_back slab) ≡ true
back_source slab dead = rw dead refl

pub back_used : (slab : SlabState) → is_dead slab ≡ true → is_unused (slab_given_back slab) ≡ false
back_used slab dead = rw dead refl

-- some of the dead ones went back
pub record WentBack (old new : List SlabState) : Type 0 where
  pub len : length new ≡ length old
  pub same : (i : ℕ) → slab_given_back (slab_at new i) ≡ slab_given_back (slab_at old i)

back_alive : (slab : SlabState) → is_dead slab ≡ false → slab_given_back slab ≡ slab
back_alive slab alive = rw alive refl

back_twice : (slab : SlabState) → slab_given_back (slab_given_back slab) ≡ slab_given_back slab
back_twice slab =
    ⊎_elim
    (λ (dead : is_dead slab ≡ true). rw dead refl)
    (λ alive. ap slab_given_back (back_alive slab alive))
    (cases_Bool (is_dead slab))

-- one more of them
pub went_more : (old new : List SlabState) (i : ℕ) → i < length new → WentBack old new → WentBack old (set new i (slab_given_back (slab_at new i)))
went_more old new i below went =
    record {
      len = length-set new i (slab_given_back (slab_at new i)) ∙ went.len;
      same = λ j.
          reads slab_given_back new i j (slab_given_back (slab_at new i)) below (λ slab. slab ≡ slab_given_back (slab_at old j))
          (λ same. back_twice (slab_at new i) ∙ (went.same i ∙ ap (λ n. slab_given_back (slab_at old n)) (sym same)))
          (λ apart. went.same j);
    }

-- and where none is dead, all of them
pub back_all : (old new : List SlabState) → WentBack old new → ((i : ℕ) → i < length new → is_dead (slab_at new i) ≡ false) → new ≡ map slab_given_back old
back_all old new went none =
    ext_get_or no_slab new (map slab_given_back old) (went.len ∙ sym (length-map old slab_given_back))
    (λ i below. sym (back_alive (slab_at new i) (none i below)) ∙ (went.same i ∙ sym (mapped_at slab_given_back old refl i)))

-- how many are dead falls
pub fewer_dead : (slabs : List SlabState) (i : ℕ) → i < length slabs → is_dead (slab_at slabs i) ≡ true →
    count_by is_dead (set slabs i (slab_given_back (slab_at slabs i))) < count_by is_dead slabs
fewer_dead slabs i below dead =
    omega (
      arith,
      sum_by-set (λ (slab : SlabState). cond (is_dead slab) 1 0) slabs i (slab_given_back (slab_at slabs i)) no_slab below,
      ap {A = Bool} {B = ℕ} (λ b. cond b 1 0) dead,
      ap {A = Bool} {B = ℕ} (λ b. cond b 1 0) (not_dead (slab_at slabs i) dead),
    )
  where
    not_dead : (slab : SlabState) → is_dead slab ≡ true → is_dead (slab_given_back slab) ≡ false
    not_dead slab d = rw d refl

-- slabs of the source alone
module _ (n chunks : ℕ) where
  at_start : (P : SlabState → Type 0) → P (slab_in_source chunks) → P no_slab → (i : ℕ) → P (slab_at (replicate n (slab_in_source chunks)) i)
  at_start P here past i =
      ⊎_elim
      (λ (below : i < n). subst P (sym (get_or-replicate n i (slab_in_source chunks) no_slab below)) here)
      (λ over. subst P (sym (get_or_past (replicate n (slab_in_source chunks)) i no_slab (omega (arith, over, length-replicate n (slab_in_source chunks))))) past)
      (cases_lt i n)

  same_held : (a b : Bool) → b ≡ true → a ≡ (a && b)
  same_held true b e = sym e
  same_held false b e = refl

  pub stocked_start : (slabs : List SlabState) (source : SourceState) → slabs ≡ replicate n (slab_in_source chunks) → source.slabs ≡ n →
      ((i : ℕ) → fin.contains source.held i ≡ nat_lt i n) → IsStocked slabs source
  stocked_start slabs source e size held =
      subst (λ (all : List SlabState). IsStocked all source) (sym e)
      (let len : length (replicate n (slab_in_source chunks)) ≡ n = length-replicate n (slab_in_source chunks) in
      record {
        held = record {
          size = size ∙ sym len;
          held = λ i.
              held i
              ∙ (ap (nat_lt i) (sym len)
              ∙ same_held (nat_lt i (length (replicate n (slab_in_source chunks)))) (is_in_source (slab_at (replicate n (slab_in_source chunks)) i))
              (at_start (λ slab. is_in_source slab ≡ true) refl refl i));
        };
        used = at_start (λ slab. is_unused slab ≡ false) refl refl;
      })
