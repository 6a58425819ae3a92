-- What one move does to the number of gains.
use Rattle.std.proofs.Common.{◌≡◌, ◌≢◌, ℕ, ◌+◌, ◌*◌, ◌-◌, ◌<◌, ◌≤◌, ◌==◌, ◌&&◌, Bool, true, false, cond, List, length, get_or, set, count_by, Option, Some, None, is_some, inl, inr, ◌⊎◌, ⊎_elim, sym, ◌∙◌, ap, ap₂, refl, subst, min, arith}
use Rattle.std.specs.Prelude.{nat_lt}
use Rattle.std.specs.Option.{option_or}
use Rattle.std.proofs.lemmas.Bool.{cond-true, cond-false, cases_lt, both_ways, and_parts, or_cases, ltb-true, eqb-true, eq-eqb, ne_eqb}
use Rattle.std.proofs.lemmas.List.{get_or-set_other}
use Rattle.std.proofs.lemmas.List.Sums.{get_or-le-sum_by}
use Rattle.std.proofs.Math.Nat.{mul-le-mul_left}
use Rattle.kmem_model.proofs.CacheLists.{reads_within, count-set}
use Rattle.kmem_model.proofs.SettleWhole.{HasGoodMarks}
use Rattle.kmem_model.proofs.SettleMove.{taken_is}
use Rattle.kmem_model.specs.CacheState.{SlabState, is_listed, used, is_out_on}
use Rattle.kmem_model.specs.CacheOrder.{is_the, is_marked, is_fuller}
use Rattle.kmem_model.specs.CacheEnter.{slab_taken, slab_freed, slab_never, slab_later}
use Rattle.kmem_model.specs.SettleMeasure.{slab_gain}
use Rattle.kmem_model.specs.declared.cache_state.Standing.{Standing}

-- The number over plain numbers: of c buffers u are out, with or without a mark, and the count is l

abbrev pub gain_of : ℕ → ℕ → Bool → ℕ → ℕ
gain_of c u marked l = 8 * c * (c - u) + cond marked (4 * c * u + 1) 0 + 2 * u * u + l

-- with u more and v fewer free on the two slabs
both_marked : (c f y a b lf lx : ℕ) → c ≡ f + 1 + a → c ≡ y + 1 + b → y < f →
    gain_of c f true lf + gain_of c (y + 1) true lx < gain_of c (f + 1) true lf + gain_of c y true lx
both_marked c f y a b lf lx ef ex fuller =
    let e1 : c - f ≡ a + 1 = omega arith in
    let e2 : c - (f + 1) ≡ a = omega arith in
    let e3 : c - (y + 1) ≡ b = omega arith in
    let e4 : c - y ≡ b + 1 = omega arith in
    simp (e1, e2, e3, e4) (omega arith)

none_marked : (c f y a b lf lx ly : ℕ) → c ≡ f + 1 + a → c ≡ y + 1 + b → y < f → lx ≤ ly + 2 →
    gain_of c f false lf + gain_of c (y + 1) false lx < gain_of c (f + 1) false lf + gain_of c y false ly
none_marked c f y a b lf lx ly ef ex fuller more =
    let e1 : c - f ≡ a + 1 = omega arith in
    let e2 : c - (f + 1) ≡ a = omega arith in
    let e3 : c - (y + 1) ≡ b = omega arith in
    let e4 : c - y ≡ b + 1 = omega arith in
    simp (e1, e2, e3, e4) (omega arith)

first_marked : (c f y a b lf lx ly : ℕ) → c ≡ f + 1 + a → c ≡ y + 1 + b → lx ≤ ly + 2 →
    gain_of c f true lf + gain_of c (y + 1) false lx < gain_of c (f + 1) true lf + gain_of c y false ly
first_marked c f y a b lf lx ly ef ex more =
    let e1 : c - f ≡ a + 1 = omega arith in
    let e2 : c - (f + 1) ≡ a = omega arith in
    let e3 : c - (y + 1) ≡ b = omega arith in
    let e4 : c - y ≡ b + 1 = omega arith in
    simp (e1, e2, e3, e4) (omega arith)

fewer_marked : (c y b lx : ℕ) → c ≡ y + 1 + b → 0 < b → gain_of c (y + 1) true lx < gain_of c y true lx
fewer_marked c y b lx ex short =
    let e3 : c - (y + 1) ≡ b = omega arith in
    let e4 : c - y ≡ b + 1 = omega arith in
    simp (e3, e4) (omega arith)

fewer_unmarked : (c y b lx ly : ℕ) → c ≡ y + 1 + b → 0 < b → lx ≤ ly + 2 → gain_of c (y + 1) false lx < gain_of c y false ly
fewer_unmarked c y b lx ly ex short more =
    let e3 : c - (y + 1) ≡ b = omega arith in
    let e4 : c - y ≡ b + 1 = omega arith in
    simp (e3, e4) (omega arith)

pub within_bound : (c u l : ℕ) (marked : Bool) → 0 < c → u ≤ c → l ≤ 3 → gain_of c u marked l ≤ 12 * c * c
within_bound c u l marked some fits count = by_mark marked
  where
    free : ℕ
    free = c - u

    split : c ≡ u + free
    split = omega arith

    square : u * u ≤ c * u
    square = omega (arith, mul-le-mul_left u fits)

    one : c ≤ c * c
    one = omega (arith, mul-le-mul_left c some)

    spread : c * free + c * u ≡ c * c
    spread = omega (arith, ap {B = ℕ} (λ n. c * n) split)

    by_mark : (marked : Bool) → gain_of c u marked l ≤ 12 * c * c
    by_mark true = omega (arith, spread, square, one)
    by_mark false = omega (arith, spread, square, one)

-- The parts of the slabs that a move leaves

pub freed_out : (emptied : Standing) (slab : SlabState) (k : ℕ) → (slab_freed emptied slab k).out ≡ set slab.out k false
freed_out emptied slab k = by_count (count_by (λ x. x) out == 0) (is_the slab.stuck k)
  where
    out : List Bool
    out = set slab.out k false

    by_count : (b c : Bool) →
        (cond b (record { standing = emptied; out = out; later = 0; stuck = None })
        (cond c (record { standing = slab.standing; out = out; later = 0; stuck = None }) (record slab { out = out }))).out
        ≡ out
    by_count true c = refl
    by_count false true = refl
    by_count false false = refl

pub freed_stuck : (emptied : Standing) (slab : SlabState) (k n : ℕ) → (slab_freed emptied slab k).stuck ≡ Some n → slab.stuck ≡ Some n
freed_stuck emptied slab k n = by_count (count_by (λ x. x) out == 0) (is_the slab.stuck k)
  where
    out : List Bool
    out = set slab.out k false

    by_count : (b c : Bool) →
        (cond b (record { standing = emptied; out = out; later = 0; stuck = None })
        (cond c (record { standing = slab.standing; out = out; later = 0; stuck = None }) (record slab { out = out }))).stuck
        ≡ Some n
        → slab.stuck ≡ Some n
    by_count true c e = absurd (cc)
    by_count false true e = absurd (cc)
    by_count false false e = e

pub taken_out : (slab : SlabState) (k : ℕ) → is_listed slab ≡ true → (slab_taken slab k).out ≡ set slab.out k true
taken_out slab k listed = ap (λ (x : SlabState). x.out) (taken_is slab k listed)

pub taken_stuck : (slab : SlabState) (k : ℕ) → is_listed slab ≡ true → (slab_taken slab k).stuck ≡ slab.stuck
taken_stuck slab k listed = ap (λ (x : SlabState). x.stuck) (taken_is slab k listed)

-- one more is out
pub taken_used : (slab : SlabState) (k : ℕ) → is_listed slab ≡ true → k < length slab.out → is_out_on slab k ≡ false →
    used (slab_taken slab k) ≡ used slab + 1
taken_used slab k listed below free =
    let old : ◌≡◌ {A = ℕ} (cond (get_or slab.out k false) 1 0) 0 = ap {B = ℕ} (λ x. cond x 1 0) free in
    ap (count_by (λ x. x)) (taken_out slab k listed) ∙ omega (arith, old, count-set (λ x. x) slab.out k true false below)

-- one less is out
pub freed_used : (emptied : Standing) (slab : SlabState) (k : ℕ) → is_out_on slab k ≡ true → used (slab_freed emptied slab k) + 1 ≡ used slab
freed_used emptied slab k out =
    let old : ◌≡◌ {A = ℕ} (cond (get_or slab.out k false) 1 0) 1 = ap {B = ℕ} (λ x. cond x 1 0) out in
    ap (λ xs. count_by (λ x. x) xs + 1) (freed_out emptied slab k)
    ∙ omega (arith, old, count-set (λ x. x) slab.out k false false (reads_within slab.out k false (λ x. x) refl out))

-- a mark stays whose stuck buffer isn't the one that is freed
freed_marked : (emptied : Standing) (slab : SlabState) (k : ℕ) → HasGoodMarks slab → is_out_on slab k ≡ true → is_marked slab ≡ true →
    is_the slab.stuck k ≡ false →
    (is_marked (slab_freed emptied slab k) ≡ true) × ((slab_freed emptied slab k).later ≡ slab.later)
freed_marked emptied slab k good out marked other = by_stuck slab.stuck refl marked
  where
    after : List Bool
    after = set slab.out k false

    by_stuck : (stuck : Option ℕ) → slab.stuck ≡ stuck → is_some stuck ≡ true →
        (is_marked (slab_freed emptied slab k) ≡ true) × ((slab_freed emptied slab k).later ≡ slab.later)
    by_stuck None is some = absurd (cc)
    by_stuck (Some n) is some = (ap is_marked same ∙ marked, ap (λ (x : SlabState). x.later) same)
      where
        apart : n ≢ k
        apart e = both_ways (is_the slab.stuck k) other (ap (λ o. is_the o k) is ∙ eq-eqb n k e)

        still : get_or after n false ≡ true
        still = get_or-set_other slab.out k n false false apart ∙ good.stuck_out n is

        left : count_by (λ x. x) after ≢ 0
        left none =
            let here : ◌≡◌ {A = ℕ} (cond (get_or after n false) 1 0) 1 = ap {B = ℕ} (λ x. cond x 1 0) still in
            omega (arith, here, none, get_or-le-sum_by (λ x. cond x 1 0) after n false (reads_within after n false (λ x. x) refl still))

        same : slab_freed emptied slab k ≡ record slab { out = after }
        same =
            cond-false (count_by (λ x. x) after == 0) _ _ (ne_eqb (count_by (λ x. x) after) 0 left)
            ∙ cond-false (is_the slab.stuck k) _ _ other

-- without a mark there is none afterwards, and the count falls by at most 2
freed_unmarked : (emptied : Standing) (slab : SlabState) (k : ℕ) → HasGoodMarks slab → is_marked slab ≡ false →
    (is_marked (slab_freed emptied slab k) ≡ false) × (slab.later ≤ (slab_freed emptied slab k).later + 2)
freed_unmarked emptied slab k good none = by_count (count_by (λ x. x) out == 0) (is_the slab.stuck k)
  where
    out : List Bool
    out = set slab.out k false

    is_none : (o : Option ℕ) → is_some o ≡ false → o ≡ None
    is_none None e = refl
    is_none (Some n) e = absurd (cc)

    few : slab.later < 3
    few = good.unmarked (is_none slab.stuck none)

    by_count : (b c : Bool) →
        let next : SlabState =
        cond b (record { standing = emptied; out = out; later = 0; stuck = None })
        (cond c (record { standing = slab.standing; out = out; later = 0; stuck = None }) (record slab { out = out })) in
        (is_marked next ≡ false) × (slab.later ≤ next.later + 2)
    by_count true c = (refl, omega (arith, few))
    by_count false true = (refl, omega (arith, few))
    by_count false false = (none, omega arith)

-- What a slab gains

-- what becomes of a slab's mark and count when the slab loses a buffer
pub record IsLoss (bx : Bool) (lx : ℕ) (by : Bool) (ly : ℕ) : Type 0 where
  pub marked : bx ≡ true → (by ≡ true) × (ly ≡ lx)
  pub unmarked : bx ≡ false → (by ≡ false) × (lx ≤ ly + 2)

pub loss_of : (emptied : Standing) (slab : SlabState) (k : ℕ) → HasGoodMarks slab → is_out_on slab k ≡ true → is_the slab.stuck k ≡ false →
    IsLoss (is_marked slab) slab.later (is_marked (slab_freed emptied slab k)) (slab_freed emptied slab k).later
loss_of emptied slab k good out other =
    record {
      marked = λ h. freed_marked emptied slab k good out h other;
      unmarked = λ h. freed_unmarked emptied slab k good h;
    }

-- a buffer goes from the slab with y + 1 out to the one with f out, which comes before it
pub gains_yes : (c f y lf lx ly : ℕ) (bf bx by fuller : Bool) → f < c → y + 1 < c → (fuller ≡ true → y + 1 ≤ f) →
    cond bf (cond bx fuller true) (cond bx false fuller) ≡ true → IsLoss bx lx by ly →
    gain_of c f bf lf + gain_of c (y + 1) bx lx < gain_of c (f + 1) bf lf + gain_of c y by ly
gains_yes c f y lf lx ly true true by fuller f_fits y_fits says before loss =
    let l = loss.marked refl in
    let e : by ≡ true = l.0 in
    subst (λ (z : Bool). gain_of c f true lf + gain_of c (y + 1) true lx < gain_of c (f + 1) true lf + gain_of c y z ly) (sym e)
    (subst (λ (z : ℕ). gain_of c f true lf + gain_of c (y + 1) true lx < gain_of c (f + 1) true lf + gain_of c y true z) (sym l.1)
    (both_marked c f y (c - (f + 1)) (c - (y + 1)) lf lx (omega arith) (omega arith) (omega (arith, says before))))
gains_yes c f y lf lx ly true false by fuller f_fits y_fits says before loss =
    let l = loss.unmarked refl in
    let e : by ≡ false = l.0 in
    subst (λ (z : Bool). gain_of c f true lf + gain_of c (y + 1) false lx < gain_of c (f + 1) true lf + gain_of c y z ly) (sym e)
    (first_marked c f y (c - (f + 1)) (c - (y + 1)) lf lx ly (omega arith) (omega arith) l.1)
gains_yes c f y lf lx ly false true by fuller f_fits y_fits says before loss = absurd (cc)
gains_yes c f y lf lx ly false false by fuller f_fits y_fits says before loss =
    let l = loss.unmarked refl in
    let e : by ≡ false = l.0 in
    subst (λ (z : Bool). gain_of c f false lf + gain_of c (y + 1) false lx < gain_of c (f + 1) false lf + gain_of c y z ly) (sym e)
    (none_marked c f y (c - (f + 1)) (c - (y + 1)) lf lx ly (omega arith) (omega arith) (omega (arith, says before)) l.1)

-- a buffer is lost
pub gains_lost : (c y lx ly : ℕ) (bx by : Bool) → y + 1 < c → IsLoss bx lx by ly → gain_of c (y + 1) bx lx < gain_of c y by ly
gains_lost c y lx ly true by fits loss =
    let l = loss.marked refl in
    subst (λ (z : Bool). gain_of c (y + 1) true lx < gain_of c y z ly) (sym l.0)
    (subst (λ (z : ℕ). gain_of c (y + 1) true lx < gain_of c y true z) (sym l.1)
    (fewer_marked c y (c - (y + 1)) lx (omega arith) (omega arith)))
gains_lost c y lx ly false by fits loss =
    let l = loss.unmarked refl in
    subst (λ (z : Bool). gain_of c (y + 1) false lx < gain_of c y z ly) (sym l.0)
    (fewer_unmarked c y (c - (y + 1)) lx ly (omega arith) (omega arith) l.1)

-- an answer by which the object stays: the slab gains, or it had its mark and doesn't change
abbrev pub StaysOrGains : ℕ → SlabState → SlabState → Type 0
StaysOrGains c slab next = (slab_gain c slab < slab_gain c next) ⊎ ((is_marked slab ≡ true) × (next ≡ slab))

pub never_gains : (c : ℕ) (slab : SlabState) (k : ℕ) → StaysOrGains c slab (slab_never slab k)
never_gains c slab k = by_stuck slab.stuck refl
  where
    by_stuck : (stuck : Option ℕ) → slab.stuck ≡ stuck → StaysOrGains c slab (slab_never slab k)
    by_stuck None is =
        inl
        (subst (λ o. gain_of c (used slab) (is_some o) slab.later < gain_of c (used slab) (is_some (option_or o (Some k))) slab.later)
        (sym is) (omega arith))
    by_stuck (Some n) is =
        inr (ap is_some is, ap (λ o. record slab { stuck = o }) (ap (λ o. option_or o (Some k)) is ∙ sym is))

pub later_gains : (c : ℕ) (slab : SlabState) (k : ℕ) → HasGoodMarks slab → StaysOrGains c slab (slab_later slab k)
later_gains c slab k good = by_stuck slab.stuck refl
  where
    later : ℕ
    later = min 3 (slab.later + 1)

    grows : slab.later < 3 → (b : Bool) (o : Option ℕ) →
        gain_of c (used slab) (is_some o) slab.later < gain_of c (used slab) (is_some (cond b (option_or o (Some k)) o)) later
    grows few true None = omega arith
    grows few false None = omega arith
    grows few true (Some n) = omega arith
    grows few false (Some n) = omega arith

    full : slab.later ≡ 3 → later ≡ 3
    full three = omega arith

    by_stuck : (stuck : Option ℕ) → slab.stuck ≡ stuck → StaysOrGains c slab (slab_later slab k)
    by_stuck None is = inl (grows (good.unmarked is) (later == 3) slab.stuck)
    by_stuck (Some n) is =
        ⊎_elim (λ few. inl (grows few (later == 3) slab.stuck))
        (λ many.
        let three : slab.later ≡ 3 = omega (arith, good.counted) in
        let same : later ≡ slab.later = full three ∙ sym three in
        let kept : cond (later == 3) (option_or slab.stuck (Some k)) slab.stuck ≡ slab.stuck =
        cond-true (later == 3) (option_or slab.stuck (Some k)) slab.stuck (eq-eqb later 3 (full three))
        ∙ (ap (λ o. option_or o (Some k)) is ∙ sym is) in
        inr (ap is_some is, ap₂ (λ l o. record slab { later = l; stuck = o }) same kept))
        (cases_lt slab.later 3)

-- a slab of which a buffer is taken
pub taken_gain : (c : ℕ) (slab : SlabState) (k : ℕ) → is_listed slab ≡ true → k < length slab.out → is_out_on slab k ≡ false →
    slab_gain c (slab_taken slab k) ≡ gain_of c (used slab + 1) (is_marked slab) slab.later
taken_gain c slab k listed below free =
    ap (slab_gain c) (taken_is slab k listed)
    ∙ ap (λ u. gain_of c u (is_marked slab) slab.later) (ap used (sym (taken_is slab k listed)) ∙ taken_used slab k listed below free)

-- the slab that comes before another with the same mark has no fewer out
pub fuller_says : (a b : SlabState) (i j : ℕ) → is_fuller a i b j ≡ true → used b ≤ used a
fuller_says a b i j e =
    ⊎_elim (λ less. omega (arith, ltb-true (used b) (used a) less))
    (λ same. omega (arith, eqb-true (used a) (used b) (and_parts (used a == used b) (nat_lt i j) same).0))
    (or_cases (nat_lt (used b) (used a)) (used a == used b && nat_lt i j) e)
