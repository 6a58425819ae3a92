-- What a scan may ask about: only partial slabs, and where it is mild only those with few buffers out.
use Rattle.std.proofs.Common.{◌≡◌, ℕ, ◌+◌, ◌*◌, ◌<◌, ◌≤◌, Bool, true, false, ◌&&◌, ◌||◌, not, nat_lt, ◌==◌, List, length, get_or, Option, Some, None, is_some, option_map, ⊎_elim, sym, ◌∙◌, ap, ap₂, arith, refl}
use Rattle.std.specs.Prelude.{◌↔◌}
use Rattle.std.proofs.lemmas.Bool.{cases_Bool, both_ways, and_parts, or_cases, or_right, not-true, eqb-true, eq-eqb, ltb-true, lt-ltb, cases_lt}
use Rattle.std.proofs.lemmas.List.{get_or_past}
use Rattle.kmem_model.specs.CacheState.{SlabState, slab_at, used}
use Rattle.kmem_model.specs.CacheOrder.{least_below, is_the, is_partial, is_marked, first_partial, is_reclaimable, least_to_move, can_move}
use Rattle.kmem_model.specs.CacheState.{is_out_on}
use Rattle.kmem_model.specs.declared.cache_state.Mode.{Mode}
use Rattle.kmem_model.specs.declared.cache_state.Mode.TheVariants.{Mild}
use Rattle.slab_list.specs.Slabs.{mode_of}
use Rattle.slab_list.specs.Bins.{IsSpent}
use Rattle.slab_list.proofs.Orders.{place_of, partial_bin}

pub is_some_map : (f : ℕ → ℕ) (o : Option ℕ) → is_some (option_map f o) ≡ is_some o
is_some_map f None = refl
is_some_map f (Some k) = refl

pub can_reclaim : ((n : ℕ) (t : ℕ → Bool) → (least_below n t ≡ None) ↔ ((k : ℕ) → k < n → t k ≡ false)) →
    (chunks numer : ℕ) (mode : Mode) (skip : ℕ → Bool) (slabs : List SlabState) (i : ℕ) →
    is_some (least_to_move chunks numer mode skip slabs i) ≡ true → is_reclaimable chunks numer mode (slab_at slabs i) ≡ true
can_reclaim none_is chunks numer mode skip slabs i given =
    ⊎_elim (λ passes. passes)
    (λ fails.
    absurd (both_ways (is_some (least_to_move chunks numer mode skip slabs i))
    (ap is_some ((none_is (length (slab_at slabs i).out) (λ k. is_reclaimable chunks numer mode (slab_at slabs i) && not (is_the (first_partial slabs) i) && is_out_on (slab_at slabs i) k && not (skip (i * chunks + k)))).1
    (λ k below. ap (λ r. r && not (is_the (first_partial slabs) i) && is_out_on (slab_at slabs i) k && not (skip (i * chunks + k))) fails)))
    given))
    (cases_Bool (is_reclaimable chunks numer mode (slab_at slabs i)))

pub reclaim_partial : (chunks numer : ℕ) (desperate : Bool) (slab : SlabState) → is_reclaimable chunks numer (mode_of desperate) slab ≡ true → is_partial slab ≡ true
reclaim_partial chunks numer true slab given = given
reclaim_partial chunks numer false slab given =
    (and_parts (is_partial slab) (not (is_marked slab)) (and_parts (is_partial slab && not (is_marked slab)) (used slab == 1 || nat_lt (8 * used slab) (chunks * numer)) given).0).0

-- what a mild scan takes has no mark, and few buffers out
sparse_from : (u n : ℕ) → (u == 1 || nat_lt (8 * u) n) ≡ true → (v : ℕ) → 0 < v → v ≤ u → (v == 1 || nat_lt (8 * v) n) ≡ true
sparse_from u n given v some le =
    ⊎_elim
    (λ one. let e : v ≡ 1 = omega (arith, eqb-true u 1 one, some, le) in ap (λ b. b || nat_lt (8 * v) n) (eq-eqb v 1 e))
    (λ low. or_right (v == 1) (nat_lt (8 * v) n) (lt-ltb (8 * v) n (omega (arith, ltb-true (8 * u) n low, le))))
    (or_cases (u == 1) (nat_lt (8 * u) n) given)

-- one that it doesn't take leaves none at a lesser place that it takes
fuller_fails : (n u v i j : ℕ) (ma mb : Bool) → 0 < u → u < 64 → v < 64 → i < 4096 → j < 4096 →
    partial_bin v mb * 4096 + j ≤ partial_bin u ma * 4096 + i →
    (not ma && (u == 1 || nat_lt (8 * u) n)) ≡ false → not mb ≡ true → (v == 1 || nat_lt (8 * v) n) ≡ true → ⊥
fuller_fails n u v i j ma true some a b low less le fails clear sparse = both_ways false refl clear
fuller_fails n u v i j true false some a b low less le fails clear sparse = omega arith
fuller_fails n u v i j false false some a b low less le fails clear sparse =
    both_ways (u == 1 || nat_lt (8 * u) n) fails (sparse_from v n sparse u some (omega arith))

pub scan_ends : (chunks numer : ℕ) (desperate : Bool) (slabs : List SlabState) (i j : ℕ) → i < 4096 → j < 4096 →
    used (slab_at slabs i) < 64 → used (slab_at slabs j) < 64 → is_partial (slab_at slabs i) ≡ true → 0 < used (slab_at slabs i) →
    place_of slabs j ≤ place_of slabs i →
    (not desperate && not (is_reclaimable chunks numer (mode_of desperate) (slab_at slabs i))) ≡ true →
    is_reclaimable chunks numer (mode_of desperate) (slab_at slabs j) ≡ true → ⊥
scan_ends chunks numer true slabs i j low less a b partial some le ends given = both_ways false refl ends
scan_ends chunks numer false slabs i j low less a b partial some le ends given =
    let x = slab_at slabs i in
    let y = slab_at slabs j in
    let fails : is_reclaimable chunks numer Mild x ≡ false = not-true (is_reclaimable chunks numer Mild x) ends in
    let rest : (not (is_marked x) && (used x == 1 || nat_lt (8 * used x) (chunks * numer))) ≡ false =
    sym (and_regroup (is_partial x) (not (is_marked x)) (used x == 1 || nat_lt (8 * used x) (chunks * numer)) partial) ∙ fails in
    let parts = and_parts (is_partial y && not (is_marked y)) (used y == 1 || nat_lt (8 * used y) (chunks * numer)) given in
    let clear = and_parts (is_partial y) (not (is_marked y)) parts.0 in
    fuller_fails (chunks * numer) (used x) (used y) i j (is_marked x) (is_marked y) some a b low less le rest clear.1 parts.1
  where
    and_regroup : (p q r : Bool) → p ≡ true → (p && q && r) ≡ (q && r)
    and_regroup true q r e = refl
    and_regroup false q r e = absurd (both_ways false refl e)

-- a slab with nothing left can't be asked about
pub spent_cant : ((n : ℕ) (t : ℕ → Bool) → (least_below n t ≡ None) ↔ ((k : ℕ) → k < n → t k ≡ false)) →
    (chunks numer : ℕ) (mode : Mode) (skip : List Bool) (slabs : List SlabState) (i : ℕ) → IsSpent chunks slabs skip i →
    is_some (least_to_move chunks numer mode (λ b. get_or skip b false) slabs i) ≡ false
spent_cant none_is chunks numer mode skip slabs i spent =
    ap is_some ((none_is (length (slab_at slabs i).out) (can_move chunks numer mode (λ b. get_or skip b false) slabs i)).1
    (λ k below.
    not_both (is_reclaimable chunks numer mode (slab_at slabs i) && not (is_the (first_partial slabs) i)) (is_out_on (slab_at slabs i) k)
    (get_or skip (i * chunks + k) false) (spent k)))
  where
    not_both : (p out left : Bool) → (out ≡ true → left ≡ true) → (p && out && not left) ≡ false
    not_both false out left given = refl
    not_both true false left given = refl
    not_both true true left given = ap not (given refl)

-- and one that may be asked about, but not about any of its buffers, has nothing left
pub none_left : ((n : ℕ) (t : ℕ → Bool) → (least_below n t ≡ None) ↔ ((k : ℕ) → k < n → t k ≡ false)) →
    (chunks numer : ℕ) (mode : Mode) (skip : List Bool) (slabs : List SlabState) (i : ℕ) →
    (is_reclaimable chunks numer mode (slab_at slabs i) && not (is_the (first_partial slabs) i)) ≡ true →
    least_to_move chunks numer mode (λ b. get_or skip b false) slabs i ≡ None → IsSpent chunks slabs skip i
none_left none_is chunks numer mode skip slabs i may none k out =
    let slab = slab_at slabs i in
    let below : k < length slab.out =
    ⊎_elim (λ low. low) (λ past. absurd (both_ways (is_out_on slab k) (get_or_past slab.out k false past) out)) (cases_lt k (length slab.out)) in
    skipped (is_reclaimable chunks numer mode slab && not (is_the (first_partial slabs) i)) (is_out_on slab k) (get_or skip (i * chunks + k) false) may out
    ((none_is (length slab.out) (can_move chunks numer mode (λ b. get_or skip b false) slabs i)).0 none k below)
  where
    skipped : (p out left : Bool) → p ≡ true → out ≡ true → (p && out && not left) ≡ false → left ≡ true
    skipped p out true a b fails = refl
    skipped p out false a b fails = absurd (both_ways (p && out && true) fails (ap₂ (λ (x y : Bool). x && y && true) a b))
