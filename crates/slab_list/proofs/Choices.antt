-- When no listed slab has a free buffer, by the laws of the searches.
use Rattle.std.proofs.Common.{◌≡◌, ℕ, zero, suc, ◌+◌, ◌-◌, ◌*◌, ◌<◌, ◌&&◌, not, nat_lt, ◌==◌, cond, Bool, true, false, List, [], ◌∷◌, length, get_or, count_by, All, Option, Some, None, is_some, IfSome, option_map, sym, ◌∙◌, ap, ap₂, refl, arith, subst}
use Rattle.std.specs.Prelude.{◌↔◌, option_and_then}
use Rattle.std.specs.Option.{option_or}
use Rattle.std.proofs.lemmas.Bool.{both_ways, not-false, and_parts, ltb-true, eqb-true}
use Rattle.std.proofs.lemmas.Bool.Decides.{nat_tests}
use Rattle.std.proofs.lemmas.List.{get_or_default}
use Rattle.std.proofs.lemmas.List.Sums.{sum_by-cons}
use Rattle.kmem_model.specs.CacheState.{SlabState, slab_at, no_slab, is_listed, used, free_buffers, is_out_on}
use Rattle.kmem_model.specs.CacheOrder.{least_below, foremost, IsLeastBelow, IsForemost, IsOrder, is_partial, comes_before, first_partial, least_free, first_partial_free, first_of_slab}
use Rattle.slab_list.specs.Slabs.{slab_with, is_out_in, IsFree, ListState, IsListWhole, IsSlab, free_next, is_unused}

-- every slab has as many buffers
pub slab_size : (s : ListState) → IsListWhole s → (i : ℕ) → i < length s.slabs → length (slab_at s.slabs i).out ≡ s.chunks
slab_size s w i below = let slab : IsSlab s.chunks (slab_at s.slabs i) = w.slabs i no_slab below in slab.size

-- where each is out, all are counted
count_all : (bs : List Bool) → ((k : ℕ) → k < length bs → get_or bs k false ≡ true) → count_by (λ (o : Bool). o) bs ≡ length bs
count_all [] all = refl
count_all (b ∷ bs) all =
    omega (arith, sum_by-cons (λ (o : Bool). cond o 1 0) b bs, ap {B = ℕ} (λ (o : Bool). cond o 1 0) (all 0 (omega arith)), count_all bs (λ k below. all (suc k) (omega arith)))

-- where none is counted, none is out
none_out_at : (bs : List Bool) (k : ℕ) → count_by (λ (o : Bool). o) bs ≡ 0 → get_or bs k false ≡ false
none_out_at [] k none = refl
none_out_at (true ∷ bs) k none = absurd (omega (arith, sum_by-cons (λ (o : Bool). cond o 1 0) true bs, none))
none_out_at (false ∷ bs) zero none = refl
none_out_at (false ∷ bs) (suc k) none =
    none_out_at bs k (omega (arith, sum_by-cons (λ (o : Bool). cond o 1 0) false bs, none))

-- a buffer of a slab with no buffer out is free
pub unused_free : (slab : SlabState) (k : ℕ) → is_unused slab ≡ true → (is_listed slab ≡ true) × (is_out_on slab k ≡ false)
unused_free slab k unused =
    let parts = and_parts (is_listed slab) (used slab == 0) unused in
    (parts.0, none_out_at slab.out k (eqb-true (used slab) 0 parts.1))

-- a free buffer of a listed slab
pub serve_free : (s : ListState) (i : ℕ) (r : Option ℕ) → is_listed (slab_at s.slabs i) ≡ true →
    IfSome r (λ b. (slab_with s b ≡ slab_at s.slabs i) × (is_out_in s b ≡ false)) → IfSome r (IsFree s)
serve_free s i None listed h = tt
serve_free s i (Some b) listed h = (ap is_listed h.0 ∙ listed, h.1)

-- what is partial is listed
pub partial_listed : (slab : SlabState) → is_partial slab ≡ true → is_listed slab ≡ true
partial_listed slab partial =
    (and_parts (is_listed slab) (nat_lt 0 (used slab)) (and_parts (is_listed slab && nat_lt 0 (used slab)) (nat_lt (used slab) (length slab.out)) partial).0).0

or_none : (a b : Option ℕ) → option_or a b ≡ None → (a ≡ None) × (b ≡ None)
or_none None b e = (refl, e)
or_none (Some x) b e = absurd (cc)

map_none : (f : ℕ → ℕ) (a : Option ℕ) → option_map f a ≡ None → a ≡ None
map_none f None e = refl
map_none f (Some x) e = absurd (cc)

or_some : (f : ℕ → ℕ) (a b : Option ℕ) → is_some a ≡ true → option_or (option_map f a) b ≡ option_map f a
or_some f None b e = absurd (both_ways false refl e)
or_some f (Some x) b e = refl

is_there : (a : Option ℕ) → (a ≡ None → ⊥) → is_some a ≡ true
is_there None h = absurd (h refl)
is_there (Some x) h = refl

full_from : (l : Bool) (u n : ℕ) → l ≡ true → (l && nat_lt 0 u && nat_lt u n) ≡ false → (l && u == 0) ≡ false → n - u ≡ 0
full_from false u n e p q = absurd (both_ways false refl e)
full_from true u n e p q = grind (arith, nat_tests)

not_partial : (l : Bool) (u n : ℕ) → (l ≡ true → n - u ≡ 0) → (l && nat_lt 0 u && nat_lt u n) ≡ false
not_partial false u n h = refl
not_partial true u n h = let e : n - u ≡ 0 = h refl in grind (arith, nat_tests)

not_unused : (l : Bool) (u n : ℕ) → 0 < n → (l ≡ true → n - u ≡ 0) → (l && u == 0) ≡ false
not_unused false u n some h = refl
not_unused true u n some h = let e : n - u ≡ 0 = h refl in grind (arith, nat_tests)

module _ (least_is : (n k : ℕ) (t : ℕ → Bool) → (least_below n t ≡ Some k) ↔ IsLeastBelow n t k)
    (none_is : (n : ℕ) (t : ℕ → Bool) → (least_below n t ≡ None) ↔ ((k : ℕ) → k < n → t k ≡ false))
    (first_is : (n i : ℕ) (t : ℕ → Bool) (b : ℕ → ℕ → Bool) → IsOrder b → ((foremost n t b ≡ Some i) ↔ IsForemost n t b i))
    (no_first_is : (n : ℕ) (t : ℕ → Bool) (b : ℕ → ℕ → Bool) → IsOrder b → ((foremost n t b ≡ None) ↔ ((k : ℕ) → k < n → t k ≡ false)))
    (order : (slabs : List SlabState) → IsOrder (comes_before slabs)) where
  -- a partial slab has a free buffer
  partial_has_free : (slab : SlabState) → is_partial slab ≡ true → is_some (least_free slab) ≡ true
  partial_has_free slab partial =
      is_there (least_free slab)
      (λ none.
      let all : (k : ℕ) → k < length slab.out → get_or slab.out k false ≡ true =
      λ k below. not-false (get_or slab.out k false) ((none_is (length slab.out) (λ j. not (is_out_on slab j))).0 none k below) in
      let low : used slab < length slab.out = ltb-true (used slab) (length slab.out) (and_parts (is_listed slab && nat_lt 0 (used slab)) _ partial).1 in
      omega (arith, count_all slab.out all, low))

  module _ (s : ListState) where
    pub first_below : (i : ℕ) → first_partial s.slabs ≡ Some i → IsForemost (length s.slabs) (λ j. is_partial (slab_at s.slabs j)) (comes_before s.slabs) i
    first_below i e = (first_is (length s.slabs) i (λ j. is_partial (slab_at s.slabs j)) (comes_before s.slabs) (order s.slabs)).0 e

    -- the first partial slab serves, where there is one
    pub served : (i : ℕ) → first_partial s.slabs ≡ Some i → option_map (λ k. i * s.chunks + k) (least_free (slab_at s.slabs i)) ≡ free_next s
    served i e =
        let f : IsForemost (length s.slabs) (λ j. is_partial (slab_at s.slabs j)) (comes_before s.slabs) i = first_below i e in
        sym (ap (λ o. option_or (option_and_then (λ j. option_map (λ k. j * s.chunks + k) (least_free (slab_at s.slabs j))) o) (first_of_slab s.chunks s.slabs is_unused)) e
        ∙ or_some (λ k. i * s.chunks + k) (least_free (slab_at s.slabs i)) (first_of_slab s.chunks s.slabs is_unused) (partial_has_free (slab_at s.slabs i) f.passes))

    -- where nothing is found on partial slabs, there is none
    none_partial : (o : Option ℕ) → first_partial s.slabs ≡ o →
        option_and_then (λ j. option_map (λ k. j * s.chunks + k) (least_free (slab_at s.slabs j))) o ≡ None → o ≡ None
    none_partial None e none = refl
    none_partial (Some i) e none =
        let f : IsForemost (length s.slabs) (λ j. is_partial (slab_at s.slabs j)) (comes_before s.slabs) i = first_below i e in
        absurd
        (both_ways (is_some (least_free (slab_at s.slabs i)))
        (ap is_some (map_none (λ k. i * s.chunks + k) (least_free (slab_at s.slabs i)) none))
        (partial_has_free (slab_at s.slabs i) f.passes))

    none_to : free_next s ≡ None → All (λ slab. is_listed slab ≡ true → free_buffers slab ≡ 0) s.slabs
    none_to none i d below =
        let parts = or_none (first_partial_free s.chunks s.slabs) (first_of_slab s.chunks s.slabs is_unused) none in
        let partial = (no_first_is (length s.slabs) (λ j. is_partial (slab_at s.slabs j)) (comes_before s.slabs) (order s.slabs)).0
        (none_partial (first_partial s.slabs) refl parts.0) i below in
        let unused = (none_is (length s.slabs) (λ j. is_unused (slab_at s.slabs j))).0
        (map_none (λ j. j * s.chunks) (least_below (length s.slabs) (λ j. is_unused (slab_at s.slabs j))) parts.1) i below in
        subst (λ (slab : SlabState). is_listed slab ≡ true → free_buffers slab ≡ 0) (get_or_default s.slabs i no_slab d below)
        (λ listed.
        full_from (is_listed (slab_at s.slabs i)) (used (slab_at s.slabs i)) (length (slab_at s.slabs i).out) listed partial unused)

    none_from : IsListWhole s → All (λ slab. is_listed slab ≡ true → free_buffers slab ≡ 0) s.slabs → free_next s ≡ None
    none_from w full =
        ap₂ (λ a b. option_or (option_and_then (λ j. option_map (λ k. j * s.chunks + k) (least_free (slab_at s.slabs j))) a) (option_map (λ i. i * s.chunks) b))
        ((no_first_is (length s.slabs) (λ j. is_partial (slab_at s.slabs j)) (comes_before s.slabs) (order s.slabs)).1
        (λ i below. not_partial (is_listed (slab_at s.slabs i)) (used (slab_at s.slabs i)) (length (slab_at s.slabs i).out) (full i no_slab below)))
        ((none_is (length s.slabs) (λ j. is_unused (slab_at s.slabs j))).1
        (λ i below.
        not_unused (is_listed (slab_at s.slabs i)) (used (slab_at s.slabs i)) (length (slab_at s.slabs i).out)
        (omega (arith, slab_size s w i below, w.some)) (full i no_slab below)))

    pub none_free : IsListWhole s → (o : Option ℕ) → o ≡ free_next s → (o ≡ None) ↔ All (λ slab. is_listed slab ≡ true → free_buffers slab ≡ 0) s.slabs
    none_free w o is = ((λ none. none_to (sym is ∙ none)), (λ full. is ∙ none_from w full))
