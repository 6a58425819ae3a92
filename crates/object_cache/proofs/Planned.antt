-- The next move of a cache, or why there is none, by the laws of the searches.
use Rattle.std.proofs.Common.{◌≡◌, ℕ, ◌+◌, ◌*◌, ◌<◌, ◌&&◌, ◌||◌, ◌==◌, not, nat_lt, Bool, true, false, List, length, get_or, All, Option, Some, None, option_map, is_some, is_none, ◌∙◌, ap, refl, arith}
use Rattle.std.specs.Prelude.{◌↔◌, option_and_then}
use Rattle.std.proofs.lemmas.Bool.{both_ways, and_parts, ltb-true, eq-eqb, ne_eqb}
use Rattle.kmem_model.specs.CacheState.{SlabState, CacheState, slab_at, no_slab, is_listed, used, free_buffers, is_out_on, pending_count}
use Rattle.kmem_model.specs.CacheOrder.{least_below, IsLeastBelow, foremost, IsForemost, IsOrder, comes_before, is_partial, is_marked, is_the, first_partial, first_partial_free, is_reclaimable, can_move, least_to_move, chosen, free_number, is_at_limit, is_off, is_idle, is_left_out}
use Rattle.kmem_model.specs.CacheEnter.{may_begin}
use Rattle.kmem_model.specs.declared.cache_state.Mode.{Mode}
use Rattle.kmem_model.specs.declared.cache_state.Mode.TheVariants.{Off, Mild, Desperate}
use Rattle.kmem_model.specs.declared.cache_state.PendingMove.{PendingMove}
use Rattle.object_cache.proofs.Lists.{count_less, count_whole}

reclaimable_partial : (chunks numerator : ℕ) (mode : Mode) (slab : SlabState) → is_reclaimable chunks numerator mode slab ≡ true → is_partial slab ≡ true
reclaimable_partial chunks numerator Off slab e = absurd (both_ways false refl e)
reclaimable_partial chunks numerator Mild slab e =
    (and_parts (is_partial slab) (not (is_marked slab))
    (and_parts (is_partial slab && not (is_marked slab)) (used slab == 1 || nat_lt (8 * used slab) (chunks * numerator)) e).0).0
reclaimable_partial chunks numerator Desperate slab e = e

and_then_some : (f : ℕ → Option ℕ) (o : Option ℕ) (b : ℕ) → option_and_then f o ≡ Some b → (i : ℕ) × (o ≡ Some i)
and_then_some f None b e = absurd (cc)
and_then_some f (Some i) b e = (i, refl)

is_there : (o : Option ℕ) → is_some o ≡ true → (k : ℕ) × (o ≡ Some k)
is_there None e = absurd (both_ways false refl e)
is_there (Some k) e = (k, refl)

-- a partial slab has a free buffer
partial_free : (slab : SlabState) → is_partial slab ≡ true → (is_listed slab ≡ true) × (0 < free_buffers slab)
partial_free slab e =
    let parts = and_parts (is_listed slab && nat_lt 0 (used slab)) (nat_lt (used slab) (length slab.out)) e in
    ((and_parts (is_listed slab) (nat_lt 0 (used slab)) parts.0).0, omega (arith, ltb-true (used slab) (length slab.out) parts.1))

is_the_same : (o : Option ℕ) (n : ℕ) → o ≡ Some n → is_the o n ≡ true
is_the_same o n e = ap (λ x. is_the x n) e ∙ eq-eqb n n refl

module _ (s : CacheState) where
  module _ (least_is : (n k : ℕ) (t : ℕ → Bool) → (least_below n t ≡ Some k) ↔ IsLeastBelow n t k)
      (first_is : (n i : ℕ) (t : ℕ → Bool) (before : ℕ → ℕ → Bool) → IsOrder before → ((foremost n t before ≡ Some i) ↔ IsForemost n t before i))
      (reversed : (slabs : List SlabState) → IsOrder (λ i j. comes_before slabs j i)) (b : ℕ) (e : chosen s ≡ Some b) where
    abbrev has_move : ℕ → Bool
    has_move i = is_some (least_to_move s.chunks s.numerator s.mode (is_left_out s) s.slabs i)

    -- the chosen buffer lies on a partial slab
    chosen_partial : (i : ℕ) × ((i < length s.slabs) × (is_partial (slab_at s.slabs i) ≡ true))
    chosen_partial =
        let found =
        and_then_some (λ i. option_map (λ k. i * s.chunks + k) (least_to_move s.chunks s.numerator s.mode (is_left_out s) s.slabs i))
        (foremost (length s.slabs) has_move (λ j i. comes_before s.slabs i j)) b e in
        let i = found.0 in
        let last : IsForemost (length s.slabs) has_move (λ j n. comes_before s.slabs n j) i =
        (first_is (length s.slabs) i has_move (λ j n. comes_before s.slabs n j) (reversed s.slabs)).0 found.1 in
        let move = is_there (least_to_move s.chunks s.numerator s.mode (is_left_out s) s.slabs i) last.passes in
        let can : ℕ → Bool = can_move s.chunks s.numerator s.mode (is_left_out s) s.slabs i in
        let least : IsLeastBelow (length (slab_at s.slabs i).out) can move.0 = (least_is (length (slab_at s.slabs i).out) move.0 can).0 move.1 in
        let may = is_reclaimable s.chunks s.numerator s.mode (slab_at s.slabs i) in
        let first = not (is_the (first_partial s.slabs) i) in
        let out = is_out_on (slab_at s.slabs i) move.0 in (
          i,
          (
            last.below,
            reclaimable_partial s.chunks s.numerator s.mode (slab_at s.slabs i)
                (and_parts may first (and_parts (may && first) out (and_parts (may && first && out) (not (is_left_out s (i * s.chunks + move.0))) least.passes).0).0).0,
          ),
        )

    -- so some buffer of a partial slab is free
    pub chosen_free : All (λ slab. is_listed slab ≡ true → free_buffers slab ≡ 0) s.slabs → ⊥
    chosen_free none =
        let partial = partial_free (slab_at s.slabs chosen_partial.0) chosen_partial.1.1 in
        omega (arith, partial.1, none chosen_partial.0 no_slab chosen_partial.1.0 partial.0)

  -- no number is free, so the limit is reached
  pub limit_idle : ((j : ℕ) → j < length s.pending → is_none (get_or s.pending j None) ≡ false) → is_idle s ≡ true
  limit_idle taken =
      at (is_off s.mode) (is_at_limit s) (is_none (chosen s))
      (eq-eqb (pending_count s) (length s.pending) (count_whole is_some s.pending None (λ j below. some (get_or s.pending j None) (taken j below))))
    where
      some : (o : Option PendingMove) → is_none o ≡ false → is_some o ≡ true
      some None e = absurd (both_ways true e refl)
      some (Some m) e = refl

      at : (a l n : Bool) → l ≡ true → (a || l || n) ≡ true
      at true true n e = refl
      at false true n e = refl
      at a false n e = absurd (both_ways false refl e)

  pub may : (number from to : ℕ) → is_off s.mode ≡ false → chosen s ≡ Some from → free_number s ≡ Some number → number < length s.pending →
      get_or s.pending number None ≡ None → first_partial_free s.chunks s.slabs ≡ Some to → may_begin s number (record { from = from; to = to }) ≡ true
  may number from to on choice free below idle first =
      let room : is_at_limit s ≡ false =
      ne_eqb (pending_count s) (length s.pending) (λ e. omega (arith, e, count_less is_some s.pending number None below (ap is_some idle))) in
      all (is_off s.mode) (is_at_limit s) (is_none (chosen s)) (is_the (free_number s) number) (is_the (chosen s) from)
      (is_the (first_partial_free s.chunks s.slabs) to) on room (ap is_none choice)
      (is_the_same (free_number s) number free) (is_the_same (chosen s) from choice) (is_the_same (first_partial_free s.chunks s.slabs) to first)
    where
      all : (a l n x y z : Bool) → a ≡ false → l ≡ false → n ≡ false → x ≡ true → y ≡ true → z ≡ true →
          (not (a || l || n) && x && y && z) ≡ true
      all a l n x y z ea el en ex ey ez = rw (ea, el, en, ex, ey, ez) refl

pub none_says : (o : Option PendingMove) → is_none o ≡ true → o ≡ None
none_says None e = refl
none_says (Some m) e = absurd (both_ways false refl e)
