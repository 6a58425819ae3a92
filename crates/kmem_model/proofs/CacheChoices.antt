-- What the choices of a cache say of the slabs that they take buffers from.
use Rattle.std.proofs.Common.{◌≡◌, ℕ, ◌+◌, ◌*◌, ◌<◌, Bool, true, not, List, length, Option, Some, None, is_some, option_map, sym, ap, refl}
use Rattle.std.proofs.lemmas.Bool.{and_parts, eqb-true}
use Rattle.kmem_model.proofs.CacheLists.{reads_within}
use Rattle.kmem_model.proofs.PlacesKept.{and_then_says}
use Rattle.kmem_model.proofs.CacheSearch.{least_from_some, foremost_from_some}
use Rattle.kmem_model.specs.CacheState.{SlabState, is_same_standing, no_slab, slab_at, is_out_on}
use Rattle.kmem_model.specs.CacheOrder.{foremost, IsLeastBelow, IsForemost, is_the, is_partial, comes_before, first_partial, least_free, first_partial_free, is_reclaimable, can_move, least_to_move, last_reclaimable}
use Rattle.kmem_model.specs.declared.cache_state.Standing.{Standing}
use Rattle.kmem_model.specs.declared.cache_state.Standing.TheVariants.{Source, Listed, Dead}
use Rattle.kmem_model.specs.declared.cache_state.Mode.{Mode}
use Rattle.kmem_model.specs.declared.cache_state.Mode.TheVariants.{Off, Mild, Desperate}

pub map_says : {X Y : Type 0} (f : X → Y) (o : Option X) (y : Y) → option_map f o ≡ Some y → (x : X) × (o ≡ Some x) × (f x ≡ y)
map_says f None y e = absurd (cc)
map_says f (Some x) y e = (x, refl, cc)

pub is_the_says : (o : Option ℕ) (n : ℕ) → is_the o n ≡ true → o ≡ Some n
is_the_says None n e = absurd (cc)
is_the_says (Some m) n e = ap Some (eqb-true m n e)

pub same_standing_says : (a b : Standing) → is_same_standing a b ≡ true → a ≡ b
same_standing_says Source Source e = refl
same_standing_says Source Listed e = absurd (cc)
same_standing_says Source Dead e = absurd (cc)
same_standing_says Listed Source e = absurd (cc)
same_standing_says Listed Listed e = refl
same_standing_says Listed Dead e = absurd (cc)
same_standing_says Dead Source e = absurd (cc)
same_standing_says Dead Listed e = absurd (cc)
same_standing_says Dead Dead e = refl

-- a buffer of a partial slab
pub record IsOnPartial (chunks : ℕ) (slabs : List SlabState) (b : ℕ) : Type 0 where
  pub row : ℕ
  pub index : ℕ
  pub place : row * chunks + index ≡ b
  pub within : index < length (slab_at slabs row).out
  pub partial : is_partial (slab_at slabs row) ≡ true

pub partial_listed : (slab : SlabState) → is_partial slab ≡ true → slab.standing ≡ Listed
partial_listed slab e = sym (same_standing_says Listed slab.standing (and_parts _ _ (and_parts _ _ e).0).0)

pub partial_within : (slabs : List SlabState) (i : ℕ) → is_partial (slab_at slabs i) ≡ true → i < length slabs
partial_within slabs i e = reads_within slabs i no_slab is_partial refl e

pub reclaimable_partial : (chunks numerator : ℕ) (mode : Mode) (slab : SlabState) → is_reclaimable chunks numerator mode slab ≡ true → is_partial slab ≡ true
reclaimable_partial chunks numerator Off slab e = absurd (cc)
reclaimable_partial chunks numerator Mild slab e = (and_parts _ _ (and_parts _ _ e).0).0
reclaimable_partial chunks numerator Desperate slab e = e

-- the new buffer of a move
pub first_partial_free_says : (chunks : ℕ) (slabs : List SlabState) (b : ℕ) → first_partial_free chunks slabs ≡ Some b → IsOnPartial chunks slabs b
first_partial_free_says chunks slabs b e =
    let (i, first, g) = and_then_says (λ i. option_map (λ k. i * chunks + k) (least_free (slab_at slabs i))) (first_partial slabs) b e in
    let (k, least, place) = map_says (λ k. i * chunks + k) (least_free (slab_at slabs i)) b g in
    let found : IsForemost (length slabs) (λ n. is_partial (slab_at slabs n)) (comes_before slabs) i =
    foremost_from_some (length slabs) (λ n. is_partial (slab_at slabs n)) (comes_before slabs) i first in
    let free : IsLeastBelow (length (slab_at slabs i).out) (λ n. not (is_out_on (slab_at slabs i) n)) k =
    least_from_some (length (slab_at slabs i).out) (λ n. not (is_out_on (slab_at slabs i) n)) k least in
    record { row = i; index = k; place = place; within = free.below; partial = found.passes }

-- the old buffer of a move
pub last_reclaimable_says : (chunks numerator : ℕ) (mode : Mode) (skip : ℕ → Bool) (slabs : List SlabState) (b : ℕ) →
    last_reclaimable chunks numerator mode skip slabs ≡ Some b → IsOnPartial chunks slabs b
last_reclaimable_says chunks numerator mode skip slabs b e =
    let (i, last, g) = and_then_says
    (λ i. option_map (λ k. i * chunks + k) (least_to_move chunks numerator mode skip slabs i))
    (foremost (length slabs) (λ i. is_some (least_to_move chunks numerator mode skip slabs i)) (λ j i. comes_before slabs i j)) b e in
    let (k, least, place) = map_says (λ k. i * chunks + k) (least_to_move chunks numerator mode skip slabs i) b g in
    let found : IsLeastBelow (length (slab_at slabs i).out) (can_move chunks numerator mode skip slabs i) k =
    least_from_some (length (slab_at slabs i).out) (can_move chunks numerator mode skip slabs i) k least in
    record {
      row = i;
      index = k;
      place = place;
      within = found.below;
      partial = reclaimable_partial chunks numerator mode (slab_at slabs i)
          (and_parts _ _ (and_parts _ _ (and_parts _ _ found.passes).0).0).0;
    }
