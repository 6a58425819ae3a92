-- When every buffer is out, and which one serves next, by the laws of the searches.
use Rattle.std.proofs.Common.{◌≡◌, ℕ, ◌*◌, ◌/◌, ◌%◌, ◌<◌, ◌&&◌, ◌==◌, nat_lt, Bool, true, false, length, All, Option, Some, None, option_map, is_some, ◌⊎◌, inl, inr, ⊎_elim, sym, ◌∙◌, ap, refl, arith, subst}
use Rattle.std.specs.Prelude.{◌↔◌}
use Rattle.std.specs.FinSet as fin
use Rattle.std.specs.Ordering.{nat_cmp}
use Rattle.std.specs.Cmp.{nat_cmp_total}
use Rattle.std.specs.Option.{option_or}
use Rattle.std.proofs.lemmas.Bool.{both_ways, cases_lt, le-ltb, ne_eqb, eq-eqb}
use Rattle.std.proofs.lemmas.List.{get_or_default}
use Rattle.std.proofs.lemmas.List.Sums.{list_all-from_AllPass, count_by-le-length}
use Rattle.slab_source.specs.Source.{SourceState}
use Rattle.kmem_model.specs.CacheState.{SlabState, slab_at, no_slab, is_same_standing, is_listed, is_in_source, is_dead, used, free_buffers}
use Rattle.kmem_model.specs.CacheOrder.{least_below, wanted, first_partial_free, first_of_slab}
use Rattle.kmem_model.specs.CacheEnter.{is_full}
use Rattle.kmem_model.specs.declared.cache_state.Standing.{Standing}
use Rattle.kmem_model.specs.declared.cache_state.Standing.TheVariants.{Source, Listed, Dead}
use Rattle.slab_list.specs.Slabs.{ListState, IsFree, IsListWhole, IsSlab, free_next, is_unused}
use Rattle.object_cache.specs.Stock.{bare, IsStocked}
use Rattle.object_cache.proofs.Lists.{map_none, free_below, not_all}
use Rattle.object_cache.proofs.Freed.{listed_within}
use Rattle.object_cache.proofs.Stocked.{stood}

stands : (t : Standing) → (is_same_standing Listed t ≡ true) ⊎ ((is_same_standing Source t ≡ true) ⊎ (is_same_standing Dead t ≡ true))
stands Source = inr (inl refl)
stands Listed = inl refl
stands Dead = inr (inr refl)

or_no_more : (a b : Option ℕ) → b ≡ None → option_or a b ≡ a
or_no_more None b e = e
or_no_more (Some x) b e = refl

is_there : (a : Option ℕ) → (a ≡ None → ⊥) → is_some a ≡ true
is_there None h = absurd (h refl)
is_there (Some x) h = refl

module _ (list : ListState) (source : SourceState) (stocked : IsStocked list.slabs source) where
  pub none_held : source.held ≡ fin.empty → (i : ℕ) → i < length list.slabs → is_in_source (slab_at list.slabs i) ≡ false
  none_held empty i below =
      sym (stood list.slabs source i (slab_at list.slabs i) below stocked.held)
      ∙ (ap (λ (held : fin.FinSet nat_cmp). fin.contains held i) empty ∙ fin.contains-empty nat_cmp i)

  held_none : ((i : ℕ) → i < length list.slabs → is_in_source (slab_at list.slabs i) ≡ false) → source.held ≡ fin.empty
  held_none none =
      fin.same_set nat_cmp_total fin.nat_cmp-IsAntisymmetric _ _
      (λ i.
      stocked.held.held i
      ∙ (⊎_elim
      (λ below. ap (λ b. nat_lt i (length list.slabs) && b) (none i below) ∙ no (nat_lt i (length list.slabs)))
      (λ past. ap (λ b. b && is_in_source (slab_at list.slabs i)) (le-ltb i (length list.slabs) past))
      (cases_lt i (length list.slabs))
      ∙ sym (fin.contains-empty nat_cmp i)))
    where
      no : (b : Bool) → (b && false) ≡ false
      no true = refl
      no false = refl

  module _ (whole : IsListWhole list) where
    size : (i : ℕ) → i < length list.slabs → length (slab_at list.slabs i).out ≡ list.chunks
    size i below = let slab : IsSlab list.chunks (slab_at list.slabs i) = whole.slabs i no_slab below in slab.size

    -- one slab with fewer out than it has buffers
    short : (i : ℕ) → i < length list.slabs → used (slab_at list.slabs i) < length (slab_at list.slabs i).out → is_full (bare list) ≡ false
    short i below less =
        not_all (λ (slab : SlabState). used slab == length slab.out) list.slabs i no_slab below
        (ne_eqb (used (slab_at list.slabs i)) (length (slab_at list.slabs i).out) (λ e. omega (arith, less, e)))

    pub free_not_full : (b : ℕ) → IsFree list b → is_full (bare list) ≡ false
    free_not_full b free =
        let i = b / list.chunks in
        let below = listed_within list.slabs i free.0 in
        short i below
        (free_below (slab_at list.slabs i).out (b % list.chunks) (omega (arith, size i below, whole.some)) free.1)

    pub unlisted_not_full : (i : ℕ) → i < length list.slabs → is_listed (slab_at list.slabs i) ≡ false → is_full (bare list) ≡ false
    unlisted_not_full i below unlisted =
        let slab : IsSlab list.chunks (slab_at list.slabs i) = whole.slabs i no_slab below in
        short i below (omega (arith, (slab.blank unlisted).0, slab.size, whole.some))

  full_at : (slab : SlabState) → free_buffers slab ≡ 0 → (used slab == length slab.out) ≡ true
  full_at slab none =
      eq-eqb (used slab) (length slab.out) (omega (arith, none, count_by-le-length (λ (o : Bool). o) slab.out))

  pub all_full : All (λ slab. is_listed slab ≡ true → free_buffers slab ≡ 0) list.slabs →
      ((i : ℕ) → i < length list.slabs → is_in_source (slab_at list.slabs i) ≡ false) →
      ((i : ℕ) → i < length list.slabs → is_dead (slab_at list.slabs i) ≡ false) → is_full (bare list) ≡ true
  all_full listed source dead =
      list_all-from_AllPass (λ (slab : SlabState). used slab == length slab.out) list.slabs
      (λ i d below.
      subst (λ (slab : SlabState). (used slab == length slab.out) ≡ true) (get_or_default list.slabs i no_slab d below)
      (⊎_elim (λ here. full_at (slab_at list.slabs i) (listed i no_slab below here))
      (λ elsewhere.
      ⊎_elim (λ there. absurd (both_ways (is_in_source (slab_at list.slabs i)) (source i below) there))
      (λ there. absurd (both_ways (is_dead (slab_at list.slabs i)) (dead i below) there)) elsewhere)
      (stands (slab_at list.slabs i).standing)))

  module _ (none_is : (n : ℕ) (t : ℕ → Bool) → (least_below n t ≡ None) ↔ ((k : ℕ) → k < n → t k ≡ false)) where
    no_unused : first_of_slab list.chunks list.slabs is_unused ≡ None
    no_unused =
        ap (option_map (λ i. i * list.chunks))
        ((none_is (length list.slabs) (λ i. is_unused (slab_at list.slabs i))).1 (λ i below. stocked.used i))

    pub next_partial : free_next list ≡ first_partial_free list.chunks list.slabs
    next_partial = or_no_more (first_partial_free list.chunks list.slabs) (first_of_slab list.chunks list.slabs is_unused) no_unused

    pub served : (b : ℕ) → free_next list ≡ Some b → wanted (bare list) ≡ Some b
    served b e =
        ap (λ o. option_or o (option_or (first_of_slab list.chunks list.slabs is_in_source) (first_of_slab list.chunks list.slabs is_dead)))
        (sym next_partial ∙ e)

    -- where no slab passes, no first one does
    pub none_of : (test : SlabState → Bool) → ((i : ℕ) → i < length list.slabs → test (slab_at list.slabs i) ≡ false) → first_of_slab list.chunks list.slabs test ≡ None
    none_of test none =
        ap (option_map (λ i. i * list.chunks)) ((none_is (length list.slabs) (λ i. test (slab_at list.slabs i))).1 none)

    pub some_source : 0 < fin.len source.held → is_some (first_of_slab list.chunks list.slabs is_in_source) ≡ true
    some_source some =
        is_there (first_of_slab list.chunks list.slabs is_in_source)
        (λ none.
        let empty : source.held ≡ fin.empty =
        held_none
        ((none_is (length list.slabs) (λ i. is_in_source (slab_at list.slabs i))).0
        (map_none (λ i. i * list.chunks) (least_below (length list.slabs) (λ i. is_in_source (slab_at list.slabs i))) none)) in
        omega (arith, some, ap (λ (held : fin.FinSet nat_cmp). fin.len held) empty, fin.len-empty nat_cmp))
