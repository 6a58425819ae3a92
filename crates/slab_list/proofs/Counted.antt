-- Sums over slabs: each buffer of a listed slab is free or out.
use Rattle.std.proofs.Common.{◌≡◌, ℕ, ◌+◌, ◌-◌, ◌*◌, ◌<◌, ◌≤◌, Bool, true, false, cond, ◌&&◌, nat_lt, ◌==◌, suc, List, [], ◌∷◌, count_by, sum_by, All, sym, ◌∙◌, ap, ap₂, arith, refl, zero-mul, add-mul}
use Rattle.std.proofs.lemmas.Bool.Decides.{nat_tests}
use Rattle.std.proofs.lemmas.List.Sums.{sum_by-cons, sum_by-le-sum_by, count_by-le-length}
use Rattle.kmem_model.specs.CacheState.{SlabState, is_listed, used, free_buffers}
use Rattle.kmem_model.specs.CacheOrder.{is_partial}
use Rattle.slab_list.specs.Slabs.{IsSlab, is_unused}

abbrev pub free_listed : SlabState → ℕ
free_listed slab = cond (is_listed slab) (free_buffers slab) 0

abbrev pub free_partial : SlabState → ℕ
free_partial slab = cond (is_partial slab) (free_buffers slab) 0

free_each : (l : Bool) (u n : ℕ) → u ≤ n → (l ≡ false → u ≡ 0) → cond l (n - u) 0 + u ≡ cond l 1 0 * n
free_each true u n le blank = omega arith
free_each false u n le blank = omega (arith, blank refl)

partial_each : (l : Bool) (u n : ℕ) → u ≤ n → 0 < n → (l ≡ false → u ≡ 0) →
    cond (l && nat_lt 0 u && nat_lt u n) (n - u) 0 + u + cond (l && u == 0) 1 0 * n ≡ cond l 1 0 * n
partial_each true u n le some blank = grind (arith, nat_tests)
partial_each false u n le some blank = omega (arith, blank refl)

module _ (chunks : ℕ) where
  module _ (slab : SlabState) (is : IsSlab chunks slab) where
    few : used slab ≤ chunks
    few = omega (arith, count_by-le-length (λ (o : Bool). o) slab.out, is.size)

    blank : is_listed slab ≡ false → used slab ≡ 0
    blank idle = (is.blank idle).0

    free_one : free_listed slab + used slab ≡ cond (is_listed slab) 1 0 * chunks
    free_one = ap (λ n. cond (is_listed slab) (n - used slab) 0 + used slab) is.size ∙ free_each (is_listed slab) (used slab) chunks few blank

    partial_one : 0 < chunks → free_partial slab + used slab + cond (is_unused slab) 1 0 * chunks ≡ cond (is_listed slab) 1 0 * chunks
    partial_one some =
        ap (λ n. cond (is_listed slab && nat_lt 0 (used slab) && nat_lt (used slab) n) (n - used slab) 0 + used slab + cond (is_unused slab) 1 0 * chunks) is.size
        ∙ partial_each (is_listed slab) (used slab) chunks few some blank

  pub count_free : (slabs : List SlabState) → All (IsSlab chunks) slabs →
      sum_by free_listed slabs + sum_by used slabs ≡ count_by is_listed slabs * chunks
  count_free [] all = sym (zero-mul chunks)
  count_free (slab ∷ rest) all =
      omega (
        arith,
        count_free rest (λ i d below. all (suc i) d (omega arith)),
        free_one slab (all 0 slab (omega arith)),
        sum_by-cons free_listed slab rest,
        sum_by-cons used slab rest,
        ap (λ n. n * chunks) (sum_by-cons (λ (x : SlabState). cond (is_listed x) 1 0) slab rest),
        add-mul (cond (is_listed slab) 1 0) (count_by is_listed rest) chunks,
      )

  pub count_partial : 0 < chunks → (slabs : List SlabState) → All (IsSlab chunks) slabs →
      sum_by free_partial slabs + sum_by used slabs + count_by is_unused slabs * chunks ≡ count_by is_listed slabs * chunks
  count_partial some [] all = omega (arith, zero-mul chunks)
  count_partial some (slab ∷ rest) all =
      omega (
        arith,
        count_partial some rest (λ i d below. all (suc i) d (omega arith)),
        partial_one slab (all 0 slab (omega arith)) some,
        sum_by-cons free_partial slab rest,
        sum_by-cons used slab rest,
        ap (λ n. n * chunks) (sum_by-cons (λ (x : SlabState). cond (is_listed x) 1 0) slab rest),
        add-mul (cond (is_listed slab) 1 0) (count_by is_listed rest) chunks,
        ap (λ n. n * chunks) (sum_by-cons (λ (x : SlabState). cond (is_unused x) 1 0) slab rest),
        add-mul (cond (is_unused slab) 1 0) (count_by is_unused rest) chunks,
      )

pub unused_few : (slabs : List SlabState) → count_by is_unused slabs ≤ count_by is_listed slabs
unused_few slabs = sum_by-le-sum_by (λ slab. cond (is_unused slab) 1 0) (λ slab. cond (is_listed slab) 1 0) slabs (λ slab. less (is_listed slab) (used slab == 0))
  where
    less : (l u : Bool) → cond (l && u) 1 0 ≤ cond l 1 0
    less true true = omega arith
    less true false = omega arith
    less false u = omega arith

-- what is free on partial slabs, by the numbers of listed slabs and of unused ones
pub free_left : (chunks n listed unused : ℕ) (slabs : List SlabState) → 0 < chunks → n ≡ chunks → All (IsSlab chunks) slabs →
    listed ≡ count_by is_listed slabs → unused ≡ count_by is_unused slabs →
    sum_by free_partial slabs + sum_by used slabs ≡ (listed - unused) * n
free_left chunks n listed unused slabs some same all el eu =
    let rest : ℕ = count_by is_listed slabs - count_by is_unused slabs in
    let whole : rest + count_by is_unused slabs ≡ count_by is_listed slabs = omega (arith, unused_few slabs) in
    let here : (listed - unused) * n ≡ rest * chunks = ap₂ (λ a b. a * b) (ap₂ (λ a b. a - b) el eu) same in
    omega (arith, here, count_partial chunks some slabs all, add-mul rest (count_by is_unused slabs) chunks, ap (λ m. m * chunks) whole)
