-- The sums over a history whose first passes are workers' and whose last two are movers'.
use Rattle.std.proofs.Common.{◌≡◌, ◌+◌, ◌≤◌, ◌||◌, ℕ, zero, suc, Bool, true, false, cond, List, [], ◌∷◌, count_by, refl, arith}
use Rattle.std.specs.List.{AllByRecursion, list_any}
use Rattle.std.proofs.lemmas.List.Elements.{recursion_from_All}
use Rattle.std.proofs.lemmas.List.Sums.{sum_by-cons}
use Rattle.kmem_model.specs.CacheCounts.{total, entries_in, entries_by, total_before, moves_begun, moves_ended}
use Rattle.kmem_model.specs.declared.cache_entry.CacheEntry.{CacheEntry}
use Rattle.kmem_model.specs.declared.cache_entry.CacheEntry.TheVariants.{Alloc, Full, Free, Scan, Begin, Idle, Gone, End, Forget}
use Rattle.record_table.specs.Runs.{asks_slabs, frees_slab}
use Rattle.run_movers.specs.Histories.{AreWorkersBefore, IsOfMoversAlone}

none_of : (weight : CacheEntry → ℕ) → IsOfMoversAlone weight → (entries : List CacheEntry) →
    AllByRecursion (λ (e : CacheEntry). (asks_slabs e || frees_slab e) ≡ true) entries → total weight entries ≡ 0
none_of weight alone [] h = refl
none_of weight alone (e ∷ es) h = omega (arith, alone e h.0, none_of weight alone es h.1)

pub none_before : (weight : CacheEntry → ℕ) (workers : ℕ) (history : List (ℕ × CacheEntry)) → IsOfMoversAlone weight → AreWorkersBefore workers history →
    (n : ℕ) → n ≤ workers → total_before n weight history ≡ 0
none_before weight workers history alone work zero le = refl
none_before weight workers history alone work (suc n) le =
    omega (
      arith,
      none_before weight workers history alone work n (omega (arith, le)),
      none_of weight alone (entries_by n history)
          (recursion_from_All (λ (e : CacheEntry). (asks_slabs e || frees_slab e) ≡ true) (entries_by n history) (work n (omega (arith, le)))),
    )

pub of_movers : (weight : CacheEntry → ℕ) (workers : ℕ) (history : List (ℕ × CacheEntry)) → IsOfMoversAlone weight → AreWorkersBefore workers history →
    total_before (suc (suc workers)) weight history ≡ total weight (entries_in history) →
    total weight (entries_in history) ≡ total weight (entries_by workers history) + total weight (entries_by (suc workers) history)
of_movers weight workers history alone work sums = omega (arith, none_before weight workers history alone work workers (omega arith), sums)

-- Moves

no : false ≡ true → ⊥
no e = cc

pub begun_alone : IsOfMoversAlone moves_begun
begun_alone (Alloc b) h = refl
begun_alone Full h = refl
begun_alone (Free b) h = refl
begun_alone (Scan d) h = refl
begun_alone (Begin j b c) h = absurd (no h)
begun_alone Idle h = refl
begun_alone (Gone j) h = refl
begun_alone (End j a) h = refl
begun_alone Forget h = refl

pub ended_alone : IsOfMoversAlone moves_ended
ended_alone (Alloc b) h = refl
ended_alone Full h = refl
ended_alone (Free b) h = refl
ended_alone (Scan d) h = refl
ended_alone (Begin j b c) h = refl
ended_alone Idle h = refl
ended_alone (Gone j) h = absurd (no h)
ended_alone (End j a) h = absurd (no h)
ended_alone Forget h = refl

neither : (b r : Bool) (n : ℕ) → cond {A = ℕ} b 1 0 + n ≡ 0 → (n ≡ 0 → r ≡ false) → (b || r) ≡ false
neither true r n e h = absurd (omega (arith, e))
neither false r n e h = h (omega (arith, e))

pub none_any : {X : Type 0} (test : X → Bool) (xs : List X) → count_by test xs ≡ 0 → list_any test xs ≡ false
none_any test [] e = refl
none_any test (x ∷ xs) e =
    neither (test x) (list_any test xs) (count_by test xs) (omega (arith, e, sum_by-cons (λ y. cond {A = ℕ} (test y) 1 0) x xs)) (λ rest. none_any test xs rest)
