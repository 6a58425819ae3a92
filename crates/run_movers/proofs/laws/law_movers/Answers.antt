use Rattle.std.proofs.Common.{◌≡◌, ◌+◌, ◌<◌, ℕ, suc, List, subst, arith, is_some}
use Rattle.std.specs.List.{All}
use Rattle.kmem_model.specs.CacheCounts.{total, entries_in, entries_by, moves_begun, moves_ended}
use Rattle.kmem_model.specs.declared.cache_entry.CacheEntry.{CacheEntry}
use Rattle.run_movers.specs.Histories.{AreWorkersBefore, IsOfMoversAlone}
use Rattle.run_movers.proofs.Sums.{of_movers, begun_alone, ended_alone, none_any}
use Rattle.run_movers.proofs.laws.law_movers.Goals as goal

sums_by : (c : goal.After-law_counts) (weight : CacheEntry → ℕ) (workers : ℕ) (history : List (ℕ × CacheEntry)) → IsOfMoversAlone weight → All (λ (e : ℕ × CacheEntry). e.0 < workers + 2) history →
    AreWorkersBefore workers history → total weight (entries_in history) ≡ total weight (entries_by workers history) + total weight (entries_by (workers + 1) history)
sums_by c weight workers history alone within work =
    let one : suc workers ≡ workers + 1 = omega arith in
    let two : workers + 2 ≡ suc (suc workers) = omega arith in
    subst (λ n. total weight (entries_in history) ≡ total weight (entries_by workers history) + total weight (entries_by n history)) one
    (of_movers weight workers history alone work
    (c.law_counts.ensures.passes (suc (suc workers)) weight history (subst (λ n. All (λ (e : ℕ × CacheEntry). e.0 < n) history) two within)))

pub returns-clause-sums : goal.returns-clause-sums
returns-clause-sums c = sums_by c

pub returns-clause-calm : goal.returns-clause-calm
returns-clause-calm c = λ sizes workers history s reached within work same.
    none_any is_some s.pending
    (omega (
      arith,
      c.law_counts.ensures.pending sizes history s reached,
      sums_by c moves_begun workers history begun_alone within work,
      sums_by c moves_ended workers history ended_alone within work,
      same,
    ))
