use Rattle.std.proofs.Common.{◌≡◌, ℕ, ◌+◌, length}
use Rattle.magazine.specs.Ready.{AreReady}
use Rattle.kmem_cache.specs.Closing.{IsFlushed}
use Rattle.kmem_cache.proofs.flush.flush_magazine.Given as goal

-- what was freed and what is left are all rounds
abbrev pub invariant-loop-buf : goal.invariant-loop-buf
invariant-loop-buf g l = record {
  ready : AreReady g.K.Kind.constructed l.cache.home l.magazine;
  home : l.cache.home ≡ l.fn.cache.home;
  flushed : (n : ℕ) × IsFlushed n l.fn.cache.state l.cache.state × (n + length l.magazine ≡ length l.fn.magazine);
}

abbrev pub decreases-loop-buf : goal.decreases-loop-buf
decreases-loop-buf g l = length l.magazine
