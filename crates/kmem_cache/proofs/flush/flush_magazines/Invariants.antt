use Rattle.std.proofs.Common.{◌≡◌, ℕ, ◌+◌, length, All, vec_len}
use Rattle.std.specs.List.{sum_by}
use Rattle.magazine.specs.Ready.{AreReady}
use Rattle.kmem_cache.specs.Closing.{IsFlushed}
use Rattle.kmem_cache.proofs.flush.flush_magazines.Given as goal

-- what was freed and what is left are all rounds
abbrev pub invariant-loop-magazine : goal.invariant-loop-magazine
invariant-loop-magazine g l = record {
  ready : All (λ m. AreReady g.K.Kind.constructed l.cache.home m) l.magazines.items;
  home : l.cache.home ≡ l.fn.cache.home;
  flushed : (n : ℕ) × IsFlushed n l.fn.cache.state l.cache.state
      × (n + sum_by length l.magazines.items ≡ sum_by length l.fn.magazines.items);
}

abbrev pub decreases-loop-magazine : goal.decreases-loop-magazine
decreases-loop-magazine g l = vec_len l.magazines
