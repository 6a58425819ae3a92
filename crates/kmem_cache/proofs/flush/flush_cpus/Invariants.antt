use Rattle.std.proofs.Common.{◌≡◌, ℕ, ◌+◌, length, All, vec_len}
use Rattle.std.specs.List.{sum_by}
use Rattle.magazine.specs.Layer.{layer_rounds}
use Rattle.magazine.specs.Ready.{AreReady}
use Rattle.kmem_cache.specs.Closing.{IsFlushed}
use Rattle.kmem_cache.proofs.flush.flush_cpus.Given as goal

-- what was freed and what is left are all rounds
abbrev pub invariant-loop-cpu : goal.invariant-loop-cpu
invariant-loop-cpu g l = record {
  ready : All (λ c. AreReady g.K.Kind.constructed l.cache.home (layer_rounds c)) l.cpus.items;
  home : l.cache.home ≡ l.fn.cache.home;
  flushed : (n : ℕ) × IsFlushed n l.fn.cache.state l.cache.state
      × (n + sum_by (λ c. length (layer_rounds c)) l.cpus.items ≡ sum_by (λ c. length (layer_rounds c)) l.fn.cpus.items);
}

abbrev pub decreases-loop-cpu : goal.decreases-loop-cpu
decreases-loop-cpu g l = vec_len l.cpus
