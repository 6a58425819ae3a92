use Rattle.std.proofs.Common.{◌≡◌, ℕ, ◌+◌, length}
use Rattle.magazine.specs.Layer.{layer_rounds}
use Rattle.magazine.specs.Ready.{AreReady}
use Rattle.kmem_cache.specs.Closing.{IsFlushed}
use Rattle.kmem_cache.proofs.flush.flush_cpu.Given as goal

-- what was freed and what is left are all rounds
abbrev pub invariant-loop-buf : goal.invariant-loop-buf
invariant-loop-buf g l = record {
  ready : AreReady g.K.Kind.constructed l.cache.home (layer_rounds l.cpu);
  home : l.cache.home ≡ l.fn.cache.home;
  flushed : (n : ℕ) × IsFlushed n l.fn.cache.state l.cache.state × (n + length (layer_rounds l.cpu) ≡ length (layer_rounds l.fn.cpu));
}

abbrev pub decreases-loop-buf : goal.decreases-loop-buf
decreases-loop-buf g l = length (layer_rounds l.cpu)
