use Rattle.std.proofs.Common.{◌≡◌, ◌≤◌, ◌++◌, ℕ, List, length}
use Rattle.kmem_buf.specs.Answers.{numbers_of}
use Rattle.magazine.specs.Ready.{AreReady}
use Rattle.kmem_cache.specs.Reaping.{HasFreedAll}
use Rattle.kmem_cache.proofs.reap.free_rounds.Given as goal

-- what was freed and what is left are all rounds
abbrev pub invariant-loop-buf : goal.invariant-loop-buf
invariant-loop-buf g l = record {
  ready : AreReady g.K.Kind.constructed l.lock.home.buffers l.magazine;
  left : length l.magazine ≤ l.pass.left;
  freed : (numbers : List ℕ) × HasFreedAll l.fn.pass l.pass numbers × (numbers ++ numbers_of l.magazine ≡ numbers_of l.fn.magazine);
}

abbrev pub decreases-loop-buf : goal.decreases-loop-buf
decreases-loop-buf g l = length l.magazine
