use Rattle.std.proofs.Common.{◌≡◌, ℕ, length, count_by}
use Rattle.kmem_model.specs.CacheState.{slab_at}
use Rattle.kmem_model.specs.CacheEnter.{unmarked}
use Rattle.slab_list.specs.Bins.{has_note}
use Rattle.slab_list.proofs.list.SlabList.forget.Given as goal

abbrev pub invariant-loop-slab : goal.invariant-loop-slab
invariant-loop-slab g l =
    record {
      chunks : l.self.chunks ≡ l.initial.self.chunks;
      cells : l.self.cells ≡ l.initial.self.cells;
      skip : l.self.skip ≡ l.initial.self.skip;
      size : length l.self.slabs ≡ length l.initial.self.slabs;
      same : (i : ℕ) → unmarked (slab_at l.self.slabs i) ≡ unmarked (slab_at l.initial.self.slabs i);
    }

abbrev pub decreases-loop-slab : goal.decreases-loop-slab
decreases-loop-slab g l = count_by has_note l.self.slabs
