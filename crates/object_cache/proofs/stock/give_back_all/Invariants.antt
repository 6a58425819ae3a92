use Rattle.std.proofs.Common.{◌≡◌, count_by}
use Rattle.kmem_model.specs.CacheState.{is_dead}
use Rattle.object_cache.specs.Stock.{IsStocked}
use Rattle.object_cache.proofs.Stocked.{WentBack}
use Rattle.object_cache.proofs.stock.give_back_all.Given as goal

abbrev pub invariant-loop-slab : goal.invariant-loop-slab
invariant-loop-slab g l =
    record {
      chunks : l.list.chunks ≡ l.initial.list.chunks;
      cells : l.list.cells ≡ l.initial.list.cells;
      skip : l.list.skip ≡ l.initial.list.skip;
      went : WentBack l.initial.list.slabs l.list.slabs;
      stocked : IsStocked l.list.slabs l.supply;
    }

abbrev pub decreases-loop-slab : goal.decreases-loop-slab
decreases-loop-slab g l = count_by is_dead l.list.slabs
