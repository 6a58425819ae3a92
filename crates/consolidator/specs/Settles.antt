-- What a settle of a cache and of the heap in its buffers does (this project's own).
use Rattle.std.specs.Prelude.{ℕ, ◌≡◌, List, Some}
use Rattle.kmem_model.specs.Records.{RecordMap}
use Rattle.kmem_model.specs.Heap.{StandsFor}
use Rattle.kmem_model.specs.Says.{stage_in}
use Rattle.kmem_model.specs.Settle.{EndedMove}
use Rattle.kmem_model.specs.SettleMeasure.{settled}
use Rattle.kmem_model.specs.SettleEntries.{AreEntriesOf}
use Rattle.kmem_model.specs.declared.cache_entry.CacheEntry.{CacheEntry}
use Rattle.kmem_model.specs.OneRun.{addresses_moved}
use Rattle.object_cache.specs.Cache.{CacheView}
use Rattle.object_cache.specs.declared.tally.Tally.{Tally}
use Rattle.record_heap.specs.View.{HeapView, IsFrame}
use Rattle.consolidator.specs.Tallies.{tally_of}

-- the heap stands for the same map after these moves, at the addresses that they lead to
pub record HeapMoves (old : HeapView) (moves : List EndedMove) (new : HeapView) : Type 0 where
  pub stands : (m : RecordMap) (addresses : List ℕ) → StandsFor m addresses old.heap →
      StandsFor m (addresses_moved addresses moves) new.heap
  pub frame : IsFrame old new

-- the settle of this cache with this heap ends at that one, by these moves, each of which is counted, and makes just these entries
pub record SettlesTo (old new : CacheView) (heap heap_after : HeapView) (tally : Tally) : Type 0 where
  pub moves : List EndedMove
  pub settle : settled (stage_in old.state heap.heap.objects) ≡
      Some (record { stage = stage_in new.state heap_after.heap.objects; moves = moves })
  pub counts : tally ≡ tally_of moves
  pub entries : List CacheEntry
  pub made : AreEntriesOf (stage_in old.state heap.heap.objects) (record {
    stage = stage_in new.state heap_after.heap.objects;
    moves = moves;
  }) entries
  pub heap_moves : HeapMoves heap moves heap_after
