-- What the end of a record table shows (this project's own).
use Rattle.std.specs.Prelude.{◌≡◌, ℕ, ◌+◌, ◌*◌, ◌<◌, true, List, All, length, map, ◌++◌}
use Rattle.std.specs.List.{sum_by}
use Rattle.kmem_buf.specs.Homes.{Homes}
use Rattle.kmem_model.specs.Records.{no_records}
use Rattle.kmem_model.specs.Heap.{StandsFor, leftover_count}
use Rattle.kmem_model.specs.History.{map_after, IsLegalHistory, IsEntryWithin}
use Rattle.kmem_model.specs.declared.record_entry.RecordEntry.{RecordEntry}
use Rattle.record_heap.specs.View.{HeapView}
use Rattle.record_table.specs.Ended.{has_ended}
use Rattle.record_table.specs.Tables.{TableHome}
use Rattle.record_table.specs.Sessions.{SessionState}
use Rattle.record_table.specs.Asks.{MoverState}

-- the history of a closed table, and the homes of the cache whose buffers its heap took
pub record RecordLogState : Type 0 where
  pub entries : List (ℕ × RecordEntry)
  pub home : Homes

-- the history is legal and in range, and the heap stands for the map after it, with as many names and tags and an object's place for each
-- buffer; a leftover is there only after a `drop` that ended a record
pub record HasClosed (home : TableHome) (heap : HeapView) (entries : List (ℕ × RecordEntry)) : Type 0 where
  pub legal : IsLegalHistory (no_records home.names home.workers) entries
  pub within : All (IsEntryWithin home.names home.workers) entries
  pub addresses : List ℕ
  pub stands : StandsFor (map_after (no_records home.names home.workers) entries) addresses heap.heap
  pub names : length heap.heap.names ≡ home.names
  pub tags : length heap.heap.tags ≡ 8 * home.workers
  pub objects : length heap.heap.objects ≡ length home.cache.cells
  pub left : 0 < leftover_count heap.heap → has_ended (no_records home.names home.workers) entries ≡ true

-- what all sessions and movers have put into the heap, and taken out
abbrev pub all_brought : List SessionState → List MoverState → ℕ
all_brought sessions movers = sum_by (λ s. s.share.brought) sessions + sum_by (λ m. m.share.brought) movers

abbrev pub all_fetched : List SessionState → List MoverState → ℕ
all_fetched sessions movers = sum_by (λ s. s.share.fetched) sessions + sum_by (λ m. m.share.fetched) movers

-- the numbers of their passes
abbrev pub all_numbers : List SessionState → List MoverState → List ℕ
all_numbers sessions movers = map (λ s. s.pass.number) sessions ++ map (λ m. m.pass.number) movers
