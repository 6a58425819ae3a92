-- What stands under the lock of a record table (this project's own).
use Rattle.std.specs.Prelude.{◌≡◌, ℕ, ◌+◌, ◌*◌, ◌<◌, ◌≤◌, true, List, [], All, is_some, count_by, length, refl}
use Rattle.std.specs.Coded.{Coded, code_by, coded×, coded_ℕ, coded_list}
use Rattle.atomic_table.specs.Seated.{TableId, table_id_coded}
use Rattle.kmem_buf.specs.Homes.{Homes}
use Rattle.kmem_buf.specs.Stubs.{nowhere}
use Rattle.marks.specs.Words.{MarkPenState, MarksState}
use Rattle.kmem_model.specs.Records.{no_records}
use Rattle.kmem_model.specs.Heap.{HeapState, StandsFor, places_of, leftover_count}
use Rattle.kmem_model.specs.History.{map_after, IsLegalHistory, IsEntryWithin}
use Rattle.kmem_model.specs.declared.record_entry.RecordEntry.{RecordEntry}
use Rattle.hist_lock.specs.Passes.{Site}
use Rattle.record_heap.specs.View.{HeapView}
use Rattle.record_table.specs.Shares.{SharesState}
use Rattle.record_table.specs.Ended.{has_ended}

-- what no turn changes: the homes of the cache whose buffers the heap takes, of the stubs of its tags, of the known words, and of the
-- stubs of its passes' shares; how many names and workers there are
pub record TableHome : Type 0 where
  pub cache : Homes
  pub holds : List TableId
  pub words : TableId
  pub shares : List TableId
  pub names : ℕ
  pub workers : ℕ

-- any home
abbrev pub no_home : TableHome
no_home =
    record {
      cache = record { cells = []; moves = [] };
      holds = [];
      words = nowhere;
      shares = [];
      names = 0;
      workers = 0;
    }

-- it is stored as its parts
abbrev pub home_code : Coded TableHome
home_code =
    code_by ((List TableId × List TableId) × (List TableId × (TableId × (List TableId × (ℕ × ℕ)))))
    (coded× (coded× (coded_list table_id_coded) (coded_list table_id_coded)) (coded× (coded_list table_id_coded) (coded× table_id_coded (coded× (coded_list table_id_coded) (coded× coded_ℕ coded_ℕ)))))
    (λ t. ((t.cache.cells, t.cache.moves), (t.holds, (t.words, (t.shares, (t.names, t.workers))))))
    (λ p. record {
      cache = record { cells = p.0.0; moves = p.0.1 };
      holds = p.1.0;
      words = p.1.1.0;
      shares = p.1.1.1.0;
      names = p.1.1.1.1.0;
      workers = p.1.1.1.1.1;
    })
    (λ _. refl)

-- the object under the lock: its heap, the pen of the known words, its passes' shares of the heap, and how many names and workers there are
pub record TableView : Type 0 where
  pub heap : HeapView
  pub pen : MarkPenState
  pub shares : SharesState
  pub names : ℕ
  pub workers : ℕ

-- what no turn changes of it
abbrev pub home_of : TableView → TableHome
home_of t =
    record {
      cache = t.heap.home;
      holds = t.heap.holds;
      words = t.pen.home;
      shares = t.shares.homes;
      names = t.names;
      workers = t.workers;
    }

-- how many objects a heap has
abbrev pub object_count : HeapState → ℕ
object_count h = count_by is_some h.objects

-- what always holds of these parts: there is a name and a tag for each, an object and a word for each buffer, and all shares are out
pub record AreOfOneTable (t : TableView) : Type 0 where
  pub names : length t.heap.heap.names ≡ t.names
  pub tags : length t.heap.heap.tags ≡ 8 * t.workers
  pub objects : length t.heap.heap.objects ≡ length t.heap.home.cells
  pub words : length t.pen.known ≡ length t.heap.home.cells
  pub few : t.workers ≤ 16
  pub out : t.shares.out ≡ length t.shares.homes

-- the heap has as many objects as all shares have put in, less those that they took out
abbrev pub IsCounted : TableView → Type 0
IsCounted t = t.shares.brought ≡ t.shares.fetched + object_count t.heap.heap

-- the object stands for the history, which is legal and in range: the heap stands for the map after it, where its ids have some addresses;
-- the words are known exactly where the heap has an object; the shares add up; and there is a leftover only after a `drop` that ended a record
pub record IsStandingFor (t : TableView) (history : List (ℕ × RecordEntry)) : Type 0 where
  pub legal : IsLegalHistory (no_records t.names t.workers) history
  pub within : All (IsEntryWithin t.names t.workers) history
  pub addresses : List ℕ
  pub stands : StandsFor (map_after (no_records t.names t.workers) history) addresses t.heap.heap
  pub known : t.pen.known ≡ places_of t.heap.heap.objects
  pub counted : IsCounted t
  pub left : 0 < leftover_count t.heap.heap → has_ended (no_records t.names t.workers) history ≡ true

-- the lock, the words and the rooms are of one table
pub record IsTable (lock : Site TableHome) (words : MarksState) (home : Homes) (passes shares : ℕ) : Type 0 where
  pub words_of : words ≡ record { home = lock.home.words; buffers = length lock.home.cache.cells }
  pub home_is : home ≡ lock.home.cache
  pub room : (passes ≡ lock.count) × (shares ≡ lock.count)
  pub shared : length lock.home.shares ≡ lock.count
