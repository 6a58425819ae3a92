-- What a deletion does to how many objects and records there are.
use Rattle.std.proofs.Common.{◌≡◌, ℕ, ◌+◌, ◌≤◌, List}
use Rattle.kmem_buf.specs.Buffers.{BufState}
use Rattle.kmem_model.specs.Records.{RecordMap, id_of, live_count}
use Rattle.kmem_model.specs.RecordStep.{del_step}
use Rattle.kmem_model.specs.Heap.{Object, StandsFor}
use Rattle.record_heap.specs.View.{HeapView, IsHandedOut, IsKeptOn}
use Rattle.record_table.specs.Tables.{object_count}
use Rattle.record_table.proofs.Lefts.{one_less}
use Rattle.record_table.proofs.Lives.{del_kept}

-- the record of the name ended
pub ended_count : (old : HeapView) (name : ℕ) (buf : BufState Object) (new : HeapView) → IsHandedOut old name buf new →
    (m : RecordMap) (addresses : List ℕ) → StandsFor m addresses old.heap → object_count new.heap + 1 ≡ object_count old.heap
ended_count old name buf new out m addresses stands = one_less new.heap old.heap buf.number (stands.paired.tied.named name buf.number out.address) out.places

-- it lives on
pub kept_lives : (old : HeapView) (name : ℕ) (new : HeapView) → IsKeptOn old name new →
    (m : RecordMap) (addresses : List ℕ) → StandsFor m addresses old.heap → live_count m ≤ live_count (del_step m name (id_of m name)).map
kept_lives old name new kept m addresses stands = del_kept m name (id_of m name) (kept.lives m addresses stands)
