-- What contracts see of a record heap and of a hold, and what it means that a call does a step of the record map (this project's own).
use Rattle.std.specs.Prelude.{ℕ, ◌≡◌, true, false, List, [], ◌∷◌, ◌++◌, Some, length, slice_get, slice_set, refl}
use Rattle.std.specs.Coded.{Coded, code_by, coded×, coded_ℕ}
use Rattle.atomic_table.specs.Seated.{TableId, table_id_coded}
use Rattle.kmem_text.specs.declared.command.Reply.{Reply}
use Rattle.kmem_buf.specs.Buffers.{BufState}
use Rattle.kmem_buf.specs.Homes.{Homes, IsBufferOf}
use Rattle.kmem_model.specs.Records.{RecordMap, tag_place, id_of, is_live}
use Rattle.kmem_model.specs.RecordStep.{put_step, del_step}
use Rattle.kmem_model.specs.Heap.{Object, HeapState, StandsFor, blank, address_of, address_in, places_of}

-- a heap: its names, tags and objects, the homes of the cache whose buffers it takes, and the homes of the stubs of its tags, by place
pub record HeapView : Type 0 where
  pub heap : HeapState
  pub home : Homes
  pub holds : List TableId

-- a hold: a worker's tag, the address of the record that it holds, and the home of its slip
pub record HoldState : Type 0 where
  pub worker : ℕ
  pub tag : ℕ
  pub address : ℕ
  pub home : TableId

-- it is stored as its parts
abbrev pub hold_code : Coded HoldState
hold_code =
    code_by (ℕ × (ℕ × (ℕ × TableId)))
    (coded× coded_ℕ (coded× coded_ℕ (coded× coded_ℕ table_id_coded)))
    (λ h. (h.worker, (h.tag, (h.address, h.home))))
    (λ t. record { worker = t.0; tag = t.1.0; address = t.1.1.0; home = t.1.1.1 })
    (λ _. refl)

-- the facts with which a hold is issued: the worker, the tag and the address
abbrev pub hold_facts : ℕ → ℕ → ℕ → List ℕ
hold_facts worker tag address = worker ∷ tag ∷ address ∷ []

-- the hold is of these stubs: its home is the one that stands at the place of its tag
abbrev pub IsHoldAt : List TableId → HoldState → Type 0
IsHoldAt holds hold = slice_get holds (tag_place hold.worker hold.tag) ≡ Some hold.home

-- the hold is of this heap
abbrev pub IsHoldOf : HeapView → HoldState → Type 0
IsHoldOf h hold = IsHoldAt h.holds hold

-- homes and sizes stay
pub record IsFrame (old new : HeapView) : Type 0 where
  pub home : new.home ≡ old.home
  pub holds : new.holds ≡ old.holds
  pub names : length new.heap.names ≡ length old.heap.names
  pub tags : length new.heap.tags ≡ length old.heap.tags
  pub objects : length new.heap.objects ≡ length old.heap.objects

-- for whatever map the heap stands for, the reply is the one that this says
abbrev pub IsReplyBy : HeapState → (RecordMap → Reply) → Reply → Type 0
IsReplyBy h says reply = (m : RecordMap) (addresses : List ℕ) → StandsFor m addresses h → reply ≡ says m

-- for whatever map the heap stood for, it stands for the next one, with the same addresses
abbrev pub IsStepBy : HeapState → HeapState → (RecordMap → RecordMap) → Type 0
IsStepBy old new next = (m : RecordMap) (addresses : List ℕ) → StandsFor m addresses old → StandsFor (next m) addresses new

-- for whatever map the heap stood for, the name leads to a new record with this value at this address
abbrev pub IsNew : HeapView → ℕ → List ℕ → ℕ → HeapView → Type 0
IsNew old name value b new =
    (m : RecordMap) (addresses : List ℕ) → StandsFor m addresses old.heap →
    StandsFor (put_step m name value (id_of m name)).map (addresses ++ b ∷ []) new.heap

-- the buffer is of these cells, and constructed
pub record IsBlankBuffer (cells : List TableId) (buf : BufState Object) : Type 0 where
  pub of : IsBufferOf cells buf
  pub blank : buf.object ≡ blank

-- the record of the name ended by its deletion, and this is its buffer
pub record IsHandedOut (old : HeapView) (name : ℕ) (buf : BufState Object) (new : HeapView) : Type 0 where
  pub ready : IsBlankBuffer old.home.cells buf
  pub ended : (m : RecordMap) (addresses : List ℕ) → StandsFor m addresses old.heap → (id : ℕ) → id_of m name ≡ Some id →
      (is_live (del_step m name (id_of m name)).map id ≡ false) × (address_in addresses id ≡ buf.number)
  pub address : address_of old.heap name ≡ Some buf.number
  pub places : places_of new.heap.objects ≡ slice_set (places_of old.heap.objects) buf.number false

-- the record of the name, if there is one, lives on after its deletion
pub record IsKeptOn (old : HeapView) (name : ℕ) (new : HeapView) : Type 0 where
  pub lives : (m : RecordMap) (addresses : List ℕ) → StandsFor m addresses old.heap → (id : ℕ) → id_of m name ≡ Some id →
      is_live (del_step m name (id_of m name)).map id ≡ true
  pub places : places_of new.heap.objects ≡ places_of old.heap.objects
