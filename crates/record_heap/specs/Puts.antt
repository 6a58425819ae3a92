-- How a put ends (this project's own).
use Rattle.std.specs.Prelude.{ℕ, ◌≡◌, true, List, Option, Some, None, slice_set}
use Rattle.atomic_table.specs.Seated.{TableId}
use Rattle.kmem_buf.specs.Buffers.{BufState}
use Rattle.kmem_buf.specs.Homes.{IsBufferOf}
use Rattle.kmem_model.specs.Records.{RecordMap, id_of}
use Rattle.kmem_model.specs.RecordStep.{put_step}
use Rattle.kmem_model.specs.Heap.{least_left_in, Object, StandsFor, blank, object_at, places_of}
use Rattle.kmem_text.specs.declared.command.Reply.TheVariants.{New, Was, Full}
use Rattle.record_heap.specs.View.{HeapView, IsNew}
use Rattle.record_heap.specs.declared.heap.put.Offer.{Offer}
use Rattle.record_heap.specs.declared.heap.put.Offer.TheVariants.{Nothing, Fresh, Refused}
use Rattle.record_heap.specs.declared.heap.put.PutEnd.{PutEnd}
use Rattle.record_heap.specs.declared.heap.put.PutEnd.TheVariants.{Replied, Wanting}

-- the buffer that was offered
abbrev pub offered : Offer → Option (BufState Object)
offered Nothing = None
offered (Fresh buf) = Some buf
offered (Refused note) = None

-- the name was there: its record has the value, and the buffer that was offered comes back
pub record IsReplaced (old : HeapView) (name : ℕ) (value : List ℕ) (offer : Offer) (end : PutEnd) (new : HeapView) : Type 0 where
  pub back : (was : List ℕ) × (end ≡ Replied (Was was) (offered offer))
  pub reply : (m : RecordMap) (addresses : List ℕ) → StandsFor m addresses old.heap →
      end ≡ Replied (put_step m name value (id_of m name)).reply (offered offer)
  pub stands : (m : RecordMap) (addresses : List ℕ) → StandsFor m addresses old.heap →
      StandsFor (put_step m name value (id_of m name)).map addresses new.heap
  pub places : places_of new.heap.objects ≡ places_of old.heap.objects

-- a buffer that is offered is of these cells, and constructed
abbrev pub IsReadyOffer : List TableId → Offer → Type 0
IsReadyOffer cells Nothing = Unit {0}
IsReadyOffer cells (Fresh buf) = IsBufferOf cells buf × (buf.object ≡ blank)
IsReadyOffer cells (Refused note) = Unit {0}

-- the put ends thus, and nothing changes
abbrev pub IsRefused : HeapView → PutEnd → PutEnd → HeapView → Type 0
IsRefused old says end new = (end ≡ says) × (new ≡ old)

-- a new record lies in the buffer with this number, which was offered and whose place was empty
pub record IsMade (old : HeapView) (name : ℕ) (value : List ℕ) (b : ℕ) (end : PutEnd) (new : HeapView) : Type 0 where
  pub reply : end ≡ Replied New None
  pub is_new : IsNew old name value b new
  pub empty : object_at old.heap b ≡ None
  pub places : places_of new.heap.objects ≡ slice_set (places_of old.heap.objects) b true

-- a new record lies at this address, where a leftover was
pub record IsReused (old : HeapView) (name : ℕ) (value : List ℕ) (b : ℕ) (end : PutEnd) (new : HeapView) : Type 0 where
  pub reply : end ≡ Replied New None
  pub is_new : IsNew old name value b new
  pub places : places_of new.heap.objects ≡ places_of old.heap.objects

-- how a put of an absent name ends where the cache has no buffer, and this is the least leftover, if there is one
abbrev pub IsPutLast : HeapView → ℕ → List ℕ → Option ℕ → PutEnd → HeapView → Type 0
IsPutLast old name value None end new = IsRefused old (Replied Full None) end new
IsPutLast old name value (Some b) end new = IsReused old name value b end new

-- how a put of an absent name ends, by what was offered
abbrev pub IsPutNew : HeapView → ℕ → List ℕ → Offer → PutEnd → HeapView → Type 0
IsPutNew old name value Nothing end new = IsRefused old Wanting end new
IsPutNew old name value (Fresh buf) end new = IsMade old name value buf.number end new
IsPutNew old name value (Refused note) end new = IsPutLast old name value (least_left_in old.heap) end new
