-- The turns of a record table: when each can be made, and what it tells (this project's own).
use Rattle.std.specs.Prelude.{◌≡◌, ℕ, ◌<◌, ◌^◌, ◌&&◌, List, [], ◌∷◌, ◌++◌, Bool, true, false, Option, Some, None, is_some, length, if◌then◌else◌}
use Rattle.kmem_text.specs.declared.command.Command.{Command}
use Rattle.kmem_text.specs.declared.command.Command.TheVariants.{Put, Get, First, Next, Count, Link, Fix, Loose}
use Rattle.kmem_text.specs.declared.command.NameId.{NameId}
use Rattle.kmem_text.specs.declared.command.Reply.{Reply}
use Rattle.kmem_text.specs.declared.command.Reply.TheVariants.{New, Full}
use Rattle.kmem_text.specs.Grammar.{IsWithinNames}
use Rattle.kmem_model.specs.declared.record_entry.RecordEntry.{RecordEntry}
use Rattle.kmem_buf.specs.Buffers.{BufState}
use Rattle.kmem_model.specs.Heap.{Object, address_of, least_left_in}
use Rattle.marks.specs.Words.{MarksState}
use Rattle.record_heap.specs.Puts.{IsReadyOffer, offered}
use Rattle.record_heap.specs.declared.heap.put.Offer.{Offer}
use Rattle.record_heap.specs.declared.heap.put.Offer.TheVariants.{Nothing, Refused}
use Rattle.record_heap.specs.declared.heap.put.PutEnd.{PutEnd}
use Rattle.record_heap.specs.declared.heap.put.PutEnd.TheVariants.{Replied, Wanting}
use Rattle.record_table.specs.Shares.{ShareState, IsShareAt}
use Rattle.record_table.specs.Tables.{TableHome, TableView, IsStandingFor}

-- these are the words of the table's buffers
abbrev pub IsWordsOf : TableHome → MarksState → Type 0
IsWordsOf home words = words ≡ record { home = home.words; buffers = length home.cache.cells }

-- a command that needs no buffer and no hold, and gives none
abbrev pub is_plain : Command → Bool
is_plain (Get name) = true
is_plain First = true
is_plain (Next name) = true
is_plain Count = true
is_plain (Link name other) = true
is_plain (Fix name) = true
is_plain (Loose name) = true
is_plain _ = false

-- this pass can be a worker's, and the command is plain and in range
pub record IsPlainAsk (home : TableHome) (who : ℕ) (command : Command) : Type 0 where
  pub worker : who < home.workers
  pub plain : is_plain command ≡ true
  pub names : IsWithinNames home.names command

-- a pass's command with its number and its reply
abbrev pub entry_of : ℕ → Command → Reply → RecordEntry
entry_of number command reply = record { number = number; command = command; reply = reply }

-- for whatever history the object stood for, it stands for it with this entry of this pass at its end
abbrev pub HasEntered : TableView → TableView → ℕ → RecordEntry → Type 0
HasEntered old new who entry = (h : List (ℕ × RecordEntry)) → IsStandingFor old h → IsStandingFor new (h ++ (who, entry) ∷ [])

-- and where there is no entry, the object is as before
abbrev pub HasTold : TableView → TableView → ℕ → Option RecordEntry → Type 0
HasTold old new who None = new ≡ old
HasTold old new who (Some entry) = HasEntered old new who entry

-- Puts

-- the entry of a put that ends so
abbrev pub put_entry : ℕ → NameId → List ℕ → PutEnd → Option RecordEntry
put_entry number name value (Replied reply back) = Some (entry_of number (Put name value) reply)
put_entry number name value Wanting = None

-- the buffer that comes back from a put
abbrev pub put_back : PutEnd → Option (BufState Object)
put_back (Replied reply back) = back
put_back Wanting = None

-- it has made a record
abbrev pub is_new_end : PutEnd → Bool
is_new_end (Replied New back) = true
is_new_end _ = false

-- what a put may be offered: it says of a cache that it was asked and has none
abbrev pub is_refused_offer : Offer → Bool
is_refused_offer (Refused note) = true
is_refused_offer _ = false

-- the buffer that was offered comes back exactly where no record was made
abbrev pub IsBackOf : Offer → PutEnd → Type 0
IsBackOf offer end = put_back end ≡ (if is_new_end end then None else offered offer)

-- how many buffers a put with this offer brings into the heap
abbrev pub brought_by_put : Offer → PutEnd → ℕ
brought_by_put offer end = if (is_new_end end && is_some (offered offer)) then 1 else 0

-- what a put's turn tells: its entry, if it makes one; a buffer that was offered comes back where no record was made; it wants a buffer only where
-- it was offered nothing and the name is absent; and it is `full` only where the cache had none and there was no leftover
pub record IsPutTold (old : TableView) (number : ℕ) (name : NameId) (value : List ℕ) (offer : Offer) (end : PutEnd) (entry : Option RecordEntry) : Type 0 where
  pub made : entry ≡ put_entry number name value end
  pub back : IsBackOf offer end
  pub wanting : end ≡ Wanting → (offer ≡ Nothing) × (address_of old.heap.heap name.0 ≡ None)
  pub full : (back : Option (BufState Object)) → end ≡ Replied Full back →
      (is_refused_offer offer ≡ true) × (least_left_in old.heap.heap ≡ None)

-- the same, with what the object stands for then
pub record IsPutTurn (old new : TableView) (who number : ℕ) (name : NameId) (value : List ℕ) (offer : Offer) (end : PutEnd) : Type 0 where
  pub tells : IsPutTold old number name value offer end (put_entry number name value end)
  pub told : HasTold old new who (put_entry number name value end)

-- a share that can be counted on
pub record IsShareAsk (home : TableHome) (share : ShareState) : Type 0 where
  pub of : IsShareAt home.shares share
  pub room : (share.brought < 2 ^ 62) × (share.fetched < 2 ^ 62)

-- a put that can be made by this pass with these words and this share
pub record IsPutAsk (home : TableHome) (words : MarksState) (who : ℕ) (name : NameId) (offer : Offer) (share : ShareState) : Type 0 where
  pub worker : who < home.workers
  pub named : name.0 < home.names
  pub offered : IsReadyOffer home.cache.cells offer
  pub of : IsWordsOf home words
  pub counts : IsShareAsk home share

-- Deletions

-- a deletion that can be made by this pass with these words and this share
pub record IsDelAsk (home : TableHome) (words : MarksState) (who : ℕ) (name : NameId) (share : ShareState) : Type 0 where
  pub worker : who < home.workers
  pub named : name.0 < home.names
  pub of : IsWordsOf home words
  pub counts : IsShareAsk home share

-- how many buffers a deletion that hands this out fetches from the heap
abbrev pub fetched_by_del : Option (BufState Object) → ℕ
fetched_by_del out = if is_some out then 1 else 0
