-- Sessions: what a command adds to the history of a record table (this project's own).
use Rattle.std.specs.Prelude.{◌≡◌, ℕ, ◌+◌, ◌≤◌, ◌<◌, ◌^◌, List, [], ◌∷◌, ◌++◌, Bool, true, false, Option, Some, None, is_some, IfSome, length, replicate, slice_index_or, slice_set, unwrap_or}
use Rattle.kmem_text.specs.declared.command.Command.{Command}
use Rattle.kmem_text.specs.declared.command.Command.TheVariants.{Put}
use Rattle.kmem_text.specs.declared.command.NameId.{NameId}
use Rattle.kmem_text.specs.declared.command.Reply.{Reply}
use Rattle.kmem_text.specs.declared.command.Reply.TheVariants.{Full}
use Rattle.kmem_buf.specs.Stubs.{nowhere}
use Rattle.kmem_buf.specs.Buffers.{BufState}
use Rattle.record_heap.specs.View.{HoldState}
use Rattle.record_heap.specs.declared.heap.put.Offer.{Offer}
use Rattle.record_heap.specs.declared.heap.put.Offer.TheVariants.{Nothing}
use Rattle.record_heap.specs.declared.heap.put.PutEnd.{PutEnd}
use Rattle.record_heap.specs.declared.heap.put.PutEnd.TheVariants.{Replied, Wanting}
use Rattle.kmem_model.specs.Records.{RecordMap, no_records, tag_place, held_at}
use Rattle.kmem_model.specs.Heap.{Object, hold_at, address_in, least_left_in}
use Rattle.kmem_model.specs.History.{map_after, IsLegalHistory, is_put_of_absent, in_use}
use Rattle.kmem_model.specs.declared.record_entry.RecordEntry.{RecordEntry}
use Rattle.hist_lock.specs.History.{IsFront, entries_of}
use Rattle.hist_lock.specs.Passes.{PassState, Site}
use Rattle.record_table.specs.Shares.{ShareState, IsShareAt}
use Rattle.record_table.specs.Tables.{TableHome, TableView, IsStandingFor, home_of}
use Rattle.record_table.specs.Turns.{entry_of, IsBackOf, is_refused_offer}
use Rattle.record_table.specs.Holds.{IsHeldBy}

-- a session: its pass of the table, how many commands it has carried out, its hold for each tag, if there is one, and its share of the heap
pub record SessionState : Type 0 where
  pub pass : PassState RecordEntry TableHome
  pub made : ℕ
  pub holds : List (Option HoldState)
  pub share : ShareState

-- the share of nobody
abbrev pub no_share : ShareState
no_share = record { place = 0; brought = 0; fetched = 0; home = nowhere }

-- the session that these parts are
abbrev pub session_of : PassState RecordEntry TableHome → ℕ → List (Option HoldState) → Option ShareState → SessionState
session_of pass made holds share = record { pass = pass; made = made; holds = holds; share = unwrap_or share no_share }

-- there is exactly one hold for each tag that these entries of the pass leave in use, with its worker, tag and home
pub record HasHolds (home : TableHome) (who : ℕ) (mine : List RecordEntry) (holds : List (Option HoldState)) : Type 0 where
  pub size : length holds ≡ 8
  pub used : (tag : ℕ) → tag < 8 → is_some (slice_index_or holds tag None) ≡ in_use tag false mine
  pub held : (tag : ℕ) → tag < 8 → IfSome (slice_index_or holds tag None) (IsHeldBy home who tag)

-- what always holds of a session, where this says whether its share is at hand
pub record IsSession (session : SessionState) (shared : Bool) : Type 0 where
  pub worker : session.pass.number < session.pass.site.home.workers
  pub room : session.made + session.pass.left < 2 ^ 32
  pub holding : HasHolds session.pass.site.home session.pass.number session.pass.mine session.holds
  pub share : IsShareAt session.pass.site.home.shares session.share
  pub there : shared ≡ true

-- the holds once this one, if it is one, is the tag's
abbrev pub kept_at : List (Option HoldState) → ℕ → Option HoldState → List (Option HoldState)
kept_at holds tag None = holds
kept_at holds tag (Some hold) = slice_set holds tag (Some hold)

-- nothing was done with it
pub record IsFreshSession (session : SessionState) : Type 0 where
  pub made : session.made ≡ 0
  pub holds : session.holds ≡ replicate 8 None
  pub counts : (session.share.brought ≡ 0) × (session.share.fetched ≡ 0)

-- the pass is a worker's of this table, and may make an entry
pub record CanAdd (table : Site TableHome) (pass : PassState RecordEntry TableHome) : Type 0 where
  pub of : pass.site ≡ table
  pub left : 1 ≤ pass.left
  pub worker : pass.number < table.home.workers

-- the pass has carried out a command, with one entry: its history begins with all that it had seen, has of its own entries exactly those that
-- it had made, and is legal with the entry at its end, so the reply is the one that a plain map of records gives there
pub record HasAdded (old new : PassState RecordEntry TableHome) (no : ℕ) (command : Command) (reply : Reply) : Type 0 where
  pub before : List (ℕ × RecordEntry)
  pub front : IsFront old.seen before
  pub exact : entries_of old.number before ≡ old.mine
  pub seen : new.seen ≡ before ++ (old.number, entry_of no command reply) ∷ []
  pub legal : IsLegalHistory (no_records old.site.home.names old.site.home.workers) new.seen
  pub mine : new.mine ≡ old.mine ++ entry_of no command reply ∷ []
  pub left : new.left + 1 ≡ old.left
  pub site : new.site ≡ old.site
  pub number : new.number ≡ old.number

-- the pass has looked, with no entry: its history goes on with others' entries alone
pub record HasLooked (old new : PassState RecordEntry TableHome) : Type 0 where
  pub front : IsFront old.seen new.seen
  pub exact : entries_of old.number new.seen ≡ old.mine
  pub legal : IsLegalHistory (no_records old.site.home.names old.site.home.workers) new.seen
  pub mine : new.mine ≡ old.mine
  pub left : new.left ≡ old.left
  pub site : new.site ≡ old.site
  pub number : new.number ≡ old.number

-- an object of this home stood for the history that the pass found when it made the last entry of what it has seen
pub record WasMadeOn (home : TableHome) (new : PassState RecordEntry TableHome) : Type 0 where
  pub before : List (ℕ × RecordEntry)
  pub last : ℕ × RecordEntry
  pub seen : new.seen ≡ before ++ last ∷ []
  pub object : TableView
  pub home_is : home_of object ≡ home
  pub stood : IsStandingFor object before

-- the map that the object stood for
abbrev pub map_on : {home : TableHome} {new : PassState RecordEntry TableHome} → WasMadeOn home new → RecordMap
map_on made = map_after (no_records made.object.names made.object.workers) made.before

-- a turn of this call found the put's name absent: at a history that the pass has seen since
pub record FoundAbsent (old new : PassState RecordEntry TableHome) (command : Command) : Type 0 where
  pub before : List (ℕ × RecordEntry)
  pub object : TableView
  pub home_is : home_of object ≡ old.site.home
  pub stood : IsStandingFor object before
  pub later : IsFront old.seen before
  pub seen : IsFront before new.seen
  pub absent : is_put_of_absent (map_after (no_records object.names object.workers) before) command ≡ true

-- the put found its name absent, and the heap had no leftover
pub record FoundNoRoom (home : TableHome) (new : PassState RecordEntry TableHome) (command : Command) : Type 0 where
  pub on : WasMadeOn home new
  pub absent : is_put_of_absent (map_on on) command ≡ true
  pub left : least_left_in on.object.heap.heap ≡ None

-- the hold was met: the heap had its tag at its address, which is that of the id that the tag holds in the map
pub record WasMet (home : TableHome) (new : PassState RecordEntry TableHome) (hold : HoldState) : Type 0 where
  pub on : WasMadeOn home new
  pub there : hold_at on.object.heap.heap (tag_place hold.worker hold.tag) ≡ Some hold.address
  pub id : ℕ
  pub held : held_at (map_on on) (tag_place hold.worker hold.tag) ≡ Some id
  pub address : address_in on.stood.addresses id ≡ hold.address

-- what a put's turn adds: its entry, or nothing where it wants a buffer
abbrev pub HasPutSo : PassState RecordEntry TableHome → PassState RecordEntry TableHome → ℕ → NameId → List ℕ → PutEnd → Type 0
HasPutSo old new at name value (Replied reply back) = HasAdded old new at (Put name value) reply
HasPutSo old new at name value Wanting = HasLooked old new

-- a put's turn with this offer ends so: the buffer that was offered comes back where no record was made; it wants one only where it was
-- offered nothing and found the name absent; it is `full` only where the cache had none, the name is absent, and there is no leftover
pub record HasPut (old new : PassState RecordEntry TableHome) (no : ℕ) (name : NameId) (value : List ℕ) (offer : Offer) (end : PutEnd) : Type 0 where
  pub so : HasPutSo old new no name value end
  pub back : IsBackOf offer end
  pub wanting : end ≡ Wanting → (offer ≡ Nothing) × FoundAbsent old new (Put name value)
  pub full : (back : Option (BufState Object)) → end ≡ Replied Full back →
      (is_refused_offer offer ≡ true) × FoundNoRoom old.site.home new (Put name value)
