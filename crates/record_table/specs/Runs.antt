-- What a session's command does: to the history, to its holds, to the cache that it uses, and to the counts (this project's own).
use Rattle.std.specs.Prelude.{◌≡◌, ℕ, ◌+◌, ◌≤◌, ◌<◌, ◌^◌, ◌||◌, List, [], ◌∷◌, ◌++◌, Bool, true, false, Option, Some, None, IfSome, is_some, length, slice_index_or, if◌then◌else◌}
use Rattle.kmem_text.specs.Grammar.{IsWithinNames}
use Rattle.kmem_text.specs.declared.command.Command.{Command}
use Rattle.kmem_text.specs.declared.command.Command.TheVariants.{Put, Del}
use Rattle.kmem_text.specs.declared.command.Reply.{Reply}
use Rattle.kmem_text.specs.declared.command.Reply.TheVariants as said
use Rattle.atomic_table.specs.Seated.{TableId}
use Rattle.kmem_buf.specs.Buffers.{BufState}
use Rattle.kmem_buf.specs.declared.home.FullNote.{FullNote}
use Rattle.kmem_model.specs.declared.cache_entry.CacheEntry.{CacheEntry}
use Rattle.kmem_model.specs.declared.cache_entry.CacheEntry.TheVariants.{Alloc, Full, Free}
use Rattle.kmem_model.specs.Heap.{Object}
use Rattle.kmem_model.specs.declared.record_entry.RecordEntry.{RecordEntry}
use Rattle.record_heap.specs.View.{IsBlankBuffer}
use Rattle.hist_lock.specs.History.{IsFront, listed}
use Rattle.hist_lock.specs.Passes.{PassState, Site}
use Rattle.kmem_cache.specs.declared.locked.CacheHome.{CacheHome}
use Rattle.kmem_cache.specs.Seats.{CacheSite, CacheSeatState, IsCacheSeat, buffers_at}
use Rattle.record_table.specs.Shares.{ShareState, IsShareAt}
use Rattle.record_table.specs.Tables.{TableHome}
use Rattle.record_table.specs.Holds.{tag_in}
use Rattle.record_table.specs.Sessions.{SessionState, HasAdded, HasHolds, FoundAbsent, FoundNoRoom, WasMet}

abbrev pub is_put : Command → Bool
is_put (Put name value) = true
is_put _ = false

abbrev pub is_del : Command → Bool
is_del (Del name) = true
is_del _ = false

-- the entry asks the slabs for a buffer, and gives one back to them
abbrev pub asks_slabs : CacheEntry → Bool
asks_slabs (Alloc number) = true
asks_slabs Full = true
asks_slabs _ = false

abbrev pub frees_slab : CacheEntry → Bool
frees_slab (Free number) = true
frees_slab _ = false

-- what a command may do to the cache's history: at most one entry asks for a buffer, for a put alone and only where this is so, and at most one
-- behind it frees one, for a put or a del alone; there is no other
pub record HasUsed (old new : PassState CacheEntry CacheHome) (command : Command) (absent : Type 0) : Type 0 where
  pub asked : Option CacheEntry
  pub freed : Option CacheEntry
  pub front : IsFront old.seen new.seen
  pub mine : new.mine ≡ (old.mine ++ listed asked) ++ listed freed
  pub left : new.left + length (listed asked) + length (listed freed) ≡ old.left
  pub asks : IfSome asked (λ e. (is_put command ≡ true) × (asks_slabs e ≡ true) × absent)
  pub frees : IfSome freed (λ e. ((is_put command || is_del command) ≡ true) × (frees_slab e ≡ true))
  pub site : new.site ≡ old.site
  pub number : new.number ≡ old.number

-- a count has grown by one or not at all
abbrev pub GrowsByOne : ℕ → ℕ → Type 0
GrowsByOne old new = (old ≤ new) × (new ≤ old + 1)

-- what the cache lent less what it got back changes as what the heap got less what was fetched from it does, and none of these by more than one
pub record HasBalanced (share share' : ShareState) (seat seat' : CacheSeatState) : Type 0 where
  pub brought : GrowsByOne share.brought share'.brought
  pub fetched : GrowsByOne share.fetched share'.fetched
  pub lent : GrowsByOne seat.lent seat'.lent
  pub returned : GrowsByOne seat.returned seat'.returned
  pub balance : seat'.lent + seat.returned + share.brought + share'.fetched ≡ seat.lent + seat'.returned + share'.brought + share.fetched

-- why a put was refused: it found its name absent and no leftover, and the cache had no buffer, by this call's one entry, at the place of its note
pub record IsFullOf (home : TableHome) (new : PassState RecordEntry TableHome) (command : Command) (seat seat' : PassState CacheEntry CacheHome) : Type 0 where
  pub due : FoundNoRoom home new command
  pub mine : seat'.mine ≡ seat.mine ++ Full ∷ []
  pub note : FullNote
  pub before : List (ℕ × CacheEntry)
  pub at : length before ≡ note.at
  pub seen : seat'.seen ≡ before ++ (seat.number, Full) ∷ []

-- a session can carry out the command
pub record CanRun (table : Site TableHome) (session : SessionState) (command : Command) : Type 0 where
  pub of : session.pass.site ≡ table
  pub left : 1 ≤ session.pass.left
  pub names : IsWithinNames table.home.names command

-- with this cache and this seat of it
pub record CanCarryOut (table : Site TableHome) (cache : CacheSite) (session : SessionState) (seat : CacheSeatState) (command : Command) : Type 0 where
  pub can : CanRun table session command
  pub seat_of : IsCacheSeat cache seat
  pub home : buffers_at cache ≡ table.home.cache
  pub seat_left : 2 ≤ seat.pass.left
  pub counts : (session.share.brought < 2 ^ 62) × (session.share.fetched < 2 ^ 62)

-- what a put has done but for a buffer that comes back: its entry; what it asked the slabs for, only where this is so; and the counts, by which
-- a buffer that was lent was brought into the heap or comes back
pub record HasBrought (cells : List TableId) (old new : PassState RecordEntry TableHome) (no : ℕ) (command : Command) (reply : Reply) (back : Option (BufState Object))
    (share share' : ShareState) (seat seat' : CacheSeatState) (why : Type 0) : Type 0 where
  pub added : HasAdded old new no command reply
  pub blank : IfSome back (IsBlankBuffer cells)
  pub asked : Option CacheEntry
  pub front : IsFront seat.pass.seen seat'.pass.seen
  pub mine : seat'.pass.mine ≡ seat.pass.mine ++ listed asked
  pub left : seat'.pass.left + length (listed asked) ≡ seat.pass.left
  pub asks : IfSome asked (λ e. (asks_slabs e ≡ true) × why)
  pub site : seat'.pass.site ≡ seat.pass.site
  pub number : seat'.pass.number ≡ seat.pass.number
  pub full : reply ≡ said.Full → IsFullOf old.site.home new command seat.pass seat'.pass × (back ≡ None)
  pub brought : GrowsByOne share.brought share'.brought
  pub fetched : share'.fetched ≡ share.fetched
  pub lent : GrowsByOne seat.lent seat'.lent
  pub returned : seat'.returned ≡ seat.returned
  pub balance : seat'.lent + share.brought ≡ seat.lent + share'.brought + (if is_some back then 1 else 0)
  pub share_at : (share'.place ≡ share.place) × (share'.home ≡ share.home)

-- the session has carried out the command, with this reply
pub record HasCarriedOut (cache : CacheSite) (command : Command) (reply : Reply) (old new : SessionState) (seat seat' : CacheSeatState) : Type 0 where
  -- one entry, with the command's number
  pub added : HasAdded old.pass new.pass (old.made + 1) command reply
  pub made : new.made ≡ old.made + 1
  -- a hold for each tag; and where the command is on a tag that was in use, its hold was met
  pub holding : HasHolds old.pass.site.home old.pass.number new.pass.mine new.holds
  pub met : (tag : ℕ) → tag_in command ≡ Some tag → IfSome (slice_index_or old.holds tag None) (WasMet old.pass.site.home new.pass)
  -- `full` has its cause
  pub full : reply ≡ said.Full → IsFullOf old.pass.site.home new.pass command seat.pass seat'.pass
  -- what it did with the cache: it asks the slabs only where a turn of this call found the put's name absent
  pub used : HasUsed seat.pass seat'.pass command (FoundAbsent old.pass new.pass command)
  pub balanced : HasBalanced old.share new.share seat seat'
  pub share : IsShareAt old.pass.site.home.shares new.share
  pub of : IsCacheSeat cache seat'

-- a command that used no cache, whatever cache and seat there are
abbrev pub HasCarriedOutAlone : Command → Reply → SessionState → SessionState → Type 0
HasCarriedOutAlone command reply old new =
    (cache : CacheSite) (seat : CacheSeatState) → IsCacheSeat cache seat → HasCarriedOut cache command reply old new seat seat
