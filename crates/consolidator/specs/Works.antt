-- What a scan does, and what it is to carry out a job (this project's own).
use Rattle.std.specs.Prelude.{◌≡◌, ◌⊎◌, ℕ, ◌+◌, ◌<◌, Bool, true, false, List, [], ◌∷◌, ◌++◌, length, All, Option, IfSome}
use Rattle.std.specs.List.{flat_map}
use Rattle.hist_lock.specs.History.{IsFront, listed}
use Rattle.hist_lock.specs.Passes.{PassState}
use Rattle.kmem_buf.specs.Answers.{Flags}
use Rattle.kmem_buf.specs.declared.client.Verdict.{Verdict}
use Rattle.kmem_model.specs.CacheCounts.{moves_begun, moves_ended, total}
use Rattle.kmem_model.specs.declared.cache_entry.CacheEntry.{CacheEntry}
use Rattle.kmem_model.specs.declared.cache_entry.CacheEntry.TheVariants.{Scan, Begin, Idle, Gone, End}
use Rattle.object_cache.specs.Moves.{JobState}
use Rattle.object_cache.specs.declared.tally.Tally.{Tally}
use Rattle.kmem_cache.specs.declared.locked.CacheHome.{CacheHome}
use Rattle.kmem_cache.specs.Calls.{IsOutAfter}
use Rattle.kmem_cache.specs.Seats.{CacheSite, CacheSeatState}
use Rattle.move_queue.specs.Queue.{QueueSeatState, HasPopped}
use Rattle.consolidator.specs.Notes.{Notes, notes_by, noted_all}
use Rattle.consolidator.specs.Rounds.{IsEndOf, IsOfMover}

-- The pass made these entries, one after another with those of others between, and all that they say was noted
pub record HasEntered (old new : PassState CacheEntry CacheHome) (before after : Notes) (entries : List CacheEntry) : Type 0 where
  pub front : IsFront old.seen new.seen
  pub mine : new.mine ≡ old.mine ++ entries
  pub left : new.left + length entries ≡ old.left
  pub site : new.site ≡ old.site
  pub number : new.number ≡ old.number
  pub kinds : All IsOfMover entries
  pub noted : after ≡ noted_all entries before

-- the magazines of the seat are as before
abbrev pub HasSameMagazines : CacheSeatState → CacheSeatState → Type 0
HasSameMagazines old new = (new.rounds ≡ old.rounds) × (new.depot ≡ old.depot)

module _ {X : Type 0} where
  -- Of the moves that these entries begin each was pushed or came back. Of those that they end each came back or was popped
  pub record HasQueued (old new : QueueSeatState X) (entries : List CacheEntry) : Type 0 where
    pub begun : length new.pushed + new.refused ≡ length old.pushed + old.refused + total moves_begun entries
    pub ended : length new.popped + new.refused ≡ length old.popped + old.refused + total moves_ended entries
    pub left : new.left + length new.pushed ≡ old.left + length old.pushed
    pub same : (new.ring ≡ old.ring) × (new.count ≡ old.count) × (new.terms ≡ old.terms)

-- the old buffer was out when the pass looked, between these two
abbrev pub WasOut : CacheSite → PassState CacheEntry CacheHome → PassState CacheEntry CacheHome → ℕ → Type 0
WasOut site old new from =
    (history : List (ℕ × CacheEntry)) × IsFront old.seen history × IsFront history new.seen × IsOutAfter site.lock.home history from

-- the entry ended the job: by Gone; or by an answer, and then its old buffer was out before the client was asked
abbrev pub HasEnded : {X : Type 0} → CacheSite → PassState CacheEntry CacheHome → PassState CacheEntry CacheHome → JobState X → CacheEntry →
    Type 0
HasEnded site old new job (Gone j) = j ≡ job.move.no
HasEnded site old new job (End j said) = (j ≡ job.move.no) × WasOut site old new job.move.from
HasEnded site old new job _ = ⊥

-- a move that a scan begins, and the entry that ended it at once where the queue handed its job back
pub record Tried : Type 0 where
  pub no : ℕ
  pub from : ℕ
  pub to : ℕ
  pub back : Option CacheEntry

-- its entries
abbrev pub entries_of_try : Tried → List CacheEntry
entries_of_try t = Begin t.no t.from t.to ∷ listed t.back

-- what came back was that very move
abbrev pub IsTried : Tried → Type 0
IsTried t = IfSome t.back (IsEndOf t.no)

-- the entries of a scan with these moves, and with these last ones
abbrev pub entries_of_scan : Bool → List Tried → List CacheEntry → List CacheEntry
entries_of_scan desperate moves last = Scan desperate ∷ (flat_map entries_of_try moves ++ last)

-- the job was ended by one entry
pub record HasFinished {X : Type 0} (site : CacheSite) (seat seat' : CacheSeatState) (before after : Notes) (job : JobState X) :
    Type 0 where
  pub entry : CacheEntry
  pub entered : HasEntered seat.pass seat'.pass before after (entry ∷ [])
  pub ended : HasEnded site seat.pass seat'.pass job entry
  pub magazines : HasSameMagazines seat seat'

-- what a mover works on: its two seats, and what is noted of its work
pub record Work (X : Type 0) : Type 0 where
  pub seat : CacheSeatState
  pub place : QueueSeatState X
  pub notes : Notes

module _ {C X : Type 0} (flags : C → Flags) (last : C → Option Verdict) (answered brought fetched : C → ℕ) where
  -- the work with these seats, with this tally, and with a client of this kind
  abbrev pub work_by : CacheSeatState → QueueSeatState X → Tally → C → Work X
  work_by seat place tally client =
      record { seat = seat; place = place; notes = notes_by flags last answered brought fetched seat tally client }

module _ {X : Type 0} where
  -- the pass of this work made these entries, they were noted, and the queue's seat did what they say
  pub record HasWorked (old new : Work X) (entries : List CacheEntry) : Type 0 where
    pub entered : HasEntered old.seat.pass new.seat.pass old.notes new.notes entries
    pub queued : HasQueued old.place new.place entries

  -- A scan: it begins 64 moves, or fewer up to an Idle. What of these isn't pushed is ended at once, and nothing else is. No job is
  -- popped
  pub record HasScanned (desperate : Bool) (old new : Work X) : Type 0 where
    pub moves : List Tried
    pub last : List CacheEntry
    pub each : All IsTried moves
    pub ended : ((last ≡ Idle ∷ []) × (length moves < 64)) ⊎ ((last ≡ []) × (length moves ≡ 64))
    pub worked : HasWorked old new (entries_of_scan desperate moves last)
    pub popped : new.place.popped ≡ old.place.popped
    pub magazines : HasSameMagazines old.seat new.seat

  -- a job came out and was ended by one entry; or none came, and nothing changed but the mark of the queue's seat
  abbrev pub HasCarried : CacheSite → Work X → Work X → Bool → Type 0
  HasCarried site old new true =
      (job : JobState X) × HasPopped job old.place new.place × HasFinished site old.seat new.seat old.notes new.notes job
  HasCarried site old new false = new ≡ record old { place = record old.place { done = true } }

-- no flag was cleared
pub record AreKept (old new : Flags) : Type 0 where
  pub yes : old.yes ≡ true → new.yes ≡ true
  pub no : old.no ≡ true → new.no ≡ true
  pub later : old.later ≡ true → new.later ≡ true
  pub dont_need : old.dont_need ≡ true → new.dont_need ≡ true
  pub dont_know : old.dont_know ≡ true → new.dont_know ≡ true

-- the count of an answer that was never given is as before
pub record CountsGiven (flags : Flags) (old new : Tally) : Type 0 where
  pub yes : flags.yes ≡ false → new.yes ≡ old.yes
  pub no : flags.no ≡ false → new.no ≡ old.no
  pub later : flags.later ≡ false → new.later ≡ old.later
  pub dont_need : flags.dont_need ≡ false → new.dont_need ≡ old.dont_need
  pub dont_know : flags.dont_know ≡ false → new.dont_know ≡ old.dont_know

-- lent less returned grew as brought less fetched did, and by the jobs that were pushed less those that were popped
abbrev pub IsBalanced : {X : Type 0} → Work X → Work X → Type 0
IsBalanced old new =
    new.notes.lent + old.notes.returned + old.notes.brought + new.notes.fetched + length old.place.pushed + length new.place.popped
    ≡ old.notes.lent + new.notes.returned + new.notes.brought + old.notes.fetched + length new.place.pushed + length old.place.popped
