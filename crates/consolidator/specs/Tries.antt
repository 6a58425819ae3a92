-- One move of a scan.
use Rattle.std.specs.Prelude.{◌≡◌, ℕ, ◌+◌, ◌≤◌, Bool, true, false, [], ◌∷◌, length, Option, IfSome}
use Rattle.hist_lock.specs.History.{listed}
use Rattle.kmem_model.specs.declared.cache_entry.CacheEntry.{CacheEntry}
use Rattle.kmem_model.specs.declared.cache_entry.CacheEntry.TheVariants.{Idle}
use Rattle.consolidator.specs.Rounds.{IsEndOf}
use Rattle.consolidator.specs.Works.{Work, Tried, HasEntered, HasWorked, HasSameMagazines, IsTried, entries_of_try}

module _ {X : Type 0} where
  -- what these entries leave of what a mover may yet do
  pub record IsWithin (old new : Work X) : Type 0 where
    pub seat : old.seat.pass.left ≤ new.seat.pass.left + 2
    pub place : old.place.left ≤ new.place.left + 1
    pub refused : new.place.refused ≤ old.place.refused + 1
    pub brought : new.notes.brought ≤ old.notes.brought + 1
    pub fetched : new.notes.fetched ≤ old.notes.fetched + 1

  -- the job with this number was pushed; or it was ended by one entry, which the queue had handed back
  pub record HasPut (number : ℕ) (old new : Work X) : Type 0 where
    pub back : Option CacheEntry
    pub tried : IfSome back (IsEndOf number)
    pub entered : HasEntered old.seat.pass new.seat.pass old.notes new.notes (listed back)
    pub pushed : length new.place.pushed + length (listed back) ≡ length old.place.pushed + 1
    pub refused : new.place.refused ≡ old.place.refused + length (listed back)
    pub popped : new.place.popped ≡ old.place.popped
    pub left : new.place.left + length new.place.pushed ≡ old.place.left + length old.place.pushed
    pub same : (new.place.ring ≡ old.place.ring) × (new.place.count ≡ old.place.count) × (new.place.terms ≡ old.place.terms)
    pub magazines : HasSameMagazines old.seat new.seat
    pub brought : new.notes.brought ≤ old.notes.brought + 1
    pub fetched : new.notes.fetched ≤ old.notes.fetched + 1

  -- one move was begun, and pushed or ended; or none was left to begin
  abbrev pub HasTried : Work X → Work X → Bool → Type 0
  HasTried old new true =
      (t : Tried) × IsTried t × HasWorked old new (entries_of_try t) × (new.place.popped ≡ old.place.popped)
      × HasSameMagazines old.seat new.seat × IsWithin old new
  HasTried old new false =
      HasWorked old new (Idle ∷ []) × (new.place.popped ≡ old.place.popped) × HasSameMagazines old.seat new.seat × IsWithin old new
