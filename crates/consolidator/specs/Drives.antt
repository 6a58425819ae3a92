-- What a mover does in a whole run (this project's own).
use Rattle.std.specs.Prelude.{◌≡◌, ℕ, zero, suc, ◌+◌, ◌*◌, ◌^◌, ◌<◌, ◌≤◌, Bool, true, false, List, [], length, filter, replicate, All, if◌then◌else◌}
use Rattle.kmem_model.specs.CacheScans.{is_scan, scanning, has_rounds}
use Rattle.kmem_model.specs.declared.cache_entry.CacheEntry.{CacheEntry}
use Rattle.kmem_model.specs.declared.cache_entry.CacheEntry.TheVariants.{Scan}
use Rattle.object_cache.specs.declared.tally.Tally.{Tally}
use Rattle.kmem_cache.specs.Reaping.{HasReaped}
use Rattle.kmem_cache.specs.Seats.{CacheSeatState}
use Rattle.consolidator.specs.Notes.{Notes}
use Rattle.consolidator.specs.Rounds.{AreRounds, IsOfMoves}
use Rattle.consolidator.specs.Works.{Work, HasWorked}

-- the entries of a reap, which may free a round of each full magazine
abbrev pub reap_room : Bool → ℕ → ℕ
reap_room reaps places = if reaps then 8 * places else 0

-- full magazines were reaped, or nothing was done
abbrev pub HasReapedSeat : Bool → ℕ → CacheSeatState → CacheSeatState → Type 0
HasReapedSeat true places old new = HasReaped places old new
HasReapedSeat false places old new = new ≡ old

module _ {X : Type 0} where
  -- There is room for so many scans, each with 129 entries, 64 pushes and 64 answers at most; for as many entries more as there are jobs
  -- that this seat may pop yet, where all seats push no more than all quotas; for one to spare, and for so many others
  pub record HasRoom (quotas scans others : ℕ) (work : Work X) : Type 0 where
    pub few : length work.place.popped ≤ quotas
    pub entries : 129 * scans + quotas + 1 + others ≤ work.seat.pass.left + length work.place.popped
    pub pushes : 64 * scans ≤ work.place.left
    pub refused : work.place.refused + 64 * scans ≤ 2 ^ 62
    pub brought : work.notes.brought + quotas + 64 * scans ≤ 2 ^ 61 + length work.place.popped
    pub fetched : work.notes.fetched + quotas + 64 * scans ≤ 2 ^ 61 + length work.place.popped

  -- jobs were carried until none came
  pub record HasDrained (old new : Work X) : Type 0 where
    pub entries : List CacheEntry
    pub worked : HasWorked old new entries
    pub moves : All IsOfMoves entries
    pub calm : scanning entries ≡ []
    pub done : new.place.done ≡ true

  -- so many scans were made, and after each of them jobs were carried until none came
  pub record HasRounds (desperate : Bool) (scans : ℕ) (old new : Work X) : Type 0 where
    pub entries : List CacheEntry
    pub worked : HasWorked old new entries
    pub moves : All IsOfMoves entries
    pub rounds : AreRounds desperate scans entries

  -- Just before each of so many scans, when those before it and their rounds were made, there was a client of this work that had seen
  -- the share of that scan
  abbrev pub ArePaced : {C : Type 0} → (CacheSeatState → Tally → C → Notes) → (C → ℕ) → (ℕ → ℕ) → Bool → ℕ → Work X → Type 0
  ArePaced {C} notes seen share desperate scans old =
      (i : ℕ) → i < scans → (before : Work X) × (client : C) × (tally : Tally) × HasRounds desperate i old before
      × (before.notes ≡ notes before.seat tally client) × (share i ≤ seen client)

  -- the same of a mover's work
  abbrev pub HasReapedIf : Bool → ℕ → Work X → Work X → Type 0
  HasReapedIf reaps places old new = HasReapedSeat reaps places old.seat new.seat × (new ≡ record old { seat = new.seat })

  -- A mover's run: all its scans but the last, then the reap, then the last scan. Without a scan it only carries
  abbrev pub HasDriven : Bool → ℕ → Bool → ℕ → Work X → Work X → Type 0
  HasDriven reaps places desperate zero old new = HasDrained old new
  HasDriven reaps places desperate (suc scans) old new =
      (before after : Work X) × HasRounds desperate scans old before × HasReapedIf reaps places before after
      × HasRounds desperate 1 after new

  -- The whole of it: there are so many Scan entries, all of this kind, each is followed by a round, and at last the queue's seat found no
  -- job
  pub record IsWholeDrive (desperate : Bool) (scans : ℕ) (old new : Work X) : Type 0 where
    pub entries : List CacheEntry
    pub worked : HasWorked old new entries
    pub scans_are : filter is_scan entries ≡ replicate scans (Scan desperate)
    pub rounds : has_rounds (scanning entries) ≡ true
    pub done : new.place.done ≡ true
