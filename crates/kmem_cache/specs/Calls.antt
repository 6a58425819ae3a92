-- What the calls of a shared cache answer, and what they leave (this project's own).
use Rattle.std.specs.Prelude.{◌≡◌, ◌⊎◌, ℕ, ◌+◌, ◌<◌, Bool, true, List, [], length, Option, Some, None, Result, Ok, Err}
use Rattle.kmem_buf.specs.Buffers.{BufState}
use Rattle.kmem_model.specs.CacheState.{CacheState, is_out}
use Rattle.kmem_model.specs.CacheHistory.{Reaches}
use Rattle.kmem_model.specs.declared.cache_entry.CacheEntry.{CacheEntry}
use Rattle.kmem_model.specs.declared.cache_entry.CacheEntry.TheVariants.{Alloc, Full, Free, Gone}
use Rattle.object_cache.specs.Moves.{JobState}
use Rattle.magazine.specs.Ready.{IsReady}
use Rattle.depot.specs.Depot.{WasRefused}
use Rattle.kmem_cache.specs.declared.locked.CacheHome.{CacheHome}
use Rattle.kmem_cache.specs.declared.locked.CacheRefused.{CacheRefused}
use Rattle.kmem_cache.specs.declared.locked.CacheRefused.TheVariants as none
use Rattle.kmem_cache.specs.Locked.{sizes_at}
use Rattle.kmem_cache.specs.Seats.{CacheSite, CacheSeatState, buffers_at, HasTaken, HasPut}

-- the seat had no round, and its depot gave no full magazine
abbrev pub HadNone : CacheSite → CacheSeatState → CacheSeatState → Type 0
HadNone site old new = (old.rounds ≡ []) × (new.rounds ≡ []) × WasRefused site.depot.places 1 old.depot new.depot

-- both magazines of the seat were full, and its depot gave no empty one
abbrev pub HadNoRoom : CacheSite → CacheSeatState → CacheSeatState → Type 0
HadNoRoom site old new = (length old.rounds ≡ 16) × (new.rounds ≡ old.rounds) × WasRefused site.depot.places 0 old.depot new.depot

module _ {X : Type 0} (constructed : X → Type 0) (never_refuses : Bool) (site : CacheSite) where
  -- An allocation: a buffer of the magazines and no entry; or, where these had none, a buffer with its Alloc, or a note of the Full that
  -- is the last entry that the pass has seen, or no memory and no entry. Only a buffer is counted as lent
  abbrev pub HasAllocated : CacheSeatState → CacheSeatState → Result (BufState X) CacheRefused → Option CacheEntry → Type 0
  HasAllocated old new (Ok buf) entry =
      IsReady constructed (buffers_at site) buf × (new.lent ≡ old.lent + 1)
      × (((entry ≡ None) × HasTaken site.depot.places buf.number old.rounds new.rounds old.depot new.depot)
      ⊎ ((entry ≡ Some (Alloc buf.number)) × HadNone site old new))
  HasAllocated old new (Err (none.Full note)) entry =
      (entry ≡ Some Full) × (length new.pass.seen ≡ note.at + 1) × HadNone site old new × (new.lent ≡ old.lent)
  HasAllocated old new (Err none.NoMemory) entry =
      (entry ≡ None) × (never_refuses ≡ true → ⊥) × HadNone site old new × (new.lent ≡ old.lent)

-- a free: the buffer went into the magazines, and there is no entry; or, where these had no room, there is its Free
abbrev pub HasFreed : CacheSite → CacheSeatState → CacheSeatState → ℕ → Option CacheEntry → Type 0
HasFreed site old new number entry =
    ((entry ≡ None) × HasPut site.depot.places number old.rounds new.rounds old.depot new.depot)
    ⊎ ((entry ≡ Some (Free number)) × HadNoRoom site old new)

-- the buffer is out after this history
abbrev pub IsOutAfter : CacheHome → List (ℕ × CacheEntry) → ℕ → Type 0
IsOutAfter home history number = (s : CacheState) × Reaches (sizes_at home) history s × (is_out s number ≡ true)

module _ {X : Type 0} where
  -- a job that was met: it comes back, and there is no entry, where its old buffer is out after all that the pass has then seen; else it
  -- ended with its Gone
  abbrev pub WasMet : CacheSite → CacheSeatState → CacheSeatState → JobState X → Option (JobState X) → Option CacheEntry → Type 0
  WasMet site old new job (Some kept) entry =
      (entry ≡ None) × (kept ≡ job) × IsOutAfter site.lock.home new.pass.seen job.move.from
      × (job.move.from < length (buffers_at site).cells) × (new ≡ record old { pass = new.pass })
  WasMet site old new job None entry =
      (entry ≡ Some (Gone job.move.no)) × (new ≡ record old { pass = new.pass; returned = old.returned + 1 })
