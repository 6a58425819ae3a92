-- What the turns of a shared cache answer, and the entry that each makes (this project's own).
use Rattle.std.specs.Prelude.{◌≡◌, ℕ, ◌+◌, ◌<◌, ◌^◌, Bool, true, List, length, Option, Some, None, Result, Ok, Err}
use Rattle.kmem_buf.specs.Buffers.{BufState}
use Rattle.kmem_buf.specs.Homes.{Homes}
use Rattle.kmem_model.specs.CacheState.{CacheState, is_out}
use Rattle.kmem_model.specs.declared.cache_entry.CacheEntry.{CacheEntry}
use Rattle.kmem_model.specs.declared.cache_entry.CacheEntry.TheVariants.{Alloc, Full, Begin, Idle, Gone}
use Rattle.object_cache.specs.Moves.{JobState, IsJobOf}
use Rattle.object_cache.specs.declared.cache.BeginRefused.{BeginRefused}
use Rattle.object_cache.specs.declared.cache.BeginRefused.TheVariants as refused
use Rattle.magazine.specs.Ready.{IsReady}
use Rattle.kmem_cache.specs.declared.locked.CacheRefused.{CacheRefused}
use Rattle.kmem_cache.specs.declared.locked.CacheRefused.TheVariants as none

-- one more entry can be counted
abbrev pub HasRoom : List (ℕ × CacheEntry) → Type 0
HasRoom history = length history + 1 < 2 ^ 32

module _ {X : Type 0} (constructed : X → Type 0) (never_refuses : Bool) (home : Homes) where
  -- an allocation at this place of the history: a buffer with its Alloc; a note of the Full that was made there; or no memory, and
  -- no entry
  abbrev pub IsAllocated : ℕ → Result (BufState X) CacheRefused → Option CacheEntry → Type 0
  IsAllocated at (Ok buf) entry = (entry ≡ Some (Alloc buf.number)) × IsReady constructed home buf
  IsAllocated at (Err (none.Full note)) entry = (entry ≡ Some Full) × (note.at ≡ at)
  IsAllocated at (Err none.NoMemory) entry = (entry ≡ None) × (never_refuses ≡ true → ⊥)

  -- a move that is to begin: a job with its Begin; Idle; or no memory, and no entry
  abbrev pub HasBegun : Result (JobState X) BeginRefused → Option CacheEntry → Type 0
  HasBegun (Ok job) entry = (entry ≡ Some (Begin job.move.no job.move.from job.move.to)) × IsJobOf constructed home job × (job.move.from < length home.cells)
  HasBegun (Err refused.Idle) entry = entry ≡ Some Idle
  HasBegun (Err refused.NoMemory) entry = (entry ≡ None) × (never_refuses ≡ true → ⊥)

module _ {X : Type 0} where
  -- a job that is met in this state: it comes back where its old buffer is out, and else has ended with Gone
  abbrev pub IsStill : Homes → CacheState → JobState X → Option (JobState X) → Option CacheEntry → Type 0
  IsStill home s job (Some kept) entry = (entry ≡ None) × (kept ≡ job) × (is_out s job.move.from ≡ true) × (job.move.from < length home.cells)
  IsStill home s job None entry = entry ≡ Some (Gone job.move.no)
