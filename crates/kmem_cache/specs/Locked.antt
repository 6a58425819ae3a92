-- What stands under the lock of a shared cache (this project's own).
use Rattle.std.specs.Prelude.{◌≡◌, ℕ, ◌+◌, List, length, Option, Some, None}
use Rattle.kmem_model.specs.CacheState.{CacheState, CacheSizes, sizes_of}
use Rattle.kmem_model.specs.CacheEnter.{enter}
use Rattle.kmem_model.specs.CacheHistory.{Reaches}
use Rattle.kmem_model.specs.declared.cache_entry.CacheEntry.{CacheEntry}
use Rattle.kmem_cache.specs.declared.locked.CacheHome.{CacheHome}
use Rattle.kmem_cache.specs.declared.locked.Locked.{Locked}

-- the sizes of a cache of this home
abbrev pub sizes_at : CacheHome → CacheSizes
sizes_at home = sizes_of home.slabs home.chunks (length home.buffers.moves)

-- a history that a cache of this home may have
abbrev pub IsLegalAt : CacheHome → List (ℕ × CacheEntry) → Type 0
IsLegalAt home history = (s : CacheState) × Reaches (sizes_at home) history s

module _ {K : Type 0} where
  -- what no turn changes
  abbrev pub home_under : Locked K → CacheHome
  home_under l = record { buffers = l.cache.home; slabs = l.slabs; chunks = l.chunks }

  -- the cache is in the state that the history reaches, and the entries are counted
  pub record IsStanding (l : Locked K) (history : List (ℕ × CacheEntry)) : Type 0 where
    pub reached : Reaches (sizes_at (home_under l)) history l.cache.state
    pub counted : l.entries ≡ length history

  -- the object has made this entry
  pub record HasMade (old new : Locked K) (entry : CacheEntry) : Type 0 where
    pub state : enter old.cache.state entry ≡ Some new.cache.state
    pub counted : new.entries ≡ old.entries + 1
    pub home : home_under new ≡ home_under old

  -- or it has made none, and is as before
  abbrev pub IsStep : Locked K → Locked K → Option CacheEntry → Type 0
  IsStep old new None = new ≡ old
  IsStep old new (Some entry) = HasMade old new entry
