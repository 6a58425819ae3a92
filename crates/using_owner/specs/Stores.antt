-- A store: words on a shelf, with the cache that their buffers come from (this project's own).
use Rattle.std.specs.Prelude.{◌≡◌, ℕ, false, Some, None, slice_index_or}
use Rattle.kmem_buf.specs.Owners.{stand_at}
use Rattle.kmem_buf.specs.declared.owner.Stand.{Stand}
use Rattle.kmem_model.specs.CacheState.{CacheState, has_pending}
use Rattle.object_cache.specs.Cache.{CacheView}
use Rattle.consolidator.specs.Owned.{Holdings, AreOwned}
use Rattle.using_owner.specs.Shelves.{ShelfState}

pub record StoreState : Type 0 where
  pub cache : CacheState
  pub shelf : ShelfState

-- the shelf takes the buffers of the cache, no move is pending, and words stand in exactly the buffers that are out
pub record AreStored (cache : CacheView) (shelf : ShelfState) : Type 0 where
  pub home : shelf.home ≡ cache.home
  pub calm : has_pending cache.state ≡ false
  pub owned : AreOwned cache.state shelf.stands

-- what the shelf has, as settle sees it
abbrev pub held_by : ShelfState → Holdings ℕ
held_by shelf = record { stands = shelf.stands; tenants = shelf.words }

-- this word is there, and stands so
abbrev pub Has : ShelfState → ℕ → ℕ → Stand → Type 0
Has shelf number word stand = (slice_index_or shelf.words number None ≡ Some word) × (stand_at shelf.stands number ≡ stand)
