-- How a shared cache begins (this project's own).
use Rattle.std.specs.Prelude.{◌≡◌, ℕ, ◌<◌, [], length}
use Rattle.kmem_buf.specs.Homes.{Homes}
use Rattle.kmem_model.specs.CacheState.{sizes_of, opening}
use Rattle.kmem_model.specs.declared.cache_entry.CacheEntry.{CacheEntry}
use Rattle.object_cache.specs.Cache.{CacheView}
use Rattle.hist_lock.specs.Passes.{PassState}
use Rattle.kmem_cache.specs.declared.locked.CacheHome.{CacheHome}

-- a cache that was made and not used yet
pub record IsAsMade (cache : CacheView) : Type 0 where
  pub slabs : ℕ
  pub chunks : ℕ
  pub some : 0 < chunks
  pub state : cache.state ≡ opening (sizes_of slabs chunks (length cache.home.moves))

-- what no turn on it changes
abbrev pub home_made : CacheView → CacheHome
home_made cache = record { buffers = cache.home; slabs = length cache.state.slabs; chunks = cache.state.chunks }

-- a pass that nothing was done with, of a cache of these homes
pub record IsFreshPass (home : Homes) (pass : PassState CacheEntry CacheHome) : Type 0 where
  pub seen : pass.seen ≡ []
  pub mine : pass.mine ≡ []
  pub home_is : pass.site.home.buffers ≡ home
  pub chunks : 0 < pass.site.home.chunks
