-- Messages that a cache lends (this project's own).
use Rattle.std.specs.Prelude.{◌≡◌, ℕ, Some}
use Rattle.kmem_model.specs.CacheState.{CacheState}
use Rattle.kmem_model.specs.CacheEnter.{enter}
use Rattle.kmem_model.specs.declared.cache_entry.CacheEntry.TheVariants.{Alloc, Free}

-- the buffer was given out, and came back
pub record WasLent (before : CacheState) (number : ℕ) (after : CacheState) : Type 0 where
  pub between : CacheState
  pub given : enter before (Alloc number) ≡ Some between
  pub back : enter between (Free number) ≡ Some after
