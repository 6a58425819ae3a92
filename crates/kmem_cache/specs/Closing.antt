-- What the end of a shared cache shows (this project's own).
use Rattle.std.specs.Prelude.{◌≡◌, ℕ, List, [], ◌∷◌, length, map}
use Rattle.kmem_buf.specs.Buffers.{BufState}
use Rattle.kmem_buf.specs.Homes.{Homes}
use Rattle.kmem_model.specs.CacheState.{CacheState}
use Rattle.kmem_model.specs.CacheHistory.{Reaches, Follows}
use Rattle.kmem_model.specs.declared.cache_entry.CacheEntry.{CacheEntry}
use Rattle.kmem_model.specs.declared.cache_entry.CacheEntry.TheVariants.{Free}
use Rattle.magazine.specs.Layer.{Layer, layer_rounds}
use Rattle.magazine.specs.Ready.{AreReady}
use Rattle.kmem_cache.specs.declared.locked.CacheHome.{CacheHome}
use Rattle.kmem_cache.specs.Locked.{sizes_at}
use Rattle.kmem_cache.specs.Seats.{CacheSeatState, AddsUp}

-- the history of a closed cache, and the homes of its buffers and moves
pub record CacheLogState : Type 0 where
  pub entries : List (ℕ × CacheEntry)
  pub home : Homes

-- the entries that free these buffers, in order
abbrev pub frees_of : List ℕ → List CacheEntry
frees_of numbers = map (λ n. Free n) numbers

-- so many buffers were freed, one after another
abbrev pub IsFlushed : ℕ → CacheState → CacheState → Type 0
IsFlushed count s t = (numbers : List ℕ) × Follows s (frees_of numbers) t × (length numbers ≡ count)

-- the history leads to a state from which these frees lead to the last one
pub record HasClosed (home : CacheHome) (history : List (ℕ × CacheEntry)) (last : CacheState) : Type 0 where
  pub state : CacheState
  pub frees : List ℕ
  pub reached : Reaches (sizes_at home) history state
  pub flushed : Follows state (frees_of frees) last

module _ {X : Type 0} where
  -- the magazines of a seat that was taken apart
  pub record IsPart (constructed : X → Type 0) (seat : CacheSeatState) (layer : Layer (BufState X)) : Type 0 where
    pub adds : AddsUp seat
    pub rounds : length seat.rounds ≡ length (layer_rounds layer)
    pub ready : AreReady constructed seat.pass.site.home.buffers (layer_rounds layer)

  -- the magazines of these seats, in order
  abbrev pub AreParts : (X → Type 0) → List CacheSeatState → List (Layer (BufState X)) → Type 0
  AreParts constructed [] [] = Unit {0}
  AreParts constructed [] (l ∷ ls) = ⊥
  AreParts constructed (s ∷ ss) [] = ⊥
  AreParts constructed (s ∷ ss) (l ∷ ls) = IsPart constructed s l × AreParts constructed ss ls
