-- What every placing keeps, and what it has to do with the cache state (this project's own).
use Rattle.std.specs.Prelude.{ℕ, ◌/◌, ◌%◌, ◌<◌, ◌≡◌, ◌≢◌, ◌↔◌, Bool, true, false, List, [], ◌∷◌, Option, Some, All, IfSome, count_by, map, option_map, option_and_then, slice_get}
use Rattle.kmem_model.specs.CacheState.{SlabState, CacheState, CacheSizes, opening}
use Rattle.kmem_model.specs.Places.{Place, at_source, on_slab, at_dest, Holder, OpenMove, Shelf, Placing, is_out_place, shelf_at, place_at, open_move_at, has_moves, placing_start}
use Rattle.kmem_model.specs.PlacesEvent.{Event, World, event}
use Rattle.kmem_model.specs.declared.cache_state.Standing.{Standing}
use Rattle.kmem_model.specs.declared.cache_state.Standing.TheVariants.{Source, Listed, Dead}
use Rattle.kmem_model.specs.declared.cache_state.PendingMove.{PendingMove}

-- what a lawful placing says of one slab
pub record IsLawfulShelf (shelf : Shelf) : Type 0 where
  -- it is in the source exactly where all its buffers are
  pub source : (shelf.standing ≡ Source) ↔ All (λ place. place ≡ at_source) shelf.places
  -- a listed slab has at least one buffer out
  pub listed : shelf.standing ≡ Listed → 0 < count_by is_out_place shelf.places
  -- a dead slab has all its buffers free on it
  pub dead : shelf.standing ≡ Dead → All (λ place. place ≡ on_slab) shelf.places
  -- the used count of a listed slab is the number of its buffers that are out
  pub used : shelf.standing ≡ Listed → shelf.used ≡ count_by is_out_place shelf.places

-- what a lawful placing says of pending move j
pub record IsLawfulMove (p : Placing) (j : ℕ) (m : OpenMove) : Type 0 where
  -- its old buffer lies on a listed or dead slab
  pub from : (shelf_at p.shelves (m.from / p.chunks)).standing ≢ Source
  -- its new buffer waits for it, until the answer YES was taken
  pub to : m.yes ≡ false → place_at p m.to ≡ at_dest j

-- a lawful placing
pub record IsLawful (p : Placing) : Type 0 where
  pub shelves : All IsLawfulShelf p.shelves
  -- there is a dead slab only while a move is pending
  pub dead : All (λ shelf. shelf.standing ≡ Dead → has_moves p ≡ true) p.shelves
  pub moves : (j : ℕ) (m : OpenMove) → open_move_at p j ≡ Some m → IsLawfulMove p j m

-- the place that a placing has for a buffer, if it has one
abbrev pub place_of : Placing → ℕ → Option Place
place_of p b = option_and_then (λ shelf. slice_get shelf.places (b % p.chunks)) (slice_get p.shelves (b / p.chunks))

-- each number below this one has exactly one place
abbrev pub EachHasOnePlace : ℕ → Placing → Type 0
EachHasOnePlace buffers p =
    (b : ℕ) → b < buffers →
    (place : Place) × (place_of p b ≡ Some place) × ((other : Place) → place_of p b ≡ Some other → other ≡ place)

-- what a placing and a cache state both have of a slab
pub record Outline : Type 0 where
  pub standing : Standing
  pub out : List Bool

-- the outline of a slab of a cache state
abbrev pub slab_outline : SlabState → Outline
slab_outline slab = record { standing = slab.standing; out = slab.out }

-- the outline of a slab of a placing
abbrev pub shelf_outline : Shelf → Outline
shelf_outline shelf = record { standing = shelf.standing; out = map is_out_place shelf.places }

-- the old and new buffer of a move
abbrev pub move_outline : OpenMove → PendingMove
move_outline m = record { from = m.from; to = m.to }

-- the cache state shows the placing: the slabs agree, a buffer is out in the one exactly where it is in
-- the other, and the same moves are pending
pub record Shows (s : CacheState) (p : Placing) : Type 0 where
  pub chunks : s.chunks ≡ p.chunks
  pub slabs : map slab_outline s.slabs ≡ map shelf_outline p.shelves
  pub moves : s.pending ≡ map (option_map move_outline) p.moves

-- what holds of a world at each moment
pub record IsSound (buffers : ℕ) (w : World) : Type 0 where
  pub lawful : IsLawful w.placing
  pub one_place : EachHasOnePlace buffers w.placing
  pub shown : Shows w.state w.placing

-- this world is sound, and so is each one on the way through these events, as far as they can happen
abbrev pub AlwaysSound : ℕ → List Event → World → Type 0
AlwaysSound buffers [] w = IsSound buffers w
AlwaysSound buffers (e ∷ es) w = IsSound buffers w × IfSome (event w e) (AlwaysSound buffers es)

-- the opening placing with the opening state
abbrev pub world_start : CacheSizes → List Holder → World
world_start sizes holders = record { placing = placing_start sizes holders; state = opening sizes }
