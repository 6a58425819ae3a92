-- Words on a shelf (this project's own).
use Rattle.std.specs.Prelude.{◌≡◌, ℕ, List, Option, Some, None, map, option_map, length, slice_index_or}
use Rattle.std.specs.Option.{option_map_or}
use Rattle.kmem_buf.specs.Homes.{Homes, IsBufferOf}
use Rattle.kmem_buf.specs.declared.owner.Stand.{Stand}
use Rattle.kmem_buf.specs.declared.owner.Stand.TheVariants.{Unknown}
use Rattle.using_owner.specs.declared.Place.{Place}

-- a shelf: the homes of the cache whose buffers it takes, and by number how each word stands and what it is
pub record ShelfState : Type 0 where
  pub home : Homes
  pub stands : List Stand
  pub words : List (Option ℕ)

-- how the word at a place stands
abbrev pub stand_of : Option Place → Stand
stand_of place = option_map_or (λ (p : Place). p.stand) place Unknown

-- the word at a place
abbrev pub word_of : Option Place → Option ℕ
word_of place = option_map (λ (p : Place). p.buf.object) place

-- the shelf with these places
abbrev pub shelf_of : Homes → List (Option Place) → ShelfState
shelf_of home places = record { home = home; stands = map stand_of places; words = map word_of places }

-- there is a place for each cell, and the buffer at a place has that number and is of that cell
pub record AreShelved (home : Homes) (places : List (Option Place)) : Type 0 where
  pub size : length places ≡ length home.cells
  pub placed : (n : ℕ) (p : Place) → slice_index_or places n None ≡ Some p → (p.buf.number ≡ n) × IsBufferOf home.cells p.buf
