-- Objects in buffers, by number (this project's own).
use Rattle.std.specs.Prelude.{ℕ, ◌≡◌, ◌≤◌, List, Option, Some, None, option_map, map, length, slice_index_or}
use Rattle.atomic_table.specs.Seated.{TableId}
use Rattle.kmem_buf.specs.Buffers.{BufState}
use Rattle.kmem_buf.specs.Homes.{Homes, IsBufferOf}
use Rattle.number_set.specs.Sets.{SetState, has}
use Rattle.kmem_model.specs.Heap.{Object, is_leftover}

-- the object at each number, and the homes of the cache whose buffers these are
pub record ShelfState : Type 0 where
  pub objects : List (Option Object)
  pub home : Homes

-- the object in each buffer
abbrev pub objects_of : List (Option (BufState Object)) → List (Option Object)
objects_of bufs = map (option_map (λ (b : BufState Object). b.object)) bufs

-- there is a place for each cell, and the buffer at a place has that number and is of that cell
pub record AreShelved (cells : List TableId) (bufs : List (Option (BufState Object))) : Type 0 where
  pub size : length bufs ≡ length cells
  pub few : length bufs ≤ 65536
  pub placed : (n : ℕ) (b : BufState Object) → slice_index_or bufs n None ≡ Some b → (b.number ≡ n) × IsBufferOf cells b

-- the set has exactly the numbers at which there is a leftover
pub record AreLeftovers (objects : List (Option Object)) (leftovers : SetState) : Type 0 where
  pub room : length objects ≤ length leftovers.flags
  pub same : (b : ℕ) → has leftovers b ≡ is_leftover (slice_index_or objects b None)
