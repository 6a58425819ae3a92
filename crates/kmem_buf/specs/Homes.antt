-- Which buffers belong to which cells (this project's own).
use Rattle.std.specs.Prelude.{◌≡◌, Bool, false, ℕ, List, Some, map, slice_get}
use Rattle.std.specs.Option.{option_map_or}
use Rattle.atomic_table.specs.Seated.{TableId}
use Rattle.kmem_buf.specs.Stubs.{StubState}
use Rattle.kmem_buf.specs.Buffers.{BufState, CellState}

-- the homes of a cache's cells, by number, and of the stubs of its moves, by place
pub record Homes : Type 0 where
  pub cells : List TableId
  pub moves : List TableId

-- the buffer is of these cells: its home is the one that stands at its number
abbrev pub IsBufferOf : {X : Type 0} → List TableId → BufState X → Type 0
IsBufferOf cells b = slice_get cells b.number ≡ Some b.home

-- the homes of these cells
abbrev pub cell_homes : List CellState → List TableId
cell_homes cells = map (λ (c : CellState). c.home) cells

-- the homes of these stubs
abbrev pub stub_homes : List StubState → List TableId
stub_homes stubs = map (λ (s : StubState). s.home) stubs

-- whether the buffer of this number is out, by its cell among these
abbrev pub out_at : List CellState → ℕ → Bool
out_at cells number = option_map_or (λ (c : CellState). c.out) (slice_get cells number) false
