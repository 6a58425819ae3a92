-- What the fields of a list of slabs stand for (this project's own).
use Rattle.std.specs.Prelude.{ℕ, ◌≡◌, ◌≤◌, ◌<◌, ◌-◌, ◌*◌, false, ◌||◌, ◌==◌, List, [], ◌∷◌, Some, None, map, take, drop, length, slice_index_or, if◌then◌else◌}
use Rattle.kmem_buf.specs.Buffers.{CellState}
use Rattle.kmem_model.specs.CacheState.{SlabState, is_listed, used}
use Rattle.kmem_model.specs.CacheOrder.{is_the}
use Rattle.kmem_model.specs.declared.cache_state.Standing.TheVariants.{Source}
use Rattle.slab_list.specs.declared.line.Line.{Line}

-- the cells of the buffers of slab i
abbrev pub row_at : ℕ → List CellState → ℕ → List CellState
row_at chunks cells i = take chunks (drop (i * chunks) cells)

-- the slab that a line and the cells of its buffers stand for
abbrev pub slab_of : Line → List CellState → SlabState
slab_of line row =
    record { standing = line.standing; out = map (λ (c : CellState). c.out) row; later = line.later; stuck = line.stuck }

-- the slabs that lines and cells stand for
abbrev pub slabs_of : ℕ → List CellState → List Line → List SlabState
slabs_of chunks cells [] = []
slabs_of chunks cells (line ∷ lines) = slab_of line (take chunks cells) ∷ slabs_of chunks (drop chunks cells) lines

-- what always holds of a line beside its cells
pub record IsLine (chunks : ℕ) (line : Line) (row : List CellState) : Type 0 where
  pub counted : line.used ≡ used (slab_of line row)
  pub blank : is_listed (slab_of line row) ≡ false → (line.used ≡ 0) × (line.later ≡ 0) × (line.stuck ≡ None)
  pub stuck : (k : ℕ) → line.stuck ≡ Some k → k < chunks

-- what always holds of the fields
pub record IsListKept (chunks : ℕ) (cells : List CellState) (lines : List Line) : Type 0 where
  pub some : 0 < chunks
  pub few : length cells ≤ 65536
  pub whole : length cells ≡ length lines * chunks
  pub numbered : (n : ℕ) (d : CellState) → n < length cells → (slice_index_or cells n d).number ≡ n
  pub each : (i : ℕ) (d : Line) → i < length lines → IsLine chunks (slice_index_or lines i d) (row_at chunks cells i)

-- a line of whose buffers one less is out, that of index k
abbrev pub line_freed : Line → ℕ → Line
line_freed line k =
    let used = line.used - 1 in
    if used == 0 || is_the line.stuck k
    then record { standing = line.standing; used = used; later = 0; stuck = None }
    else record line { used = used }

-- a line without count and mark
abbrev pub line_unmarked : Line → Line
line_unmarked line = record line { later = 0; stuck = None }

-- the line of a slab in the source
abbrev pub line_in_source : Line
line_in_source = record { standing = Source; used = 0; later = 0; stuck = None }

-- cells numbered from 0, whose buffers are free
abbrev pub AreCellsFree : List CellState → Type 0
AreCellsFree cells =
    (n : ℕ) (d : CellState) → n < length cells → ((slice_index_or cells n d).number ≡ n) × ((slice_index_or cells n d).out ≡ false)
