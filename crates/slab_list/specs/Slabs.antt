-- What contracts see of a list of slabs. Slabs are of Bonwick 1994; counts, marks and dead slabs are as in
-- the cache state of `kmem_model`, whose effects and choices the contracts name.
use Rattle.std.specs.Prelude.{ℕ, ◌≡◌, ◌≤◌, ◌<◌, ◌*◌, ◌/◌, ◌%◌, Bool, true, false, ◌&&◌, ◌==◌, List, Option, None, All, length, replicate, slice_set, if◌then◌else◌}
use Rattle.std.specs.Option.{option_or}
use Rattle.atomic_table.specs.Seated.{TableId}
use Rattle.kmem_model.specs.CacheState.{SlabState, slab_at, is_listed, used, is_out_on}
use Rattle.kmem_model.specs.CacheOrder.{first_partial_free, first_of_slab}
use Rattle.kmem_model.specs.declared.cache_state.Standing.{Standing}
use Rattle.kmem_model.specs.declared.cache_state.Standing.TheVariants.{Listed}
use Rattle.kmem_model.specs.declared.cache_state.Mode.{Mode}
use Rattle.kmem_model.specs.declared.cache_state.Mode.TheVariants.{Mild, Desperate}

-- a list of slabs (this project's own)
pub record ListState : Type 0 where
  -- buffers in a slab
  pub chunks : ℕ
  -- each slab, at its number; one that isn't listed stands in the source, or is dead
  pub slabs : List SlabState
  -- the homes of the cells of all buffers, by number
  pub cells : List TableId
  -- for each buffer whether a scan leaves it out
  pub skip : List Bool

-- what always holds of one slab: its number of buffers; and where it isn't listed, no buffer is out, and there is no count and no mark
pub record IsSlab (chunks : ℕ) (slab : SlabState) : Type 0 where
  pub size : length slab.out ≡ chunks
  pub blank : is_listed slab ≡ false → (used slab ≡ 0) × (slab.later ≡ 0) × (slab.stuck ≡ None)

-- what always holds of a list: each buffer has its cell, and each slab is as above (this project's own)
pub record IsListWhole (s : ListState) : Type 0 where
  pub some : 0 < s.chunks
  pub few : length s.cells ≤ 65536
  pub cells : length s.cells ≡ length s.slabs * s.chunks
  pub slabs : All (IsSlab s.chunks) s.slabs

-- the slab of a buffer
abbrev pub slab_with : ListState → ℕ → SlabState
slab_with s b = slab_at s.slabs (b / s.chunks)

-- whether this buffer is out
abbrev pub is_out_in : ListState → ℕ → Bool
is_out_in s b = is_out_on (slab_with s b) (b % s.chunks)

-- the buffer is free on a listed slab
abbrev pub IsFree : ListState → ℕ → Type 0
IsFree s b = (is_listed (slab_with s b) ≡ true) × (is_out_in s b ≡ false)

-- with one slab changed
abbrev pub on_slab : ListState → ℕ → (SlabState → SlabState) → ListState
on_slab s i change = record s { slabs = slice_set s.slabs i (change (slab_at s.slabs i)) }

-- with the slab of buffer b changed, by its index on it
abbrev pub on_buffer : ListState → ℕ → (SlabState → ℕ → SlabState) → ListState
on_buffer s b change = on_slab s (b / s.chunks) (λ slab. change slab (b % s.chunks))

-- a slab that was just listed: every buffer is free, and there is no count and no mark
abbrev pub fresh_slab : ℕ → SlabState
fresh_slab chunks = record { standing = Listed; out = replicate chunks false; later = 0; stuck = None }

-- a slab that isn't listed any more, and stands here
abbrev pub slab_left : Standing → SlabState → SlabState
slab_left standing slab = record { standing = standing; out = slab.out; later = 0; stuck = None }

-- listed, with no buffer out
abbrev pub is_unused : SlabState → Bool
is_unused slab = is_listed slab && used slab == 0

-- the buffer that serves next: the least free one of the first partial slab, else the first one of the least listed slab with no buffer out
abbrev pub free_next : ListState → Option ℕ
free_next s = option_or (first_partial_free s.chunks s.slabs) (first_of_slab s.chunks s.slabs is_unused)

-- the kind of a scan that isn't off
abbrev pub mode_of : Bool → Mode
mode_of desperate = if desperate then Desperate else Mild
