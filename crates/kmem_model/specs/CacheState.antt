-- The state of a cache: its slabs, the rules of its scans, and its pending moves.
-- Slabs are of Bonwick 1994; pending moves and dead slabs of the theory statement of kmem.c;
-- the mode, the numerator, the flags, counts and marks are this project's own.
use Rattle.std.specs.Prelude.{ℕ, ◌*◌, ◌-◌, ◌/◌, ◌%◌, Bool, true, false, List, [], Option, None, count_by, sum_by, is_some, length, replicate, slice_index_or, if◌then◌else◌}
use Rattle.std.specs.List.{list_any}
use Rattle.kmem_model.specs.declared.cache_state.Standing.{Standing}
use Rattle.kmem_model.specs.declared.cache_state.Standing.TheVariants.{Source, Listed, Dead}
use Rattle.kmem_model.specs.declared.cache_state.Mode.{Mode}
use Rattle.kmem_model.specs.declared.cache_state.Mode.TheVariants.{Off}
use Rattle.kmem_model.specs.declared.cache_state.PendingMove.{PendingMove}

-- one slab of a cache
pub record SlabState : Type 0 where
  -- in the source, listed, or dead
  pub standing : Standing
  -- for each of its buffers, whether it is out
  pub out : List Bool
  -- how often a move off it was put off, counted to 3
  pub later : ℕ
  -- the index of the buffer that is stuck on it, where it has the no-move mark
  pub stuck : Option ℕ

-- a whole cache
pub record CacheState : Type 0 where
  -- buffers in a slab
  pub chunks : ℕ
  -- each slab, at its number
  pub slabs : List SlabState
  -- the kind of the last scan
  pub mode : Mode
  -- a mild scan takes slabs of which fewer than this many eighths are out
  pub numerator : ℕ
  -- whether the last scan was mild
  pub found_fragmented : Bool
  -- whether a move was begun since the last scan
  pub begun : Bool
  -- for each buffer, whether it was asked about in this scan
  pub asked : List Bool
  -- the pending move with each number; there are as many numbers as the limit of pending moves
  pub pending : List (Option PendingMove)

-- whether two standings are the same
abbrev pub is_same_standing : Standing → Standing → Bool
is_same_standing Source Source = true
is_same_standing Listed Listed = true
is_same_standing Dead Dead = true
is_same_standing _ _ = false

-- the slab is in the source
abbrev pub is_in_source : SlabState → Bool
is_in_source slab = is_same_standing Source slab.standing

-- the cache lists the slab
abbrev pub is_listed : SlabState → Bool
is_listed slab = is_same_standing Listed slab.standing

-- the slab is dead
abbrev pub is_dead : SlabState → Bool
is_dead slab = is_same_standing Dead slab.standing

-- the used count: how many of the slab's buffers are out
abbrev pub used : SlabState → ℕ
used slab = count_by (λ out. out) slab.out

-- how many of the slab's buffers are free
abbrev pub free_buffers : SlabState → ℕ
free_buffers slab = length slab.out - used slab

-- whether the slab's buffer with this index is out
abbrev pub is_out_on : SlabState → ℕ → Bool
is_out_on slab index = slice_index_or slab.out index false

-- a slab in the source
abbrev pub slab_in_source : ℕ → SlabState
slab_in_source chunks = record { standing = Source; out = replicate chunks false; later = 0; stuck = None }

-- what is read past the last slab: a slab in the source, with no buffer
abbrev pub no_slab : SlabState
no_slab = record { standing = Source; out = []; later = 0; stuck = None }

-- the slab with this number
abbrev pub slab_at : List SlabState → ℕ → SlabState
slab_at slabs i = slice_index_or slabs i no_slab

-- whether this buffer is out
abbrev pub is_out : CacheState → ℕ → Bool
is_out s b = is_out_on (slab_at s.slabs (b / s.chunks)) (b % s.chunks)

-- the pending move with this number
abbrev pub move_at : CacheState → ℕ → Option PendingMove
move_at s j = slice_index_or s.pending j None

-- whether any move is pending
abbrev pub has_pending : CacheState → Bool
has_pending s = list_any is_some s.pending

-- how many slabs the cache lists
abbrev pub slab_count : CacheState → ℕ
slab_count s = count_by is_listed s.slabs

-- how many buffers are free on listed slabs
abbrev pub free_count : CacheState → ℕ
free_count s = sum_by (λ slab. if is_listed slab then free_buffers slab else 0) s.slabs

-- how many buffers are out
abbrev pub out_count : CacheState → ℕ
out_count s = sum_by used s.slabs

-- how many moves are pending
abbrev pub pending_count : CacheState → ℕ
pending_count s = count_by is_some s.pending

-- how many slabs are dead
abbrev pub dead_count : CacheState → ℕ
dead_count s = count_by is_dead s.slabs

-- the sizes of a cache
pub record CacheSizes : Type 0 where
  -- how many slabs there are
  pub slabs : ℕ
  -- how many buffers a slab has
  pub chunks : ℕ
  -- how many moves may be pending
  pub limit : ℕ

abbrev pub sizes_of : ℕ → ℕ → ℕ → CacheSizes
sizes_of slabs chunks limit = record { slabs = slabs; chunks = chunks; limit = limit }

-- the opening state: every slab in the source, the mode off, and nothing pending
abbrev pub opening : CacheSizes → CacheState
opening sizes =
    record {
      chunks = sizes.chunks;
      slabs = replicate sizes.slabs (slab_in_source sizes.chunks);
      mode = Off;
      numerator = 1;
      found_fragmented = false;
      begun = false;
      asked = replicate (sizes.slabs * sizes.chunks) false;
      pending = replicate sizes.limit None;
    }
