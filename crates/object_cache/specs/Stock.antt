-- The slabs of a cache beside the source that they come from (this project's own).
use Rattle.std.specs.Prelude.{ℕ, ◌≡◌, ◌≢◌, ◌%◌, Bool, true, false, ◌&&◌, ◌==◌, nat_lt, List, [], Some, None, is_some, length, if◌then◌else◌}
use Rattle.std.specs.FinSet as set
use Rattle.slab_source.specs.Source.{SourceState}
use Rattle.slab_list.specs.Slabs.{ListState, IsFree, is_unused, slab_with, slab_left}
use Rattle.kmem_model.specs.CacheState.{SlabState, CacheState, slab_at, is_in_source, is_dead, used}
use Rattle.kmem_model.specs.CacheOrder.{wanted, first_partial_free, first_of_slab}
use Rattle.kmem_model.specs.declared.cache_state.Standing.{Standing}
use Rattle.kmem_model.specs.declared.cache_state.Standing.TheVariants.{Source, Dead}
use Rattle.kmem_model.specs.declared.cache_state.Mode.TheVariants.{Off}
use Rattle.object_cache.specs.declared.stock.Room.{Room}
use Rattle.object_cache.specs.declared.stock.Room.TheVariants as room

-- a cache that has these slabs and no more, for the words that read nothing else of a cache
abbrev pub bare : ListState → CacheState
bare list =
    record {
      chunks = list.chunks;
      slabs = list.slabs;
      mode = Off;
      numerator = 1;
      found_fragmented = false;
      begun = false;
      asked = [];
      pending = [];
    }

-- the source has as many slabs, and holds exactly those that stand in it
pub record AreHeld (slabs : List SlabState) (source : SourceState) : Type 0 where
  pub size : source.slabs ≡ length slabs
  pub held : (i : ℕ) → set.contains source.held i ≡ (nat_lt i (length slabs) && is_in_source (slab_at slabs i))

-- each listed slab but that with this number has a buffer out
abbrev pub OthersAreUsed : ℕ → List SlabState → Type 0
OthersAreUsed n slabs = (i : ℕ) → i ≢ n → is_unused (slab_at slabs i) ≡ false

-- the source holds the slabs that stand in it, and each listed slab has a buffer out
pub record IsStocked (slabs : List SlabState) (source : SourceState) : Type 0 where
  pub held : AreHeld slabs source
  pub used : (i : ℕ) → is_unused (slab_at slabs i) ≡ false

-- where the buffer lies that the next allocation takes
abbrev pub IsRoom : ListState → Room → Type 0
IsRoom list (room.Listed b) = (first_partial_free list.chunks list.slabs ≡ Some b) × IsFree list b
IsRoom list room.Source =
    (first_partial_free list.chunks list.slabs ≡ None) × (is_some (first_of_slab list.chunks list.slabs is_in_source) ≡ true)
IsRoom list (room.Dead b) = (wanted (bare list) ≡ Some b) × (is_dead (slab_with list b) ≡ true) × (b % list.chunks ≡ 0)

-- where a slab goes that has no buffer out any more
abbrev pub emptied_to : Bool → Standing
emptied_to pending = if pending then Dead else Source

-- a listed slab, which goes where this says if it has no buffer out
abbrev pub slab_closed : Standing → SlabState → SlabState
slab_closed to slab = if used slab == 0 then slab_left to slab else slab
