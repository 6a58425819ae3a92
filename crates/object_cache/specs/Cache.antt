-- What contracts see of an object cache.
use Rattle.std.specs.Prelude.{ℕ, ◌≡◌, ◌≤◌, false, length, slice_index_or}
use Rattle.slab_list.specs.Slabs.{ListState}
use Rattle.kmem_buf.specs.Homes.{Homes}
use Rattle.kmem_model.specs.CacheState.{CacheState}
use Rattle.kmem_model.specs.SettleWhole.{IsWhole}
use Rattle.object_cache.specs.Moves.{MovesState, is_left_out_of}
use Rattle.object_cache.specs.declared.scan.Scan.{Scan}

-- a cache: its state, and the homes of its cells and of the stubs of its moves (this project's own)
pub record CacheView : Type 0 where
  pub state : CacheState
  pub home : Homes

-- the cache that these parts are
abbrev pub cache_of : ListState → MovesState → Scan → CacheView
cache_of list moves scan =
    record {
      state =
          record {
            chunks = list.chunks;
            slabs = list.slabs;
            mode = scan.mode;
            numerator = scan.numerator;
            found_fragmented = scan.found_fragmented;
            begun = scan.begun;
            asked = moves.asked;
            pending = moves.pending;
          };
      home = record { cells = list.cells; moves = moves.stubs };
    }

-- what always holds of these parts
pub record AreJoined (list : ListState) (moves : MovesState) (scan : Scan) : Type 0 where
  pub size : length moves.asked ≡ length list.cells
  pub few : length list.cells ≤ 65536
  pub least : 1 ≤ scan.numerator
  pub most : scan.numerator ≤ 8
  pub whole : IsWhole (cache_of list moves scan).state
  -- a scan leaves out those that were asked about, and those of pending moves
  pub skips : length list.skip ≡ length list.cells
  pub left_out : (b : ℕ) → slice_index_or list.skip b false ≡ is_left_out_of moves.asked moves.pending b
