-- Partial slabs with and without a mark, counted (this project's own).
use Rattle.std.specs.Prelude.{◌&&◌, ◌||◌, ◌==◌, Bool, not, List, count_by}
use Rattle.kmem_model.specs.CacheState.{SlabState}
use Rattle.kmem_model.specs.CacheOrder.{is_partial, is_marked}

-- a partial slab without a mark, and one with a mark
abbrev pub is_plain_partial : SlabState → Bool
is_plain_partial slab = is_partial slab && not (is_marked slab)

abbrev pub is_marked_partial : SlabState → Bool
is_marked_partial slab = is_partial slab && is_marked slab

-- at most one partial slab has no mark, and if one has none it is the only partial one
abbrev pub is_at_most_one_plain : List SlabState → Bool
is_at_most_one_plain slabs = count_by is_plain_partial slabs == 0
    || (count_by is_plain_partial slabs == 1 && count_by is_marked_partial slabs == 0)
