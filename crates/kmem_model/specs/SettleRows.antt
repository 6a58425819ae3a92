-- The worked rows of settle (this project's own).
use Rattle.std.specs.Prelude.{ℕ, true, false, List, [], ◌∷◌, ◌++◌, Option, None, Some, map, option_map, replicate}
use Rattle.kmem_model.specs.CacheState.{SlabState, slab_in_source}
use Rattle.kmem_model.specs.CacheRows.{listed_slab, resting}
use Rattle.kmem_model.specs.Settle.{Stage, EndedMove, settled_in}
use Rattle.kmem_model.specs.declared.cache_state.Mode.TheVariants.{Off}
use Rattle.kmem_model.specs.declared.cache_entry.Said.{Said}
use Rattle.kmem_model.specs.declared.cache_entry.Said.TheVariants.{Yes, No, Later, DontKnow}

-- a slab of 8 with its first buffer out, and this count and mark
abbrev pub first_out : ℕ → Option ℕ → SlabState
first_out later stuck = listed_slab (true ∷ false ∷ false ∷ false ∷ false ∷ false ∷ false ∷ false ∷ []) later stuck

-- the answers about the buffers of a slab of 8 that has its first one out
abbrev pub says_of_first : Said → List Said
says_of_first said = said ∷ replicate 7 DontKnow

-- 6 slabs of 8 with their first buffers out, and these answers about buffers 32 and 40; about the others YES
abbrev pub six_slabs : Said → Said → Stage
six_slabs at_32 at_40 =
    record {
      cache = resting 8 (replicate 6 (first_out 0 None)) Off false (replicate 48 false);
      says = says_of_first Yes ++ says_of_first Yes ++ says_of_first Yes ++ says_of_first Yes ++ says_of_first at_32 ++ says_of_first at_40;
    }

-- these moves, each with the same answer
abbrev pub moves_by : Said → List (ℕ × ℕ) → List EndedMove
moves_by said pairs = map (λ pair. record { from = pair.0; to = pair.1; said = said }) pairs

-- the moves of a settle of at most so many scans
abbrev pub settle_moves : ℕ → Stage → Option (List EndedMove)
settle_moves n stage = option_map (λ result. result.moves) (settled_in n stage)

-- the slabs that it leaves
abbrev pub settle_slabs : ℕ → Stage → Option (List SlabState)
settle_slabs n stage = option_map (λ result. result.stage.cache.slabs) (settled_in n stage)

-- Everything movable

-- all six records fit on slab 0
abbrev pub movable_moves : List EndedMove
movable_moves = moves_by Yes ((40, 1) ∷ (32, 2) ∷ (24, 3) ∷ (16, 4) ∷ (8, 5) ∷ [])

abbrev pub movable_slabs : List SlabState
movable_slabs = listed_slab (true ∷ true ∷ true ∷ true ∷ true ∷ true ∷ false ∷ false ∷ []) 0 None ∷ replicate 5 (slab_in_source 8)

-- One record fixed, and one held

-- the held one is asked about in three scans
abbrev pub fixed_moves : List EndedMove
fixed_moves =
    moves_by No ((40, 1) ∷ []) ++ moves_by Later ((32, 41) ∷ [])
    ++ moves_by Yes ((24, 41) ∷ (16, 42) ∷ (8, 43) ∷ (0, 44) ∷ [])
    ++ moves_by Later ((32, 45) ∷ (32, 45) ∷ [])

-- the fixed one has drawn the movable ones to its slab
abbrev pub fixed_slabs : List SlabState
fixed_slabs =
    replicate 4 (slab_in_source 8) ++ (first_out 3 (Some 0) ∷ [])
    ++ (listed_slab (true ∷ true ∷ true ∷ true ∷ true ∷ false ∷ false ∷ false ∷ []) 0 (Some 0) ∷ [])
