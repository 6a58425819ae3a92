-- The settle of a cache whose client answers about each buffer: desperate scans in which each move is ended
-- at once, until a scan has nothing more to gain (this project's own rule).
use Rattle.std.specs.Prelude.{ℕ, zero, suc, ◌+◌, Bool, true, false, ◌&&◌, not, List, [], ◌∷◌, ◌++◌, Option, None, Some, length, is_none, option_map, option_and_then, slice_index_or, slice_set, if◌then◌else◌}
use Rattle.std.specs.List.{list_any}
use Rattle.kmem_model.specs.CacheState.{SlabState, CacheState, slab_at}
use Rattle.kmem_model.specs.CacheOrder.{least_below, is_the, is_partial, is_marked, first_partial, first_partial_free, chosen, is_idle}
use Rattle.kmem_model.specs.CacheEnter.{enter}
use Rattle.kmem_model.specs.declared.cache_entry.Said.{Said}
use Rattle.kmem_model.specs.declared.cache_entry.Said.TheVariants.{Yes, No, Later, DontNeed, DontKnow}
use Rattle.kmem_model.specs.declared.cache_entry.CacheEntry.TheVariants.{Scan, Begin, End, Forget}

-- a cache with what its client would answer
pub record Stage : Type 0 where
  -- the cache
  pub cache : CacheState
  -- the answer about the object in each buffer, by the buffer's number: DontKnow where there is none
  pub says : List Said

-- a move that was begun and ended
pub record EndedMove : Type 0 where
  -- the old buffer
  pub from : ℕ
  -- the new buffer
  pub to : ℕ
  -- the answer
  pub said : Said

-- a stage, with the moves that were ended on the way to it
pub record Course : Type 0 where
  pub stage : Stage
  pub moves : List EndedMove

-- what the client answers about buffer b
abbrev pub said_at : Stage → ℕ → Said
said_at stage b = slice_index_or stage.says b DontKnow

-- One move

-- the next move, if there is one to begin, with its answer
abbrev pub next_move : Stage → Option EndedMove
next_move stage =
    if is_idle stage.cache
    then None
    else
    option_and_then
    (λ from.
    option_map (λ to. record { from = from; to = to; said = said_at stage from })
    (first_partial_free stage.cache.chunks stage.cache.slabs))
    (chosen stage.cache)

-- what an answer makes of a list by buffers, in which `none` stands where there is no object: YES takes what stands at the old buffer to
-- the
-- new one, and after DONT_NEED it is gone
abbrev pub places_after : {X : Type 0} → X → Said → ℕ → ℕ → List X → List X
places_after none Yes from to xs = slice_set (slice_set xs to (slice_index_or xs from none)) from none
places_after none No from to xs = xs
places_after none Later from to xs = xs
places_after none DontNeed from to xs = slice_set xs from none
places_after none DontKnow from to xs = xs

-- the answers after a move with this answer
abbrev pub says_after : Said → ℕ → ℕ → List Said → List Said
says_after said from to says = places_after DontKnow said from to says

-- the cache after the move was begun with the number 0 and ended
abbrev pub cache_after_move : CacheState → EndedMove → Option CacheState
cache_after_move cache move =
    option_and_then (λ begun. enter begun (End 0 move.said)) (enter cache (Begin 0 move.from move.to))

-- the stage after the move was begun and ended
abbrev pub after_move : Stage → EndedMove → Option Stage
after_move stage move =
    option_map (λ cache. record { cache = cache; says = says_after move.said move.from move.to stage.says })
    (cache_after_move stage.cache move)

-- One scan

-- after the next move
abbrev pub one_move_on : Course → Option Course
one_move_on course =
    option_and_then
    (λ move. option_map (λ stage. record { stage = stage; moves = course.moves ++ move ∷ [] }) (after_move course.stage move))
    (next_move course.stage)

-- after moves until there is none to begin, where fewer than n do
abbrev pub moved_in : ℕ → Course → Option Course
moved_in zero course = None
moved_in (suc n) course =
    if is_none (next_move course.stage) then Some course else option_and_then (λ next. moved_in n next) (one_move_on course)

-- after moves until there is none to begin: each buffer is asked about at most once
abbrev pub moved : Course → Option Course
moved course = moved_in (length course.stage.cache.asked + 1) course

-- a desperate scan was started, and no move was begun since
abbrev pub scan_begun : Stage → Option Course
scan_begun stage =
    option_map (λ cache. record { stage = record stage { cache = cache }; moves = [] }) (enter stage.cache (Scan true))

-- what a whole scan leaves, with its moves
abbrev pub scanned : Stage → Option Course
scanned stage = option_and_then moved (scan_begun stage)

-- All scans

-- the answer frees the old buffer
abbrev pub gains : Said → Bool
gains Yes = true
gains No = false
gains Later = false
gains DontNeed = true
gains DontKnow = false

-- slab i is partial, isn't the first of them, and has no mark
abbrev pub is_open_slab : List SlabState → ℕ → Bool
is_open_slab slabs i = is_partial (slab_at slabs i) && not (is_marked (slab_at slabs i)) && not (is_the (first_partial slabs) i)

-- every partial slab after the first has a mark
abbrev pub is_rest_marked : List SlabState → Bool
is_rest_marked slabs = is_none (least_below (length slabs) (is_open_slab slabs))

-- no more scan is made after this one: none of its answers freed an old buffer, and every partial slab after
-- the first has a mark
abbrev pub is_done : Course → Bool
is_done scan = not (list_any (λ move. gains move.said) scan.moves) && is_rest_marked scan.stage.cache.slabs

-- the moves so far, and then those of a scan
abbrev pub with_scan : List EndedMove → Course → Course
with_scan moves scan = record scan { moves = moves ++ scan.moves }

-- after scans until one is the last, where at most n do
abbrev pub scanned_in : ℕ → Course → Option Course
scanned_in zero course = None
scanned_in (suc n) course =
    option_and_then
    (λ scan.
    elim (is_done scan) [ true ↦ Some (with_scan course.moves scan) | false ↦ scanned_in n (with_scan course.moves scan) ])
    (scanned course.stage)

-- every count and mark is forgotten, and no move was begun
abbrev pub forgotten : Stage → Option Course
forgotten stage =
    option_map (λ cache. record { stage = record stage { cache = cache }; moves = [] }) (enter stage.cache Forget)

-- settle: what it leaves, with all its moves in order, where at most n scans do
abbrev pub settled_in : ℕ → Stage → Option Course
settled_in n stage = option_and_then (λ course. scanned_in n course) (forgotten stage)
