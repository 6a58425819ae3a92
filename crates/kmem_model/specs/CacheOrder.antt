-- The order of a cache's slabs, and the buffers that its calls choose, each said by comparing all slabs.
-- That partial slabs serve first is of Bonwick 1994; the order among them and the rules of scans are this
-- project's own.
use Rattle.std.specs.Prelude.{ℕ, zero, suc, ◌≡◌, ◌≢◌, ◌<◌, ◌+◌, ◌*◌, Bool, true, false, ◌&&◌, ◌||◌, not, ◌==◌, nat_lt, List, Option, Some, None, length, count_by, sum_by, is_some, is_none, option_map, option_and_then, slice_index_or, if◌then◌else◌}
use Rattle.std.specs.Bool.{then_some}
use Rattle.std.specs.Option.{option_or}
use Rattle.std.specs.List.{list_any}
use Rattle.kmem_model.specs.CacheState.{SlabState, CacheState, slab_at, is_listed, is_in_source, is_dead, used, free_buffers, is_out_on, move_at, pending_count}
use Rattle.kmem_model.specs.declared.cache_state.Mode.{Mode}
use Rattle.kmem_model.specs.declared.cache_state.Mode.TheVariants.{Off, Mild, Desperate}
use Rattle.kmem_model.specs.declared.cache_state.PendingMove.{PendingMove}

-- the least number below n that passes the test
abbrev pub least_below : ℕ → (ℕ → Bool) → Option ℕ
least_below zero test = None
least_below (suc n) test = option_or (least_below n test) (then_some (test n) n)

-- k is the least number below n that passes the test
pub record IsLeastBelow (n : ℕ) (test : ℕ → Bool) (k : ℕ) : Type 0 where
  pub below : k < n
  pub passes : test k ≡ true
  pub least : (j : ℕ) → j < k → test j ≡ false

-- of the numbers below n that pass the test, the one that no other comes before
abbrev pub foremost : ℕ → (ℕ → Bool) → (ℕ → ℕ → Bool) → Option ℕ
foremost n test before = least_below n (λ i. test i && is_none (least_below n (λ j. test j && before j i)))

-- i passes the test, and no number that passes it comes before i
pub record IsForemost (n : ℕ) (test : ℕ → Bool) (before : ℕ → ℕ → Bool) (i : ℕ) : Type 0 where
  pub below : i < n
  pub passes : test i ≡ true
  pub first : (j : ℕ) → j < n → test j ≡ true → before j i ≡ false

-- of two different numbers exactly one comes before the other, and what comes before an earlier one is earlier
pub record IsOrder (before : ℕ → ℕ → Bool) : Type 0 where
  pub one_way : (i j : ℕ) → before i j ≡ true → before j i ≡ false
  pub total : (i j : ℕ) → i ≢ j → before i j ≡ false → before j i ≡ true
  pub transitive : (i j k : ℕ) → before i j ≡ true → before j k ≡ true → before i k ≡ true

-- whether the value is there, and is this number
abbrev pub is_the : Option ℕ → ℕ → Bool
is_the None n = false
is_the (Some m) n = m == n

-- some but not all of the slab's buffers are out
abbrev pub is_partial : SlabState → Bool
is_partial slab = is_listed slab && nat_lt 0 (used slab) && nat_lt (used slab) (length slab.out)

-- the slab has the no-move mark
abbrev pub is_marked : SlabState → Bool
is_marked slab = is_some slab.stuck

-- the slab with the greater used count comes first, and of two with the same the one with the lesser number
abbrev pub is_fuller : SlabState → ℕ → SlabState → ℕ → Bool
is_fuller a i b j = nat_lt (used b) (used a) || (used a == used b && nat_lt i j)

-- the order of partial slabs: those with a mark first, then the fuller ones
abbrev pub comes_before : List SlabState → ℕ → ℕ → Bool
comes_before slabs i j =
    let a = slab_at slabs i in
    let b = slab_at slabs j in
    if is_marked a
    then (if is_marked b then is_fuller a i b j else true)
    else (if is_marked b then false else is_fuller a i b j)

-- the number of the first partial slab
abbrev pub first_partial : List SlabState → Option ℕ
first_partial slabs = foremost (length slabs) (λ i. is_partial (slab_at slabs i)) (comes_before slabs)

-- the least index of a free buffer on the slab
abbrev pub least_free : SlabState → Option ℕ
least_free slab = least_below (length slab.out) (λ k. not (is_out_on slab k))

-- the least free buffer of the first partial slab
abbrev pub first_partial_free : ℕ → List SlabState → Option ℕ
first_partial_free chunks slabs =
    option_and_then (λ i. option_map (λ k. i * chunks + k) (least_free (slab_at slabs i))) (first_partial slabs)

-- the first buffer of the least-numbered slab that passes the test
abbrev pub first_of_slab : ℕ → List SlabState → (SlabState → Bool) → Option ℕ
first_of_slab chunks slabs test = option_map (λ i. i * chunks) (least_below (length slabs) (λ i. test (slab_at slabs i)))

-- the three ways to a buffer: from the first partial slab, by a slab of the source, and by a dead slab that is taken back
abbrev pub from_partial : CacheState → Option ℕ
from_partial s = first_partial_free s.chunks s.slabs

abbrev pub by_growth : CacheState → Option ℕ
by_growth s = first_of_slab s.chunks s.slabs is_in_source

abbrev pub by_revival : CacheState → Option ℕ
by_revival s = first_of_slab s.chunks s.slabs is_dead

-- the buffer that the next allocation takes: the first of the three that gives one
abbrev pub wanted : CacheState → Option ℕ
wanted s = option_or (from_partial s) (option_or (by_growth s) (by_revival s))

-- more than an eighth of the buffers of listed slabs is free on partial slabs
abbrev pub is_fragmented : CacheState → Bool
is_fragmented s =
    nat_lt (s.chunks * count_by is_listed s.slabs)
    (8 * sum_by (λ slab. if is_partial slab then free_buffers slab else 0) s.slabs)

-- a scan of this mode may ask about buffers of this slab
abbrev pub is_reclaimable : ℕ → ℕ → Mode → SlabState → Bool
is_reclaimable chunks numerator Off slab = false
is_reclaimable chunks numerator Mild slab =
    is_partial slab && not (is_marked slab)
    && (used slab == 1 || nat_lt (8 * used slab) (chunks * numerator))
is_reclaimable chunks numerator Desperate slab = is_partial slab

-- the buffer with index k of slab i can be chosen to be moved, where skip tells which buffers are left out
abbrev pub can_move : ℕ → ℕ → Mode → (ℕ → Bool) → List SlabState → ℕ → ℕ → Bool
can_move chunks numerator mode skip slabs i k =
    is_reclaimable chunks numerator mode (slab_at slabs i) && not (is_the (first_partial slabs) i)
    && is_out_on (slab_at slabs i) k && not (skip (i * chunks + k))

-- the least index of a buffer of slab i that can be chosen
abbrev pub least_to_move : ℕ → ℕ → Mode → (ℕ → Bool) → List SlabState → ℕ → Option ℕ
least_to_move chunks numerator mode skip slabs i =
    least_below (length (slab_at slabs i).out) (can_move chunks numerator mode skip slabs i)

-- the choice: the least such buffer of the last slab that has one
abbrev pub last_reclaimable : ℕ → ℕ → Mode → (ℕ → Bool) → List SlabState → Option ℕ
last_reclaimable chunks numerator mode skip slabs =
    option_and_then
    (λ i. option_map (λ k. i * chunks + k) (least_to_move chunks numerator mode skip slabs i))
    (foremost (length slabs) (λ i. is_some (least_to_move chunks numerator mode skip slabs i))
    (λ j i. comes_before slabs i j))

-- the buffer is the old or the new one of the move
abbrev pub is_of_move : ℕ → Option PendingMove → Bool
is_of_move b None = false
is_of_move b (Some m) = m.from == b || m.to == b

-- the buffer was asked about in this scan, or is the old or the new one of a pending move
abbrev pub is_left_out : CacheState → ℕ → Bool
is_left_out s b = slice_index_or s.asked b false || list_any (is_of_move b) s.pending

-- the old buffer of the next move
abbrev pub chosen : CacheState → Option ℕ
chosen s = last_reclaimable s.chunks s.numerator s.mode (is_left_out s) s.slabs

-- the least number that no pending move has
abbrev pub free_number : CacheState → Option ℕ
free_number s = least_below (length s.pending) (λ j. is_none (move_at s j))

-- as many moves are pending as the limit allows
abbrev pub is_at_limit : CacheState → Bool
is_at_limit s = pending_count s == length s.pending

-- the mode allows no move
abbrev pub is_off : Mode → Bool
is_off Off = true
is_off Mild = false
is_off Desperate = false

-- there is no move to begin: the mode is off, the limit is reached, or no buffer can be chosen
abbrev pub is_idle : CacheState → Bool
is_idle s = is_off s.mode || is_at_limit s || is_none (chosen s)
