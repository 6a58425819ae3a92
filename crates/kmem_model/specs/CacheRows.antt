-- The worked rows: cache histories with the states that they leave, and the same with one wrong entry (this
-- project's own).
use Rattle.std.specs.Prelude.{ℕ, Bool, true, false, List, [], ◌∷◌, ◌++◌, Option, Some, None, is_some, map, option_map, replicate, slice_set}
use Rattle.kmem_model.specs.CacheState.{sizes_of, SlabState, CacheState, slab_count, free_count, out_count, pending_count, dead_count, slab_in_source}
use Rattle.kmem_model.specs.CacheHistory.{cache_after}
use Rattle.kmem_model.specs.declared.cache_state.Standing.TheVariants.{Listed}
use Rattle.kmem_model.specs.declared.cache_state.Mode.{Mode}
use Rattle.kmem_model.specs.declared.cache_state.Mode.TheVariants.{Off, Mild, Desperate}
use Rattle.kmem_model.specs.declared.cache_entry.Said.TheVariants.{Yes, Later, DontKnow}
use Rattle.kmem_model.specs.declared.cache_entry.CacheEntry.{CacheEntry}
use Rattle.kmem_model.specs.declared.cache_entry.CacheEntry.TheVariants.{Alloc, Full, Free, Scan, Begin, Idle, Gone, End, Forget}

-- Words of the rows

-- these entries, all of one pass
abbrev pub by_one_pass : List CacheEntry → List (ℕ × CacheEntry)
by_one_pass entries = map (λ e. (0, e)) entries

-- the state that these entries leave in a cache with this many slabs and buffers in a slab, and the limit 64
abbrev pub after : ℕ → ℕ → List CacheEntry → Option CacheState
after slabs chunks entries = cache_after (sizes_of slabs chunks 64) (by_one_pass entries)

-- these entries are legal one after another
abbrev pub is_legal_row : ℕ → ℕ → List CacheEntry → Bool
is_legal_row slabs chunks entries = is_some (after slabs chunks entries)

-- the row with the entry at this place, counted from 0, changed to another
abbrev pub with_entry : List CacheEntry → ℕ → CacheEntry → List CacheEntry
with_entry row place entry = slice_set row place entry

-- allocations of these buffers, one after another
abbrev pub allocs : List ℕ → List CacheEntry
allocs buffers = map (λ b. Alloc b) buffers

-- frees of these buffers, one after another
abbrev pub frees : List ℕ → List CacheEntry
frees buffers = map (λ b. Free b) buffers

-- a desperate scan
abbrev pub desperate_scan : List CacheEntry
desperate_scan = Scan true ∷ []

-- a move from old to new that is begun and put off at once
abbrev pub put_off : ℕ → ℕ → List CacheEntry
put_off old new = Begin 0 old new ∷ End 0 Later ∷ []

-- there was no move to begin
abbrev pub nothing_to_begin : List CacheEntry
nothing_to_begin = Idle ∷ []

-- a listed slab with these buffers out, this count, and this stuck buffer, by its index
abbrev pub listed_slab : List Bool → ℕ → Option ℕ → SlabState
listed_slab out later stuck = record { standing = Listed; out = out; later = later; stuck = stuck }

-- a state with these slabs, after scans of which the last one asked about these buffers, and with nothing
-- pending
abbrev pub resting : ℕ → List SlabState → Mode → Bool → List Bool → CacheState
resting chunks slabs mode begun asked =
    record {
      chunks = chunks;
      slabs = slabs;
      mode = mode;
      numerator = 1;
      found_fragmented = false;
      begun = begun;
      asked = asked;
      pending = replicate 64 None;
    }

-- the numbers that callers see
pub record Counts : Type 0 where
  pub slabs : ℕ
  pub free : ℕ
  pub out : ℕ
  pub pending : ℕ
  pub dead : ℕ

-- the numbers of a state
abbrev pub counts : CacheState → Counts
counts s =
    record { slabs = slab_count s; free = free_count s; out = out_count s; pending = pending_count s; dead = dead_count s }

-- the numbers after these entries
abbrev pub counts_after : ℕ → ℕ → List CacheEntry → Option Counts
counts_after slabs chunks entries = option_map counts (after slabs chunks entries)

-- The slab layer by hand: 2 slabs of 4

-- all eight buffers are allocated
abbrev pub eight_out : List CacheEntry
eight_out = allocs (0 ∷ 1 ∷ 2 ∷ 3 ∷ 4 ∷ 5 ∷ 6 ∷ 7 ∷ [])

-- a Full where all are out, and then slab 0 with 2 buffers out and slab 1 with 3
abbrev pub by_hand_freed : List CacheEntry
by_hand_freed = eight_out ++ (Full ∷ []) ++ frees (5 ∷ 2 ∷ 1 ∷ [])

-- the fuller slab serves first; then slab 1 goes back to the source
abbrev pub by_hand_back : List CacheEntry
by_hand_back = by_hand_freed ++ allocs (5 ∷ 1 ∷ []) ++ frees (4 ∷ 5 ∷ 6 ∷ 7 ∷ [])

-- at last the other free buffer of slab 0, and the first one of slab 1 again
abbrev pub by_hand : List CacheEntry
by_hand = by_hand_back ++ allocs (2 ∷ 4 ∷ [])

-- slab 0 is complete, and slab 1 has its first buffer out
abbrev pub by_hand_state : CacheState
by_hand_state =
    resting 4
    (listed_slab (true ∷ true ∷ true ∷ true ∷ []) 0 None ∷ listed_slab (true ∷ false ∷ false ∷ false ∷ []) 0 None ∷ [])
    Off false (false ∷ false ∷ false ∷ false ∷ false ∷ false ∷ false ∷ false ∷ [])

-- Marked after three: 2 slabs of 4

-- a desperate scan begins the move of buffer 0 to buffer 6, and it is put off
abbrev pub put_off_once : List CacheEntry
put_off_once = desperate_scan ++ put_off 0 6

-- slab 0 has buffer 0 out and slab 1 two; buffer 0 is asked about in three scans
abbrev pub put_off_thrice : List CacheEntry
put_off_thrice =
    eight_out ++ frees (1 ∷ 2 ∷ 3 ∷ 6 ∷ 7 ∷ []) ++ put_off_once ++ nothing_to_begin ++ put_off_once ++ nothing_to_begin ++ put_off_once

-- slab 0 is marked then
abbrev pub marked_slabs : List SlabState
marked_slabs = listed_slab (true ∷ false ∷ false ∷ false ∷ []) 3 (Some 0) ∷ listed_slab (true ∷ true ∷ false ∷ false ∷ []) 0 None ∷ []

-- the marked slab serves first; when the stuck buffer is freed, mark and count go
abbrev pub marked : List CacheEntry
marked = put_off_thrice ++ (Alloc 1 ∷ Free 0 ∷ [])

-- slab 0 has no mark and one buffer out
abbrev pub marked_state : CacheState
marked_state =
    resting 4
    (listed_slab (false ∷ true ∷ false ∷ false ∷ []) 0 None ∷ listed_slab (true ∷ true ∷ false ∷ false ∷ []) 0 None ∷ [])
    Desperate true (true ∷ false ∷ false ∷ false ∷ false ∷ false ∷ true ∷ false ∷ [])

-- A dead slab: 3 slabs of 3

-- each of three slabs has its first buffer out
abbrev pub one_out_each : List CacheEntry
one_out_each = allocs (0 ∷ 1 ∷ 2 ∷ 3 ∷ 4 ∷ 5 ∷ 6 ∷ 7 ∷ 8 ∷ []) ++ frees (1 ∷ 2 ∷ 4 ∷ 5 ∷ 7 ∷ 8 ∷ [])

-- two moves are begun, and then slab 2 is left without a buffer out
abbrev pub dying : List CacheEntry
dying = one_out_each ++ (Scan true ∷ Begin 0 6 1 ∷ Begin 1 3 2 ∷ Free 6 ∷ [])

-- the first move ends unasked, and the slab stays dead
abbrev pub dying_gone : List CacheEntry
dying_gone = dying ++ (Gone 0 ∷ [])

-- the last pending move ends, and slabs 1 and 2 go back to the source
abbrev pub dead_slab : List CacheEntry
dead_slab = dying_gone ++ (End 1 Yes ∷ [])

-- slab 0 alone is left
abbrev pub dead_slab_state : CacheState
dead_slab_state =
    resting 3
    (listed_slab (true ∷ false ∷ true ∷ []) 0 None ∷ slab_in_source 3 ∷ slab_in_source 3 ∷ [])
    Desperate true (false ∷ true ∷ true ∷ true ∷ false ∷ false ∷ true ∷ false ∷ false ∷ [])

-- with a fourth slab in the source: the next new slab is that one, since slab 2 is still dead
abbrev pub dead_among_four : List CacheEntry
dead_among_four = dying ++ allocs (4 ∷ 5 ∷ 9 ∷ [])

-- Three mild scans: 3 slabs of 8

-- slab 0 has 6 buffers out, and slabs 1 and 2 have 2; at the third mild scan a quarter is below three eighths
abbrev pub mild_scans : List CacheEntry
mild_scans =
    allocs (0 ∷ 1 ∷ 2 ∷ 3 ∷ 4 ∷ 5 ∷ 6 ∷ 7 ∷ 8 ∷ 9 ∷ 10 ∷ 11 ∷ 12 ∷ 13 ∷ 14 ∷ 15 ∷ 16 ∷ 17 ∷ 18 ∷ 19 ∷ 20 ∷ 21 ∷ 22 ∷ 23 ∷ [])
    ++ frees (6 ∷ 7 ∷ 10 ∷ 11 ∷ 12 ∷ 13 ∷ 14 ∷ 15 ∷ 18 ∷ 19 ∷ 20 ∷ 21 ∷ 22 ∷ 23 ∷ [])
    ++ (Scan false ∷ Idle ∷ Scan false ∷ Idle ∷ Scan false ∷ Begin 0 16 6 ∷ Begin 1 17 7 ∷ Idle ∷ [])

-- slab 0 is complete, and two moves are pending
abbrev pub mild_scans_state : CacheState
mild_scans_state =
    record {
      chunks = 8;
      slabs =
          listed_slab (true ∷ true ∷ true ∷ true ∷ true ∷ true ∷ true ∷ true ∷ []) 0 None
          ∷ listed_slab (true ∷ true ∷ false ∷ false ∷ false ∷ false ∷ false ∷ false ∷ []) 0 None
          ∷ listed_slab (true ∷ true ∷ false ∷ false ∷ false ∷ false ∷ false ∷ false ∷ []) 0 None
          ∷ [];
      mode = Mild;
      numerator = 3;
      found_fragmented = true;
      begun = true;
      asked = false ∷ false ∷ false ∷ false ∷ false ∷ false ∷ true ∷ true ∷ false ∷ false ∷ false ∷ false ∷ false ∷ false ∷ false ∷ false ∷ true ∷ true ∷ false ∷ false ∷ false ∷ false ∷ false ∷ false ∷ [];
      pending = Some (record { from = 16; to = 6 }) ∷ Some (record { from = 17; to = 7 }) ∷ replicate 62 None;
    }

-- Everything busy: 3 slabs of 3

-- a settle where each object is in use: five scans, until each slab is marked
abbrev pub busy : List CacheEntry
busy =
    one_out_each ++ (Forget ∷ [])
    ++ desperate_scan ++ put_off 6 1 ++ put_off 3 1 ++ nothing_to_begin
    ++ desperate_scan ++ put_off 6 1 ++ put_off 3 1 ++ nothing_to_begin
    ++ desperate_scan ++ put_off 6 1 ++ put_off 3 7 ++ put_off 0 4 ++ nothing_to_begin
    ++ desperate_scan ++ put_off 0 4 ++ put_off 6 4 ++ nothing_to_begin
    ++ desperate_scan ++ put_off 0 4 ++ put_off 6 1 ++ put_off 3 1 ++ nothing_to_begin

-- each slab is marked with its first buffer as the stuck one
abbrev pub busy_state : CacheState
busy_state =
    resting 3
    (replicate 3 (listed_slab (true ∷ false ∷ false ∷ []) 3 (Some 0)))
    Desperate true (true ∷ true ∷ false ∷ true ∷ true ∷ false ∷ true ∷ false ∷ false ∷ [])

-- Dead slabs taken back: 3 slabs of 2

-- with a move pending, slabs 1 and 2 are left without a buffer out
abbrev pub two_dead : List CacheEntry
two_dead =
    allocs (0 ∷ 1 ∷ 2 ∷ 3 ∷ 4 ∷ 5 ∷ []) ++ frees (1 ∷ 3 ∷ 5 ∷ []) ++ (Scan true ∷ Begin 0 4 1 ∷ Idle ∷ []) ++ frees (0 ∷ 2 ∷ 4 ∷ [])

-- both are listed again, until every buffer is out; the move ends with its old buffer out again
abbrev pub taken_back : List CacheEntry
taken_back =
    two_dead ++ allocs (0 ∷ 2 ∷ 3 ∷ 4 ∷ 5 ∷ []) ++ (Full ∷ End 0 DontKnow ∷ [])

-- slab 0 has its first buffer out, and the others are complete
abbrev pub taken_back_state : CacheState
taken_back_state =
    resting 2
    (listed_slab (true ∷ false ∷ []) 0 None ∷ listed_slab (true ∷ true ∷ []) 0 None ∷ listed_slab (true ∷ true ∷ []) 1 None ∷ [])
    Desperate true (false ∷ true ∷ false ∷ false ∷ true ∷ false ∷ [])
