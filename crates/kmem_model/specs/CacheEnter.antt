-- The entry rules: which entries a cache may make in a state, and the state that each leaves.
-- Allocating and freeing on slabs is of Bonwick 1994; dead slabs and the answers to a move are of the
-- theory statement of kmem.c; when counts, marks and the numerator change is this project's own.
use Rattle.std.specs.Prelude.{ℕ, ◌+◌, ◌-◌, ◌/◌, ◌%◌, Bool, true, false, ◌&&◌, not, ◌==◌, List, [], ◌∷◌, Option, Some, None, map, min, max, count_by, length, option_map, option_and_then, slice_set, if◌then◌else◌}
use Rattle.std.specs.Bool.{then_some}
use Rattle.std.specs.Option.{option_or}
use Rattle.std.specs.List.{list_all}
use Rattle.kmem_model.specs.CacheState.{SlabState, CacheState, slab_at, is_listed, is_dead, used, is_out, has_pending, move_at}
use Rattle.kmem_model.specs.CacheOrder.{is_the, wanted, is_fragmented, chosen, free_number, first_partial_free, is_idle}
use Rattle.kmem_model.specs.declared.cache_state.Standing.{Standing}
use Rattle.kmem_model.specs.declared.cache_state.Standing.TheVariants.{Source, Listed, Dead}
use Rattle.kmem_model.specs.declared.cache_state.Mode.TheVariants.{Off, Mild, Desperate}
use Rattle.kmem_model.specs.declared.cache_state.PendingMove.{PendingMove}
use Rattle.kmem_model.specs.declared.cache_entry.Said.{Said}
use Rattle.kmem_model.specs.declared.cache_entry.Said.TheVariants.{Yes, No, Later, DontNeed, DontKnow}
use Rattle.kmem_model.specs.declared.cache_entry.CacheEntry.{CacheEntry}
use Rattle.kmem_model.specs.declared.cache_entry.CacheEntry.TheVariants.{Alloc, Full, Free, Scan, Begin, Idle, Gone, End, Forget}

-- Effects on one slab

-- without count and mark
abbrev pub unmarked : SlabState → SlabState
unmarked slab = record slab { later = 0; stuck = None }

-- listed: a slab of the source, or a dead one, comes with count 0 and no mark
abbrev pub slab_listed : SlabState → SlabState
slab_listed slab = if is_listed slab then slab else record { standing = Listed; out = slab.out; later = 0; stuck = None }

-- listed, with this buffer out
abbrev pub slab_taken : SlabState → ℕ → SlabState
slab_taken slab k = let listed = slab_listed slab in record listed { out = slice_set listed.out k true }

-- with this buffer free. A slab with no buffer out any more goes to where `emptied` says.
-- Mark and count go then, and where the buffer was the stuck one
abbrev pub slab_freed : Standing → SlabState → ℕ → SlabState
slab_freed emptied slab k =
    let out = slice_set slab.out k false in
    if count_by (λ x. x) out == 0
    then record { standing = emptied; out = out; later = 0; stuck = None }
    else
    (if is_the slab.stuck k
    then record { standing = slab.standing; out = out; later = 0; stuck = None }
    else record slab { out = out })

-- after NO: marked with this stuck buffer, unless it has a mark already
abbrev pub slab_never : SlabState → ℕ → SlabState
slab_never slab k = record slab { stuck = option_or slab.stuck (Some k) }

-- after LATER or DONT_KNOW: the count grows to at most 3, and at 3 the slab is marked as after NO
abbrev pub slab_later : SlabState → ℕ → SlabState
slab_later slab k =
    let later = min 3 (slab.later + 1) in
    record slab { later = later; stuck = if later == 3 then option_or slab.stuck (Some k) else slab.stuck }

-- a dead slab goes back to the source
abbrev pub slab_given_back : SlabState → SlabState
slab_given_back slab = if is_dead slab then record slab { standing = Source } else slab

-- Effects on a cache

-- with the slab of buffer b changed, by its index on it
abbrev pub on_slab_of : CacheState → ℕ → (SlabState → ℕ → SlabState) → CacheState
on_slab_of s b change =
    let i = b / s.chunks in
    record s { slabs = slice_set s.slabs i (change (slab_at s.slabs i) (b % s.chunks)) }

-- with buffer b out
abbrev pub with_out : CacheState → ℕ → CacheState
with_out s b = on_slab_of s b slab_taken

-- where a slab goes that has no buffer out any more: to the dead list while a move is pending
abbrev pub emptied_goes : CacheState → Standing
emptied_goes s = if has_pending s then Dead else Source

-- with buffer b, which was out, free
abbrev pub freed : CacheState → ℕ → Option CacheState
freed s b = then_some (is_out s b) (on_slab_of s b (slab_freed (emptied_goes s)))

-- with these buffers free, one after another
abbrev pub all_freed : CacheState → List ℕ → Option CacheState
all_freed s [] = Some s
all_freed s (b ∷ bs) = option_and_then (λ next. all_freed next bs) (freed s b)

-- with move j not pending any more. Where this leaves no move pending, all dead slabs go back to the source
abbrev pub without_move : CacheState → ℕ → CacheState
without_move s j =
    let next = record s { pending = slice_set s.pending j None } in
    if has_pending next then next else record next { slabs = map slab_given_back next.slabs }

-- with move j begun. Both of its buffers count as asked about
abbrev pub with_move : CacheState → ℕ → PendingMove → CacheState
with_move s j m =
    let next = with_out s m.to in
    record next {
      begun = true;
      asked = slice_set (slice_set next.asked m.from true) m.to true;
      pending = slice_set next.pending j (Some m);
    }

-- the buffers that an answer hands back, in the order in which they are freed
abbrev pub handed_back : Said → PendingMove → List ℕ
handed_back Yes m = m.from ∷ []
handed_back No m = m.to ∷ []
handed_back Later m = m.to ∷ []
handed_back DontNeed m = m.from ∷ m.to ∷ []
handed_back DontKnow m = m.to ∷ []

-- what an answer leaves at the slab of the old buffer, if that buffer is out
abbrev pub slab_answered : Said → SlabState → ℕ → SlabState
slab_answered Yes slab k = slab
slab_answered No slab k = slab_never slab k
slab_answered Later slab k = slab_later slab k
slab_answered DontNeed slab k = slab
slab_answered DontKnow slab k = slab_later slab k

-- what an answer leaves in the cache
abbrev pub with_answer : CacheState → ℕ → Said → CacheState
with_answer s old said = if is_out s old then on_slab_of s old (slab_answered said) else s

-- the numerator grows where the last scan was mild and no move was begun since
abbrev pub numerator_grown : CacheState → ℕ
numerator_grown s = if s.found_fragmented && not s.begun then min 8 (s.numerator + 1) else s.numerator

-- after a scan was started
abbrev pub scan_started : CacheState → Bool → CacheState
scan_started s desperate =
    let numerator = numerator_grown s in
    let mild = not desperate && is_fragmented s in
    record s {
      mode = if desperate then Desperate else (if mild then Mild else Off);
      numerator = if desperate then numerator else (if mild then numerator else max 1 (numerator - 1));
      found_fragmented = mild;
      begun = false;
      asked = map (λ _. false) s.asked;
    }

-- Which entries are legal

-- an allocation may take buffer b
abbrev pub may_take : CacheState → ℕ → Bool
may_take s b = is_the (wanted s) b

-- every buffer is out
abbrev pub is_full : CacheState → Bool
is_full s = list_all (λ slab. used slab == length slab.out) s.slabs

-- the next move is this one, with this number
abbrev pub may_begin : CacheState → ℕ → PendingMove → Bool
may_begin s j m =
    not (is_idle s) && is_the (free_number s) j && is_the (chosen s) m.from
    && is_the (first_partial_free s.chunks s.slabs) m.to

-- move j ends unasked where its old buffer is free, and its new one is freed
abbrev pub gone : CacheState → ℕ → PendingMove → Option CacheState
gone s j m = if is_out s m.from then None else option_map (λ next. without_move next j) (freed s m.to)

-- move j ends by an answer
abbrev pub ended : CacheState → ℕ → Said → PendingMove → Option CacheState
ended s j said m =
    option_map (λ next. without_move (with_answer next m.from said) j) (all_freed s (handed_back said m))

-- the state that an entry leaves, or nothing where the entry isn't legal
abbrev pub enter : CacheState → CacheEntry → Option CacheState
enter s (Alloc b) = then_some (may_take s b) (with_out s b)
enter s Full = then_some (is_full s) s
enter s (Free b) = freed s b
enter s (Scan desperate) = Some (scan_started s desperate)
enter s (Begin j from to) =
    let m : PendingMove = record { from = from; to = to } in then_some (may_begin s j m) (with_move s j m)
enter s Idle = then_some (is_idle s) s
enter s (Gone j) = option_and_then (gone s j) (move_at s j)
enter s (End j said) = option_and_then (ended s j said) (move_at s j)
enter s Forget = Some (record s { slabs = map unmarked s.slabs })
