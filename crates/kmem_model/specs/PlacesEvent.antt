-- Events: what moves a buffer from one place to another (this project's own).
-- Growing, reviving and giving back a slab are parts of the events in which they happen.
use Rattle.std.specs.Prelude.{ℕ, ◌+◌, ◌-◌, ◌/◌, ◌%◌, Bool, true, false, ◌&&◌, not, ◌==◌, nat_lt, Option, Some, None, map, length, option_map, option_and_then, slice_set, if◌then◌else◌}
use Rattle.std.specs.Bool.{then_some}
use Rattle.kmem_model.specs.Places.{Party, mover, Place, at_source, on_slab, in_hand, in_magazine, at_client, at_dest, Holder, party, depot, OpenMove, Shelf, Placing, is_on_slab, is_at_client, is_in_hand, is_held, is_at_dest, is_same_party, is_in_hand_of, is_party, shelf_at, place_on, place_at, holder_at, open_move_at, has_moves, rounds}
use Rattle.kmem_model.specs.CacheState.{CacheState, is_same_standing}
use Rattle.kmem_model.specs.CacheEnter.{enter}
use Rattle.kmem_model.specs.declared.cache_state.Standing.{Standing}
use Rattle.kmem_model.specs.declared.cache_state.Standing.TheVariants.{Source, Listed, Dead}
use Rattle.kmem_model.specs.declared.cache_entry.Said.{Said}
use Rattle.kmem_model.specs.declared.cache_entry.Said.TheVariants.{Yes, No, Later, DontNeed, DontKnow}
use Rattle.kmem_model.specs.declared.cache_entry.CacheEntry.{CacheEntry}
use Rattle.kmem_model.specs.declared.cache_entry.CacheEntry.TheVariants.{Alloc, Full, Free, Scan, Begin, Idle, Gone, End, Forget}

-- what can happen. A buffer b, a magazine m, a move j; the mover w carries a move
pub data Event : Type 0 where
  -- who allocates b
  alloc : (b : ℕ) → (who : Party) → Event
  -- the owner of b, or of the magazine that it is in, frees it
  free : (b : ℕ) → Event
  -- the owner of b puts it into the magazine m of its own
  round_in : (b m : ℕ) → Event
  -- the holder of b's magazine takes it out
  round_out : (b : ℕ) → Event
  -- a worker or mover gives m to the depot for n
  depot_swap : (m n : ℕ) → Event
  -- a put makes an object of b
  keep : (b : ℕ) → Event
  -- the client hands b out, to who
  leave : (b : ℕ) → (who : Party) → Event
  -- move j begins
  begin : (j from to : ℕ) → Event
  -- the client answers the mover w about move j
  answer : (j : ℕ) → (said : Said) → (w : ℕ) → Event
  -- move j ends unasked
  gone : (j : ℕ) → Event
  -- move j ends by the answer that the mover w has
  end : (j : ℕ) → (said : Said) → (w : ℕ) → Event
  -- an entry of the cache that moves no buffer
  cache_alone : (entry : CacheEntry) → Event

-- Parts of events

-- grow and revive: a slab of the source, or a dead one, is listed with all buffers on it
abbrev pub shelf_listed : Standing → Shelf → Shelf
shelf_listed Source shelf = record { standing = Listed; places = map (λ _. on_slab) shelf.places; used = shelf.used }
shelf_listed Listed shelf = shelf
shelf_listed Dead shelf = record shelf { standing = Listed }

-- a buffer leaves its slab for this place
abbrev pub shelf_taken : Shelf → ℕ → Place → Shelf
shelf_taken shelf k place =
    record { standing = shelf.standing; places = slice_set shelf.places k place; used = shelf.used + 1 }

-- give back: all buffers of the slab go to the source
abbrev pub shelf_given_back : Shelf → Shelf
shelf_given_back shelf = record { standing = Source; places = map (λ _. at_source) shelf.places; used = 0 }

-- a slab with no buffer out any more is dead while a move is pending, else it is given back
abbrev pub shelf_emptied : Bool → Shelf → Shelf
shelf_emptied pending shelf = if pending then record shelf { standing = Dead } else shelf_given_back shelf

-- a buffer comes back to its slab
abbrev pub shelf_freed : Bool → Shelf → ℕ → Shelf
shelf_freed pending shelf k =
    let next : Shelf =
    record { standing = shelf.standing; places = slice_set shelf.places k on_slab; used = shelf.used - 1 } in
    if next.used == 0 then shelf_emptied pending next else next

-- the same on a placing
abbrev pub with_shelf : Placing → ℕ → Shelf → Placing
with_shelf p i shelf = record p { shelves = slice_set p.shelves i shelf }

-- b, which is out, goes to another place outside
abbrev pub with_place : Placing → ℕ → Place → Placing
with_place p b place =
    let i = b / p.chunks in
    let shelf = shelf_at p.shelves i in
    with_shelf p i (record shelf { places = slice_set shelf.places (b % p.chunks) place })

-- b comes back to its slab
abbrev pub placing_freed : Placing → ℕ → Placing
placing_freed p b =
    let i = b / p.chunks in with_shelf p i (shelf_freed (has_moves p) (shelf_at p.shelves i) (b % p.chunks))

-- with this for move j
abbrev pub with_open_move : Placing → ℕ → Option OpenMove → Placing
with_open_move p j move = record p { moves = slice_set p.moves j move }

-- a dead slab is given back
abbrev pub dead_given_back : Shelf → Shelf
dead_given_back shelf = if is_same_standing Dead shelf.standing then shelf_given_back shelf else shelf

-- move j isn't pending any more. Where this leaves no move pending, the dead slabs are given back
abbrev pub move_done : Placing → ℕ → Placing
move_done p j =
    let next = with_open_move p j None in
    if has_moves next then next else record next { shelves = map dead_given_back next.shelves }

-- What each event does to the placing, or nothing where a buffer isn't where the event takes it from

-- alloc: from its slab, which is listed first, to a hand
abbrev pub alloc_placed : Placing → ℕ → Party → Option Placing
alloc_placed p b who =
    let i = b / p.chunks in
    let k = b % p.chunks in
    let shelf = shelf_listed (shelf_at p.shelves i).standing (shelf_at p.shelves i) in
    then_some (is_on_slab (place_on shelf k)) (with_shelf p i (shelf_taken shelf k (in_hand who)))

-- the magazine belongs to whose hand this is
abbrev pub holds : Holder → Place → Bool
holds (party who) (in_hand other) = is_same_party who other
holds _ _ = false

-- out of its magazine, into the hand of the magazine's holder
abbrev pub round_out_placed : Placing → ℕ → Holder → Option Placing
round_out_placed p b (party who) = Some (with_place p b (in_hand who))
round_out_placed p b depot = None

-- the same, from the place that the buffer is at
abbrev pub round_out_from : Placing → ℕ → Place → Option Placing
round_out_from p b (in_magazine m) = round_out_placed p b (holder_at p m)
round_out_from p b _ = None

-- begin: the new buffer goes from its slab to its place as new buffer of move j
abbrev pub begin_placed : Placing → ℕ → OpenMove → Option Placing
begin_placed p j m =
    let i = m.to / p.chunks in
    then_some (is_on_slab (place_at p m.to))
    (with_open_move (with_shelf p i (shelf_taken (shelf_at p.shelves i) (m.to % p.chunks) (at_dest j))) j (Some m))

-- what the client's answer moves, and which flag it sets
abbrev pub answer_effect : Placing → ℕ → Said → ℕ → OpenMove → Placing
answer_effect p j Yes w m =
    with_open_move (with_place (with_place p m.to at_client) m.from (in_hand (mover w))) j (Some (record m { yes = true }))
answer_effect p j No w m = p
answer_effect p j Later w m = p
answer_effect p j DontNeed w m =
    with_open_move (with_place p m.from (in_hand (mover w))) j (Some (record m { dont_need = true }))
answer_effect p j DontKnow w m = p

-- by YES and DONT_NEED the client gives up the object at the old buffer
abbrev pub gives_up : Said → Bool
gives_up Yes = true
gives_up No = false
gives_up Later = false
gives_up DontNeed = true
gives_up DontKnow = false

-- an answer is taken while the new buffer waits and the client hasn't given up the object before
abbrev pub answer_placed : Placing → ℕ → Said → ℕ → OpenMove → Option Placing
answer_placed p j said w m =
    then_some
    (is_at_dest j (place_at p m.to) && not m.yes && not m.dont_need
    && (if gives_up said then is_at_client (place_at p m.from) else true))
    (answer_effect p j said w m)

-- gone: the new buffer comes back
abbrev pub gone_placed : Placing → ℕ → OpenMove → Option Placing
gone_placed p j m = then_some (is_at_dest j (place_at p m.to)) (move_done (placing_freed p m.to) j)

-- end by NO, LATER or DONT_KNOW: the client has given up nothing, and the new buffer comes back
abbrev pub end_unmoved : Placing → ℕ → OpenMove → Option Placing
end_unmoved p j m =
    then_some (not m.yes && not m.dont_need && is_at_dest j (place_at p m.to)) (move_done (placing_freed p m.to) j)

-- end: YES hands back old, DONT_NEED old and new, and each other answer new
abbrev pub end_placed : Placing → ℕ → Said → ℕ → OpenMove → Option Placing
end_placed p j Yes w m =
    then_some (m.yes && is_in_hand_of (mover w) (place_at p m.from)) (move_done (placing_freed p m.from) j)
end_placed p j DontNeed w m =
    then_some (m.dont_need && is_in_hand_of (mover w) (place_at p m.from) && is_at_dest j (place_at p m.to))
    (move_done (placing_freed (placing_freed p m.from) m.to) j)
end_placed p j No w m = end_unmoved p j m
end_placed p j Later w m = end_unmoved p j m
end_placed p j DontKnow w m = end_unmoved p j m

-- Events

-- the entries that move no buffer
abbrev pub moves_nothing : CacheEntry → Bool
moves_nothing (Alloc b) = false
moves_nothing Full = true
moves_nothing (Free b) = false
moves_nothing (Scan desperate) = true
moves_nothing (Begin j from to) = false
moves_nothing Idle = true
moves_nothing (Gone j) = false
moves_nothing (End j said) = false
moves_nothing Forget = true

-- the placing after an event, or nothing where it can't happen in the placing
abbrev pub placed : Placing → Event → Option Placing
placed p (alloc b who) = alloc_placed p b who
placed p (free b) = then_some (is_held (place_at p b)) (placing_freed p b)
placed p (round_in b m) =
    then_some (holds (holder_at p m) (place_at p b) && nat_lt (rounds p m) 8) (with_place p b (in_magazine m))
placed p (round_out b) = round_out_from p b (place_at p b)
placed p (depot_swap m n) =
    then_some (is_party (holder_at p m) && not (is_party (holder_at p n)) && nat_lt n (length p.holders))
    (record p { holders = slice_set (slice_set p.holders m depot) n (holder_at p m) })
placed p (keep b) = then_some (is_in_hand (place_at p b)) (with_place p b at_client)
placed p (leave b who) = then_some (is_at_client (place_at p b)) (with_place p b (in_hand who))
placed p (begin j from to) = begin_placed p j (record { from = from; to = to; yes = false; dont_need = false })
placed p (answer j said w) = option_and_then (answer_placed p j said w) (open_move_at p j)
placed p (gone j) = option_and_then (gone_placed p j) (open_move_at p j)
placed p (end j said w) = option_and_then (end_placed p j said w) (open_move_at p j)
placed p (cache_alone entry) = then_some (moves_nothing entry) p

-- the entry that the cache makes in an event
abbrev pub entry_of : Event → Option CacheEntry
entry_of (alloc b who) = Some (Alloc b)
entry_of (free b) = Some (Free b)
entry_of (round_in b m) = None
entry_of (round_out b) = None
entry_of (depot_swap m n) = None
entry_of (keep b) = None
entry_of (leave b who) = None
entry_of (begin j from to) = Some (Begin j from to)
entry_of (answer j said w) = None
entry_of (gone j) = Some (Gone j)
entry_of (end j said w) = Some (End j said)
entry_of (cache_alone entry) = Some entry

-- the state after the entry of an event. Where the event has none, the state stays
abbrev pub entered : CacheState → Option CacheEntry → Option CacheState
entered s None = Some s
entered s (Some entry) = enter s entry

-- a placing with the cache state that goes along
pub record World : Type 0 where
  pub placing : Placing
  pub state : CacheState

-- the world after an event, or nothing where it can't happen
abbrev pub event : World → Event → Option World
event w e =
    option_and_then (λ placing. option_map (λ state. record { placing = placing; state = state }) (entered w.state (entry_of e)))
    (placed w.placing e)
