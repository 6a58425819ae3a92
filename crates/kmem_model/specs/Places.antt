-- Placings: where each buffer is, and who holds it (this project's own; slabs and magazines are of Bonwick
-- 1994 and of Bonwick and Adams 2001).
use Rattle.std.specs.Prelude.{ℕ, ◌/◌, ◌%◌, Bool, true, false, ◌==◌, List, [], Option, None, is_some, replicate, slice_index_or, count_by, sum_by}
use Rattle.std.specs.List.{list_any}
use Rattle.kmem_model.specs.CacheState.{CacheSizes}
use Rattle.kmem_model.specs.declared.cache_state.Standing.{Standing}
use Rattle.kmem_model.specs.declared.cache_state.Standing.TheVariants.{Source}

-- who can own a buffer between two events
pub data Party : Type 0 where
  worker : ℕ → Party
  mover : ℕ → Party

-- where a buffer is
pub data Place : Type 0 where
  -- its slab is in the source
  at_source : Place
  -- free on a listed or dead slab
  on_slab : Place
  -- owned by a worker or mover between two events
  in_hand : Party → Place
  -- a round of the magazine with this number
  in_magazine : ℕ → Place
  -- an object of the client
  at_client : Place
  -- the new buffer of the move with this number, until its answer is taken or the move is ended
  at_dest : ℕ → Place

-- who holds a magazine
pub data Holder : Type 0 where
  party : Party → Holder
  depot : Holder

-- a move that has begun and not ended, with what the client has answered since
pub record OpenMove : Type 0 where
  pub from : ℕ
  pub to : ℕ
  -- whether the answer YES was taken
  pub yes : Bool
  -- whether the answer DONT_NEED was taken
  pub dont_need : Bool

-- one slab of a placing
pub record Shelf : Type 0 where
  pub standing : Standing
  -- the place of each of its buffers
  pub places : List Place
  -- its used count, which events count up and down
  pub used : ℕ

-- a whole placing
pub record Placing : Type 0 where
  -- buffers in a slab
  pub chunks : ℕ
  -- each slab, at its number
  pub shelves : List Shelf
  -- the holder of each magazine, at its number
  pub holders : List Holder
  -- the pending move with each number
  pub moves : List (Option OpenMove)

-- out: neither at the source nor on its slab
abbrev pub is_out_place : Place → Bool
is_out_place at_source = false
is_out_place on_slab = false
is_out_place (in_hand who) = true
is_out_place (in_magazine m) = true
is_out_place at_client = true
is_out_place (at_dest j) = true

-- free on its slab
abbrev pub is_on_slab : Place → Bool
is_on_slab on_slab = true
is_on_slab _ = false

-- an object of the client
abbrev pub is_at_client : Place → Bool
is_at_client at_client = true
is_at_client _ = false

-- owned by a worker or mover
abbrev pub is_in_hand : Place → Bool
is_in_hand (in_hand who) = true
is_in_hand _ = false

-- owned by somebody who can free it: in a hand or in a magazine
abbrev pub is_held : Place → Bool
is_held (in_hand who) = true
is_held (in_magazine m) = true
is_held _ = false

-- the waiting new buffer of move j
abbrev pub is_at_dest : ℕ → Place → Bool
is_at_dest j (at_dest i) = i == j
is_at_dest j _ = false

-- a round of magazine m
abbrev pub is_round_of : ℕ → Place → Bool
is_round_of m (in_magazine n) = n == m
is_round_of m _ = false

-- whether two parties are the same
abbrev pub is_same_party : Party → Party → Bool
is_same_party (worker a) (worker b) = a == b
is_same_party (mover a) (mover b) = a == b
is_same_party _ _ = false

-- owned by this worker or mover
abbrev pub is_in_hand_of : Party → Place → Bool
is_in_hand_of who (in_hand other) = is_same_party who other
is_in_hand_of who _ = false

-- a worker or mover holds the magazine, and not the depot
abbrev pub is_party : Holder → Bool
is_party (party who) = true
is_party depot = false

-- what is read past the last slab: a slab in the source, with no buffer
abbrev pub no_shelf : Shelf
no_shelf = record { standing = Source; places = []; used = 0 }

-- the slab with this number
abbrev pub shelf_at : List Shelf → ℕ → Shelf
shelf_at shelves i = slice_index_or shelves i no_shelf

-- the place of the buffer with this index
abbrev pub place_on : Shelf → ℕ → Place
place_on shelf k = slice_index_or shelf.places k at_source

-- the place of this buffer
abbrev pub place_at : Placing → ℕ → Place
place_at p b = place_on (shelf_at p.shelves (b / p.chunks)) (b % p.chunks)

-- who holds the magazine with this number
abbrev pub holder_at : Placing → ℕ → Holder
holder_at p m = slice_index_or p.holders m depot

-- the pending move with this number
abbrev pub open_move_at : Placing → ℕ → Option OpenMove
open_move_at p j = slice_index_or p.moves j None

-- whether any move is pending
abbrev pub has_moves : Placing → Bool
has_moves p = list_any is_some p.moves

-- how many rounds a magazine has
abbrev pub rounds : Placing → ℕ → ℕ
rounds p m = sum_by (λ shelf. count_by (is_round_of m) shelf.places) p.shelves

-- the opening placing: every buffer at the source, nothing pending, and magazines held by anybody
abbrev pub placing_start : CacheSizes → List Holder → Placing
placing_start sizes holders =
    record {
      chunks = sizes.chunks;
      shelves = replicate sizes.slabs (record { standing = Source; places = replicate sizes.chunks at_source; used = 0 });
      holders = holders;
      moves = replicate sizes.limit None;
    }
