-- Each event keeps what is kept of a placing.
use Rattle.std.proofs.Common.{◌≡◌, ◌≢◌, ℕ, ◌/◌, ◌%◌, ◌<◌, nat_lt, Bool, true, false, not, ◌&&◌, cond, List, map, length, get_or, set, Option, Some, None, is_some, ◌⊎◌, inl, inr, ⊎_elim, sym, ◌∙◌, ap, refl, subst}
use Rattle.std.specs.List.{list_any}
use Rattle.std.proofs.lemmas.Bool.{cases_eq, both_ways, cases_Bool, and_parts}
use Rattle.std.proofs.lemmas.List.{get_or-set_same, get_or-set_other, length-set, length-map}
use Rattle.std.proofs.lemmas.List.Elements.{All-set, All-map}
use Rattle.kmem_model.proofs.CacheLists.{reads_within, any_from_read, any-set_some, read_after_clear}
use Rattle.kmem_model.proofs.PlacesShelf.{IsKeptShelf, IsOpen, out_listed, shelf_opened, taken_kept, kept_open, given_back_kept, freed_kept, freed_dead, dest_stays, freed_dest_stays, listed_dest_stays, out_within}
use Rattle.kmem_model.proofs.PlacesKept.{IsKeptMove, AreKept, AreDeadInMoves, IsKept, IsFree, then_some_says, and_then_says, on_slab_says, client_says, dest_says, held_says, hand_says, hand_of_says, holds_says, client_free, out_in_shelves, set_reads, changed_kept, cleared_kept, written_kept, with_place_kept, freed_parts}
use Rattle.kmem_model.specs.CacheState.{is_same_standing}
use Rattle.kmem_model.specs.Places.{Party, mover, Place, at_source, on_slab, in_hand, in_magazine, at_client, at_dest, Holder, party, depot, OpenMove, Shelf, Placing, is_out_place, is_on_slab, is_at_client, is_in_hand, is_held, is_at_dest, is_in_hand_of, no_shelf, shelf_at, place_on, place_at, holder_at, open_move_at, has_moves, rounds}
use Rattle.kmem_model.specs.PlacesEvent.{Event, alloc, free, round_in, round_out, depot_swap, keep, leave, begin, answer, gone, end, cache_alone, shelf_listed, shelf_taken, shelf_given_back, shelf_freed, with_shelf, with_place, placing_freed, with_open_move, dead_given_back, move_done, alloc_placed, holds, round_out_placed, round_out_from, begin_placed, answer_effect, gives_up, answer_placed, gone_placed, end_unmoved, end_placed, placed}
use Rattle.kmem_model.specs.declared.cache_state.Standing.{Standing}
use Rattle.kmem_model.specs.declared.cache_state.Standing.TheVariants.{Source, Listed, Dead}
use Rattle.kmem_model.specs.declared.cache_entry.Said.{Said}
use Rattle.kmem_model.specs.declared.cache_entry.Said.TheVariants.{Yes, No, Later, DontNeed, DontKnow}

listed_source : Listed ≡ Source → ⊥
listed_source h = cc

listed_dead : Listed ≡ Dead → ⊥
listed_dead h = cc

slab_dest : (j : ℕ) → on_slab ≡ at_dest j → ⊥
slab_dest j h = cc

module _ (slabs chunks : ℕ) (p : Placing) (kept : IsKept slabs chunks p) (b : ℕ) where
  row : ℕ
  row = b / p.chunks

  here : Shelf
  here = shelf_at p.shelves (b / p.chunks)

  here_kept : is_out_place (place_at p b) ≡ true → IsKeptShelf p.chunks here
  unfolding here
  here_kept out = kept.parts.each_shelf (b / p.chunks) no_shelf (out_in_shelves p.shelves (b / p.chunks) (b % p.chunks) out)

  -- from one place outside to another
  pub moved_event : (place : Place) → IsFree (place_at p b) → is_out_place place ≡ true → IsKept slabs chunks (with_place p b place)
  moved_event place loose goes =
      record {
        chunks_stay = kept.chunks_stay;
        slabs_stay = length-set p.shelves _ _ ∙ kept.slabs_stay;
        parts = with_place_kept p p.moves kept.parts b place loose.out goes (λ j m there. loose.waits j);
        dead =
            All-set (λ shelf. shelf.standing ≡ Dead → list_any is_some p.moves ≡ true) p.shelves _ _
            (kept.dead (b / p.chunks) no_shelf (out_in_shelves p.shelves (b / p.chunks) (b % p.chunks) loose.out)) kept.dead;
      }

  -- back to its slab
  pub freed_event : IsFree (place_at p b) → IsKept slabs chunks (placing_freed p b)
  unfolding here
  freed_event loose = by_moves (cases_Bool (has_moves p))
    where
      dead : AreDeadInMoves (placing_freed p b).shelves p.moves
      dead =
          All-set (λ shelf. shelf.standing ≡ Dead → list_any is_some p.moves ≡ true) p.shelves _ _
          (freed_dead (has_moves p) here (b % p.chunks) (out_listed p.chunks here (b % p.chunks) (here_kept loose.out) loose.out)) kept.dead

      by_moves : (has_moves p ≡ true) ⊎ (has_moves p ≡ false) → IsKept slabs chunks (placing_freed p b)
      by_moves (inl pending) =
          record {
            chunks_stay = kept.chunks_stay;
            slabs_stay = length-set p.shelves _ _ ∙ kept.slabs_stay;
            parts = freed_parts p p.moves kept.parts b pending loose.out (λ j m there. loose.waits j);
            dead = dead;
          }
      by_moves (inr none) =
          record {
            chunks_stay = kept.chunks_stay;
            slabs_stay = length-set p.shelves _ _ ∙ kept.slabs_stay;
            parts = record {
              each_shelf =
                  All-set (IsKeptShelf p.chunks) p.shelves _ _
                  (freed_kept p.chunks (has_moves p) here (b % p.chunks) (here_kept loose.out) loose.out) kept.parts.each_shelf;
              each_move = λ j m there. absurd (both_ways (has_moves p) none (any_from_read p.moves j m there));
            };
            dead = dead;
          }

  -- from its slab, which is listed first
  pub alloc_event : (who : Party) (q : Placing) → alloc_placed p b who ≡ Some q → IsKept slabs chunks q
  unfolding here
  alloc_event who q e = subst (IsKept slabs chunks) says.1 taken
    where
      k : ℕ
      k = b % p.chunks

      shelf : Shelf
      shelf = shelf_listed here.standing here

      says : (is_on_slab (place_on shelf k) ≡ true) × (with_shelf p (b / p.chunks) (shelf_taken shelf k (in_hand who)) ≡ q)
      says = then_some_says _ _ _ e

      there : place_on shelf k ≡ on_slab
      there = on_slab_says _ says.0

      below : b / p.chunks < length p.shelves
      below = reads_within p.shelves (b / p.chunks) no_shelf (λ s. is_on_slab (place_on (shelf_listed s.standing s) k)) refl says.0

      old : IsKeptShelf p.chunks here
      old = kept.parts.each_shelf (b / p.chunks) no_shelf below

      opened : IsOpen p.chunks shelf
      opened = shelf_opened p.chunks here.standing here refl old

      taken : IsKept slabs chunks (with_shelf p (b / p.chunks) (shelf_taken shelf k (in_hand who)))
      taken =
          record {
            chunks_stay = kept.chunks_stay;
            slabs_stay = length-set p.shelves _ _ ∙ kept.slabs_stay;
            parts =
                changed_kept p.chunks p.shelves p.moves (b / p.chunks) (shelf_taken shelf k (in_hand who)) below
                (taken_kept p.chunks shelf k (in_hand who) opened there refl)
                (λ same. listed_source (sym opened.listed ∙ same))
                (λ j m i there' waits. dest_stays j shelf k i (in_hand who) (λ same. slab_dest j (sym there ∙ same))
                (listed_dest_stays p.chunks j here.standing here i refl old waits))
                kept.parts;
            dead =
                All-set (λ s. s.standing ≡ Dead → list_any is_some p.moves ≡ true) p.shelves _ _
                (λ same. absurd (listed_dead (sym opened.listed ∙ same))) kept.dead;
          }

-- Moves

module _ (slabs chunks : ℕ) (p : Placing) (kept : IsKept slabs chunks p) (j : ℕ) where
  -- the new buffer of move j leaves a listed slab
  pub begin_event : (m : OpenMove) (q : Placing) → begin_placed p j m ≡ Some q →
      (shelf_at p.shelves (m.from / p.chunks)).standing ≢ Source → (shelf_at p.shelves (m.to / p.chunks)).standing ≡ Listed →
      IsKept slabs chunks q
  begin_event m q e from to = subst (IsKept slabs chunks) says.1 begun
    where
      i : ℕ
      i = m.to / p.chunks

      k : ℕ
      k = m.to % p.chunks

      here : Shelf
      here = shelf_at p.shelves i

      next : Shelf
      next = shelf_taken here k (at_dest j)

      says : (is_on_slab (place_at p m.to) ≡ true) × (with_open_move (with_shelf p i next) j (Some m) ≡ q)
      says = then_some_says _ _ _ e

      there : place_on here k ≡ on_slab
      there = on_slab_says _ says.0

      within : (k < length here.places) × (i < length p.shelves)
      within = (
        reads_within here.places k at_source is_on_slab refl says.0,
        reads_within p.shelves i no_shelf (λ s. is_on_slab (place_on s k)) refl says.0,
      )

      old : IsKeptShelf p.chunks here
      old = kept.parts.each_shelf i no_shelf within.1

      parts : AreKept p.chunks (set p.shelves i next) p.moves
      parts =
          changed_kept p.chunks p.shelves p.moves i next within.1
          (taken_kept p.chunks here k (at_dest j) (kept_open p.chunks here to old) there refl)
          (λ same. listed_source (sym to ∙ same))
          (λ n x g known waits. dest_stays n here k g (at_dest j) (λ same. slab_dest n (sym there ∙ same)) waits)
          kept.parts

      move : IsKeptMove p.chunks (set p.shelves i next) j m
      move =
          record {
            from = λ same. ⊎_elim (λ h. listed_source (sym to ∙ ap (λ s. s.standing) (sym h.1) ∙ same))
                (λ h. from (ap (λ s. s.standing) (sym h.1) ∙ same))
                (set_reads p.shelves i (m.from / p.chunks) next within.1);
            to = λ _.
                ap (λ s. place_on s k) (get_or-set_same p.shelves i next no_shelf within.1)
                ∙ get_or-set_same here.places k (at_dest j) at_source within.0;
          }

      begun : IsKept slabs chunks (with_open_move (with_shelf p i next) j (Some m))
      begun =
          record {
            chunks_stay = kept.chunks_stay;
            slabs_stay = length-set p.shelves _ _ ∙ kept.slabs_stay;
            parts = written_kept p.chunks (set p.shelves i next) p.moves j m (cleared_kept p.chunks (set p.shelves i next) p.moves j parts) move;
            dead =
                All-set (λ s. s.standing ≡ Dead → list_any is_some (set p.moves j (Some m)) ≡ true) p.shelves _ _
                (λ same. absurd (listed_dead (sym to ∙ same)))
                (λ n d below same. any-set_some p.moves j m (kept.dead n d below same));
          }

-- move j isn't pending any more
pub done_kept : (slabs chunks : ℕ) (p : Placing) (j : ℕ) → p.chunks ≡ chunks → length p.shelves ≡ slabs →
    AreKept p.chunks p.shelves (set p.moves j None) → IsKept slabs chunks (move_done p j)
done_kept slabs chunks p j chunks_stay slabs_stay parts = by_moves (list_any is_some left) refl
  where
    left : List (Option OpenMove)
    left = set p.moves j None

    next : Placing
    next = with_open_move p j None

    back : (shelf : Shelf) (standing : Standing) → shelf.standing ≡ standing → IsKeptShelf p.chunks shelf →
        IsKeptShelf p.chunks (cond (is_same_standing Dead standing) (shelf_given_back shelf) shelf)
    back shelf Source is kept = kept
    back shelf Listed is kept = kept
    back shelf Dead is kept = given_back_kept p.chunks shelf kept.size

    alive : (shelf : Shelf) (standing : Standing) → shelf.standing ≡ standing →
        (cond (is_same_standing Dead standing) (shelf_given_back shelf) shelf).standing ≡ Dead → ⊥
    alive shelf Source is same = source_dead (sym is ∙ same)
      where
        source_dead : Source ≡ Dead → ⊥
        source_dead h = cc
    alive shelf Listed is same = listed_dead (sym is ∙ same)
    alive shelf Dead is same = cc

    by_moves : (b : Bool) → list_any is_some left ≡ b →
        IsKept slabs chunks (cond b next (record next { shelves = map dead_given_back next.shelves }))
    by_moves true pending =
        record {
          chunks_stay = chunks_stay;
          slabs_stay = slabs_stay;
          parts = parts;
          dead = λ i d below same. pending;
        }
    by_moves false none =
        record {
          chunks_stay = chunks_stay;
          slabs_stay = length-map p.shelves dead_given_back ∙ slabs_stay;
          parts = record {
            each_shelf =
                All-map (IsKeptShelf p.chunks) dead_given_back p.shelves
                (λ i d below. back (get_or p.shelves i d) (get_or p.shelves i d).standing refl (parts.each_shelf i d below));
            each_move = λ i m there. absurd (both_ways (list_any is_some left) none (any_from_read left i m there));
          };
          dead =
              All-map (λ shelf. shelf.standing ≡ Dead → list_any is_some left ≡ true) dead_given_back p.shelves
              (λ i d below same. absurd (alive (get_or p.shelves i d) (get_or p.shelves i d).standing refl same));
        }

-- What a buffer's change leaves elsewhere

module _ (p : Placing) (b n : ℕ) (out : is_out_place (place_at p b) ≡ true) where
  below_out : b / p.chunks < length p.shelves
  below_out = out_in_shelves p.shelves (b / p.chunks) (b % p.chunks) out

  pub freed_place_stays : (j : ℕ) → has_moves p ≡ true → place_at p b ≢ at_dest j → place_at p n ≡ at_dest j →
      place_at (placing_freed p b) n ≡ at_dest j
  freed_place_stays j pending apart waits =
      ⊎_elim
      (λ h. ap (λ s. place_on s (n % p.chunks)) h.1
      ∙ freed_dest_stays j (has_moves p) (shelf_at p.shelves (b / p.chunks)) (b % p.chunks) (n % p.chunks) pending apart
      (ap (λ i. place_on (shelf_at p.shelves i) (n % p.chunks)) (sym h.0) ∙ waits))
      (λ h. ap (λ s. place_on s (n % p.chunks)) h.1 ∙ waits)
      (set_reads p.shelves (b / p.chunks) (n / p.chunks)
      (shelf_freed (has_moves p) (shelf_at p.shelves (b / p.chunks)) (b % p.chunks)) below_out)

  with_place_standing : (place : Place) →
      (shelf_at (with_place p b place).shelves (n / p.chunks)).standing ≡ (shelf_at p.shelves (n / p.chunks)).standing
  with_place_standing place =
      ⊎_elim
      (λ h. ap (λ s. s.standing) h.1 ∙ ap (λ i. (shelf_at p.shelves i).standing) (sym h.0))
      (λ h. ap (λ s. s.standing) h.1)
      (set_reads p.shelves (b / p.chunks) (n / p.chunks)
      (record (shelf_at p.shelves (b / p.chunks)) { places = set (shelf_at p.shelves (b / p.chunks)).places (b % p.chunks) place })
      below_out)

  pub with_place_same : (place : Place) → place_at p n ≡ place → place_at (with_place p b place) n ≡ place
  with_place_same place already =
      ⊎_elim
      (λ h. ap (λ s. place_on s (n % p.chunks)) h.1
      ∙ ⊎_elim
      (λ same. ap (λ k. get_or (set here.places (b % p.chunks) place) k at_source) same
      ∙ get_or-set_same here.places (b % p.chunks) place at_source (out_within here (b % p.chunks) out))
      (λ other. get_or-set_other here.places (b % p.chunks) (n % p.chunks) place at_source other
      ∙ (ap (λ i. place_on (shelf_at p.shelves i) (n % p.chunks)) (sym h.0) ∙ already))
      (cases_eq (n % p.chunks) (b % p.chunks)))
      (λ h. ap (λ s. place_on s (n % p.chunks)) h.1 ∙ already)
      (set_reads p.shelves (b / p.chunks) (n / p.chunks)
      (record here { places = set here.places (b % p.chunks) place }) below_out)
    where
      here : Shelf
      here = shelf_at p.shelves (b / p.chunks)

dest_apart : (i j : ℕ) (place : Place) → i ≢ j → place ≡ at_dest j → place ≢ at_dest i
dest_apart i j place apart is same = apart (number i j (sym same ∙ is))
  where
    number : (i j : ℕ) → at_dest i ≡ at_dest j → i ≡ j
    number i j h = cc

-- The end of a move, and the client's answer

module _ (slabs chunks : ℕ) (p : Placing) (kept : IsKept slabs chunks p) (j : ℕ) (m : OpenMove) (there : open_move_at p j ≡ Some m) where
  left : List (Option OpenMove)
  left = set p.moves j None

  pending : has_moves p ≡ true
  pending = any_from_read p.moves j m there

  -- a buffer can come back or go elsewhere if it is outside, and is the new one of no other move
  record IsLoose (b : ℕ) : Type 0 where
    out : is_out_place (place_at p b) ≡ true
    waits : (i : ℕ) → i ≢ j → place_at p b ≢ at_dest i

  loose_of_free : (b : ℕ) → IsFree (place_at p b) → IsLoose b
  loose_of_free b loose = record { out = loose.out; waits = λ i apart. loose.waits i }

  loose_of_dest : (b : ℕ) → is_at_dest j (place_at p b) ≡ true → IsLoose b
  loose_of_dest b is =
      let dest : place_at p b ≡ at_dest j = dest_says j (place_at p b) is in
      record { out = ap is_out_place dest; waits = λ i apart. dest_apart i j (place_at p b) apart dest }

  left_parts : AreKept p.chunks p.shelves left
  unfolding left
  left_parts = cleared_kept p.chunks p.shelves p.moves j kept.parts

  back_parts : (b : ℕ) → IsLoose b → AreKept p.chunks (placing_freed p b).shelves left
  unfolding left
  back_parts b loose =
      freed_parts p left left_parts b pending loose.out
      (λ i n known. loose.waits i (read_after_clear p.moves j i n known).0)

  one_back : (b : ℕ) → IsLoose b → IsKept slabs chunks (move_done (placing_freed p b) j)
  unfolding left
  one_back b loose =
      done_kept slabs chunks (placing_freed p b) j kept.chunks_stay (length-set p.shelves _ _ ∙ kept.slabs_stay) (back_parts b loose)

  two_back : (b c : ℕ) → IsFree (place_at p b) → is_at_dest j (place_at p c) ≡ true →
      IsKept slabs chunks (move_done (placing_freed (placing_freed p b) c) j)
  unfolding left
  two_back b c loose is =
      let next : Placing = placing_freed p b in
      let dest : place_at next c ≡ at_dest j =
      freed_place_stays p b c loose.out j pending (loose.waits j) (dest_says j (place_at p c) is) in
      done_kept slabs chunks (placing_freed next c) j kept.chunks_stay
      (length-set next.shelves _ _ ∙ (length-set p.shelves _ _ ∙ kept.slabs_stay))
      (freed_parts next left (back_parts b (loose_of_free b loose)) c pending (ap is_out_place dest)
      (λ i n known. dest_apart i j (place_at next c) (read_after_clear p.moves j i n known).0 dest))

  pub gone_event : (q : Placing) → gone_placed p j m ≡ Some q → IsKept slabs chunks q
  gone_event q e =
      let says : (is_at_dest j (place_at p m.to) ≡ true) × (move_done (placing_freed p m.to) j ≡ q) = then_some_says _ _ _ e in
      subst (IsKept slabs chunks) says.1 (one_back m.to (loose_of_dest m.to says.0))

  unmoved_event : (q : Placing) → end_unmoved p j m ≡ Some q → IsKept slabs chunks q
  unmoved_event q e =
      let says : ((not m.yes && not m.dont_need && is_at_dest j (place_at p m.to)) ≡ true)
      × (move_done (placing_freed p m.to) j ≡ q) = then_some_says _ _ _ e in
      subst (IsKept slabs chunks) says.1 (one_back m.to (loose_of_dest m.to (and_parts _ _ says.0).1))

  pub end_event : (said : Said) (w : ℕ) (q : Placing) → end_placed p j said w m ≡ Some q → IsKept slabs chunks q
  end_event Yes w q e =
      let says : ((m.yes && is_in_hand_of (mover w) (place_at p m.from)) ≡ true)
      × (move_done (placing_freed p m.from) j ≡ q) = then_some_says _ _ _ e in
      subst (IsKept slabs chunks) says.1
      (one_back m.from (loose_of_free m.from (hand_of_says (mover w) (place_at p m.from) (and_parts _ _ says.0).1)))
  end_event No w q e = unmoved_event q e
  end_event Later w q e = unmoved_event q e
  end_event DontNeed w q e =
      let says : ((m.dont_need && is_in_hand_of (mover w) (place_at p m.from) && is_at_dest j (place_at p m.to)) ≡ true)
      × (move_done (placing_freed (placing_freed p m.from) m.to) j ≡ q) = then_some_says _ _ _ e in
      let parts : ((m.dont_need && is_in_hand_of (mover w) (place_at p m.from)) ≡ true) × (is_at_dest j (place_at p m.to) ≡ true) =
      and_parts _ _ says.0 in
      subst (IsKept slabs chunks) says.1
      (two_back m.from m.to (hand_of_says (mover w) (place_at p m.from) (and_parts _ _ parts.0).1) parts.1)
  end_event DontKnow w q e = unmoved_event q e

  -- YES: the object is at the new buffer now, and the old one is in the mover's hand
  yes_effect : (w : ℕ) → place_at p m.to ≡ at_dest j → place_at p m.from ≡ at_client → IsKept slabs chunks (answer_effect p j Yes w m)
  unfolding left
  yes_effect w dest client =
      record {
        chunks_stay = kept.chunks_stay;
        slabs_stay = length-set next.shelves _ _ ∙ (length-set p.shelves _ _ ∙ kept.slabs_stay);
        parts = written_kept p.chunks (with_place next m.from (in_hand (mover w))).shelves p.moves j (record m { yes = true }) after move;
        dead = λ i d below same. any-set_some p.moves j (record m { yes = true }) pending;
      }
    where
      next : Placing
      next = with_place p m.to at_client

      still_client : place_at next m.from ≡ at_client
      still_client = with_place_same p m.to m.from (ap is_out_place dest) at_client client

      between : AreKept p.chunks next.shelves left
      between =
          with_place_kept p left left_parts m.to at_client (ap is_out_place dest) refl
          (λ i n known. dest_apart i j (place_at p m.to) (read_after_clear p.moves j i n known).0 dest)

      after : AreKept p.chunks (with_place next m.from (in_hand (mover w))).shelves left
      after =
          with_place_kept next left between m.from (in_hand (mover w)) (ap is_out_place still_client) refl
          (λ i n known. (client_free (place_at next m.from) still_client).waits i)

      move : IsKeptMove p.chunks (with_place next m.from (in_hand (mover w))).shelves j (record m { yes = true })
      move =
          record {
            from = λ same. (kept.parts.each_move j m there).from
                (sym (with_place_standing p m.to m.from (ap is_out_place dest) at_client)
                ∙ (sym (with_place_standing next m.from m.from (ap is_out_place still_client) (in_hand (mover w))) ∙ same));
            to = λ waits. absurd (both_ways true waits refl);
          }

  -- DONT_NEED: the old buffer is in the mover's hand
  dont_need_effect : (w : ℕ) → place_at p m.from ≡ at_client → IsKept slabs chunks (answer_effect p j DontNeed w m)
  dont_need_effect w client =
      let loose : IsFree (place_at p m.from) = client_free (place_at p m.from) client in
      let next : IsKept slabs chunks (with_place p m.from (in_hand (mover w))) =
      moved_event slabs chunks p kept m.from (in_hand (mover w)) loose refl in
      let old : IsKeptMove p.chunks (with_place p m.from (in_hand (mover w))).shelves j m = next.parts.each_move j m there in
      record {
        chunks_stay = kept.chunks_stay;
        slabs_stay = next.slabs_stay;
        parts =
            written_kept p.chunks (with_place p m.from (in_hand (mover w))).shelves p.moves j (record m { dont_need = true })
            (cleared_kept p.chunks (with_place p m.from (in_hand (mover w))).shelves p.moves j next.parts)
            (record { from = old.from; to = old.to });
        dead = λ i d below same. any-set_some p.moves j (record m { dont_need = true }) pending;
      }

  pub answer_event : (said : Said) (w : ℕ) (q : Placing) → answer_placed p j said w m ≡ Some q → IsKept slabs chunks q
  answer_event said w q e = subst (IsKept slabs chunks) says.1 (by_answer said says.0)
    where
      says : ((is_at_dest j (place_at p m.to) && not m.yes && not m.dont_need
          && (cond (gives_up said) (is_at_client (place_at p m.from)) true)) ≡ true) × (answer_effect p j said w m ≡ q)
      says = then_some_says _ _ _ e

      dest : (said : Said) → (is_at_dest j (place_at p m.to) && not m.yes && not m.dont_need
          && (cond (gives_up said) (is_at_client (place_at p m.from)) true)) ≡ true → place_at p m.to ≡ at_dest j
      dest said h = dest_says j (place_at p m.to) (and_parts _ _ (and_parts _ _ (and_parts _ _ h).0).0).0

      by_answer : (said : Said) → (is_at_dest j (place_at p m.to) && not m.yes && not m.dont_need
          && (cond (gives_up said) (is_at_client (place_at p m.from)) true)) ≡ true → IsKept slabs chunks (answer_effect p j said w m)
      by_answer Yes h = yes_effect w (dest Yes h) (client_says (place_at p m.from) (and_parts _ _ h).1)
      by_answer No h = kept
      by_answer Later h = kept
      by_answer DontNeed h = dont_need_effect w (client_says (place_at p m.from) (and_parts _ _ h).1)
      by_answer DontKnow h = kept

-- All events

-- what the cache state adds for a placing: a move begins off a slab that isn't in the source, to a listed one
abbrev pub IsAllowed : Placing → Event → Type 0
IsAllowed p (begin j from to) =
    ((shelf_at p.shelves (from / p.chunks)).standing ≢ Source) × ((shelf_at p.shelves (to / p.chunks)).standing ≡ Listed)
IsAllowed p _ = Unit {0}

module _ (slabs chunks : ℕ) (p : Placing) (kept : IsKept slabs chunks p) where
  round_out_event : (b : ℕ) (place : Place) → place_at p b ≡ place → (q : Placing) → round_out_from p b place ≡ Some q → IsKept slabs chunks q
  round_out_event b (in_magazine m) is q e = by_holder (holder_at p m) e
    where
      by_holder : (h : Holder) → round_out_placed p b h ≡ Some q → IsKept slabs chunks q
      by_holder (party who) g =
          let same : with_place p b (in_hand who) ≡ q = cc in
          subst (IsKept slabs chunks) same (moved_event slabs chunks p kept b (in_hand who) (held_says _ (ap is_held is)) refl)
      by_holder depot g = absurd (cc)
  round_out_event b at_source is q e = absurd (cc)
  round_out_event b on_slab is q e = absurd (cc)
  round_out_event b (in_hand who) is q e = absurd (cc)
  round_out_event b at_client is q e = absurd (cc)
  round_out_event b (at_dest j) is q e = absurd (cc)

  pub placed_kept : (e : Event) (q : Placing) → placed p e ≡ Some q → IsAllowed p e → IsKept slabs chunks q
  placed_kept (alloc b who) q h ok = alloc_event slabs chunks p kept b who q h
  placed_kept (free b) q h ok =
      let says : (is_held (place_at p b) ≡ true) × (placing_freed p b ≡ q) = then_some_says _ _ _ h in
      subst (IsKept slabs chunks) says.1 (freed_event slabs chunks p kept b (held_says (place_at p b) says.0))
  placed_kept (round_in b m) q h ok =
      let says : ((holds (holder_at p m) (place_at p b) && nat_lt (rounds p m) 8) ≡ true) × (with_place p b (in_magazine m) ≡ q) =
      then_some_says _ _ _ h in
      subst (IsKept slabs chunks) says.1
      (moved_event slabs chunks p kept b (in_magazine m) (holds_says (holder_at p m) (place_at p b) (and_parts _ _ says.0).0) refl)
  placed_kept (round_out b) q h ok = round_out_event b (place_at p b) refl q h
  placed_kept (depot_swap m n) q h ok =
      subst (IsKept slabs chunks) (then_some_says _ _ _ h).1
      (record { chunks_stay = kept.chunks_stay; slabs_stay = kept.slabs_stay; parts = kept.parts; dead = kept.dead })
  placed_kept (keep b) q h ok =
      let says : (is_in_hand (place_at p b) ≡ true) × (with_place p b at_client ≡ q) = then_some_says _ _ _ h in
      subst (IsKept slabs chunks) says.1 (moved_event slabs chunks p kept b at_client (hand_says (place_at p b) says.0) refl)
  placed_kept (leave b who) q h ok =
      let says : (is_at_client (place_at p b) ≡ true) × (with_place p b (in_hand who) ≡ q) = then_some_says _ _ _ h in
      subst (IsKept slabs chunks) says.1
      (moved_event slabs chunks p kept b (in_hand who) (client_free (place_at p b) (client_says (place_at p b) says.0)) refl)
  placed_kept (begin j from to) q h ok =
      begin_event slabs chunks p kept j (record { from = from; to = to; yes = false; dont_need = false }) q h ok.0 ok.1
  placed_kept (answer j said w) q h ok =
      let (m, there, g) = and_then_says (answer_placed p j said w) (open_move_at p j) q h in
      answer_event slabs chunks p kept j m there said w q g
  placed_kept (gone j) q h ok =
      let (m, there, g) = and_then_says (gone_placed p j) (open_move_at p j) q h in
      gone_event slabs chunks p kept j m there q g
  placed_kept (end j said w) q h ok =
      let (m, there, g) = and_then_says (end_placed p j said w) (open_move_at p j) q h in
      end_event slabs chunks p kept j m there said w q g
  placed_kept (cache_alone entry) q h ok = subst (IsKept slabs chunks) (then_some_says _ _ _ h).1 kept
