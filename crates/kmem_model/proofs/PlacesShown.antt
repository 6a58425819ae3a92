-- Each event leaves the cache state showing the placing.
use Rattle.std.proofs.Common.{◌≡◌, ℕ, suc, ◌/◌, ◌%◌, ◌<◌, nat_lt, Bool, true, false, not, ◌&&◌, cond, List, [], ◌∷◌, map, length, get_or, set, All, Option, Some, None, option_and_then, option_map, is_some, sym, ◌∙◌, ap, ap₂, refl, subst, arith}
use Rattle.std.specs.List.{list_any}
use Rattle.std.proofs.lemmas.Bool.{and_parts}
use Rattle.std.proofs.lemmas.List.{map-set}
use Rattle.std.proofs.lemmas.List.Elements.{All-set}
use Rattle.kmem_model.proofs.CacheLists.{reads_within, get_or-map_default, map-map, map-set_unseen, any-map, any_from_read}
use Rattle.kmem_model.proofs.PlacesShelf.{IsKeptShelf, freed_kept}
use Rattle.kmem_model.proofs.PlacesKept.{IsKept, IsFree, then_some_says, and_then_says, client_says, dest_says, held_says, hand_says, hand_of_says, holds_says, out_in_shelves}
use Rattle.kmem_model.proofs.PlacesEvents.{IsAllowed, freed_place_stays, with_place_same}
use Rattle.kmem_model.proofs.CacheChoices.{map_says}
use Rattle.kmem_model.proofs.PlacesOutline.{outline, shelf_listed_outline, taken_outline, freed_outline, given_back_outline, answered_outline}
use Rattle.kmem_model.specs.CacheState.{SlabState, CacheState, no_slab, slab_at, is_out, move_at, has_pending}
use Rattle.kmem_model.specs.CacheEnter.{unmarked, slab_taken, slab_freed, slab_given_back, slab_answered, on_slab_of, with_out, emptied_goes, freed, all_freed, without_move, with_answer, scan_started, is_full, ended, enter, gone as gone_entry}
use Rattle.kmem_model.specs.CacheOrder.{is_idle}
use Rattle.kmem_model.specs.Places.{Party, mover, Place, at_source, on_slab, in_hand, in_magazine, at_client, at_dest, Holder, party, depot, OpenMove, Shelf, Placing, is_out_place, is_on_slab, is_at_client, is_in_hand, is_held, is_at_dest, is_in_hand_of, no_shelf, shelf_at, place_on, place_at, holder_at, open_move_at, has_moves, rounds}
use Rattle.kmem_model.specs.PlacesEvent.{Event, alloc, free, round_in, round_out, depot_swap, keep, leave, begin, answer, gone, end, cache_alone, shelf_listed, shelf_taken, shelf_freed, with_shelf, with_place, placing_freed, with_open_move, dead_given_back, move_done, alloc_placed, holds, round_out_placed, round_out_from, begin_placed, answer_effect, gives_up, answer_placed, gone_placed, end_unmoved, end_placed, moves_nothing, placed, entry_of, entered}
use Rattle.kmem_model.specs.PlacesLaw.{slab_outline, shelf_outline, move_outline, Shows}
use Rattle.kmem_model.specs.declared.cache_state.Standing.TheVariants.{Source, Listed, Dead}
use Rattle.kmem_model.specs.declared.cache_entry.Said.{Said}
use Rattle.kmem_model.specs.declared.cache_entry.Said.TheVariants.{Yes, No, Later, DontNeed, DontKnow}
use Rattle.kmem_model.specs.declared.cache_entry.CacheEntry.{CacheEntry}
use Rattle.kmem_model.specs.declared.cache_entry.CacheEntry.TheVariants.{Alloc, Full, Free, Scan, Begin, Idle, Gone, End, Forget}

unless_says : {X : Type 0} (b : Bool) (o : Option X) (x : X) → cond b None o ≡ Some x → o ≡ Some x
unless_says true o x e = absurd (cc)
unless_says false o x e = e

-- dead slabs go back on both sides
back_shown : (chunks : ℕ) (slabs : List SlabState) (shelves : List Shelf) → map slab_outline slabs ≡ map shelf_outline shelves →
    All (IsKeptShelf chunks) shelves → map slab_outline (map slab_given_back slabs) ≡ map shelf_outline (map dead_given_back shelves)
back_shown chunks [] [] same kept = refl
back_shown chunks [] (shelf ∷ shelves) same kept = absurd (cc)
back_shown chunks (slab ∷ slabs) [] same kept = absurd (cc)
back_shown chunks (slab ∷ slabs) (shelf ∷ shelves) same kept =
    let first : slab_outline slab ≡ shelf_outline shelf = cc in
    let rest : map slab_outline slabs ≡ map shelf_outline shelves = cc in
    ap₂ (λ x xs. x ∷ xs) (given_back_outline chunks slab shelf (kept 0 shelf (omega arith)) first)
    (back_shown chunks slabs shelves rest (λ i d below. kept (suc i) d (omega arith)))

module _ (s : CacheState) (p : Placing) (shown : Shows s p) where
  -- the slab and the shelf with one number
  pub same_at : (i : ℕ) → slab_outline (slab_at s.slabs i) ≡ shelf_outline (shelf_at p.shelves i)
  same_at i =
      sym (get_or-map_default slab_outline s.slabs i no_slab)
      ∙ (ap (λ xs. get_or xs i (outline Source [])) shown.slabs ∙ get_or-map_default shelf_outline p.shelves i no_shelf)

  pub same_pending : has_pending s ≡ has_moves p
  same_pending = ap (list_any is_some) shown.moves ∙ any-map move_outline p.moves

  pub same_move : (j : ℕ) → move_at s j ≡ option_map move_outline (open_move_at p j)
  same_move j =
      ap (λ xs. get_or xs j None) shown.moves ∙ get_or-map_default (option_map move_outline) p.moves j None

  -- a slab and its shelf change alike
  pub changed_shown : (b : ℕ) (change : SlabState → ℕ → SlabState) (shelf : Shelf) →
      slab_outline (change (slab_at s.slabs (b / p.chunks)) (b % p.chunks)) ≡ shelf_outline shelf →
      Shows (on_slab_of s b change) (with_shelf p (b / p.chunks) shelf)
  changed_shown b change shelf same =
      record {
        chunks = shown.chunks;
        slabs =
            subst
            (λ c. map slab_outline (set s.slabs (b / c) (change (slab_at s.slabs (b / c)) (b % c)))
            ≡ map shelf_outline (set p.shelves (b / p.chunks) shelf))
            (sym shown.chunks)
            (map-set slab_outline s.slabs (b / p.chunks) (change (slab_at s.slabs (b / p.chunks)) (b % p.chunks))
            ∙ (ap₂ (λ xs x. set xs (b / p.chunks) x) shown.slabs same ∙ sym (map-set shelf_outline p.shelves (b / p.chunks) shelf)));
        moves = shown.moves;
      }

  -- a buffer comes back
  pub freed_shown : (b : ℕ) (t : CacheState) → All (IsKeptShelf p.chunks) p.shelves → is_out_place (place_at p b) ≡ true →
      freed s b ≡ Some t → Shows t (placing_freed p b)
  freed_shown b t kept out e =
      let below : b / p.chunks < length p.shelves = out_in_shelves p.shelves (b / p.chunks) (b % p.chunks) out in
      subst (λ x. Shows x (placing_freed p b)) (then_some_says _ _ _ e).1
      (changed_shown b (slab_freed (emptied_goes s)) (shelf_freed (has_moves p) (shelf_at p.shelves (b / p.chunks)) (b % p.chunks))
      (subst
      (λ x. slab_outline (slab_freed (cond x Dead Source) (slab_at s.slabs (b / p.chunks)) (b % p.chunks))
      ≡ shelf_outline (shelf_freed (has_moves p) (shelf_at p.shelves (b / p.chunks)) (b % p.chunks)))
      (sym same_pending)
      (freed_outline p.chunks (has_moves p) (slab_at s.slabs (b / p.chunks)) (shelf_at p.shelves (b / p.chunks)) (b % p.chunks)
      (kept (b / p.chunks) no_shelf below) out (same_at (b / p.chunks)))))

  -- a move isn't pending any more
  pub done_shown : (j : ℕ) → All (IsKeptShelf p.chunks) p.shelves → Shows (without_move s j) (move_done p j)
  done_shown j kept =
      subst (λ b. Shows (cond b next (record next { slabs = map slab_given_back s.slabs })) (move_done p j)) (sym pending)
      (by_moves (list_any is_some (set p.moves j None)))
    where
      next : CacheState
      next = record s { pending = set s.pending j None }

      placing : Placing
      placing = with_open_move p j None

      moves : next.pending ≡ map (option_map move_outline) placing.moves
      moves = ap (λ xs. set xs j None) shown.moves ∙ sym (map-set (option_map move_outline) p.moves j None)

      pending : list_any is_some next.pending ≡ list_any is_some placing.moves
      pending = ap (list_any is_some) moves ∙ any-map move_outline placing.moves

      back : map slab_outline (map slab_given_back s.slabs) ≡ map shelf_outline (map dead_given_back p.shelves)
      back = back_shown p.chunks s.slabs p.shelves shown.slabs kept

      by_moves : (b : Bool) → Shows (cond b next (record next { slabs = map slab_given_back s.slabs }))
          (cond b placing (record placing { shelves = map dead_given_back p.shelves }))
      by_moves true = record { chunks = shown.chunks; slabs = shown.slabs; moves = moves }
      by_moves false = record { chunks = shown.chunks; slabs = back; moves = moves }

  -- what an answer leaves isn't seen
  pub answered_shown : (b : ℕ) (said : Said) → Shows (with_answer s b said) p
  answered_shown b said = by_out (is_out s b)
    where
      by_out : (x : Bool) → Shows (cond x (on_slab_of s b (slab_answered said)) s) p
      by_out true =
          record {
            chunks = shown.chunks;
            slabs =
                map-set_unseen slab_outline s.slabs (b / s.chunks) (slab_answered said (slab_at s.slabs (b / s.chunks)) (b % s.chunks)) no_slab
                (answered_outline said (slab_at s.slabs (b / s.chunks)) (b % s.chunks))
                ∙ shown.slabs;
            moves = shown.moves;
          }
      by_out false = shown

  -- a buffer goes from one place outside to another
  pub moved_shown : (b : ℕ) (place : Place) → is_out_place (place_at p b) ≡ true → is_out_place place ≡ true → Shows s (with_place p b place)
  moved_shown b place out goes =
      record {
        chunks = shown.chunks;
        slabs =
            shown.slabs
            ∙ sym (map-set_unseen shelf_outline p.shelves (b / p.chunks)
            (record here { places = set here.places (b % p.chunks) place }) no_shelf
            (ap (outline here.standing)
            (map-set_unseen is_out_place here.places (b % p.chunks) place at_source (goes ∙ sym out))));
        moves = shown.moves;
      }
    where
      here : Shelf
      here = shelf_at p.shelves (b / p.chunks)

  -- the moves change in a way that the state doesn't see
  pub flagged_shown : (j : ℕ) (m n : OpenMove) → open_move_at p j ≡ Some m → move_outline n ≡ move_outline m →
      Shows s (with_open_move p j (Some n))
  flagged_shown j m n there same =
      record {
        chunks = shown.chunks;
        slabs = shown.slabs;
        moves =
            shown.moves
            ∙ sym (map-set_unseen (option_map move_outline) p.moves j (Some n) None
            (ap Some same ∙ sym (ap (option_map move_outline) there)));
      }

-- freeing keeps each shelf
pub shelves_freed : (p : Placing) (b : ℕ) → All (IsKeptShelf p.chunks) p.shelves → is_out_place (place_at p b) ≡ true →
    All (IsKeptShelf p.chunks) (placing_freed p b).shelves
shelves_freed p b kept out =
    let below : b / p.chunks < length p.shelves = out_in_shelves p.shelves (b / p.chunks) (b % p.chunks) out in
    All-set (IsKeptShelf p.chunks) p.shelves _ _
    (freed_kept p.chunks (has_moves p) (shelf_at p.shelves (b / p.chunks)) (b % p.chunks) (kept (b / p.chunks) no_shelf below) out) kept

module _ (slabs chunks : ℕ) (s : CacheState) (p : Placing) (kept : IsKept slabs chunks p) (shown : Shows s p) where
  each_shelf : All (IsKeptShelf p.chunks) p.shelves
  each_shelf = kept.parts.each_shelf

  alloc_shown : (b : ℕ) (who : Party) (q : Placing) (t : CacheState) → alloc_placed p b who ≡ Some q → enter s (Alloc b) ≡ Some t → Shows t q
  alloc_shown b who q t e g =
      let says : (is_on_slab (place_on shelf k) ≡ true) × (with_shelf p i (shelf_taken shelf k (in_hand who)) ≡ q) = then_some_says _ _ _ e in
      let below : i < length p.shelves =
      reads_within p.shelves i no_shelf (λ x. is_on_slab (place_on (shelf_listed x.standing x) k)) refl says.0 in
      subst (Shows t) says.1
      (subst (λ x. Shows x (with_shelf p i (shelf_taken shelf k (in_hand who)))) (then_some_says _ _ _ g).1
      (changed_shown s p shown b slab_taken (shelf_taken shelf k (in_hand who))
      (taken_outline (slab_at s.slabs i) shelf k (in_hand who) refl
      (shelf_listed_outline p.chunks here.standing here refl (each_shelf i no_shelf below)
      ∙ ap (λ o. outline Listed o.out) (sym (same_at s p shown i))))))
    where
      i : ℕ
      i = b / p.chunks

      k : ℕ
      k = b % p.chunks

      here : Shelf
      here = shelf_at p.shelves (b / p.chunks)

      shelf : Shelf
      shelf = shelf_listed here.standing here

  begin_shown : (j from to : ℕ) (q : Placing) (t : CacheState) →
      begin_placed p j (record { from = from; to = to; yes = false; dont_need = false }) ≡ Some q → enter s (Begin j from to) ≡ Some t →
      (shelf_at p.shelves (to / p.chunks)).standing ≡ Listed → Shows t q
  begin_shown j from to q t e g listed =
      subst (Shows t) (then_some_says _ _ _ e).1
      (subst (λ x. Shows x (with_open_move (with_shelf p i next) j (Some opened))) (then_some_says _ _ _ g).1
      (record {
        chunks = out.chunks;
        slabs = out.slabs;
        moves =
            ap (λ xs. set xs j (Some (record { from = from; to = to }))) out.moves
            ∙ sym (map-set (option_map move_outline) p.moves j (Some opened));
      }))
    where
      opened : OpenMove
      opened = record { from = from; to = to; yes = false; dont_need = false }

      i : ℕ
      i = to / p.chunks

      here : Shelf
      here = shelf_at p.shelves i

      next : Shelf
      next = shelf_taken here (to % p.chunks) (at_dest j)

      out : Shows (with_out s to) (with_shelf p i next)
      out =
          changed_shown s p shown to slab_taken next
          (taken_outline (slab_at s.slabs i) here (to % p.chunks) (at_dest j) refl
          (ap₂ outline listed (ap (λ o. o.out) (sym (same_at s p shown i)))))

  module _ (j : ℕ) (m : OpenMove) (there : open_move_at p j ≡ Some m) where
    at_move : move_at s j ≡ Some (move_outline m)
    at_move = same_move s p shown j ∙ ap (option_map move_outline) there

    -- a buffer is freed, an answer noted, and the move is over
    one_shown : (b : ℕ) (said : Said) (t : CacheState) → is_out_place (place_at p b) ≡ true →
        option_map (λ next. without_move (with_answer next m.from said) j) (all_freed s (b ∷ [])) ≡ Some t →
        Shows t (move_done (placing_freed p b) j)
    one_shown b said t out e =
        let (x, e1, is) = map_says (λ next. without_move (with_answer next m.from said) j) (all_freed s (b ∷ [])) t e in
        let (y, e2, same) = and_then_says (λ next. all_freed next []) (freed s b) x e1 in
        let last : x ≡ y = cc in
        subst (λ z. Shows z (move_done (placing_freed p b) j)) is
        (done_shown (with_answer x m.from said) (placing_freed p b)
        (answered_shown x (placing_freed p b)
        (freed_shown s p shown b x each_shelf out (e2 ∙ ap Some (sym last))) m.from said)
        j (shelves_freed p b each_shelf out))

    two_shown : (w : ℕ) (t : CacheState) → IsFree (place_at p m.from) → place_at p m.to ≡ at_dest j →
        option_map (λ next. without_move (with_answer next m.from DontNeed) j) (all_freed s (m.from ∷ (m.to ∷ []))) ≡ Some t →
        Shows t (move_done (placing_freed (placing_freed p m.from) m.to) j)
    two_shown w t loose dest e =
        let (x, e1, is) = map_says (λ next. without_move (with_answer next m.from DontNeed) j) (all_freed s (m.from ∷ (m.to ∷ []))) t e in
        let (y, e2, e3) = and_then_says (λ next. all_freed next (m.to ∷ [])) (freed s m.from) x e1 in
        let (z, e4, same) = and_then_says (λ next. all_freed next []) (freed y m.to) x e3 in
        let last : x ≡ z = cc in
        let first : Placing = placing_freed p m.from in
        let shelves : All (IsKeptShelf p.chunks) first.shelves = shelves_freed p m.from each_shelf loose.out in
        let out : is_out_place (place_at first m.to) ≡ true =
        ap is_out_place (freed_place_stays p m.from m.to loose.out j (any_from_read p.moves j m there) (loose.waits j) dest) in
        subst (λ v. Shows v (move_done (placing_freed first m.to) j)) is
        (done_shown (with_answer x m.from DontNeed) (placing_freed first m.to)
        (answered_shown x (placing_freed first m.to)
        (freed_shown y first (freed_shown s p shown m.from y each_shelf loose.out e2) m.to x shelves out (e4 ∙ ap Some (sym last)))
        m.from DontNeed)
        j (shelves_freed first m.to shelves out))

    gone_shown : (q : Placing) (t : CacheState) → gone_placed p j m ≡ Some q → enter s (Gone j) ≡ Some t → Shows t q
    gone_shown q t e g =
        let says : (is_at_dest j (place_at p m.to) ≡ true) × (move_done (placing_freed p m.to) j ≡ q) = then_some_says _ _ _ e in
        let out : is_out_place (place_at p m.to) ≡ true = ap is_out_place (dest_says j (place_at p m.to) says.0) in
        let h : gone_entry s j (move_outline m) ≡ Some t = subst (λ o. option_and_then (gone_entry s j) o ≡ Some t) at_move g in
        let (x, e1, is) = map_says (λ next. without_move next j) (freed s m.to) t (unless_says (is_out s m.from) _ t h) in
        subst (Shows t) says.1
        (subst (λ z. Shows z (move_done (placing_freed p m.to) j)) is
        (done_shown x (placing_freed p m.to) (freed_shown s p shown m.to x each_shelf out e1) j (shelves_freed p m.to each_shelf out)))

    unmoved_shown : (said : Said) (q : Placing) (t : CacheState) → end_unmoved p j m ≡ Some q →
        option_map (λ next. without_move (with_answer next m.from said) j) (all_freed s (m.to ∷ [])) ≡ Some t → Shows t q
    unmoved_shown said q t e g =
        let says : ((not m.yes && not m.dont_need && is_at_dest j (place_at p m.to)) ≡ true)
        × (move_done (placing_freed p m.to) j ≡ q) = then_some_says _ _ _ e in
        subst (Shows t) says.1
        (one_shown m.to said t (ap is_out_place (dest_says j (place_at p m.to) (and_parts _ _ says.0).1)) g)

    end_shown : (said : Said) (w : ℕ) (q : Placing) (t : CacheState) → end_placed p j said w m ≡ Some q →
        ended s j said (move_outline m) ≡ Some t → Shows t q
    end_shown Yes w q t e g =
        let says : ((m.yes && is_in_hand_of (mover w) (place_at p m.from)) ≡ true)
        × (move_done (placing_freed p m.from) j ≡ q) = then_some_says _ _ _ e in
        subst (Shows t) says.1
        (one_shown m.from Yes t (hand_of_says (mover w) (place_at p m.from) (and_parts _ _ says.0).1).out g)
    end_shown No w q t e g = unmoved_shown No q t e g
    end_shown Later w q t e g = unmoved_shown Later q t e g
    end_shown DontNeed w q t e g =
        let says : ((m.dont_need && is_in_hand_of (mover w) (place_at p m.from) && is_at_dest j (place_at p m.to)) ≡ true)
        × (move_done (placing_freed (placing_freed p m.from) m.to) j ≡ q) = then_some_says _ _ _ e in
        let parts : ((m.dont_need && is_in_hand_of (mover w) (place_at p m.from)) ≡ true) × (is_at_dest j (place_at p m.to) ≡ true) =
        and_parts _ _ says.0 in
        subst (Shows t) says.1
        (two_shown w t (hand_of_says (mover w) (place_at p m.from) (and_parts _ _ parts.0).1) (dest_says j (place_at p m.to) parts.1) g)
    end_shown DontKnow w q t e g = unmoved_shown DontKnow q t e g

    -- the client's answer moves buffers that are outside
    answer_shown : (said : Said) (w : ℕ) (q : Placing) → answer_placed p j said w m ≡ Some q → Shows s q
    answer_shown said w q e = subst (Shows s) says.1 (by_answer said says.0)
      where
        says : ((is_at_dest j (place_at p m.to) && not m.yes && not m.dont_need
            && (cond (gives_up said) (is_at_client (place_at p m.from)) true)) ≡ true) × (answer_effect p j said w m ≡ q)
        says = then_some_says _ _ _ e

        by_answer : (said : Said) → (is_at_dest j (place_at p m.to) && not m.yes && not m.dont_need
            && (cond (gives_up said) (is_at_client (place_at p m.from)) true)) ≡ true → Shows s (answer_effect p j said w m)
        by_answer Yes h =
            let dest : place_at p m.to ≡ at_dest j = dest_says j (place_at p m.to) (and_parts _ _ (and_parts _ _ (and_parts _ _ h).0).0).0 in
            let out : is_out_place (place_at p m.to) ≡ true = ap is_out_place dest in
            let client : place_at (with_place p m.to at_client) m.from ≡ at_client =
            with_place_same p m.to m.from out at_client (client_says (place_at p m.from) (and_parts _ _ h).1) in
            flagged_shown s (with_place (with_place p m.to at_client) m.from (in_hand (mover w)))
            (moved_shown s (with_place p m.to at_client) (moved_shown s p shown m.to at_client out refl) m.from (in_hand (mover w))
            (ap is_out_place client) refl)
            j m (record m { yes = true }) there refl
        by_answer No h = shown
        by_answer Later h = shown
        by_answer DontNeed h =
            let client : place_at p m.from ≡ at_client = client_says (place_at p m.from) (and_parts _ _ h).1 in
            flagged_shown s (with_place p m.from (in_hand (mover w)))
            (moved_shown s p shown m.from (in_hand (mover w)) (ap is_out_place client) refl)
            j m (record m { dont_need = true }) there refl
        by_answer DontKnow h = shown

  -- an event without an entry
  stays_shown : (q : Placing) (t : CacheState) → ◌≡◌ {A = Option CacheState} (Some s) (Some t) → Shows s q → Shows t q
  stays_shown q t e known = let same : s ≡ t = cc in subst (λ x. Shows x q) same known

  round_out_shown : (b : ℕ) (place : Place) → place_at p b ≡ place → (q : Placing) → round_out_from p b place ≡ Some q → Shows s q
  round_out_shown b (in_magazine m) is q e = by_holder (holder_at p m) e
    where
      by_holder : (h : Holder) → round_out_placed p b h ≡ Some q → Shows s q
      by_holder (party who) g =
          let same : with_place p b (in_hand who) ≡ q = cc in
          subst (Shows s) same (moved_shown s p shown b (in_hand who) (ap is_out_place is) refl)
      by_holder depot g = absurd (cc)
  round_out_shown b at_source is q e = absurd (cc)
  round_out_shown b on_slab is q e = absurd (cc)
  round_out_shown b (in_hand who) is q e = absurd (cc)
  round_out_shown b at_client is q e = absurd (cc)
  round_out_shown b (at_dest j) is q e = absurd (cc)

  -- an entry that moves no buffer
  still_shown : (entry : CacheEntry) (t : CacheState) → moves_nothing entry ≡ true → enter s entry ≡ Some t → Shows t p
  still_shown (Alloc b) t h e = absurd (cc)
  still_shown Full t h e = subst (λ x. Shows x p) (then_some_says (is_full s) s t e).1 shown
  still_shown (Free b) t h e = absurd (cc)
  still_shown (Scan desperate) t h e =
      let same : scan_started s desperate ≡ t = cc in
      subst (λ x. Shows x p) same (record { chunks = shown.chunks; slabs = shown.slabs; moves = shown.moves })
  still_shown (Begin j from to) t h e = absurd (cc)
  still_shown Idle t h e = subst (λ x. Shows x p) (then_some_says (is_idle s) s t e).1 shown
  still_shown (Gone j) t h e = absurd (cc)
  still_shown (End j said) t h e = absurd (cc)
  still_shown Forget t h e =
      let cleared : CacheState = record s { slabs = map unmarked s.slabs } in
      let same : cleared ≡ t = cc in
      subst (λ x. Shows x p) same
      (record { chunks = shown.chunks; slabs = map-map unmarked slab_outline s.slabs ∙ shown.slabs; moves = shown.moves })

  pub placed_shown : (e : Event) (q : Placing) (t : CacheState) → placed p e ≡ Some q → entered s (entry_of e) ≡ Some t →
      IsAllowed p e → Shows t q
  placed_shown (alloc b who) q t h g ok = alloc_shown b who q t h g
  placed_shown (free b) q t h g ok =
      let says : (is_held (place_at p b) ≡ true) × (placing_freed p b ≡ q) = then_some_says _ _ _ h in
      subst (Shows t) says.1 (freed_shown s p shown b t each_shelf (held_says (place_at p b) says.0).out g)
  placed_shown (round_in b m) q t h g ok =
      let says : ((holds (holder_at p m) (place_at p b) && nat_lt (rounds p m) 8) ≡ true) × (with_place p b (in_magazine m) ≡ q) =
      then_some_says _ _ _ h in
      subst (Shows t) says.1
      (stays_shown (with_place p b (in_magazine m)) t g
      (moved_shown s p shown b (in_magazine m) (holds_says (holder_at p m) (place_at p b) (and_parts _ _ says.0).0).out refl))
  placed_shown (round_out b) q t h g ok = stays_shown q t g (round_out_shown b (place_at p b) refl q h)
  placed_shown (depot_swap m n) q t h g ok =
      stays_shown q t g
      (subst (Shows s) (then_some_says _ _ _ h).1 (record { chunks = shown.chunks; slabs = shown.slabs; moves = shown.moves }))
  placed_shown (keep b) q t h g ok =
      let says : (is_in_hand (place_at p b) ≡ true) × (with_place p b at_client ≡ q) = then_some_says _ _ _ h in
      subst (Shows t) says.1
      (stays_shown (with_place p b at_client) t g (moved_shown s p shown b at_client (hand_says (place_at p b) says.0).out refl))
  placed_shown (leave b who) q t h g ok =
      let says : (is_at_client (place_at p b) ≡ true) × (with_place p b (in_hand who) ≡ q) = then_some_says _ _ _ h in
      subst (Shows t) says.1
      (stays_shown (with_place p b (in_hand who)) t g
      (moved_shown s p shown b (in_hand who) (ap is_out_place (client_says (place_at p b) says.0)) refl))
  placed_shown (begin j from to) q t h g ok = begin_shown j from to q t h g ok.1
  placed_shown (answer j said w) q t h g ok =
      let (m, there, e) = and_then_says (answer_placed p j said w) (open_move_at p j) q h in
      stays_shown q t g (answer_shown j m there said w q e)
  placed_shown (gone j) q t h g ok =
      let (m, there, e) = and_then_says (gone_placed p j) (open_move_at p j) q h in
      gone_shown j m there q t e g
  placed_shown (end j said w) q t h g ok =
      let (m, there, e) = and_then_says (end_placed p j said w) (open_move_at p j) q h in
      end_shown j m there said w q t e (subst (λ o. option_and_then (ended s j said) o ≡ Some t) (at_move j m there) g)
  placed_shown (cache_alone entry) q t h g ok =
      let says : (moves_nothing entry ≡ true) × (p ≡ q) = then_some_says _ _ _ h in
      subst (Shows t) says.1 (still_shown entry t says.0 g)
