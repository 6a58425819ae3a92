-- The whole placing: what is kept of it, by which it is lawful at each moment.
use Rattle.std.proofs.Common.{◌≡◌, ◌≢◌, ℕ, ◌/◌, ◌%◌, ◌<◌, Bool, true, false, List, length, get_or, set, All, Option, Some, None, option_and_then, is_some, ◌⊎◌, inl, inr, ⊎_elim, sym, ◌∙◌, ap, refl, subst}
use Rattle.std.specs.Bool.{then_some}
use Rattle.std.specs.List.{list_any}
use Rattle.std.proofs.lemmas.Bool.{cases_eq, eqb-true}
use Rattle.std.proofs.lemmas.List.{get_or-set_same, get_or-set_other}
use Rattle.std.proofs.lemmas.List.Elements.{All-set}
use Rattle.kmem_model.proofs.CacheLists.{reads_within, read_after_clear, read_after_write}
use Rattle.kmem_model.proofs.PlacesShelf.{IsKeptShelf, out_listed, moved_kept, freed_kept, freed_standing, dest_stays, freed_dest_stays}
use Rattle.kmem_model.specs.Places.{Party, Place, at_source, on_slab, in_hand, in_magazine, at_client, at_dest, Holder, party, depot, OpenMove, Shelf, Placing, is_out_place, is_on_slab, is_at_client, is_in_hand, is_held, is_at_dest, is_in_hand_of, no_shelf, shelf_at, place_on, place_at, has_moves}
use Rattle.kmem_model.specs.PlacesEvent.{shelf_freed, with_place, placing_freed, holds}
use Rattle.kmem_model.specs.declared.cache_state.Standing.TheVariants.{Source, Listed, Dead}

-- what is kept of pending move j
pub record IsKeptMove (chunks : ℕ) (shelves : List Shelf) (j : ℕ) (m : OpenMove) : Type 0 where
  pub from : (shelf_at shelves (m.from / chunks)).standing ≢ Source
  pub to : m.yes ≡ false → place_on (shelf_at shelves (m.to / chunks)) (m.to % chunks) ≡ at_dest j

abbrev pub AreKeptMoves : ℕ → List Shelf → List (Option OpenMove) → Type 0
AreKeptMoves chunks shelves moves = (j : ℕ) (m : OpenMove) → get_or moves j None ≡ Some m → IsKeptMove chunks shelves j m

-- the slabs, with the moves that are looked at
pub record AreKept (chunks : ℕ) (shelves : List Shelf) (moves : List (Option OpenMove)) : Type 0 where
  pub each_shelf : All (IsKeptShelf chunks) shelves
  pub each_move : AreKeptMoves chunks shelves moves

-- dead slabs only while a move is pending
abbrev pub AreDeadInMoves : List Shelf → List (Option OpenMove) → Type 0
AreDeadInMoves shelves moves = All (λ shelf. shelf.standing ≡ Dead → list_any is_some moves ≡ true) shelves

-- what is kept of a placing with this many slabs and buffers in a slab
pub record IsKept (slabs chunks : ℕ) (p : Placing) : Type 0 where
  pub chunks_stay : p.chunks ≡ chunks
  pub slabs_stay : length p.shelves ≡ slabs
  pub parts : AreKept p.chunks p.shelves p.moves
  pub dead : AreDeadInMoves p.shelves p.moves

-- Options and tests

pub then_some_says : {X : Type 0} (b : Bool) (x y : X) → then_some b x ≡ Some y → (b ≡ true) × (x ≡ y)
then_some_says true x y e = (refl, cc)
then_some_says false x y e = absurd (cc)

pub and_then_says : {X Y : Type 0} (f : X → Option Y) (o : Option X) (y : Y) → option_and_then f o ≡ Some y → (x : X) × (o ≡ Some x) × (f x ≡ Some y)
and_then_says f None y e = absurd (cc)
and_then_says f (Some x) y e = (x, refl, e)

pub on_slab_says : (place : Place) → is_on_slab place ≡ true → place ≡ on_slab
on_slab_says on_slab e = refl
on_slab_says at_source e = absurd (cc)
on_slab_says (in_hand who) e = absurd (cc)
on_slab_says (in_magazine m) e = absurd (cc)
on_slab_says at_client e = absurd (cc)
on_slab_says (at_dest j) e = absurd (cc)

pub client_says : (place : Place) → is_at_client place ≡ true → place ≡ at_client
client_says at_client e = refl
client_says at_source e = absurd (cc)
client_says on_slab e = absurd (cc)
client_says (in_hand who) e = absurd (cc)
client_says (in_magazine m) e = absurd (cc)
client_says (at_dest j) e = absurd (cc)

pub dest_says : (j : ℕ) (place : Place) → is_at_dest j place ≡ true → place ≡ at_dest j
dest_says j (at_dest i) e = ap at_dest (eqb-true i j e)
dest_says j at_source e = absurd (cc)
dest_says j on_slab e = absurd (cc)
dest_says j (in_hand who) e = absurd (cc)
dest_says j (in_magazine m) e = absurd (cc)
dest_says j at_client e = absurd (cc)

-- outside, and no move's new buffer
pub record IsFree (place : Place) : Type 0 where
  pub out : is_out_place place ≡ true
  pub waits : (j : ℕ) → place ≢ at_dest j

pub held_says : (place : Place) → is_held place ≡ true → IsFree place
held_says (in_hand who) e = record { out = refl; waits = λ j same. absurd (cc) }
held_says (in_magazine m) e = record { out = refl; waits = λ j same. absurd (cc) }
held_says at_source e = absurd (cc)
held_says on_slab e = absurd (cc)
held_says at_client e = absurd (cc)
held_says (at_dest j) e = absurd (cc)

pub hand_says : (place : Place) → is_in_hand place ≡ true → IsFree place
hand_says (in_hand who) e = held_says (in_hand who) refl
hand_says at_source e = absurd (cc)
hand_says on_slab e = absurd (cc)
hand_says (in_magazine m) e = absurd (cc)
hand_says at_client e = absurd (cc)
hand_says (at_dest j) e = absurd (cc)

pub hand_of_says : (who : Party) (place : Place) → is_in_hand_of who place ≡ true → IsFree place
hand_of_says who (in_hand other) e = held_says (in_hand other) refl
hand_of_says who at_source e = absurd (cc)
hand_of_says who on_slab e = absurd (cc)
hand_of_says who (in_magazine m) e = absurd (cc)
hand_of_says who at_client e = absurd (cc)
hand_of_says who (at_dest j) e = absurd (cc)

pub holds_says : (h : Holder) (place : Place) → holds h place ≡ true → IsFree place
holds_says (party who) (in_hand other) e = held_says (in_hand other) refl
holds_says (party who) at_source e = absurd (cc)
holds_says (party who) on_slab e = absurd (cc)
holds_says (party who) (in_magazine m) e = absurd (cc)
holds_says (party who) at_client e = absurd (cc)
holds_says (party who) (at_dest j) e = absurd (cc)
holds_says depot place e = absurd (cc)

pub client_free : (place : Place) → place ≡ at_client → IsFree place
client_free place e = record { out = ap is_out_place e; waits = λ j same. apart j (sym e ∙ same) }
  where
    apart : (j : ℕ) → at_client ≡ at_dest j → ⊥
    apart j h = cc

-- One slab changes

-- a buffer that is out lies on one of the slabs
pub out_in_shelves : (shelves : List Shelf) (i k : ℕ) → is_out_place (place_on (shelf_at shelves i) k) ≡ true → i < length shelves
out_in_shelves shelves i k out = reads_within shelves i no_shelf (λ shelf. is_out_place (place_on shelf k)) refl out

pub set_reads : (shelves : List Shelf) (i n : ℕ) (shelf : Shelf) → i < length shelves →
    ((n ≡ i) × (shelf_at (set shelves i shelf) n ≡ shelf)) ⊎ ((n ≢ i) × (shelf_at (set shelves i shelf) n ≡ shelf_at shelves n))
set_reads shelves i n shelf below =
    ⊎_elim
    (λ same. inl (same, ap (shelf_at (set shelves i shelf)) same ∙ get_or-set_same shelves i shelf no_shelf below))
    (λ other. inr (other, get_or-set_other shelves i n shelf no_shelf other))
    (cases_eq n i)

module _ (chunks : ℕ) (shelves : List Shelf) (moves : List (Option OpenMove)) (i : ℕ) (shelf : Shelf) where
  -- what waits on the changed slab still does
  abbrev pub KeepsDests : Type 0
  KeepsDests = (j : ℕ) (m : OpenMove) (k : ℕ) → get_or moves j None ≡ Some m → place_on (shelf_at shelves i) k ≡ at_dest j → place_on shelf k ≡ at_dest j

  pub changed_kept : i < length shelves → IsKeptShelf chunks shelf → shelf.standing ≢ Source → KeepsDests →
      AreKept chunks shelves moves → AreKept chunks (set shelves i shelf) moves
  changed_kept below kept stands dests parts =
      record {
        each_shelf = All-set (IsKeptShelf chunks) shelves i shelf kept parts.each_shelf;
        each_move = λ j m there.
            let old : IsKeptMove chunks shelves j m = parts.each_move j m there in
            record {
              from = λ same. ⊎_elim
                  (λ h. stands (ap (λ s. s.standing) (sym h.1) ∙ same))
                  (λ h. old.from (ap (λ s. s.standing) (sym h.1) ∙ same))
                  (set_reads shelves i (m.from / chunks) shelf below);
              to = λ waits. ⊎_elim
                  (λ h. ap (λ s. place_on s (m.to % chunks)) h.1
                  ∙ dests j m (m.to % chunks) there
                  (ap (λ n. place_on (shelf_at shelves n) (m.to % chunks)) (sym h.0) ∙ old.to waits))
                  (λ h. ap (λ s. place_on s (m.to % chunks)) h.1 ∙ old.to waits)
                  (set_reads shelves i (m.to / chunks) shelf below);
            };
      }

-- fewer moves to look at
pub cleared_kept : (chunks : ℕ) (shelves : List Shelf) (moves : List (Option OpenMove)) (j : ℕ) → AreKept chunks shelves moves →
    AreKept chunks shelves (set moves j None)
cleared_kept chunks shelves moves j parts =
    record {
      each_shelf = parts.each_shelf;
      each_move = λ i m there. parts.each_move i m (read_after_clear moves j i m there).1;
    }

-- one move more, or another in its place
pub written_kept : (chunks : ℕ) (shelves : List Shelf) (moves : List (Option OpenMove)) (j : ℕ) (m : OpenMove) →
    AreKept chunks shelves (set moves j None) → IsKeptMove chunks shelves j m → AreKept chunks shelves (set moves j (Some m))
written_kept chunks shelves moves j m parts kept =
    record {
      each_shelf = parts.each_shelf;
      each_move = λ i n there.
          ⊎_elim
          (λ h. subst (λ x. IsKeptMove chunks shelves i x) h.1 (subst (λ x. IsKeptMove chunks shelves x m) (sym h.0) kept))
          (λ h. parts.each_move i n (get_or-set_other moves j i None None h.0 ∙ h.1))
          (read_after_write moves j i n m there);
    }

-- Parts of events

module _ (p : Placing) (moves : List (Option OpenMove)) (parts : AreKept p.chunks p.shelves moves) (b : ℕ) where
  here : Shelf
  here = shelf_at p.shelves (b / p.chunks)

  -- no move that is looked at has b as its waiting new buffer
  abbrev pub NoneWaits : Type 0
  NoneWaits = (j : ℕ) (m : OpenMove) → get_or moves j None ≡ Some m → place_at p b ≢ at_dest j

  -- b goes to another place outside
  pub with_place_kept : (place : Place) → is_out_place (place_at p b) ≡ true → is_out_place place ≡ true → NoneWaits →
      AreKept p.chunks (with_place p b place).shelves moves
  unfolding here
  with_place_kept place out goes waits =
      let below : b / p.chunks < length p.shelves = out_in_shelves p.shelves (b / p.chunks) (b % p.chunks) out in
      let kept : IsKeptShelf p.chunks here = parts.each_shelf (b / p.chunks) no_shelf below in
      changed_kept p.chunks p.shelves moves (b / p.chunks) (record here { places = set here.places (b % p.chunks) place }) below
      (moved_kept p.chunks here (b % p.chunks) place kept out goes)
      (λ same. listed_apart (sym (out_listed p.chunks here (b % p.chunks) kept out) ∙ same))
      (λ j m k there. dest_stays j here (b % p.chunks) k place (waits j m there))
      parts
    where
      listed_apart : Listed ≡ Source → ⊥
      listed_apart h = cc

  -- b comes back to its slab while a move is pending
  pub freed_parts : has_moves p ≡ true → is_out_place (place_at p b) ≡ true → NoneWaits →
      AreKept p.chunks (placing_freed p b).shelves moves
  unfolding here
  freed_parts pending out waits =
      let below : b / p.chunks < length p.shelves = out_in_shelves p.shelves (b / p.chunks) (b % p.chunks) out in
      let kept : IsKeptShelf p.chunks here = parts.each_shelf (b / p.chunks) no_shelf below in
      changed_kept p.chunks p.shelves moves (b / p.chunks) (shelf_freed (has_moves p) here (b % p.chunks)) below
      (freed_kept p.chunks (has_moves p) here (b % p.chunks) kept out)
      (freed_standing (has_moves p) here (b % p.chunks) pending
      (λ same. listed_apart (sym (out_listed p.chunks here (b % p.chunks) kept out) ∙ same)))
      (λ j m k there. freed_dest_stays j (has_moves p) here (b % p.chunks) k pending (waits j m there))
      parts
    where
      listed_apart : Listed ≡ Source → ⊥
      listed_apart h = cc
