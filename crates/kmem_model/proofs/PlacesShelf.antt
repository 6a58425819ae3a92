-- One slab of a placing: what is kept of it, and what each event leaves.
use Rattle.std.proofs.Common.{◌≡◌, ◌≢◌, ℕ, ◌+◌, ◌-◌, ◌<◌, ◌==◌, Bool, true, false, cond, List, map, length, get_or, set, All, count_by, ⊎_elim, sym, ◌∙◌, ap, refl, subst, arith}
use Rattle.std.proofs.lemmas.Bool.{cases_eq, both_ways, eqb-true, eqb-false}
use Rattle.std.proofs.lemmas.List.{get_or-set_other, length-set, length-map}
use Rattle.std.proofs.lemmas.List.Elements.{All-set, All-map}
use Rattle.kmem_model.proofs.CacheLists.{reads_within, count-set, none_from_count, count_from_none}
use Rattle.kmem_model.specs.Places.{Place, at_source, on_slab, in_hand, in_magazine, at_client, at_dest, Shelf, is_out_place, is_on_slab, place_on}
use Rattle.kmem_model.specs.PlacesEvent.{shelf_listed, shelf_taken, shelf_given_back, shelf_emptied, shelf_freed}
use Rattle.kmem_model.specs.declared.cache_state.Standing.{Standing}
use Rattle.kmem_model.specs.declared.cache_state.Standing.TheVariants.{Source, Listed, Dead}

-- what the standing of a slab says of its places
abbrev pub Fits : Standing → List Place → Type 0
Fits Source places = All (λ place. place ≡ at_source) places
Fits Listed places = (0 < count_by is_out_place places) × All (λ place. place ≢ at_source) places
Fits Dead places = All (λ place. place ≡ on_slab) places

-- what is kept of each slab
pub record IsKeptShelf (chunks : ℕ) (shelf : Shelf) : Type 0 where
  pub size : length shelf.places ≡ chunks
  pub used : shelf.used ≡ count_by is_out_place shelf.places
  pub fits : Fits shelf.standing shelf.places

-- a slab that is about to be listed
pub record IsOpen (chunks : ℕ) (shelf : Shelf) : Type 0 where
  pub listed : shelf.standing ≡ Listed
  pub size : length shelf.places ≡ chunks
  pub used : shelf.used ≡ count_by is_out_place shelf.places
  pub places : All (λ place. place ≢ at_source) shelf.places

out_apart : (place other : Place) → is_out_place place ≡ true → is_out_place other ≡ false → place ≢ other
out_apart place other out in' same = both_ways (is_out_place other) in' (ap is_out_place (sym same) ∙ out)

slab_or_out : (place : Place) → place ≢ at_source → is_out_place place ≡ false → place ≡ on_slab
slab_or_out at_source apart e = absurd (apart refl)
slab_or_out on_slab apart e = refl
slab_or_out (in_hand who) apart e = absurd (cc)
slab_or_out (in_magazine m) apart e = absurd (cc)
slab_or_out at_client apart e = absurd (cc)
slab_or_out (at_dest j) apart e = absurd (cc)

-- a buffer that is out lies inside its slab
pub out_within : (shelf : Shelf) (k : ℕ) → is_out_place (place_on shelf k) ≡ true → k < length shelf.places
out_within shelf k out = reads_within shelf.places k at_source is_out_place refl out

-- where a buffer is out the slab is listed
pub out_listed : (chunks : ℕ) (shelf : Shelf) (k : ℕ) → IsKeptShelf chunks shelf → is_out_place (place_on shelf k) ≡ true → shelf.standing ≡ Listed
out_listed chunks shelf k kept out = by_standing shelf.standing kept.fits
  where
    below : k < length shelf.places
    below = out_within shelf k out

    by_standing : (standing : Standing) → Fits standing shelf.places → standing ≡ Listed
    by_standing Source fits =
        absurd (out_apart (place_on shelf k) at_source out refl (fits k at_source below))
    by_standing Listed fits = refl
    by_standing Dead fits =
        absurd (out_apart (place_on shelf k) on_slab out refl (fits k at_source below))

listed_fits : (shelf : Shelf) → shelf.standing ≡ Listed → Fits shelf.standing shelf.places → Fits Listed shelf.places
listed_fits shelf listed fits = subst (λ standing. Fits standing shelf.places) listed fits

-- a slab that is listed for an allocation
pub shelf_opened : (chunks : ℕ) (standing : Standing) (shelf : Shelf) → shelf.standing ≡ standing → IsKeptShelf chunks shelf →
    IsOpen chunks (shelf_listed standing shelf)
shelf_opened chunks Source shelf is kept =
    let fits : Fits Source shelf.places = subst (λ standing. Fits standing shelf.places) is kept.fits in
    record {
      listed = refl;
      size = length-map shelf.places (λ _. on_slab) ∙ kept.size;
      used =
          kept.used ∙ count_from_none is_out_place shelf.places (λ k d below. ap is_out_place (fits k d below))
          ∙ sym (count_from_none is_out_place (map (λ _. on_slab) shelf.places)
          (All-map (λ place. is_out_place place ≡ false) (λ _. on_slab) shelf.places (λ k d below. refl)));
      places = All-map (λ place. place ≢ at_source) (λ _. on_slab) shelf.places (λ k d below same. absurd (cc));
    }
shelf_opened chunks Listed shelf is kept =
    record {
      listed = is;
      size = kept.size;
      used = kept.used;
      places = (listed_fits shelf is kept.fits).1;
    }
shelf_opened chunks Dead shelf is kept =
    let fits : Fits Dead shelf.places = subst (λ standing. Fits standing shelf.places) is kept.fits in
    record {
      listed = refl;
      size = kept.size;
      used = kept.used;
      places = λ k d below same. absurd (slab_apart (sym (fits k d below) ∙ same));
    }
  where
    slab_apart : on_slab ≡ at_source → ⊥
    slab_apart h = cc

-- a buffer leaves an open slab
pub taken_kept : (chunks : ℕ) (shelf : Shelf) (k : ℕ) (place : Place) → IsOpen chunks shelf → place_on shelf k ≡ on_slab →
    is_out_place place ≡ true → IsKeptShelf chunks (shelf_taken shelf k place)
taken_kept chunks shelf k place opened here out =
    let below : k < length shelf.places = reads_within shelf.places k at_source is_on_slab refl (ap is_on_slab here) in
    let count : count_by is_out_place (set shelf.places k place) ≡ shelf.used + 1 =
    grind (arith, count-set is_out_place shelf.places k place at_source below, ap is_out_place here, out, opened.used) in
    record {
      size = length-set shelf.places k place ∙ opened.size;
      used = sym count;
      fits = subst (λ standing. Fits standing (set shelf.places k place)) (sym opened.listed)
          (omega (arith, count), All-set (λ p. p ≢ at_source) shelf.places k place (out_apart place at_source out refl) opened.places);
    }

-- a listed slab is open
pub kept_open : (chunks : ℕ) (shelf : Shelf) → shelf.standing ≡ Listed → IsKeptShelf chunks shelf → IsOpen chunks shelf
kept_open chunks shelf listed kept = shelf_opened chunks Listed shelf listed kept

-- a buffer goes from one place outside to another
pub moved_kept : (chunks : ℕ) (shelf : Shelf) (k : ℕ) (place : Place) → IsKeptShelf chunks shelf →
    is_out_place (place_on shelf k) ≡ true → is_out_place place ≡ true →
    IsKeptShelf chunks (record shelf { places = set shelf.places k place })
moved_kept chunks shelf k place kept here out =
    let listed : shelf.standing ≡ Listed = out_listed chunks shelf k kept here in
    let fits : Fits Listed shelf.places = listed_fits shelf listed kept.fits in
    let below : k < length shelf.places = out_within shelf k here in
    let count : count_by is_out_place (set shelf.places k place) ≡ count_by is_out_place shelf.places =
    grind (arith, count-set is_out_place shelf.places k place at_source below, here, out) in
    record {
      size = length-set shelf.places k place ∙ kept.size;
      used = kept.used ∙ sym count;
      fits = subst (λ standing. Fits standing (set shelf.places k place)) (sym listed)
          (omega (arith, count, fits.0), All-set (λ p. p ≢ at_source) shelf.places k place (out_apart place at_source out refl) fits.1);
    }

-- all buffers at the source
pub given_back_kept : (chunks : ℕ) (shelf : Shelf) → length shelf.places ≡ chunks → IsKeptShelf chunks (shelf_given_back shelf)
given_back_kept chunks shelf size =
    record {
      size = length-map shelf.places (λ _. at_source) ∙ size;
      used = sym (count_from_none is_out_place (map (λ _. at_source) shelf.places)
          (All-map (λ place. is_out_place place ≡ false) (λ _. at_source) shelf.places (λ k d below. refl)));
      fits = All-map (λ place. place ≡ at_source) (λ _. at_source) shelf.places (λ k d below. refl);
    }

-- a buffer comes back to its slab
pub freed_kept : (chunks : ℕ) (pending : Bool) (shelf : Shelf) (k : ℕ) → IsKeptShelf chunks shelf →
    is_out_place (place_on shelf k) ≡ true → IsKeptShelf chunks (shelf_freed pending shelf k)
freed_kept chunks pending shelf k kept here = by_use (shelf.used - 1 == 0) refl pending
  where
    next : Shelf
    next = record { standing = shelf.standing; places = set shelf.places k on_slab; used = shelf.used - 1 }

    listed : shelf.standing ≡ Listed
    listed = out_listed chunks shelf k kept here

    fits : Fits Listed shelf.places
    fits = listed_fits shelf listed kept.fits

    size : length next.places ≡ chunks
    size = length-set shelf.places k on_slab ∙ kept.size

    used : next.used ≡ count_by is_out_place next.places
    used = grind (arith, count-set is_out_place shelf.places k on_slab at_source (out_within shelf k here), here, kept.used)

    apart : All (λ p. p ≢ at_source) next.places
    apart = All-set (λ p. p ≢ at_source) shelf.places k on_slab (λ same. absurd (cc)) fits.1

    by_use : (b : Bool) → (shelf.used - 1 == 0) ≡ b → (pending : Bool) →
        IsKeptShelf chunks (cond b (shelf_emptied pending next) next)
    by_use true is true =
        let none : All (λ p. is_out_place p ≡ false) next.places =
        none_from_count is_out_place next.places (sym used ∙ eqb-true (shelf.used - 1) 0 is) in
        record {
          size = size;
          used = used;
          fits = λ i d below. slab_or_out (get_or next.places i d) (apart i d below) (none i d below);
        }
    by_use true is false = given_back_kept chunks next size
    by_use false is pending =
        record {
          size = size;
          used = used;
          fits = subst (λ standing. Fits standing next.places) (sym listed)
              (omega (arith, used, eqb-false (shelf.used - 1) 0 is), apart);
        }

-- Where the slab stands afterwards

pub freed_standing : (pending : Bool) (shelf : Shelf) (k : ℕ) → pending ≡ true → shelf.standing ≢ Source →
    (shelf_freed pending shelf k).standing ≢ Source
freed_standing pending shelf k is apart = by_use (shelf.used - 1 == 0) pending is
  where
    next : Shelf
    next = record { standing = shelf.standing; places = set shelf.places k on_slab; used = shelf.used - 1 }

    by_use : (b pending : Bool) → pending ≡ true → (cond b (shelf_emptied pending next) next).standing ≢ Source
    by_use true true is same = absurd (cc)
    by_use true false is same = absurd (cc)
    by_use false pending is same = apart same

pub freed_dead : (pending : Bool) (shelf : Shelf) (k : ℕ) → shelf.standing ≡ Listed →
    (shelf_freed pending shelf k).standing ≡ Dead → pending ≡ true
freed_dead pending shelf k listed = by_use (shelf.used - 1 == 0) pending
  where
    next : Shelf
    next = record { standing = shelf.standing; places = set shelf.places k on_slab; used = shelf.used - 1 }

    by_use : (b pending : Bool) → (cond b (shelf_emptied pending next) next).standing ≡ Dead → pending ≡ true
    by_use true true same = refl
    by_use true false same = absurd (cc)
    by_use false pending same = absurd (apart (sym listed ∙ same))
      where
        apart : Listed ≡ Dead → ⊥
        apart h = cc

-- What stays of the places

-- a place that is written holds what was written, and each other one what it held
pub dest_stays : (j : ℕ) (shelf : Shelf) (k i : ℕ) (place : Place) → place_on shelf k ≢ at_dest j → place_on shelf i ≡ at_dest j →
    get_or (set shelf.places k place) i at_source ≡ at_dest j
dest_stays j shelf k i place apart here =
    ⊎_elim (λ same. absurd (apart (ap (place_on shelf) (sym same) ∙ here)))
    (λ other. get_or-set_other shelf.places k i place at_source other ∙ here)
    (cases_eq i k)

pub freed_dest_stays : (j : ℕ) (pending : Bool) (shelf : Shelf) (k i : ℕ) → pending ≡ true → place_on shelf k ≢ at_dest j →
    place_on shelf i ≡ at_dest j → place_on (shelf_freed pending shelf k) i ≡ at_dest j
freed_dest_stays j pending shelf k i is apart here = by_use (shelf.used - 1 == 0) pending is
  where
    next : Shelf
    next = record { standing = shelf.standing; places = set shelf.places k on_slab; used = shelf.used - 1 }

    by_use : (b pending : Bool) → pending ≡ true → place_on (cond b (shelf_emptied pending next) next) i ≡ at_dest j
    by_use true true is = dest_stays j shelf k i on_slab apart here
    by_use true false is = absurd (cc)
    by_use false pending is = dest_stays j shelf k i on_slab apart here

-- a slab that is listed keeps what waits on it
pub listed_dest_stays : (chunks j : ℕ) (standing : Standing) (shelf : Shelf) (i : ℕ) → shelf.standing ≡ standing →
    IsKeptShelf chunks shelf → place_on shelf i ≡ at_dest j → place_on (shelf_listed standing shelf) i ≡ at_dest j
listed_dest_stays chunks j Listed shelf i is kept here = here
listed_dest_stays chunks j Dead shelf i is kept here = here
listed_dest_stays chunks j Source shelf i is kept here =
    absurd (apart (sym is ∙ out_listed chunks shelf i kept (ap is_out_place here)))
  where
    apart : Source ≡ Listed → ⊥
    apart h = cc
