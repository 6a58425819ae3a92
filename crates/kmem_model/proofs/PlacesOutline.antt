-- The cache state goes on showing the placing.
use Rattle.std.proofs.Common.{◌≡◌, ℕ, ◌-◌, ◌==◌, Bool, true, false, cond, List, map, set, All, count_by, None, sym, ◌∙◌, ap, ap₂, refl, subst, arith}
use Rattle.std.proofs.lemmas.Bool.{eqb-true}
use Rattle.std.proofs.lemmas.List.{map-set}
use Rattle.kmem_model.proofs.CacheLists.{map-map, map_agree, count-map, count-set, none_from_count}
use Rattle.kmem_model.proofs.PlacesShelf.{Fits, IsKeptShelf, out_within}
use Rattle.kmem_model.specs.CacheState.{SlabState, is_same_standing}
use Rattle.kmem_model.specs.CacheOrder.{is_the}
use Rattle.kmem_model.specs.CacheEnter.{slab_listed, slab_taken, slab_freed, slab_given_back, slab_answered}
use Rattle.kmem_model.specs.Places.{Place, at_source, on_slab, Shelf, is_out_place, place_on}
use Rattle.kmem_model.specs.PlacesEvent.{shelf_listed, shelf_taken, shelf_given_back, shelf_emptied, shelf_freed, dead_given_back}
use Rattle.kmem_model.specs.PlacesLaw.{Outline, slab_outline, shelf_outline}
use Rattle.kmem_model.specs.declared.cache_state.Standing.{Standing}
use Rattle.kmem_model.specs.declared.cache_state.Standing.TheVariants.{Source, Listed, Dead}
use Rattle.kmem_model.specs.declared.cache_entry.Said.{Said}
use Rattle.kmem_model.specs.declared.cache_entry.Said.TheVariants.{Yes, No, Later, DontNeed, DontKnow}

abbrev pub outline : Standing → List Bool → Outline
outline standing out = record { standing = standing; out = out }

-- One slab

-- no place of a list is out
pub none_out : (places : List Place) → All (λ place. is_out_place place ≡ false) places → map (λ _. false) places ≡ map is_out_place places
none_out places none = map_agree (λ _. false) is_out_place places (λ i d below. sym (none i d below))

-- a slab that is listed
slab_listed_outline : (slab : SlabState) → slab_outline (slab_listed slab) ≡ outline Listed slab.out
slab_listed_outline slab = by_standing slab.standing refl
  where
    by_standing : (standing : Standing) → slab.standing ≡ standing →
        slab_outline (cond (is_same_standing Listed standing) slab (record { standing = Listed; out = slab.out; later = 0; stuck = None }))
        ≡ outline Listed slab.out
    by_standing Source is = refl
    by_standing Listed is = ap (λ s. outline s slab.out) is
    by_standing Dead is = refl

pub shelf_listed_outline : (chunks : ℕ) (standing : Standing) (shelf : Shelf) → shelf.standing ≡ standing → IsKeptShelf chunks shelf →
    shelf_outline (shelf_listed standing shelf) ≡ outline Listed (map is_out_place shelf.places)
shelf_listed_outline chunks Source shelf is kept =
    let fits : Fits Source shelf.places = subst (λ s. Fits s shelf.places) is kept.fits in
    ap (outline Listed)
    (map-map (λ _. on_slab) is_out_place shelf.places ∙ none_out shelf.places (λ i d below. ap is_out_place (fits i d below)))
shelf_listed_outline chunks Listed shelf is kept = ap (λ s. outline s (map is_out_place shelf.places)) is
shelf_listed_outline chunks Dead shelf is kept = refl

-- a buffer leaves its slab
pub taken_outline : (slab : SlabState) (shelf : Shelf) (k : ℕ) (place : Place) → is_out_place place ≡ true →
    shelf_outline shelf ≡ outline Listed slab.out → slab_outline (slab_taken slab k) ≡ shelf_outline (shelf_taken shelf k place)
taken_outline slab shelf k place out same =
    let listed : slab_outline (slab_listed slab) ≡ shelf_outline shelf = slab_listed_outline slab ∙ sym same in
    ap₂ outline (ap (λ o. o.standing) listed)
    (ap (λ o. set o.out k true) listed
    ∙ (ap (λ b. set (map is_out_place shelf.places) k b) (sym out) ∙ sym (map-set is_out_place shelf.places k place)))

-- a buffer comes back to its slab
pub freed_outline : (chunks : ℕ) (pending : Bool) (slab : SlabState) (shelf : Shelf) (k : ℕ) → IsKeptShelf chunks shelf →
    is_out_place (place_on shelf k) ≡ true → slab_outline slab ≡ shelf_outline shelf →
    slab_outline (slab_freed (cond pending Dead Source) slab k) ≡ shelf_outline (shelf_freed pending shelf k)
freed_outline chunks pending slab shelf k kept here same =
    subst (λ n. slab_outline (cond (n == 0) gone (cond (is_the slab.stuck k) cleared left)) ≡ shelf_outline (shelf_freed pending shelf k))
    (sym count)
    (by_use (shelf.used - 1 == 0) refl pending)
  where
    out : List Bool
    out = set slab.out k false

    gone : SlabState
    gone = record { standing = cond pending Dead Source; out = out; later = 0; stuck = None }

    cleared : SlabState
    cleared = record { standing = slab.standing; out = out; later = 0; stuck = None }

    left : SlabState
    left = record slab { out = out }

    next : Shelf
    next = record { standing = shelf.standing; places = set shelf.places k on_slab; used = shelf.used - 1 }

    outs : out ≡ map is_out_place next.places
    outs = ap (λ o. set o.out k false) same ∙ sym (map-set is_out_place shelf.places k on_slab)

    used : count_by is_out_place next.places ≡ shelf.used - 1
    used = grind (arith, count-set is_out_place shelf.places k on_slab at_source (out_within shelf k here), here, kept.used)

    count : count_by (λ x. x) out ≡ shelf.used - 1
    count = ap (count_by (λ x. x)) outs ∙ (count-map is_out_place (λ x. x) next.places ∙ used)

    stays : (b : Bool) → slab_outline (cond b cleared left) ≡ shelf_outline next
    stays true = ap₂ outline (ap (λ o. o.standing) same) outs
    stays false = ap₂ outline (ap (λ o. o.standing) same) outs

    by_use : (b : Bool) → (shelf.used - 1 == 0) ≡ b → (pending : Bool) →
        slab_outline (cond b (record { standing = cond pending Dead Source; out = out; later = 0; stuck = None })
        (cond (is_the slab.stuck k) cleared left))
        ≡ shelf_outline (cond b (shelf_emptied pending next) next)
    by_use true is true = ap (outline Dead) outs
    by_use true is false =
        ap (outline Source)
        (outs
        ∙ (sym (none_out next.places (none_from_count is_out_place next.places (used ∙ eqb-true (shelf.used - 1) 0 is)))
        ∙ sym (map-map (λ _. at_source) is_out_place next.places)))
    by_use false is pending = stays (is_the slab.stuck k)

-- a dead slab goes back to the source
pub given_back_outline : (chunks : ℕ) (slab : SlabState) (shelf : Shelf) → IsKeptShelf chunks shelf → slab_outline slab ≡ shelf_outline shelf →
    slab_outline (slab_given_back slab) ≡ shelf_outline (dead_given_back shelf)
given_back_outline chunks slab shelf kept same =
    subst (λ s. slab_outline (cond (is_same_standing Dead s) (record slab { standing = Source }) slab) ≡ shelf_outline (dead_given_back shelf))
    (ap (λ o. o.standing) (sym same))
    (by_standing shelf.standing refl)
  where
    by_standing : (standing : Standing) → shelf.standing ≡ standing →
        slab_outline (cond (is_same_standing Dead standing) (record slab { standing = Source }) slab)
        ≡ shelf_outline (cond (is_same_standing Dead standing) (shelf_given_back shelf) shelf)
    by_standing Source is = same
    by_standing Listed is = same
    by_standing Dead is =
        let fits : Fits Dead shelf.places = subst (λ s. Fits s shelf.places) is kept.fits in
        ap (outline Source)
        (ap (λ o. o.out) same
        ∙ (sym (none_out shelf.places (λ i d below. ap is_out_place (fits i d below)))
        ∙ sym (map-map (λ _. at_source) is_out_place shelf.places)))

-- counts and marks aren't seen
pub answered_outline : (said : Said) (slab : SlabState) (k : ℕ) → slab_outline (slab_answered said slab k) ≡ slab_outline slab
answered_outline Yes slab k = refl
answered_outline No slab k = refl
answered_outline Later slab k = refl
answered_outline DontNeed slab k = refl
answered_outline DontKnow slab k = refl
