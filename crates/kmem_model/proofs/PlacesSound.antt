-- Each world on the way from the opening one is sound.
use Rattle.std.proofs.Common.{◌≡◌, ℕ, ◌+◌, ◌*◌, ◌/◌, ◌%◌, ◌<◌, true, false, not, ◌&&◌, List, [], ◌∷◌, length, get_or, replicate, All, Option, Some, None, IfSome, is_some, option_and_then, option_map, slice_get, sym, ◌∙◌, ap, refl, subst, arith}
use Rattle.std.specs.List.{list_any}
use Rattle.std.proofs.lemmas.Bool.{and_parts}
use Rattle.std.proofs.lemmas.List.{length-map, length-replicate}
use Rattle.std.proofs.lemmas.List.Elements.{All-replicate}
use Rattle.std.proofs.lemmas.Option.{slice_get-get_or}
use Rattle.std.proofs.lemmas.Nat.{div-mul-add, div_below, mod_below}
use Rattle.kmem_model.proofs.CacheLists.{count_from_none, map-replicate, get_or-replicate_none}
use Rattle.kmem_model.proofs.PlacesShelf.{Fits, IsKeptShelf}
use Rattle.kmem_model.proofs.PlacesKept.{IsKeptMove, IsKept, then_some_says, and_then_says}
use Rattle.kmem_model.proofs.PlacesEvents.{IsAllowed, placed_kept}
use Rattle.kmem_model.proofs.PlacesShown.{same_at, placed_shown}
use Rattle.kmem_model.proofs.CacheChoices.{map_says, is_the_says, IsOnPartial, partial_listed, partial_within, first_partial_free_says, last_reclaimable_says}
use Rattle.kmem_model.specs.CacheState.{sizes_of, CacheState, slab_at, slab_in_source, opening}
use Rattle.kmem_model.specs.CacheOrder.{is_the, chosen, is_left_out, first_partial_free, is_idle, free_number}
use Rattle.kmem_model.specs.CacheEnter.{may_begin, with_move}
use Rattle.kmem_model.specs.Places.{Place, at_source, on_slab, Holder, OpenMove, Shelf, Placing, is_out_place, no_shelf, shelf_at, placing_start}
use Rattle.kmem_model.specs.PlacesEvent.{Event, alloc, free, round_in, round_out, depot_swap, keep, leave, begin, answer, gone, end, cache_alone, placed, entry_of, entered, World, event}
use Rattle.kmem_model.specs.PlacesLaw.{IsLawfulShelf, IsLawful, place_of, EachHasOnePlace, slab_outline, shelf_outline, move_outline, Shows, AlwaysSound, world_start}
use Rattle.kmem_model.specs.declared.cache_state.Standing.{Standing}
use Rattle.kmem_model.specs.declared.cache_state.Standing.TheVariants.{Source, Listed, Dead}
use Rattle.kmem_model.specs.declared.cache_state.PendingMove.{PendingMove}

-- What is kept makes a placing lawful

slab_source : on_slab ≡ at_source → ⊥
slab_source h = cc

lawful_shelf : (chunks : ℕ) (shelf : Shelf) → 0 < chunks → IsKeptShelf chunks shelf → IsLawfulShelf shelf
lawful_shelf chunks shelf some kept =
    record {
      source = (λ is. at Source is, λ all. by_standing shelf.standing kept.fits all);
      listed = λ is. (at Listed is).0;
      dead = λ is. at Dead is;
      used = λ is. kept.used;
    }
  where
    at : (standing : Standing) → shelf.standing ≡ standing → Fits standing shelf.places
    at standing is = subst (λ s. Fits s shelf.places) is kept.fits

    by_standing : (standing : Standing) → Fits standing shelf.places → All (λ place. place ≡ at_source) shelf.places → standing ≡ Source
    by_standing Source fits all = refl
    by_standing Listed fits all =
        absurd (omega (arith, fits.0, count_from_none is_out_place shelf.places (λ i d below. ap is_out_place (all i d below))))
    by_standing Dead fits all =
        let below : 0 < length shelf.places = omega (arith, kept.size) in
        absurd (slab_source (sym (fits 0 at_source below) ∙ all 0 at_source below))

lawful : (slabs chunks : ℕ) (p : Placing) → 0 < chunks → IsKept slabs chunks p → IsLawful p
lawful slabs chunks p some kept =
    record {
      shelves = λ i d below.
          lawful_shelf p.chunks (get_or p.shelves i d) (omega (arith, kept.chunks_stay)) (kept.parts.each_shelf i d below);
      dead = kept.dead;
      moves = λ j m there.
          let move : IsKeptMove p.chunks p.shelves j m = kept.parts.each_move j m there in
          record { from = move.from; to = move.to };
    }

one_place : (slabs chunks : ℕ) (p : Placing) → 0 < chunks → IsKept slabs chunks p → EachHasOnePlace (slabs * chunks) p
one_place slabs chunks p some kept b below = (place, here, λ other there. same other (sym here ∙ there))
  where
    row : ℕ
    row = b / p.chunks

    positive : 0 < p.chunks
    positive = omega (arith, kept.chunks_stay)

    row_below : row < length p.shelves
    row_below =
        subst (λ n. row < n) (sym kept.slabs_stay)
        (div_below b p.chunks slabs positive (subst (λ c. b < slabs * c) (sym kept.chunks_stay) below))

    shelf : Shelf
    shelf = get_or p.shelves row no_shelf

    index_below : b % p.chunks < length shelf.places
    index_below = subst (λ n. b % p.chunks < n) (sym (kept.parts.each_shelf row no_shelf row_below).size) (mod_below b p.chunks positive)

    place : Place
    place = get_or shelf.places (b % p.chunks) at_source

    here : place_of p b ≡ Some place
    here =
        ap (option_and_then (λ s. slice_get s.places (b % p.chunks))) (slice_get-get_or p.shelves row no_shelf row_below)
        ∙ slice_get-get_or shelf.places (b % p.chunks) at_source index_below

    same : (other : Place) → Some place ≡ Some other → other ≡ place
    same other h = cc

-- A move begins where the placing allows it

module _ (slabs chunks : ℕ) (s : CacheState) (p : Placing) (some : 0 < chunks) (kept : IsKept slabs chunks p) (shown : Shows s p) where
  -- the shelf of a buffer of a partial slab is listed
  on_partial_listed : (b : ℕ) → IsOnPartial s.chunks s.slabs b → (shelf_at p.shelves (b / p.chunks)).standing ≡ Listed
  on_partial_listed b on =
      ap (λ i. (shelf_at p.shelves i).standing) row_is
      ∙ (ap (λ o. o.standing) (sym (same_at s p shown on.row)) ∙ partial_listed (slab_at s.slabs on.row) on.partial)
    where
      below : on.row < length p.shelves
      below =
          subst (λ n. on.row < n)
          (sym (length-map s.slabs slab_outline) ∙ (ap length shown.slabs ∙ length-map p.shelves shelf_outline))
          (partial_within s.slabs on.row on.partial)

      size : length (slab_at s.slabs on.row).out ≡ p.chunks
      size =
          ap (λ o. length o.out) (same_at s p shown on.row)
          ∙ (length-map (shelf_at p.shelves on.row).places is_out_place ∙ (kept.parts.each_shelf on.row no_shelf below).size)

      row_is : b / p.chunks ≡ on.row
      row_is =
          ap (λ n. n / p.chunks) (sym on.place ∙ ap (λ c. on.row * c + on.index) shown.chunks)
          ∙ div-mul-add on.row p.chunks on.index (subst (λ n. on.index < n) size on.within)

  allowed : (e : Event) (t : CacheState) → entered s (entry_of e) ≡ Some t → IsAllowed p e
  allowed (begin j from to) t g = (λ same. listed_source (sym from_listed ∙ same), to_listed)
    where
      listed_source : Listed ≡ Source → ⊥
      listed_source h = cc

      m : PendingMove
      m = record { from = from; to = to }

      legal : may_begin s j m ≡ true
      legal = (then_some_says (may_begin s j m) (with_move s j m) t g).0

      parts : ((not (is_idle s) && is_the (free_number s) j && is_the (chosen s) from) ≡ true)
          × (is_the (first_partial_free s.chunks s.slabs) to ≡ true)
      parts = and_parts _ _ legal

      old : ((not (is_idle s) && is_the (free_number s) j) ≡ true) × (is_the (chosen s) from ≡ true)
      old = and_parts _ _ parts.0

      from_listed : (shelf_at p.shelves (from / p.chunks)).standing ≡ Listed
      from_listed =
          on_partial_listed from
          (last_reclaimable_says s.chunks s.numerator s.mode (is_left_out s) s.slabs from
          (is_the_says (chosen s) from old.1))

      to_listed : (shelf_at p.shelves (to / p.chunks)).standing ≡ Listed
      to_listed =
          on_partial_listed to
          (first_partial_free_says s.chunks s.slabs to (is_the_says (first_partial_free s.chunks s.slabs) to parts.1))
  allowed (alloc b who) t g = tt
  allowed (free b) t g = tt
  allowed (round_in b m) t g = tt
  allowed (round_out b) t g = tt
  allowed (depot_swap m n) t g = tt
  allowed (keep b) t g = tt
  allowed (leave b who) t g = tt
  allowed (answer j said w) t g = tt
  allowed (gone j) t g = tt
  allowed (end j said w) t g = tt
  allowed (cache_alone entry) t g = tt

-- Every world on the way

pub always_sound : (slabs chunks : ℕ) → 0 < chunks → (events : List Event) (w : World) → IsKept slabs chunks w.placing →
    Shows w.state w.placing → AlwaysSound (slabs * chunks) events w
always_sound slabs chunks some [] w kept shown =
    record { lawful = lawful slabs chunks w.placing some kept; one_place = one_place slabs chunks w.placing some kept; shown = shown }
always_sound slabs chunks some (e ∷ es) w kept shown = (
  record { lawful = lawful slabs chunks w.placing some kept; one_place = one_place slabs chunks w.placing some kept; shown = shown },
  rest (event w e) refl (always_sound slabs chunks some es),
)
  where
    rest : (o : Option World) → event w e ≡ o →
        ((n : World) → IsKept slabs chunks n.placing → Shows n.state n.placing → AlwaysSound (slabs * chunks) es n) →
        IfSome o (AlwaysSound (slabs * chunks) es)
    rest None is again = tt
    rest (Some n) is again =
        let (q, e1, f) = and_then_says (λ placing. option_map (λ state. record { placing = placing; state = state }) (entered w.state (entry_of e)))
        (placed w.placing e) n is in
        let (t, e2, same) = map_says (λ state. record { placing = q; state = state }) (entered w.state (entry_of e)) n f in
        let ok : IsAllowed w.placing e = allowed slabs chunks w.state w.placing some kept shown e t e2 in
        again n
        (subst (λ x. IsKept slabs chunks x.placing) same (placed_kept slabs chunks w.placing kept e q e1 ok))
        (subst (λ x. Shows x.state x.placing) same (placed_shown slabs chunks w.state w.placing kept shown e q t e1 e2 ok))

-- The opening world

start_kept : (slabs chunks limit : ℕ) (holders : List Holder) → IsKept slabs chunks (placing_start (sizes_of slabs chunks limit) holders)
start_kept slabs chunks limit holders =
    record {
      chunks_stay = refl;
      slabs_stay = length-replicate slabs shelf;
      parts = record {
        each_shelf = All-replicate (IsKeptShelf chunks) slabs shelf
            (record {
              size = length-replicate chunks at_source;
              used = sym (count_from_none is_out_place (replicate chunks at_source)
                  (All-replicate (λ place. is_out_place place ≡ false) chunks at_source refl));
              fits = All-replicate (λ place. place ≡ at_source) chunks at_source refl;
            });
        each_move = λ j m there. absurd (none m (sym (get_or-replicate_none limit j) ∙ there));
      };
      dead = All-replicate (λ s. s.standing ≡ Dead → list_any is_some (replicate {A = Option OpenMove} limit None) ≡ true) slabs shelf (λ same. absurd (apart same));
    }
  where
    shelf : Shelf
    shelf = record { standing = Source; places = replicate chunks at_source; used = 0 }

    none : (m : OpenMove) → None ≡ Some m → ⊥
    none m h = cc

    apart : Source ≡ Dead → ⊥
    apart h = cc

start_shown : (slabs chunks limit : ℕ) (holders : List Holder) → Shows (opening (sizes_of slabs chunks limit)) (placing_start (sizes_of slabs chunks limit) holders)
start_shown slabs chunks limit holders =
    record {
      chunks = refl;
      slabs =
          map-replicate slab_outline slabs (slab_in_source chunks)
          ∙ (ap (λ out. replicate slabs (record { standing = Source; out = out })) (sym (map-replicate is_out_place chunks at_source))
          ∙ sym (map-replicate shelf_outline slabs (record { standing = Source; places = replicate chunks at_source; used = 0 })));
      moves = sym (map-replicate (option_map move_outline) limit None);
    }

pub places_law : (slabs chunks limit : ℕ) (holders : List Holder) (events : List Event) → 0 < chunks →
    AlwaysSound (slabs * chunks) events (world_start (sizes_of slabs chunks limit) holders)
places_law slabs chunks limit holders events some =
    always_sound slabs chunks some events (world_start (sizes_of slabs chunks limit) holders)
    (start_kept slabs chunks limit holders) (start_shown slabs chunks limit holders)
