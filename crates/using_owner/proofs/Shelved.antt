-- What is kept of the words of a shelf.
use Rattle.std.proofs.Common.{◌≡◌, ◌≢◌, ℕ, zero, suc, ◌<◌, List, ◌∷◌, length, map, get_or, set, replicate, Option, Some, None, ⊎_elim, sym, ◌∙◌, ap, ap₂, refl, arith, subst}
use Rattle.std.proofs.lemmas.List.{length-replicate, length-map, length-set, get_or-replicate, get_or-set_same, get_or-set_other, get_or_past, map-set}
use Rattle.std.proofs.lemmas.Option.{slice_get_within}
use Rattle.std.proofs.lemmas.Bool.{cases_eq, cases_lt}
use Rattle.kmem_buf.specs.Homes.{Homes, IsBufferOf}
use Rattle.kmem_buf.specs.Owners.{stand_at}
use Rattle.kmem_buf.specs.declared.owner.Stand.{Stand}
use Rattle.kmem_buf.specs.declared.owner.Stand.TheVariants.{Unknown}
use Rattle.using_owner.specs.declared.Place.{Place}
use Rattle.using_owner.specs.Shelves.{ShelfState, stand_of, word_of, shelf_of, AreShelved}

-- an empty shelf

none_at : (k n : ℕ) → get_or {A = Option Place} (replicate k None) n None ≡ None
none_at k n =
    ⊎_elim (λ below. get_or-replicate k n None None below)
    (λ past. get_or_past (replicate k None) n None (omega (arith, past, length-replicate {A = Option Place} k None))) (cases_lt n k)

pub start : (home : Homes) (buffers : ℕ) → buffers ≡ length home.cells → AreShelved home (replicate buffers None)
start home buffers as_many = record {
  size = length-replicate buffers None ∙ as_many;
  placed = λ n p is. absurd (never n p is);
}
  where
    never : (n : ℕ) (p : Place) → get_or {A = Option Place} (replicate buffers None) n None ≡ Some p → ⊥
    never n p is = let none = none_at buffers n in cc

pub empty_is : (home : Homes) (k : ℕ) → shelf_of home (replicate k None) ≡ record { home = home; stands = replicate k Unknown; words = replicate k None }
empty_is home k = ap₂ (λ stands words. record { home = home; stands = stands; words = words }) (stands k) (words k)
  where
    stands : (k : ℕ) → map stand_of (replicate k None) ≡ replicate k Unknown
    stands zero = refl
    stands (suc k) = ap (λ (xs : List Stand). Unknown ∷ xs) (stands k)

    words : (k : ℕ) → map word_of (replicate k None) ≡ replicate k None
    words zero = refl
    words (suc k) = ap (λ (xs : List (Option ℕ)). None ∷ xs) (words k)

-- one place changed

pub shelf_set : (home : Homes) (places : List (Option Place)) (n : ℕ) (x : Option Place) →
    shelf_of home (set places n x) ≡ record { home = home; stands = set (map stand_of places) n (stand_of x); words = set (map word_of places) n (word_of x) }
shelf_set home places n x = ap₂ (λ stands words. record { home = home; stands = stands; words = words }) (map-set stand_of places n x) (map-set word_of places n x)

some_is : (x y : Place) → ◌≡◌ {A = Option Place} (Some x) (Some y) → x ≡ y
some_is x y e = cc

none_is : (x : Place) → ◌≡◌ {A = Option Place} None (Some x) → ⊥
none_is x e = cc

pub shelved_put : (home : Homes) (places : List (Option Place)) (n : ℕ) (p : Place) → AreShelved home places → p.buf.number ≡ n → IsBufferOf home.cells p.buf → AreShelved home (set places n (Some p))
shelved_put home places n p kept number of =
    record {
      size = length-set places n (Some p) ∙ kept.size;
      placed = λ i d is.
          ⊎_elim
          (λ same.
          let low : n < length places = omega (arith, kept.size, subst (λ k. k < length home.cells) number (slice_get_within home.cells p.buf.number p.buf.home of)) in
          let at : Some p ≡ Some d = sym (get_or-set_same places n (Some p) None low) ∙ (ap (λ k. get_or (set places n (Some p)) k None) (sym same) ∙ is) in
          subst (λ (q : Place). (q.buf.number ≡ i) × IsBufferOf home.cells q.buf) (some_is p d at) (number ∙ sym same, of))
          (λ apart. kept.placed i d (sym (get_or-set_other places n i (Some p) None apart) ∙ is)) (cases_eq i n);
    }

pub shelved_take : (home : Homes) (places : List (Option Place)) (n : ℕ) → n < length places → AreShelved home places → AreShelved home (set places n None)
shelved_take home places n low kept =
    record {
      size = length-set places n None ∙ kept.size;
      placed = λ i d is.
          ⊎_elim
          (λ same. absurd (none_is d (sym (get_or-set_same places n None None low) ∙ (ap (λ k. get_or (set places n None) k None) (sym same) ∙ is))))
          (λ apart. kept.placed i d (sym (get_or-set_other places n i None None apart) ∙ is)) (cases_eq i n);
    }

-- a number at which something stands is one of a place
pub known_within : (shelf : ShelfState) (home : Homes) (places : List (Option Place)) (n : ℕ) → shelf_of home places ≡ shelf → stand_at shelf.stands n ≢ Unknown → n < length places
known_within shelf home places n is known =
    ⊎_elim (λ below. omega (arith, below, ap (λ (s : ShelfState). length s.stands) is, length-map places stand_of))
    (λ past. absurd (known (get_or_past shelf.stands n Unknown past)))
    (cases_lt n (length shelf.stands))
