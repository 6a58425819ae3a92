-- What is kept of the buffers of a shelf.
use Rattle.std.proofs.Common.{◌≡◌, ℕ, zero, suc, ◌<◌, ◌≤◌, List, [], ◌∷◌, length, get_or, set, replicate, slice_get, Option, Some, None, option_map, ⊎_elim, sym, ◌∙◌, ap, ap₂, refl, arith, subst}
use Rattle.std.proofs.lemmas.List.{length-replicate, get_or-replicate, get_or-set_same, get_or-set_other, length-set, get_or_past, map-set, set-set, set-get_or, set_comm}
use Rattle.std.proofs.lemmas.Option.{slice_get_within}
use Rattle.std.proofs.lemmas.Bool.{cases_eq, cases_lt}
use Rattle.atomic_table.specs.Seated.{TableId}
use Rattle.kmem_buf.specs.Buffers.{BufState}
use Rattle.kmem_buf.specs.Homes.{IsBufferOf}
use Rattle.kmem_model.specs.Heap.{Object}
use Rattle.record_heap.specs.Shelves.{ShelfState, AreShelved, objects_of}
use Rattle.record_heap.specs.Tags.{TagsState}
use Rattle.record_heap.specs.View.{HeapView}
use Rattle.record_heap.specs.Changes.{changed_at}

pub start : (cells : List TableId) (buffers : ℕ) → buffers ≡ length cells → buffers ≤ 65536 → AreShelved cells (replicate buffers None)
start cells buffers as_many few =
    record {
      size = length-replicate buffers None ∙ as_many;
      few = omega (arith, few, length-replicate {A = Option (BufState Object)} buffers None);
      placed = λ n b is. absurd (never n b is);
    }
  where
    none_at : (k n : ℕ) → get_or {A = Option (BufState Object)} (replicate k None) n None ≡ None
    none_at k n =
        ⊎_elim (λ below. get_or-replicate k n None None below)
        (λ past. get_or_past (replicate k None) n None (omega (arith, past, length-replicate {A = Option (BufState Object)} k None))) (cases_lt n k)

    never : (n : ℕ) (b : BufState Object) → get_or {A = Option (BufState Object)} (replicate buffers None) n None ≡ Some b → ⊥
    never n b is = let none = none_at buffers n in cc

pub objects_none : (k : ℕ) → objects_of (replicate k None) ≡ replicate k None
objects_none zero = refl
objects_none (suc k) = ap (λ (xs : List (Option Object)). None ∷ xs) (objects_none k)

some_is : (x y : BufState Object) → ◌≡◌ {A = Option (BufState Object)} (Some x) (Some y) → x ≡ y
some_is x y e = cc

none_is : (x : BufState Object) → ◌≡◌ {A = Option (BufState Object)} None (Some x) → ⊥
none_is x e = cc

pub shelved_put : (cells : List TableId) (bufs : List (Option (BufState Object))) (n : ℕ) (b : BufState Object) → AreShelved cells bufs → b.number ≡ n → IsBufferOf cells b → AreShelved cells (set bufs n (Some b))
shelved_put cells bufs n b kept number of =
    record {
      size = length-set bufs n (Some b) ∙ kept.size;
      few = omega (arith, kept.few, length-set bufs n (Some b));
      placed = λ i d is.
          ⊎_elim
          (λ same.
          let at : Some b ≡ Some d = sym (get_or-set_same bufs n (Some b) None (omega (arith, kept.size, subst (λ k. k < length cells) number (slice_get_within cells b.number b.home of)))) ∙ (ap (λ k. get_or (set bufs n (Some b)) k None) (sym same) ∙ is) in
          subst (λ (e : BufState Object). (e.number ≡ i) × IsBufferOf cells e) (some_is b d at) (number ∙ sym same, of))
          (λ apart. kept.placed i d (sym (get_or-set_other bufs n i (Some b) None apart) ∙ is)) (cases_eq i n);
    }

pub shelved_take : (cells : List TableId) (bufs : List (Option (BufState Object))) (n : ℕ) (low : n < length bufs) → AreShelved cells bufs → AreShelved cells (set bufs n None)
shelved_take cells bufs n low kept =
    record {
      size = length-set bufs n None ∙ kept.size;
      few = omega (arith, kept.few, length-set bufs n None);
      placed = λ i d is.
          ⊎_elim
          (λ same. absurd (none_is d (sym (get_or-set_same bufs n None None low) ∙ (ap (λ k. get_or (set bufs n None) k None) (sym same) ∙ is))))
          (λ apart. kept.placed i d (sym (get_or-set_other bufs n i None None apart) ∙ is)) (cases_eq i n);
    }

pub objects_set : (bufs : List (Option (BufState Object))) (n : ℕ) (o : Option (BufState Object)) →
    objects_of (set bufs n o) ≡ set (objects_of bufs) n (option_map (λ (b : BufState Object). b.object) o)
objects_set bufs n o = map-set (option_map (λ (b : BufState Object). b.object)) bufs n o

-- two buffers of one number are of one cell
pub one_home : (cells : List TableId) (a b : BufState Object) → IsBufferOf cells a → IsBufferOf cells b → a.number ≡ b.number → a.home ≡ b.home
one_home cells a b of_a of_b same = homes a.home b.home (sym of_a ∙ (ap (slice_get cells) same ∙ of_b))
  where
    homes : (x y : TableId) → ◌≡◌ {A = Option TableId} (Some x) (Some y) → x ≡ y
    homes x y e = cc

-- a buffer is taken, and put back with this object
pub put_back : (s taken back : ShelfState) (b number : ℕ) (o : Object) → taken ≡ record s { objects = set s.objects b None } → number ≡ b →
    back ≡ record taken { objects = set taken.objects number (Some o) } → back ≡ record s { objects = set s.objects b (Some o) }
put_back s taken back b number o took is put =
    put
    ∙ (ap₂ (λ (t : ShelfState) (n : ℕ). record t { objects = set t.objects n (Some o) }) took is
    ∙ ap (λ (objects : List (Option Object)). record { objects = objects; home = s.home }) (set-set s.objects b None (Some o)))

-- the object that was there
pub back_same : (s : ShelfState) (b : ℕ) (o : Object) → get_or s.objects b None ≡ Some o → ◌≡◌ {A = ShelfState} (record s { objects = set s.objects b (Some o) }) s
back_same s b o was =
    ap (λ (objects : List (Option Object)). record { objects = objects; home = s.home })
    (ap (λ (x : Option Object). set s.objects b x) (sym was) ∙ set-get_or s.objects b None)

-- a buffer is put, and taken again
pub taken_again : (s put taken : ShelfState) (b number : ℕ) (o : Object) → get_or s.objects number None ≡ None → put ≡ record s { objects = set s.objects number (Some o) } → b ≡ number →
    taken ≡ record put { objects = set put.objects b None } → taken ≡ s
taken_again s put taken b number o empty is same took =
    took
    ∙ (ap₂ (λ (t : ShelfState) (n : ℕ). record t { objects = set t.objects n None }) is same
    ∙ ap (λ (objects : List (Option Object)). record { objects = objects; home = s.home })
    (set-set s.objects number (Some o) None ∙ (ap (λ (x : Option Object). set s.objects number x) (sym empty) ∙ set-get_or s.objects number None)))

-- what a change in place makes of what was there
pub modified : (change : Object → Object) (o now new : Object) (x : Option Object) → new ≡ change now → now ≡ o → x ≡ Some o → Some new ≡ option_map change x
modified change o now new x is was at = ap Some (is ∙ ap change was) ∙ sym (ap (option_map change) at)

-- the heap of these parts
abbrev pub view_of : List (Option ℕ) → TagsState → ShelfState → HeapView
view_of names tags shelf =
    record {
      heap = record { names = names; tags = tags.tags; objects = shelf.objects };
      home = shelf.home;
      holds = tags.stubs;
    }

-- an object changes in place
pub changed_in : (names : List (Option ℕ)) (tags : TagsState) (s taken back : ShelfState) (b number : ℕ) (change : Object → Object) (o now new : Object) →
    taken ≡ record s { objects = set s.objects b None } → number ≡ b → back ≡ record taken { objects = set taken.objects number (Some new) } →
    get_or s.objects b None ≡ Some o → now ≡ o → new ≡ change now → view_of names tags back ≡ record (view_of names tags s) { heap = changed_at (view_of names tags s).heap b change }
changed_in names tags s taken back b number change o now new took is put at was makes =
    ap (view_of names tags) (put_back s taken back b number new took is put)
    ∙ ap (λ (x : Option Object). view_of names tags (record s { objects = set s.objects b x })) (modified change o now new (get_or s.objects b None) makes was at)

-- a buffer is taken, and its object put into another
pub moved_in : (s taken back : ShelfState) (from to : ℕ) (o : Object) → get_or s.objects from None ≡ Some o → get_or s.objects to None ≡ None →
    taken ≡ record s { objects = set s.objects from None } → back ≡ record taken { objects = set taken.objects to (Some o) } →
    back ≡ record s { objects = set (set s.objects to (get_or s.objects from None)) from None }
moved_in s taken back from to o was empty took put =
    put
    ∙ (ap (λ (t : ShelfState). record t { objects = set t.objects to (Some o) }) took
    ∙ ap (λ (objects : List (Option Object)). record { objects = objects; home = s.home })
    (set_comm s.objects from to None (Some o) apart ∙ ap (λ (x : Option Object). set (set s.objects to x) from None) (sym was)))
  where
    never : ◌≡◌ {A = Option Object} None (Some o) → ⊥
    never e = cc

    apart : from ≡ to → ⊥
    apart same = never (sym empty ∙ (ap (λ n. get_or s.objects n None) (sym same) ∙ was))

-- what holds of two holds of each
pub all_two : {X : Type 0} (P : X → Type 0) (x y : X) → P x → P y → (k : ℕ) (d : X) → k < 2 → P (get_or (x ∷ y ∷ []) k d)
all_two P x y first second zero d below = first
all_two P x y first second (suc zero) d below = second
all_two P x y first second (suc (suc k)) d below = absurd (omega (arith, below))
