-- A bench after a command.
use Rattle.std.proofs.Common.{◌≡◌, ℕ, zero, suc, ◌+◌, ◌<◌, ◌++◌, Bool, true, false, cond, List, [], ◌∷◌, length, count_by, map, get_or, set, option_map, Option, Some, None, is_some, Result, Ok, Err, ⊎_elim, sym, ◌∙◌, ap, refl, subst, arith}
use Rattle.std.specs.Bool.{then_some}
use Rattle.std.specs.Option.{IsSome}
use Rattle.std.proofs.lemmas.Bool.{cases_eq}
use Rattle.std.proofs.lemmas.List.{length-map, get_or-set_same, get_or-set_other, get_or_default, length-append}
use Rattle.kmem_text.specs.declared.command.Command.{Command}
use Rattle.kmem_text.specs.declared.command.Reply.{Reply}
use Rattle.kmem_model.specs.Records.{held_at}
use Rattle.kmem_model.specs.Heap.{least_left_in, HeapState, address_in, address_of, hold_at, object_at, places_of, is_leftover}
use Rattle.kmem_model.specs.CacheState.{CacheState}
use Rattle.kmem_model.specs.One.{OneState, one_step}
use Rattle.kmem_model.specs.OneStands.{OneStands, OneEnds}
use Rattle.kmem_buf.specs.Homes.{Homes}
use Rattle.record_heap.specs.View.{HeapView, HoldState, IsHoldAt, IsFrame}
use Rattle.kmem_model.specs.CacheOrder.{least_below}
use Rattle.std.specs.Option.{option_or}
use Rattle.std.proofs.lemmas.List.Sums.{sum_by-set}
use Rattle.run_one.specs.Bench.{BenchView, StandsAt, Stands, IsCarriedOut, CarriesOut, IsHoldAtPlace, reply_in}
use Rattle.kmem_text.specs.Replies.{IsReplyWithinNames}
use Rattle.std.specs.Option.{IfSome}
use Rattle.kmem_buf.specs.Buffers.{BufState}
use Rattle.kmem_model.specs.Heap.{Object}
use Rattle.record_heap.specs.Puts.{IsReplaced}
use Rattle.record_heap.specs.declared.heap.put.Offer.TheVariants.{Nothing}
use Rattle.record_heap.specs.declared.heap.put.PutEnd.{PutEnd}
use Rattle.record_heap.specs.declared.heap.put.PutEnd.TheVariants.{Replied, Wanting}

get_or-mapped : {X Y : Type 0} (f : X → Y) (xs : List (Option X)) (i : ℕ) → is_some (get_or (map (option_map f) xs) i None) ≡ is_some (get_or xs i None)
get_or-mapped f [] i = refl
get_or-mapped f (None ∷ xs) zero = refl
get_or-mapped f (Some x ∷ xs) zero = refl
get_or-mapped f (x ∷ xs) (suc i) = get_or-mapped f xs i

-- a tag is in use in the heap exactly where it is in the map
pub in_use : (s : OneState) (h : HeapState) (place : ℕ) → OneStands s h → is_some (hold_at h place) ≡ is_some (held_at s.map place)
in_use s h place stands = ap (λ xs. is_some (get_or xs place None)) stands.stands.paired.tags ∙ get_or-mapped (address_in s.addresses) s.map.tags place

-- the bench stands for what `one` keeps after the step
pub carried : (old new : BenchView) (s : OneState) (worker : ℕ) (command : Command) (reply said : Reply) (cache : CacheState) → StandsAt s old → OneEnds (one_step s worker command) said cache new.heap.heap → reply ≡ said → new.cache.state ≡ cache → new.cache.home ≡ old.cache.home → IsFrame old.heap new.heap →
    ((place : ℕ) → is_some (get_or new.holds place None) ≡ is_some (hold_at new.heap.heap place)) → IsCarriedOut s worker command reply new
carried old new s worker command reply said cache at ends is state home frame held =
    record {
      replies = is ∙ sym ends.replies;
      stands = record {
        stands = ends.stands;
        cache = state ∙ sym ends.leaves;
        cells = ap (λ (h : Homes). length h.cells) home ∙ (at.cells ∙ (sym at.stands.size ∙ (sym frame.objects ∙ ends.stands.size)));
        held = held;
      };
    }

-- where as many holds stand as before and the tags stay in use, there is a hold for each
pub held_same : (old new : BenchView) (s : OneState) (worker : ℕ) (command : Command) → StandsAt s old → OneStands (one_step s worker command).state new.heap.heap → (one_step s worker command).state.map.tags ≡ s.map.tags →
    ((place : ℕ) → is_some (get_or new.holds place None) ≡ is_some (get_or old.holds place None)) →
    (place : ℕ) → is_some (get_or new.holds place None) ≡ is_some (hold_at new.heap.heap place)
held_same old new s worker command at stands tags holds place =
    holds place
    ∙ (at.held place
    ∙ (in_use s old.heap.heap place at.stands
    ∙ (sym (ap (λ xs. is_some (get_or xs place None)) tags)
    ∙ sym (in_use (one_step s worker command).state new.heap.heap place stands))))

-- and where both change at one place, in the same way
pub held_changed : (old new : BenchView) (s : OneState) (worker : ℕ) (command : Command) (tags : List (Option ℕ)) → OneStands (one_step s worker command).state new.heap.heap → (one_step s worker command).state.map.tags ≡ tags →
    ((place : ℕ) → is_some (get_or new.holds place None) ≡ is_some (get_or tags place None)) →
    (place : ℕ) → is_some (get_or new.holds place None) ≡ is_some (hold_at new.heap.heap place)
held_changed old new s worker command tags stands same holds place =
    holds place ∙ (sym (ap (λ xs. is_some (get_or xs place None)) same) ∙ sym (in_use (one_step s worker command).state new.heap.heap place stands))

-- Lists of what may be there

cleared : {X : Type 0} (xs : List (Option X)) (i : ℕ) → get_or (set xs i None) i None ≡ None
cleared [] i = refl
cleared (x ∷ xs) zero = refl
cleared (x ∷ xs) (suc i) = cleared xs i

-- one place holds what it held, or something where it held something
pub kept_at : {X : Type 0} (xs : List (Option X)) (i : ℕ) (y : Option X) → i < length xs → is_some y ≡ is_some (get_or xs i None) → (j : ℕ) → is_some (get_or (set xs i y) j None) ≡ is_some (get_or xs j None)
kept_at xs i y below same j =
    ⊎_elim
    (λ here. ap (λ k. is_some (get_or (set xs i y) k None)) here ∙ (ap is_some (get_or-set_same xs i y None below) ∙ (same ∙ ap (λ k. is_some (get_or xs k None)) (sym here))))
    (λ other. ap is_some (get_or-set_other xs i j y None other))
    (cases_eq j i)

-- both lists are cleared at one place
pub cleared_both : {X Y : Type 0} (xs : List (Option X)) (ys : List (Option Y)) (i : ℕ) → ((j : ℕ) → is_some (get_or xs j None) ≡ is_some (get_or ys j None)) → (j : ℕ) → is_some (get_or (set xs i None) j None) ≡ is_some (get_or (set ys i None) j None)
cleared_both xs ys i same j =
    ⊎_elim
    (λ here. ap (λ k. is_some (get_or (set xs i None) k None)) here ∙ (ap is_some (cleared xs i) ∙ (sym (ap is_some (cleared ys i)) ∙ ap (λ k. is_some (get_or (set ys i None) k None)) (sym here))))
    (λ other. ap is_some (get_or-set_other xs i j None None other) ∙ (same j ∙ sym (ap is_some (get_or-set_other ys i j None None other))))
    (cases_eq j i)

-- both lists are filled at one place
pub filled_both : {X Y : Type 0} (xs : List (Option X)) (ys : List (Option Y)) (i : ℕ) (x : X) (y : Y) → i < length xs → i < length ys → ((j : ℕ) → is_some (get_or xs j None) ≡ is_some (get_or ys j None)) → (j : ℕ) → is_some (get_or (set xs i (Some x)) j None) ≡ is_some (get_or (set ys i (Some y)) j None)
filled_both xs ys i x y below low same j =
    ⊎_elim
    (λ here. ap (λ k. is_some (get_or (set xs i (Some x)) k None)) here ∙ (ap is_some (get_or-set_same xs i (Some x) None below) ∙ (sym (ap is_some (get_or-set_same ys i (Some y) None low)) ∙ ap (λ k. is_some (get_or (set ys i (Some y)) k None)) (sym here))))
    (λ other. ap is_some (get_or-set_other xs i j (Some x) None other) ∙ (same j ∙ sym (ap is_some (get_or-set_other ys i j (Some y) None other))))
    (cases_eq j i)

-- what is read with itself as the default
pub read_is : {X : Type 0} (xs : List (Option X)) (i : ℕ) (x : Option X) → i < length xs → x ≡ get_or xs i x → get_or xs i None ≡ x
read_is xs i x below e = get_or_default xs i None x below ∙ sym e

-- The holds and the tags of a map
pub holds_are : (s : OneState) (b : BenchView) → StandsAt s b → (place : ℕ) → is_some (get_or b.holds place None) ≡ is_some (get_or s.map.tags place None)
holds_are s b at place = at.held place ∙ in_use s b.heap.heap place at.stands

pub tags_size : (s : OneState) (b : BenchView) → StandsAt s b → length s.map.tags ≡ length b.heap.heap.tags
tags_size s b at = sym (ap length at.stands.stands.paired.tags ∙ length-map s.map.tags (option_map (address_in s.addresses)))

-- Refusals and answers

pub legal_full : (b : Bool) (s : CacheState) → IsSome (then_some b s) → b ≡ true
legal_full true s e = refl
legal_full false s e = absurd (cc)

pub not_full : (b : Bool) (s : CacheState) → (IsSome (then_some b s) → ⊥) → b ≡ false
not_full true s h = absurd (h refl)
not_full false s h = refl

pub ok_err : {A E : Type 0} (r : Result A E) (a : A) (e : E) → r ≡ Ok a → r ≡ Err e → ⊥
ok_err r a e h k = absurd (cc)

pub same_some : {X : Type 0} (x y : X) → ◌≡◌ {A = Option X} (Some x) (Some y) → x ≡ y
same_some x y e = cc

pub none_some : {X : Type 0} (x : X) → ◌≡◌ {A = Option X} None (Some x) → ⊥
none_some x e = cc

pub some_is : {X : Type 0} (o : Option X) (x : X) → o ≡ Some x → IsSome o
some_is o x e = subst IsSome (sym e) refl

pub none_not : {X : Type 0} (o : Option X) → o ≡ None → IsSome o → ⊥
none_not None e some = cc
none_not (Some x) e some = cc

-- nothing changes
pub same_frame : {h : HeapView} → IsFrame h h
same_frame = record { home = refl; holds = refl; names = refl; tags = refl; objects = refl }

-- a tag without a hold isn't in use
pub not_used : (s : OneState) (b : BenchView) (place : ℕ) → StandsAt s b → get_or b.holds place None ≡ None → hold_at b.heap.heap place ≡ None
not_used s b place at e = none_from (hold_at b.heap.heap place) (sym (at.held place) ∙ ap is_some e)
  where
    none_from : (x : Option ℕ) → is_some x ≡ false → x ≡ None
    none_from None e = refl
    none_from (Some x) e = absurd (cc)

pub reply_same : (a b : Reply) (end : PutEnd) (buf : Option (BufState Object)) → reply_in end ≡ Some a → end ≡ Replied b buf → a ≡ b
reply_same a b end buf told is = same_some a b (sym told ∙ ap reply_in is)

pub answered : (end : PutEnd) (reply : Reply) → reply_in end ≡ None → end ≡ Replied reply None → ⊥
answered end reply none is = none_some reply (sym none ∙ ap reply_in is)

pub wanted_not : (end : PutEnd) (reply : Reply) → reply_in end ≡ Some reply → end ≡ Wanting → ⊥
wanted_not end reply told is = none_some reply (sym (ap reply_in is) ∙ told)

-- a put that wants a buffer found its name absent
pub absent_is : (h : HeapView) (name : ℕ) (value : List ℕ) (end : PutEnd) (new : HeapView) (s : OneState) → OneStands s h.heap → ((b : ℕ) → address_of h.heap name ≡ Some b → IsReplaced h name value Nothing end new) → reply_in end ≡ None → address_of h.heap name ≡ None
absent_is h name value end new s stands present none = by_address (address_of h.heap name) refl
  where
    by_address : (x : Option ℕ) → address_of h.heap name ≡ x → x ≡ None
    by_address None e = refl
    by_address (Some b) e = absurd (answered end _ none ((present b e).reply s.map s.addresses stands.stands))

-- one more place with nothing
pub one_more_none : {X : Type 0} (xs : List (Option X)) (n : ℕ) → ((k : ℕ) → get_or xs k None ≡ None) → get_or (xs ++ None ∷ []) n None ≡ None
one_more_none [] zero none = refl
one_more_none [] (suc n) none = refl
one_more_none (x ∷ xs) zero none = none 0
one_more_none (x ∷ xs) (suc n) none = one_more_none xs n (λ k. none (suc k))

pub one_more_length : {X : Type 0} (xs : List (Option X)) → length (xs ++ None ∷ []) ≡ length xs + 1
one_more_length xs = length-append xs (None ∷ [])

-- one place less
pub one_less : (xs : List Bool) (i : ℕ) → get_or xs i false ≡ true → count_by (λ x. x) (set xs i false) + 1 ≡ count_by (λ x. x) xs
one_less xs i there =
    let below : i < length xs = inside xs i there in
    let was : ◌≡◌ {A = ℕ} (cond (get_or xs i false) 1 0) 1 = ap {B = ℕ} (λ b. cond b 1 0) there in
    omega (arith, was, sum_by-set (λ b. cond b 1 0) xs i false false below)
  where
    inside : (ys : List Bool) (j : ℕ) → get_or ys j false ≡ true → j < length ys
    inside [] j e = absurd (cc)
    inside (y ∷ ys) zero e = omega arith
    inside (y ∷ ys) (suc j) e = omega (arith, inside ys j e)

-- where the least leftover lies there is an object
pub place_there : (h : HeapState) (b : ℕ) → least_left_in h ≡ Some b → get_or (places_of h.objects) b false ≡ true
place_there h b e = mapped h.objects b ∙ leftover_there (object_at h b) (found (length h.objects) (λ n. is_leftover (object_at h n)) b e)
  where
    mapped : (xs : List (Option Object)) (i : ℕ) → get_or (map is_some xs) i false ≡ is_some (get_or xs i None)
    mapped [] i = refl
    mapped (x ∷ xs) zero = refl
    mapped (x ∷ xs) (suc i) = mapped xs i

    leftover_there : (x : Option Object) → is_leftover x ≡ true → is_some x ≡ true
    leftover_there None e = e
    leftover_there (Some o) e = refl

    found : (n : ℕ) (test : ℕ → Bool) (k : ℕ) → least_below n test ≡ Some k → test k ≡ true
    found zero test k e = absurd (none_some k e)
    found (suc n) test k e = step (least_below n test) (test n) refl (λ f. found n test k f) e
      where
        step : (o : Option ℕ) (t : Bool) → test n ≡ t → (o ≡ Some k → test k ≡ true) → option_or o (then_some t n) ≡ Some k → test k ≡ true
        step (Some m) t is rest e = rest e
        step None true is rest e = ap test (sym (same_some n k e)) ∙ is
        step None false is rest e = absurd (none_some k e)

-- a hold is of the heap also after it moved
pub held_on : (old new : HeapView) (place : ℕ) (x : Option HoldState) → new.holds ≡ old.holds → IfSome x (IsHoldAtPlace old place) → IfSome x (IsHoldAtPlace new place)
held_on old new place None same held = tt
held_on old new place (Some hold) same held = (subst (λ hs. IsHoldAt hs hold) (sym same) held.0, held.1)

-- a reply of a command that was carried out names a name of the bench
pub reply_within : (old new : BenchView) (worker : ℕ) (command : Command) (reply : Reply) → Stands old → CarriesOut old worker command reply new →
    ((s : OneState) → IsReplyWithinNames (length s.map.names) (one_step s worker command).reply) → IsReplyWithinNames (length old.heap.heap.names) reply
reply_within old new worker command reply stands does within =
    let s = stands.0 in
    let sizes : length old.heap.heap.names ≡ length s.map.names = ap length stands.1.stands.stands.paired.names ∙ length-map s.map.names (option_map (address_in s.addresses)) in
    subst (λ n. IsReplyWithinNames n reply) (sym sizes) (subst (IsReplyWithinNames (length s.map.names)) (sym (does.out s stands.1).replies) (within s))
