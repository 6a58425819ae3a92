-- A heap stays tied where one object changes, with the names and tags that lead to it.
use Rattle.std.proofs.Common.{◌≡◌, ◌≢◌, ℕ, ◌+◌, ◌<◌, ◌≤◌, ◌&&◌, ◌||◌, ◌==◌, Bool, true, false, not, List, [], ◌∷◌, length, get_or, set, count_by, Option, Some, None, is_some, sym, ◌∙◌, ap, refl, subst, arith, ⊎_elim}
use Rattle.std.specs.List.{list_any}
use Rattle.std.proofs.lemmas.Bool.{both_ways, cases_eq, eq-eqb, ne_eqb, false_from_ne_true}
use Rattle.std.proofs.lemmas.List.{get_or-set_same, get_or-set_other, length-append}
use Rattle.std.proofs.lemmas.List.Folds.{list_any-append}
use Rattle.kmem_model.specs.CacheOrder.{is_the}
use Rattle.kmem_model.specs.Heap.{Object, HeapState, blank, object_at, IsTiedObject, IsTied}
use Rattle.record_heap.specs.Objects.{with_back, without_back, held_more, held_less}
use Rattle.kmem_model.proofs.CacheLists.{count-set_same, count-set_more, count-set_less, counted}
use Rattle.kmem_model.proofs.RecordsValid.{read_within, is_the_some, is_the_same}
use Rattle.record_heap.proofs.Lists.{count_none, read-set, is_the-other, is_the-none, any-without, length-without}

-- the heap with these names and tags, and with this object, or none, at this address
abbrev pub put_at : HeapState → List (Option ℕ) → List (Option ℕ) → ℕ → Option Object → HeapState
put_at h names tags b o = record { names = names; tags = tags; objects = set h.objects b o }

-- what leads to other addresses leads there as before
pub record IsSameBut (b : ℕ) (xs ys : List (Option ℕ)) : Type 0 where
  pub at : (i c : ℕ) → c ≢ b → is_the (get_or ys i None) c ≡ is_the (get_or xs i None) c
  pub count : (c : ℕ) → c ≢ b → count_by (λ a. is_the a c) ys ≡ count_by (λ a. is_the a c) xs

pub same_but : (b : ℕ) (xs : List (Option ℕ)) → IsSameBut b xs xs
same_but b xs = record { at = λ i c apart. refl; count = λ c apart. refl }

pub same_but-set : (b : ℕ) (xs : List (Option ℕ)) (i : ℕ) (y : Option ℕ) → ((c : ℕ) → c ≢ b → is_the y c ≡ is_the (get_or xs i None) c) → IsSameBut b xs (set xs i y)
same_but-set b xs i y same =
    record {
      at = λ j c apart. read-set (λ a. is_the a c) xs i j y None (same c apart);
      count = λ c apart. count-set_same (λ a. is_the a c) xs i y None (same c apart);
    }

pub same_but-begun : (b : ℕ) (xs : List (Option ℕ)) (i : ℕ) → get_or xs i None ≡ None → IsSameBut b xs (set xs i (Some b))
same_but-begun b xs i was =
    same_but-set b xs i (Some b) (λ c apart. is_the-other (Some b) b c refl apart ∙ sym (is_the-none (get_or xs i None) c was))

pub same_but-ended : (b : ℕ) (xs : List (Option ℕ)) (i : ℕ) → get_or xs i None ≡ Some b → IsSameBut b xs (set xs i None)
same_but-ended b xs i was = same_but-set b xs i None (λ c apart. sym (is_the-other (get_or xs i None) b c was apart))

-- the back references and the hold count of an object are those of the names and tags that lead to it
pub record IsCounted (names tags : List (Option ℕ)) (b : ℕ) (o : Object) : Type 0 where
  pub back : (name : ℕ) → list_any (λ other. other == name) o.names ≡ is_the (get_or names name None) b
  pub once : length o.names ≡ count_by (λ a. is_the a b) names
  pub held : o.holds ≡ count_by (λ a. is_the a b) tags

pub counted_in : (h : HeapState) (b : ℕ) (o : Object) → IsTiedObject h b o → IsCounted h.names h.tags b o
counted_in h b o tied = record { back = tied.names; once = tied.once; held = tied.holds }

-- where none is counted, none leads there
unled : (b : ℕ) (xs : List (Option ℕ)) → count_by (λ a. is_the a b) xs ≡ 0 → (i : ℕ) → is_the (get_or xs i None) b ≡ false
unled b xs none i =
    false_from_ne_true (is_the (get_or xs i None) b)
    (λ leads. omega (arith, none, counted (λ a. is_the a b) xs i None (read_within xs i b (is_the_some (get_or xs i None) b leads)) leads))

-- an object of which something leads to it is used
pub named_used : (names tags : List (Option ℕ)) (b : ℕ) (o : Object) (i : ℕ) → IsCounted names tags b o → get_or names i None ≡ Some b → length o.names + o.holds ≢ 0
named_used names tags b o i counts leads none =
    omega (arith, none, counts.once, counted (λ a. is_the a b) names i None (read_within names i b leads) (is_the_same (get_or names i None) b leads))

pub held_used : (names tags : List (Option ℕ)) (b : ℕ) (o : Object) (i : ℕ) → IsCounted names tags b o → get_or tags i None ≡ Some b → 0 < o.holds
held_used names tags b o i counts leads =
    omega (arith, counts.held, counted (λ a. is_the a b) tags i None (read_within tags i b leads) (is_the_same (get_or tags i None) b leads))

-- what leads somewhere leads to an object
lead : (objects : List (Option Object)) (b : ℕ) (o : Option Object) → b < length objects → (xs ys : List (Option ℕ)) → IsSameBut b xs ys →
    ((i : ℕ) → is_the (get_or ys i None) b ≡ true → is_some o ≡ true) → ((i c : ℕ) → get_or xs i None ≡ Some c → is_some (get_or objects c None) ≡ true) →
    (i c : ℕ) → get_or ys i None ≡ Some c → is_some (get_or (set objects b o) c None) ≡ true
lead objects b o low xs ys same to from i c leads =
    ⊎_elim
    (λ is.
    ap is_some (ap (λ n. get_or (set objects b o) n None) is ∙ get_or-set_same objects b o None low)
    ∙ to i (is_the_same (get_or ys i None) b (leads ∙ ap Some is)))
    (λ apart.
    ap is_some (get_or-set_other objects b c o None apart)
    ∙ from i c (is_the_some (get_or xs i None) c (sym (same.at i c apart) ∙ is_the_same (get_or ys i None) c leads)))
    (cases_eq c b)

-- one object changes, with the names and tags that lead to it
module _ (h : HeapState) (names tags : List (Option ℕ)) (b : ℕ) (tied : IsTied h) (low : b < length h.objects) (same_names : IsSameBut b h.names names) (same_tags : IsSameBut b h.tags tags) where
  tied_at : (o : Option Object) → ((i : ℕ) → is_the (get_or names i None) b ≡ true → is_some o ≡ true) → ((i : ℕ) → is_the (get_or tags i None) b ≡ true → is_some o ≡ true) →
      ((p : Object) → o ≡ Some p → IsTiedObject (put_at h names tags b o) b p) → IsTied (put_at h names tags b o)
  tied_at o named held here =
      let at : get_or (set h.objects b o) b None ≡ o = get_or-set_same h.objects b o None low in
      record {
        named = lead h.objects b o low h.names names same_names named tied.named;
        held = lead h.objects b o low h.tags tags same_tags held tied.held;
        objects = λ c p is_at.
            ⊎_elim
            (λ is.
            subst (λ n. IsTiedObject (put_at h names tags b o) n p) (sym is)
            (here p (sym at ∙ (ap (λ n. get_or (set h.objects b o) n None) (sym is) ∙ is_at))))
            (λ apart.
            let was : IsTiedObject h c p = tied.objects c p (sym (get_or-set_other h.objects b c o None apart) ∙ is_at) in
            record {
              names = λ name. was.names name ∙ sym (same_names.at name c apart);
              once = was.once ∙ sym (same_names.count c apart);
              holds = was.holds ∙ sym (same_tags.count c apart);
              blank = was.blank;
            })
            (cases_eq c b);
      }

  -- the object is used
  pub tied_used : (o : Object) → IsCounted names tags b o → length o.names + o.holds ≢ 0 → IsTied (put_at h names tags b (Some o))
  tied_used o counts used =
      tied_at (Some o) (λ i leads. refl) (λ i leads. refl)
      (λ p is.
      subst (λ q. IsTiedObject (put_at h names tags b (Some o)) b q) (same_some o p is)
      (record {
        names = counts.back;
        once = counts.once;
        holds = counts.held;
        blank = λ none. absurd (used none);
      }))
    where
      same_some : (x y : Object) → ◌≡◌ {A = Option Object} (Some x) (Some y) → x ≡ y
      same_some x y e = cc

  -- nothing leads to the object any more, and it goes
  pub tied_gone : (o : Object) → IsCounted names tags b o → length o.names + o.holds ≡ 0 → IsTied (put_at h names tags b None)
  tied_gone o counts none =
      tied_at None (λ i leads. absurd (both_ways (is_the (get_or names i None) b) (unled b names (omega (arith, counts.once, none)) i) leads))
      (λ i leads. absurd (both_ways (is_the (get_or tags i None) b) (unled b tags (omega (arith, counts.held, none)) i) leads))
      (λ p is. absurd (cc))

  -- nothing leads to the object any more, and it is a leftover
  pub tied_left : (o : Object) → IsCounted names tags b o → length o.names + o.holds ≡ 0 → IsTied (put_at h names tags b (Some blank))
  tied_left o counts none =
      tied_at (Some blank) (λ i leads. refl) (λ i leads. refl)
      (λ p is.
      subst (λ q. IsTiedObject (put_at h names tags b (Some blank)) b q) (same_some blank p is)
      (record {
        names = λ name. sym (unled b names (omega (arith, counts.once, none)) name);
        once = (let z : 0 ≡ count_by (λ a. is_the a b) names = omega (arith, counts.once, none) in z);
        holds = (let z : 0 ≡ count_by (λ a. is_the a b) tags = omega (arith, counts.held, none) in z);
        blank = λ zero. refl;
      }))
    where
      same_some : (x y : Object) → ◌≡◌ {A = Option Object} (Some x) (Some y) → x ≡ y
      same_some x y e = cc

-- What each change does to the counts

pub counted_linked : (names tags : List (Option ℕ)) (b n : ℕ) (o : Object) → IsCounted names tags b o → n < length names → get_or names n None ≡ None →
    IsCounted (set names n (Some b)) tags b (with_back n o)
counted_linked names tags b n o counts low was =
    record {
      back = λ name.
          list_any-append (λ other. other == name) o.names (n ∷ [])
          ∙ ⊎_elim
          (λ is.
          or_last (list_any (λ other. other == name) o.names) (n == name) (eq-eqb n name (sym is))
          ∙ sym (ap (λ a. is_the a b) (ap (λ i. get_or (set names n (Some b)) i None) is ∙ get_or-set_same names n (Some b) None low) ∙ eq-eqb b b refl))
          (λ apart.
          or_none (list_any (λ other. other == name) o.names) (n == name) (ne_eqb n name (λ e. apart (sym e)))
          ∙ (counts.back name ∙ sym (ap (λ a. is_the a b) (get_or-set_other names n name (Some b) None apart))))
          (cases_eq name n);
      once =
          omega (
            arith,
            length-append o.names (n ∷ []),
            counts.once,
            count-set_more (λ a. is_the a b) names n (Some b) None low (is_the-none (get_or names n None) b was) (eq-eqb b b refl),
          );
      held = counts.held;
    }
  where
    or_last : (x y : Bool) → y ≡ true → (x || (y || false)) ≡ true
    or_last true y e = refl
    or_last false y e = ap (λ t. t || false) e

    or_none : (x y : Bool) → y ≡ false → (x || (y || false)) ≡ x
    or_none true y e = refl
    or_none false y e = ap (λ t. t || false) e

pub counted_unlinked : (names tags : List (Option ℕ)) (b n : ℕ) (o : Object) → IsCounted names tags b o → get_or names n None ≡ Some b → count_by (λ other. other == n) o.names ≤ 1 →
    IsCounted (set names n None) tags b (without_back n o)
counted_unlinked names tags b n o counts was most =
    let low : n < length names = read_within names n b was in
    let leads : is_the (get_or names n None) b ≡ true = is_the_same (get_or names n None) b was in
    record {
      back = λ name.
          any-without n name o.names
          ∙ ⊎_elim
          (λ is.
          and_last (list_any (λ other. other == name) o.names) (not (name == n)) (ap not (eq-eqb name n is))
          ∙ sym (ap (λ a. is_the a b) (ap (λ i. get_or (set names n None) i None) is ∙ get_or-set_same names n None None low)))
          (λ apart.
          and_all (list_any (λ other. other == name) o.names) (not (name == n)) (ap not (ne_eqb name n apart))
          ∙ (counts.back name ∙ sym (ap (λ a. is_the a b) (get_or-set_other names n name None None apart))))
          (cases_eq name n);
      once =
          omega (
            arith,
            counts.once,
            length-without n o.names most (counts.back n ∙ leads),
            count-set_less (λ a. is_the a b) names n None None low leads refl,
          );
      held = counts.held;
    }
  where
    and_last : (x y : Bool) → y ≡ false → (x && y) ≡ false
    and_last true y e = e
    and_last false y e = refl

    and_all : (x y : Bool) → y ≡ true → (x && y) ≡ x
    and_all true y e = e
    and_all false y e = refl

pub counted_held : (names tags : List (Option ℕ)) (b p : ℕ) (o : Object) → IsCounted names tags b o → p < length tags → get_or tags p None ≡ None →
    IsCounted names (set tags p (Some b)) b (held_more o)
counted_held names tags b p o counts low was =
    record {
      back = counts.back;
      once = counts.once;
      held =
          omega (arith, counts.held, count-set_more (λ a. is_the a b) tags p (Some b) None low (is_the-none (get_or tags p None) b was) (eq-eqb b b refl));
    }

pub counted_released : (names tags : List (Option ℕ)) (b p : ℕ) (o : Object) → IsCounted names tags b o → get_or tags p None ≡ Some b →
    IsCounted names (set tags p None) b (held_less o)
counted_released names tags b p o counts was =
    record {
      back = counts.back;
      once = counts.once;
      held =
          omega (arith, counts.held, count-set_less (λ a. is_the a b) tags p None None (read_within tags p b was) (is_the_same (get_or tags p None) b was) refl);
    }

-- nothing leads to an address without an object, nor to a leftover
pub counted_empty : (h : HeapState) (b : ℕ) → IsTied h → object_at h b ≡ None → IsCounted h.names h.tags b blank
counted_empty h b tied empty =
    let none : (xs : List (Option ℕ)) → ((i c : ℕ) → get_or xs i None ≡ Some c → is_some (object_at h c) ≡ true) → (i : ℕ) → is_the (get_or xs i None) b ≡ false =
    λ xs leads i.
    false_from_ne_true (is_the (get_or xs i None) b)
    (λ is. both_ways (is_some (object_at h b)) (ap is_some empty) (leads i b (is_the_some (get_or xs i None) b is))) in
    record {
      back = λ name. sym (none h.names tied.named name);
      once = sym (count_none (λ a. is_the a b) h.names (none h.names tied.named));
      held = sym (count_none (λ a. is_the a b) h.tags (none h.tags tied.held));
    }
