-- What the two searches find.
use Rattle.std.proofs.Common.{◌≡◌, ℕ, zero, suc, ◌<◌, ◌≤◌, Bool, true, false, ◌&&◌, Option, Some, None, is_some, is_none, ◌⊎◌, inl, inr, ⊎_elim, sym, ◌∙◌, ap, refl, arith}
use Rattle.std.proofs.lemmas.Bool.{and_parts, and_from, and_cases, and_left, and_right, cases_Bool, cases_eq, both_ways}
use Rattle.std.specs.Bool.{then_some}
use Rattle.std.specs.Option.{option_or}
use Rattle.kmem_model.specs.CacheOrder.{least_below, foremost, IsLeastBelow, IsForemost, IsOrder}

-- nothing is found only where no number passes
pub fails_from_none : (n : ℕ) (test : ℕ → Bool) → least_below n test ≡ None → (j : ℕ) → j < n → test j ≡ false
fails_from_none zero test e j below = absurd (omega arith)
fails_from_none (suc n) test e j below = step (least_below n test) (fails_from_none n test) (test n) refl e
  where
    step : (o : Option ℕ) → (o ≡ None → (i : ℕ) → i < n → test i ≡ false) →
        (b : Bool) → test n ≡ b → option_or o (then_some b n) ≡ None → test j ≡ false
    step (Some m) none b here is = absurd (cc)
    step None none true here is = absurd (cc)
    step None none false here is =
        ⊎_elim (λ same. ap test same ∙ here) (λ other. none refl j (omega (arith, other))) (cases_eq j n)

-- nothing is found where no number passes
pub none_from_fails : (n : ℕ) (test : ℕ → Bool) → ((j : ℕ) → j < n → test j ≡ false) → least_below n test ≡ None
none_from_fails zero test fails = refl
none_from_fails (suc n) test fails =
    step (least_below n test) (none_from_fails n test (λ j below. fails j (omega arith))) (test n) (fails n (omega arith))
  where
    step : (o : Option ℕ) → o ≡ None → (b : Bool) → b ≡ false → option_or o (then_some b n) ≡ None
    step (Some m) is b here = absurd (cc)
    step None is true here = absurd (cc)
    step None is false here = refl

-- what is found is the least number that passes
pub least_from_some : (n : ℕ) (test : ℕ → Bool) (k : ℕ) → least_below n test ≡ Some k → IsLeastBelow n test k
least_from_some zero test k e = absurd (cc)
least_from_some (suc n) test k e = step (least_below n test) (least_from_some n test k) (fails_from_none n test) (test n) refl e
  where
    step : (o : Option ℕ) → (o ≡ Some k → IsLeastBelow n test k) → (o ≡ None → (j : ℕ) → j < n → test j ≡ false) →
        (b : Bool) → test n ≡ b → option_or o (then_some b n) ≡ Some k → IsLeastBelow (suc n) test k
    step (Some m) found none b here is =
        let least : IsLeastBelow n test k = found is in
        record { below = omega arith; passes = least.passes; least = least.least }
    step None found none true here is =
        let same : n ≡ k = cc in
        record {
          below = omega arith;
          passes = ap test (sym same) ∙ here;
          least = λ j below. none refl j (omega arith);
        }
    step None found none false here is = absurd (cc)

-- the least number that passes is found
pub some_from_least : (n : ℕ) (test : ℕ → Bool) (k : ℕ) → IsLeastBelow n test k → least_below n test ≡ Some k
some_from_least zero test k least = absurd (omega arith)
some_from_least (suc n) test k least =
    ⊎_elim
    (λ same. at_last (least_below n test) (none_from_fails n test (λ j below. least.least j (omega (arith, same)))) (test n)
    (ap test (sym same) ∙ least.passes) ∙ ap Some (sym same))
    (λ other. earlier (least_below n test)
    (some_from_least n test k (record { below = omega (arith, other); passes = least.passes; least = least.least })))
    (cases_eq k n)
  where
    at_last : (o : Option ℕ) → o ≡ None → (b : Bool) → b ≡ true → option_or o (then_some b n) ≡ Some n
    at_last (Some m) is b here = absurd (cc)
    at_last None is true here = refl
    at_last None is false here = absurd (cc)

    earlier : (o : Option ℕ) → o ≡ Some k → option_or o (then_some (test n) n) ≡ Some k
    earlier (Some m) is = is
    earlier None is = absurd (cc)

-- what is_none of an option says
pub is_none_says : {X : Type 0} (o : Option X) → is_none o ≡ true → o ≡ None
is_none_says (Some x) e = absurd (cc)
is_none_says None e = refl

module _ (n : ℕ) (test : ℕ → Bool) (before : ℕ → ℕ → Bool) where
  -- i has none before it
  abbrev leads : ℕ → Bool
  leads i = test i && is_none (least_below n (λ j. test j && before j i))

  leads_says : (i : ℕ) → leads i ≡ true → (j : ℕ) → j < n → test j ≡ true → before j i ≡ false
  leads_says i e j below passes =
      let none = fails_from_none n (λ k. test k && before k i)
      (is_none_says (least_below n (λ k. test k && before k i)) (and_parts (test i) _ e).1) j below in
      ⊎_elim (λ fails. absurd (both_ways (test j) fails passes)) (λ fails. fails) (and_cases (test j) (before j i) none)

  leads_from : (i : ℕ) → IsForemost n test before i → leads i ≡ true
  leads_from i f =
      and_from (test i) _ f.passes
      (ap is_none (none_from_fails n (λ k. test k && before k i)
      (λ j below.
      ⊎_elim (λ passes. and_right (test j) _ (f.first j below passes)) (λ fails. and_left (test j) _ fails)
      (cases_Bool (test j)))))

  -- what is found has none before it
  pub foremost_from_some : (i : ℕ) → foremost n test before ≡ Some i → IsForemost n test before i
  foremost_from_some i e =
      let least : IsLeastBelow n leads i = least_from_some n leads i e in
      record {
        below = least.below;
        passes = (and_parts (test i) _ least.passes).0;
        first = leads_says i least.passes;
      }

  -- what has none before it is found
  pub some_from_foremost : (i : ℕ) → IsOrder before → IsForemost n test before i → foremost n test before ≡ Some i
  some_from_foremost i order f =
      some_from_least n leads i
      (record {
        below = f.below;
        passes = leads_from i f;
        least = λ j below.
            ⊎_elim
            (λ leading. absurd
            (both_ways (before i j)
            (leads_says j leading i f.below f.passes)
            (order.total j i (λ same. omega (arith, same))
            (f.first j (omega (arith, f.below)) (and_parts (test j) _ leading).0))))
            (λ fails. fails)
            (cases_Bool (leads j));
      })

  before_self : IsOrder before → (i : ℕ) → before i i ≡ false
  before_self order i = ⊎_elim (λ yes. order.one_way i i yes) (λ no. no) (cases_Bool (before i i))

  -- the only one that passes is the first
  foremost_alone : (m : ℕ) → IsOrder before → ((j : ℕ) → j < m → test j ≡ false) → test m ≡ true →
      IsForemost (suc m) test before m
  foremost_alone m order none passes =
      record {
        below = omega arith;
        passes = passes;
        first = λ j below pass.
            ⊎_elim (λ same. ap (λ i. before i m) same ∙ before_self order m)
            (λ other. absurd (both_ways (test j) (none j (omega (arith, other))) pass))
            (cases_eq j m);
      }

  -- one number more: it comes first, or the first stays
  first_with : (m : ℕ) → IsOrder before → (i : ℕ) → IsForemost m test before i →
      (test m ≡ true) ⊎ (test m ≡ false) → (before m i ≡ true) ⊎ (before m i ≡ false) →
      (k : ℕ) × IsForemost (suc m) test before k
  first_with m order i f (inl passes) (inl earlier) = (
    m,
    record {
      below = omega arith;
      passes = passes;
      first = λ j below pass.
          ⊎_elim (λ same. ap (λ k. before k m) same ∙ before_self order m)
          (λ other.
          ⊎_elim
          (λ yes. absurd (both_ways (before j i) (f.first j (omega (arith, other)) pass) (order.transitive j m i yes earlier)))
          (λ no. no)
          (cases_Bool (before j m)))
          (cases_eq j m);
    },
  )
  first_with m order i f (inl passes) (inr later) = (
    i,
    record {
      below = omega (arith, f.below);
      passes = f.passes;
      first = λ j below pass.
          ⊎_elim (λ same. ap (λ k. before k i) same ∙ later) (λ other. f.first j (omega (arith, other)) pass) (cases_eq j m);
    },
  )
  first_with m order i f (inr fails) after = (
    i,
    record {
      below = omega (arith, f.below);
      passes = f.passes;
      first = λ j below pass.
          ⊎_elim (λ same. absurd (both_ways (test m) fails (ap test (sym same) ∙ pass)))
          (λ other. f.first j (omega (arith, other)) pass)
          (cases_eq j m);
    },
  )

  -- of the first m numbers none passes, or one that passes has none of them before it
  first_of : (m : ℕ) → IsOrder before → m ≤ n →
      ((j : ℕ) → j < m → test j ≡ false) ⊎ ((i : ℕ) × IsForemost m test before i)
  first_of zero order fits = inl (λ j below. absurd (omega arith))
  first_of (suc m) order fits =
      ⊎_elim
      (λ none.
      ⊎_elim
      (λ passes. inr (m, foremost_alone m order none passes))
      (λ fails. inl (λ j below. ⊎_elim (λ same. ap test same ∙ fails) (λ other. none j (omega (arith, other))) (cases_eq j m)))
      (cases_Bool (test m)))
      (λ (i, f). inr (first_with m order i f (cases_Bool (test m)) (cases_Bool (before m i))))
      (first_of m order (omega arith))

  -- where some number passes, one is found
  pub foremost_from_passes : IsOrder before → (k : ℕ) → k < n → test k ≡ true → is_some (foremost n test before) ≡ true
  foremost_from_passes order k below passes =
      ⊎_elim
      (λ none. absurd (both_ways (test k) (none k below) passes))
      (λ (i, f). rw (some_from_foremost i order f) refl)
      (first_of n order (omega arith))

  -- nothing is found only where no number passes
  pub none_passes_from_none : IsOrder before → foremost n test before ≡ None → (k : ℕ) → k < n → test k ≡ false
  none_passes_from_none order e k below =
      ⊎_elim
      (λ passes. absurd (both_ways true (sym (foremost_from_passes order k below passes) ∙ ap is_some e) refl))
      (λ fails. fails)
      (cases_Bool (test k))

  -- nothing is found where no number passes
  pub none_from_none_passes : ((k : ℕ) → k < n → test k ≡ false) → foremost n test before ≡ None
  none_from_none_passes fails = none_from_fails n leads (λ j below. rw (fails j below) refl)
