-- Lists cut at separators, and lists compared key by key.
use Rattle.std.proofs.Common.{◌≡◌, ◌≢◌, ◌==◌, ◌+◌, ◌<◌, ◌≤◌, ◌++◌, ◌⊎◌, ℕ, zero, suc, List, [], ◌∷◌, length, map, filter, refl, sym, ap, ap₂, ◌∙◌, subst, ⊎_elim, inl, inr, arith, append_assoc, length-append}
use Rattle.std.specs.List.{flat_map, range_with_len, AllByRecursion}
use Rattle.std.proofs.lemmas.List.{length-map, map-append}
use Rattle.std.proofs.lemmas.Bool.{cases_eq, eq-eqb, ne_eqb, cond-true, cond-false, cond_both}
use Rattle.kmem_model.specs.RunLines.{as_lines}

-- Parts of a list

abbrev pub first_of : {X : Type 0} → X → List X → X
first_of d [] = d
first_of d (x ∷ xs) = x

abbrev pub rest_of : {X : Type 0} → List X → List X
rest_of [] = []
rest_of (x ∷ xs) = xs

-- Cuts at a separator

-- no byte of the text is this one
abbrev pub Avoids : ℕ → List ℕ → Type 0
Avoids c [] = Unit {0}
Avoids c (b ∷ bs) = (b ≢ c) × Avoids c bs

pub avoids_both : (c : ℕ) (xs ys : List ℕ) → Avoids c xs → Avoids c ys → Avoids c (xs ++ ys)
avoids_both c [] ys h k = k
avoids_both c (x ∷ xs) ys h k = (h.0, avoids_both c xs ys h.1 k)

-- two texts with the separator behind each, and rests: alike only where both are
pub cut_at : (c : ℕ) (x y a b : List ℕ) → Avoids c x → Avoids c y → x ++ c ∷ a ≡ y ++ c ∷ b → (x ≡ y) × (a ≡ b)
cut_at c [] [] a b h k e = (refl, ap rest_of e)
cut_at c [] (y ∷ ys) a b h k e = absurd (k.0 (sym (ap (first_of 0) e)))
cut_at c (x ∷ xs) [] a b h k e = absurd (h.0 (ap (first_of 0) e))
cut_at c (x ∷ xs) (y ∷ ys) a b h k e =
    let on = cut_at c xs ys a b h.1 k.1 (ap rest_of e) in
    (ap₂ (λ z zs. z ∷ zs) (ap (first_of 0) e) on.0, on.1)

line_first : (x : List ℕ) (xs : List (List ℕ)) (a : List ℕ) → as_lines (x ∷ xs) ++ a ≡ x ++ 10 ∷ (as_lines xs ++ a)
line_first x xs a = append_assoc (x ++ 10 ∷ []) (as_lines xs) a ∙ append_assoc x (10 ∷ []) (as_lines xs ++ a)

-- as many lines each, and rests
pub cut_lines : (xs ys : List (List ℕ)) (a b : List ℕ) → length xs ≡ length ys → AllByRecursion (Avoids 10) xs → AllByRecursion (Avoids 10) ys →
    as_lines xs ++ a ≡ as_lines ys ++ b → (xs ≡ ys) × (a ≡ b)
cut_lines [] [] a b n h k e = (refl, e)
cut_lines [] (y ∷ ys) a b n h k e = absurd (omega (arith, n))
cut_lines (x ∷ xs) [] a b n h k e = absurd (omega (arith, n))
cut_lines (x ∷ xs) (y ∷ ys) a b n h k e =
    let here = cut_at 10 x y (as_lines xs ++ a) (as_lines ys ++ b) h.0 k.0 (sym (line_first x xs a) ∙ (e ∙ line_first y ys b)) in
    let on = cut_lines xs ys a b (omega (arith, n)) h.1 k.1 here.1 in
    (ap₂ (λ z zs. z ∷ zs) here.0 on.0, on.1)

-- Two lists of which the first parts are as long
pub cut_parts : {X : Type 0} (ps bs cs ds : List X) → length ps ≡ length bs → ps ++ cs ≡ bs ++ ds → (ps ≡ bs) × (cs ≡ ds)
cut_parts [] [] cs ds n e = (refl, e)
cut_parts [] (b ∷ bs) cs ds n e = absurd (omega (arith, n))
cut_parts (p ∷ ps) [] cs ds n e = absurd (omega (arith, n))
cut_parts (p ∷ ps) (b ∷ bs) cs ds n e =
    let on = cut_parts ps bs cs ds (omega (arith, n)) (ap rest_of e) in
    (ap₂ (λ z zs. z ∷ zs) (ap (first_of p) e) on.0, on.1)

-- what holds of two lists holds of both together
pub all_both : {X : Type 0} (P : X → Type 0) (xs ys : List X) → AllByRecursion P xs → AllByRecursion P ys → AllByRecursion P (xs ++ ys)
all_both P [] ys h k = k
all_both P (x ∷ xs) ys h k = (h.0, all_both P xs ys h.1 k)

pub all_mapped : {X Y : Type 0} (f : X → Y) (P : Y → Type 0) (Q : X → Type 0) (xs : List X) → ((x : X) → Q x → P (f x)) → AllByRecursion Q xs → AllByRecursion P (map f xs)
all_mapped f P Q [] does h = tt
all_mapped f P Q (x ∷ xs) does h = (does x h.0, all_mapped f P Q xs does h.1)

-- Lists by key

module _ {X : Type 0} (key : X → ℕ) where
  -- those of a key
  abbrev pub of_key : List X → ℕ → List X
  of_key xs k = filter (λ x. key x == k) xs

  kept : (k : ℕ) (x : X) (xs : List X) → key x ≡ k → of_key (x ∷ xs) k ≡ x ∷ of_key xs k
  kept k x xs e = cond-true (key x == k) _ _ (eq-eqb (key x) k e)

  left_out : (k : ℕ) (x : X) (xs : List X) → key x ≢ k → of_key (x ∷ xs) k ≡ of_key xs k
  left_out k x xs e = cond-false (key x == k) _ _ (ne_eqb (key x) k e)

  -- two lists with the same keys, that are alike for each key, are alike
  pub same_by_key : {Y : Type 0} (f : X → Y) (xs ys : List X) → map key xs ≡ map key ys → ((k : ℕ) → map f (of_key xs k) ≡ map f (of_key ys k)) → map f xs ≡ map f ys
  same_by_key f [] [] keys e = refl
  same_by_key f [] (y ∷ ys) keys e = absurd (omega (arith, ap length keys))
  same_by_key f (x ∷ xs) [] keys e = absurd (omega (arith, ap length keys))
  same_by_key {Y} f (x ∷ xs) (y ∷ ys) keys e =
      let here : key x ≡ key y = ap (first_of 0) keys in
      let both : f x ∷ map f (of_key xs (key x)) ≡ f y ∷ map f (of_key ys (key x)) =
      sym (ap (map f) (kept (key x) x xs refl)) ∙ (e (key x) ∙ ap (map f) (kept (key x) y ys (sym here))) in
      ap₂ (λ z zs. z ∷ zs) (ap (first_of (f x)) both) (same_by_key f xs ys (ap rest_of keys) on)
    where
      on : (k : ℕ) → map f (of_key xs k) ≡ map f (of_key ys k)
      on k = ⊎_elim (λ mine. of_mine mine) (λ other. of_other other) (cases_eq (key x) k)
        where
          here : key x ≡ key y
          here = ap (first_of 0) keys

          of_mine : key x ≡ k → map f (of_key xs k) ≡ map f (of_key ys k)
          of_mine mine =
              ap rest_of
              (sym (ap (map f) (kept k x xs mine)) ∙ (e k ∙ ap (map f) (kept k y ys (sym here ∙ mine))))

          of_other : key x ≢ k → map f (of_key xs k) ≡ map f (of_key ys k)
          of_other other =
              sym (ap (map f) (left_out k x xs other)) ∙ (e k ∙ ap (map f) (left_out k y ys (λ same. other (here ∙ same))))

  -- All keys lie in a range: the parts of the keys there have all

  abbrev pub IsKeyWithin : ℕ → ℕ → X → Type 0
  IsKeyWithin start n x = (start ≤ key x) × (key x < start + n)

  behind : (start n : ℕ) (x : X) (xs : List X) → key x < start → flat_map (of_key (x ∷ xs)) (range_with_len start n) ≡ flat_map (of_key xs) (range_with_len start n)
  behind start zero x xs small = refl
  behind start (suc n) x xs small =
      ap₂ (λ a b. a ++ b) (left_out start x xs (λ same. omega (arith, same, small))) (behind (start + 1) n x xs (omega (arith, small)))

  one_longer : (start n : ℕ) (x : X) (xs : List X) → IsKeyWithin start n x → length (flat_map (of_key (x ∷ xs)) (range_with_len start n)) ≡ suc (length (flat_map (of_key xs) (range_with_len start n)))
  one_longer start zero x xs h = absurd (omega (arith, h.0, h.1))
  one_longer start (suc n) x xs h = ⊎_elim here (λ e. there e (one_longer (start + 1) n x xs (omega (arith, e, h.0), omega (arith, h.1)))) (cases_eq (key x) start)
    where
      here : key x ≡ start → length (flat_map (of_key (x ∷ xs)) (range_with_len start (suc n))) ≡ suc (length (flat_map (of_key xs) (range_with_len start (suc n))))
      here e = ap length (ap₂ (λ a b. a ++ b) (kept start x xs e) (behind (start + 1) n x xs (omega (arith, e))))

      there : key x ≢ start → length (flat_map (of_key (x ∷ xs)) (range_with_len (start + 1) n)) ≡ suc (length (flat_map (of_key xs) (range_with_len (start + 1) n))) →
          length (flat_map (of_key (x ∷ xs)) (range_with_len start (suc n))) ≡ suc (length (flat_map (of_key xs) (range_with_len start (suc n))))
      there e on =
          ap (λ a. length (a ++ flat_map (of_key (x ∷ xs)) (range_with_len (start + 1) n))) (left_out start x xs e)
          ∙ (length-append (of_key xs start) (flat_map (of_key (x ∷ xs)) (range_with_len (start + 1) n))
          ∙ omega (arith, on, length-append (of_key xs start) (flat_map (of_key xs) (range_with_len (start + 1) n))))

  pub length_by_key : (start n : ℕ) (xs : List X) → AllByRecursion (IsKeyWithin start n) xs → length (flat_map (of_key xs) (range_with_len start n)) ≡ length xs
  length_by_key start zero [] h = refl
  length_by_key start (suc n) [] h = length_by_key (start + 1) n [] tt
  length_by_key start n (x ∷ xs) h = one_longer start n x xs h.0 ∙ ap suc (length_by_key start n xs h.1)

  -- no other key
  pub none_outside : (k : ℕ) (xs : List X) → AllByRecursion (λ x. key x ≢ k) xs → of_key xs k ≡ []
  none_outside k [] h = refl
  none_outside k (x ∷ xs) h = left_out k x xs h.0 ∙ none_outside k xs h.1

  -- where the parts are printed alike, each is
  pub each_alike : {Y : Type 0} (f : X → Y) (xs ys : List X) (keys : List ℕ) → ((k : ℕ) → length (of_key xs k) ≡ length (of_key ys k)) →
      map f (flat_map (of_key xs) keys) ≡ map f (flat_map (of_key ys) keys) → AllByRecursion (λ k. map f (of_key xs k) ≡ map f (of_key ys k)) keys
  each_alike f xs ys [] n e = tt
  each_alike f xs ys (k ∷ keys) n e =
      let parts = cut_parts (map f (of_key xs k)) (map f (of_key ys k)) (map f (flat_map (of_key xs) keys)) (map f (flat_map (of_key ys) keys))
      (length-map (of_key xs k) f ∙ (n k ∙ sym (length-map (of_key ys k) f)))
      (sym (map-append f (of_key xs k) (flat_map (of_key xs) keys)) ∙ (e ∙ map-append f (of_key ys k) (flat_map (of_key ys) keys))) in
      (parts.0, each_alike f xs ys keys n parts.1)

  -- what holds of the parts holds of all
  pub all_by_key : {Y : Type 0} (f : X → Y) (P : Y → Type 0) (xs : List X) → ((k : ℕ) → AllByRecursion P (map f (of_key xs k))) → AllByRecursion (λ x. P (f x)) xs
  all_by_key f P [] h = tt
  all_by_key {Y} f P (x ∷ xs) h = ((subst (AllByRecursion P) (ap (map f) (kept (key x) x xs refl)) (h (key x))).0, all_by_key f P xs on)
    where
      on : (k : ℕ) → AllByRecursion P (map f (of_key xs k))
      on k = ⊎_elim
          (λ mine. (subst (AllByRecursion P) (ap (map f) (kept k x xs mine)) (h k)).1)
          (λ other. subst (AllByRecursion P) (ap (map f) (left_out k x xs other)) (h k))
          (cases_eq (key x) k)

  -- where each key has the property or none of the list, each that is there has it
  pub keys_have : (P : ℕ → Type 0) (xs : List X) → ((k : ℕ) → P k ⊎ (length (of_key xs k) ≡ 0)) → AllByRecursion (λ x. P (key x)) xs
  keys_have P [] h = tt
  keys_have P (x ∷ xs) h = (
    ⊎_elim (λ p. p) (λ none. absurd (omega (arith, none, ap length (kept (key x) x xs refl)))) (h (key x)),
    keys_have P xs on,
  )
    where
      on : (k : ℕ) → P k ⊎ (length (of_key xs k) ≡ 0)
      on k = ⊎_elim
          (λ p. inl p)
          (λ none. ⊎_elim
          (λ mine. absurd (omega (arith, none, ap length (kept k x xs mine))))
          (λ other. inr (sym (ap length (left_out k x xs other)) ∙ none))
          (cases_eq (key x) k))
          (h k)

  -- what holds of all holds of the parts
  all_of_key : (P : X → Type 0) (xs : List X) (k : ℕ) → AllByRecursion P xs → AllByRecursion P (of_key xs k)
  all_of_key P [] k h = tt
  all_of_key P (x ∷ xs) k h =
      cond_both (key x == k) (x ∷ of_key xs k) (of_key xs k) (AllByRecursion P) (λ mine. (h.0, all_of_key P xs k h.1)) (λ other. all_of_key P xs k h.1)

  pub all_parts : (P : X → Type 0) (xs : List X) (keys : List ℕ) → AllByRecursion P xs → AllByRecursion P (flat_map (of_key xs) keys)
  all_parts P xs [] h = tt
  all_parts P xs (k ∷ keys) h = all_both P (of_key xs k) (flat_map (of_key xs) keys) (all_of_key P xs k h) (all_parts P xs keys h)

  -- parts that are as long are as long together
  pub parts_length : (xs ys : List X) (keys : List ℕ) → ((k : ℕ) → length (of_key xs k) ≡ length (of_key ys k)) → length (flat_map (of_key xs) keys) ≡ length (flat_map (of_key ys) keys)
  parts_length xs ys [] n = refl
  parts_length xs ys (k ∷ keys) n =
      length-append (of_key xs k) (flat_map (of_key xs) keys) ∙ (ap₂ (λ a b. a + b) (n k) (parts_length xs ys keys n) ∙ sym (length-append (of_key ys k) (flat_map (of_key ys) keys)))

-- each number of a range
pub in_range : (P : ℕ → Type 0) (start n k : ℕ) → AllByRecursion P (range_with_len start n) → start ≤ k → k < start + n → P k
in_range P start zero k h low high = absurd (omega (arith, low, high))
in_range P start (suc n) k h low high = ⊎_elim (λ same. subst P (sym same) h.0) (λ other. in_range P (start + 1) n k h.1 (omega (arith, low, other)) (omega (arith, high))) (cases_eq k start)
