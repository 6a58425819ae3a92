-- How the sessions and movers of a table begin and end, as lists.
use Rattle.std.proofs.Common.{◌≡◌, ℕ, ◌+◌, ◌-◌, ◌≤◌, List, [], ◌∷◌, ◌++◌, length, get_or, slice_get, map, reverse, replicate, All, Some, refl, sym, ap, ap₂, ◌∙◌, subst, arith, append_assoc}
use Rattle.std.specs.List.{sum_by}
use Rattle.std.proofs.lemmas.List.{reverse-reverse, length-append, map-append, length-replicate}
use Rattle.std.proofs.Math.Seq.{get_or-append_right}
use Rattle.std.proofs.lemmas.Option.{slice_get-get_or}
use Rattle.std.proofs.lemmas.List.Sums.{sum_by-append}
use Rattle.std.proofs.lemmas.List.Elements.{All-nil, All-cons, All-head, All-tail, All-append, All-map}
use Rattle.atomic_table.specs.Seated.{TableId}
use Rattle.kmem_model.specs.declared.record_entry.RecordEntry.{RecordEntry}
use Rattle.hist_lock.specs.Passes.{Site, PassState, fresh, fresh_passes}
use Rattle.kmem_cache.proofs.Partings.{reverse-cons, map-more, all_reverse, all_back, all_unmap, sum-reverse, sum-map}
use Rattle.record_table.specs.Shares.{fresh_share, fresh_shares}
use Rattle.record_table.specs.Tables.{TableHome}
use Rattle.record_table.specs.Openings.{IsFreshPass, IsFreshShare}

-- Lists

earlier : {X : Type 0} (P : X → Type 0) (xs ys : List X) → All P (xs ++ ys) → All P xs
earlier P [] ys all = All-nil P
earlier P (x ∷ xs) ys all = All-cons P x xs (All-head P x (xs ++ ys) all) (earlier P xs ys (All-tail P x (xs ++ ys) all))

later : {X : Type 0} (P : X → Type 0) (xs ys : List X) → All P (xs ++ ys) → All P ys
later P [] ys all = all
later P (x ∷ xs) ys all = later P xs ys (All-tail P x (xs ++ ys) all)

module _ {A B C : Type 0} (g : A → C) (h : B → C) (xs : List A) (ys : List B) where
  -- the images of both, each turned
  abbrev pub both_turned : List C
  both_turned = map g (reverse xs) ++ map h (reverse ys)

  pub sum_both : (f : C → ℕ) → sum_by f both_turned ≡ sum_by (λ x. f (g x)) xs + sum_by (λ x. f (h x)) ys
  sum_both f =
      omega (
        arith,
        sum_by-append f (map g (reverse xs)) (map h (reverse ys)),
        sum-map f g (reverse xs),
        sum-map f h (reverse ys),
        sum-reverse (λ x. f (g x)) xs,
        sum-reverse (λ x. f (h x)) ys,
      )

  pub all_first : (P : C → Type 0) → All P both_turned → All (λ x. P (g x)) xs
  all_first P all = all_back (λ x. P (g x)) xs (all_unmap P g (reverse xs) (earlier P (map g (reverse xs)) (map h (reverse ys)) all))

  pub all_second : (P : C → Type 0) → All P both_turned → All (λ x. P (h x)) ys
  all_second P all = all_back (λ x. P (h x)) ys (all_unmap P h (reverse ys) (later P (map g (reverse xs)) (map h (reverse ys)) all))

  pub all_both : (P : C → Type 0) → All (λ x. P (g x)) xs → All (λ x. P (h x)) ys → All P both_turned
  all_both P first second =
      All-append P (map g (reverse xs)) (map h (reverse ys)) (All-map P g (reverse xs) (all_reverse (λ x. P (g x)) xs first))
      (All-map P h (reverse ys) (all_reverse (λ x. P (h x)) ys second))

map-reverse : {A B : Type 0} (f : A → B) (xs : List A) → map f (reverse xs) ≡ reverse (map f xs)
map-reverse f [] = refl
map-reverse f (x ∷ xs) = map-more f x xs ∙ (ap (λ l. l ++ f x ∷ []) (map-reverse f xs) ∙ sym (reverse-cons (f x) (map f xs)))

-- what was made the last one first, turned
pub turned_back : {A B : Type 0} (f : A → B) (xs : List A) (ys : List B) → map f xs ≡ reverse ys → map f (reverse xs) ≡ ys
turned_back f xs ys is = map-reverse f xs ∙ (ap reverse is ∙ reverse-reverse ys)

-- one more at the end of what was made, for the one before those that were taken
pub made_more : {A B : Type 0} (f : A → B) (xs : List A) (x : A) (done : List B) (y : B) → map f xs ≡ reverse done → f x ≡ y → map f (xs ++ x ∷ []) ≡ reverse (y ∷ done)
made_more f xs x done y is here = map-append f xs (x ∷ []) ∙ (ap₂ (λ l z. l ++ z ∷ []) is here ∙ sym (reverse-cons y done))

cons_same : {X : Type 0} (x y : X) (xs ys : List X) → x ∷ xs ≡ y ∷ ys → (x ≡ y) × (xs ≡ ys)
cons_same x y xs ys e = (cc, cc)

-- two lists that go on to one, of which the front parts are as long
pub split_same : {X : Type 0} (a b c d : List X) → a ++ b ≡ c ++ d → length a ≡ length c → (a ≡ c) × (b ≡ d)
split_same [] b [] d is long = (refl, is)
split_same [] b (y ∷ c) d is long = absurd (omega arith)
split_same (x ∷ a) b [] d is long = absurd (omega arith)
split_same (x ∷ a) b (y ∷ c) d is long =
    let parts = cons_same x y (a ++ b) (c ++ d) is in
    let rest = split_same a b c d parts.1 (omega arith) in
    (ap₂ (λ z l. z ∷ l) parts.0 rest.0, rest.1)

-- Fresh passes

pub fresh_long : (site : Site TableHome) (n : ℕ) (quotas : List ℕ) → length (fresh_passes {E = RecordEntry} site n quotas) ≡ length quotas
fresh_long site n [] = refl
fresh_long site n (q ∷ qs) = omega (arith, fresh_long site (n + 1) qs)

pub fresh_all : (site : Site TableHome) (n below : ℕ) (quotas : List ℕ) → n + length quotas ≤ below → All (IsFreshPass site below) (fresh_passes site n quotas)
fresh_all site n below [] low = All-nil (IsFreshPass site below)
fresh_all site n below (q ∷ qs) low =
    All-cons (IsFreshPass site below) _ (fresh_passes site (n + 1) qs) (record { site_is = refl; low = omega arith; seen = refl; mine = refl }) (fresh_all site (n + 1) below qs (omega arith))

pub fresh_sites : (site : Site TableHome) (n : ℕ) (quotas : List ℕ) → All (λ p. p.site ≡ site) (fresh_passes {E = RecordEntry} site n quotas)
fresh_sites site n [] = All-nil (λ p. p.site ≡ site)
fresh_sites site n (q ∷ qs) = All-cons (λ p. p.site ≡ site) _ (fresh_passes site (n + 1) qs) refl (fresh_sites site (n + 1) qs)

fresh-append : (site : Site TableHome) (n : ℕ) (xs ys : List ℕ) → fresh_passes {E = RecordEntry} site n (xs ++ ys) ≡ fresh_passes site n xs ++ fresh_passes site (n + length xs) ys
fresh-append site n [] ys = ap (λ k. fresh_passes site k ys) (omega arith)
fresh-append site n (x ∷ xs) ys =
    ap (λ l. fresh site n x ∷ l) (fresh-append site (n + 1) xs ys ∙ ap (λ k. fresh_passes site (n + 1) xs ++ fresh_passes site k ys) (omega arith))

-- the sessions have the first passes, and the movers the others
pub split_passes : (site : Site TableHome) (scripts quotas : List ℕ) (movers : ℕ) (passes left dealt : List (PassState RecordEntry TableHome)) →
    passes ≡ fresh_passes site 0 quotas → quotas ≡ scripts ++ replicate movers 0 → passes ≡ left ++ dealt → length dealt ≡ movers →
    (left ≡ fresh_passes site 0 scripts) × (dealt ≡ fresh_passes site (length scripts) (replicate movers 0))
split_passes site scripts quotas movers passes left dealt is quotas_are parts long =
    let first = fresh_passes {E = RecordEntry} site 0 scripts in
    let second = fresh_passes {E = RecordEntry} site (0 + length scripts) (replicate movers 0) in
    let whole : left ++ dealt ≡ first ++ second = sym parts ∙ (is ∙ (ap (fresh_passes site 0) quotas_are ∙ fresh-append site 0 scripts (replicate movers 0))) in
    let sizes : length left ≡ length first = omega (
      arith,
      ap length whole,
      length-append left dealt,
      length-append first second,
      long,
      fresh_long site (0 + length scripts) (replicate movers 0),
      length-replicate {A = ℕ} movers 0,
    ) in
    let both = split_same left dealt first second whole sizes in
    let from : 0 + length scripts ≡ length scripts = omega arith in
    (both.0, both.1 ∙ ap (λ n. fresh_passes site n (replicate movers 0)) from)

-- Fresh shares

pub shares_long : (n : ℕ) (homes : List TableId) → length (fresh_shares n homes) ≡ length homes
shares_long n [] = refl
shares_long n (h ∷ hs) = omega (arith, shares_long (n + 1) hs)

share_at : (front : List TableId) (h : TableId) (hs : List TableId) → slice_get (front ++ h ∷ hs) (length front) ≡ Some h
share_at front h hs =
    let zero_is : length front - length front ≡ 0 = omega arith in
    slice_get-get_or (front ++ h ∷ hs) (length front) h (omega (arith, length-append front (h ∷ hs)))
    ∙ ap Some (get_or-append_right front (h ∷ hs) (length front) h (omega arith) ∙ ap (λ n. get_or (h ∷ hs) n h) zero_is)

shares_from : (front homes : List TableId) (n : ℕ) → n ≡ length front → All (IsFreshShare (front ++ homes)) (fresh_shares n homes)
shares_from front [] n at = All-nil (IsFreshShare (front ++ []))
shares_from front (h ∷ hs) n at =
    let P = IsFreshShare (front ++ h ∷ hs) in
    All-cons P (fresh_share n h) (fresh_shares (n + 1) hs)
    (record { at = subst (λ k. slice_get (front ++ h ∷ hs) k ≡ Some h) (sym at) (share_at front h hs); counts = (refl, refl) })
    (subst (λ homes. All (IsFreshShare homes) (fresh_shares (n + 1) hs)) (append_assoc front (h ∷ []) hs)
    (shares_from (front ++ h ∷ []) hs (n + 1) (omega (arith, at, length-append front (h ∷ [])))))

pub shares_all : (homes : List TableId) → All (IsFreshShare homes) (fresh_shares 0 homes)
shares_all homes = shares_from [] homes 0 refl
