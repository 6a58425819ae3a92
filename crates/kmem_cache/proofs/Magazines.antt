-- What comes out of a seat's magazines, and what goes into them.
use Rattle.std.proofs.Common.{◌≡◌, ℕ, true, is_some, suc, ◌<◌, inl, inr, List, [], ◌∷◌, ◌++◌, length, take, drop, All, Option, Some, None, MatchOption, Result, Ok, Err, OnOk, refl, sym, ap, ◌∙◌, subst, arith, length-append}
use Rattle.std.proofs.lemmas.List.{append-nil}
use Rattle.std.proofs.lemmas.List.Elements.{All-nil, All-cons, All-head, All-tail, All-same}
use Rattle.std.proofs.Math.Seq.{take-append_seam, drop-append_seam}
use Rattle.kmem_buf.specs.Answers.{numbers_of}
use Rattle.kmem_buf.specs.Buffers.{BufState}
use Rattle.kmem_buf.specs.Homes.{Homes}
use Rattle.magazine.specs.Layer.{Layer, IsFull, empty_layer, layer_rounds, put_to, relieved}
use Rattle.magazine.specs.Ready.{IsReady, AreReady}
use Rattle.depot.specs.Depot.{DepotSeatState, HasSwapped}
use Rattle.kmem_cache.specs.Seats.{HasTaken, HasPut}

pub numbers-append : {X : Type 0} (xs ys : List (BufState X)) → numbers_of (xs ++ ys) ≡ numbers_of xs ++ numbers_of ys
numbers-append [] ys = refl
numbers-append (x ∷ xs) ys = ap (λ l. x.number ∷ l) (numbers-append xs ys)

pub length-numbers : {X : Type 0} (xs : List (BufState X)) → length (numbers_of xs) ≡ length xs
length-numbers [] = refl
length-numbers (x ∷ xs) = omega (arith, length-numbers xs)

-- what holds of all of two lists holds of the first, and of the second
pub all_left : {A : Type 0} (P : A → Type 0) (xs ys : List A) → All P (xs ++ ys) → All P xs
all_left P [] ys all = All-nil P
all_left P (x ∷ xs) ys all = All-cons P x xs (All-head P x (xs ++ ys) all) (all_left P xs ys (All-tail P x (xs ++ ys) all))

pub all_right : {A : Type 0} (P : A → Type 0) (xs ys : List A) → All P (xs ++ ys) → All P ys
all_right P [] ys all = all
all_right P (x ∷ xs) ys all = all_right P xs ys (All-tail P x (xs ++ ys) all)

module _ {X : Type 0} (constructed : X → Type 0) (home : Homes) where
  -- the round that was taken is ready, and so are those that are left
  pub ready_rest : (rounds left : List (BufState X)) (b : BufState X) → rounds ≡ b ∷ left → AreReady constructed home rounds → IsReady constructed home b × AreReady constructed home left
  ready_rest rounds left b e ready =
      let all : AreReady constructed home (b ∷ left) = All-same (IsReady constructed home) (b ∷ left) rounds (sym e) ready in
      (All-head (IsReady constructed home) b left all, All-tail (IsReady constructed home) b left all)

  pub record IsRefilled (places : ℕ) (P : Type 0) (new : Layer (BufState X)) (r : Option (BufState X)) (seat seat' : DepotSeatState) : Type 0 where
    pub ready : AreReady constructed home (layer_rounds new)
    pub taken : MatchOption r P (λ buf. IsReady constructed home buf × HasTaken places buf.number [] (numbers_of (layer_rounds new)) seat seat')

  -- a take after a full magazine came in
  pub refilled : (places : ℕ) (P : Type 0) (full : List (BufState X)) (old l new : Layer (BufState X)) (r : Option (BufState X)) (seat seat' : DepotSeatState) →
      old ≡ empty_layer → l ≡ record { loaded = full; previous = old.loaded } → IsFull full → AreReady constructed home full →
      MatchOption r (layer_rounds l ≡ []) (λ b. layer_rounds l ≡ b ∷ layer_rounds new) → HasSwapped places 1 (numbers_of full) [] seat seat' →
      IsRefilled places P new r seat seat'
  refilled places P full old l new r seat seat' none in_it is_full ready took swapped =
      let here : layer_rounds l ≡ full = ap layer_rounds in_it ∙ (ap (λ (o : Layer (BufState X)). full ++ o.loaded) none ∙ append-nil full) in by_round r took here
    where
      by_round : (r : Option (BufState X)) → MatchOption r (layer_rounds l ≡ []) (λ b. layer_rounds l ≡ b ∷ layer_rounds new) → layer_rounds l ≡ full → IsRefilled places P new r seat seat'
      by_round None empty here = absurd (let n : length full ≡ 0 = ap length (sym here ∙ empty) in omega arith)
      by_round (Some b) rest here =
          let e : full ≡ b ∷ layer_rounds new = sym here ∙ rest in let kept = ready_rest full (layer_rounds new) b e ready in
          record {
            ready = kept.1;
            taken = (kept.0, inr (refl, (let n : length full ≡ suc (length (layer_rounds new)) = ap length e in omega (arith, length-numbers (layer_rounds new))), subst (λ numbers. HasSwapped places 1 numbers [] seat seat') (ap numbers_of e) swapped));
          }

-- the numbers of two full magazines
pub halves : {X : Type 0} (l : Layer (BufState X)) → IsFull l.loaded → IsFull l.previous →
    (length (numbers_of (layer_rounds l)) ≡ 16) × (take 8 (numbers_of (layer_rounds l)) ≡ numbers_of l.loaded) × (drop 8 (numbers_of (layer_rounds l)) ≡ numbers_of l.previous)
halves l first second =
    let split : numbers_of (layer_rounds l) ≡ numbers_of l.loaded ++ numbers_of l.previous = numbers-append l.loaded l.previous in
    let eight : length (numbers_of l.loaded) ≡ 8 = length-numbers l.loaded ∙ first in (
      omega (arith, length-numbers (layer_rounds l), length-append l.loaded l.previous),
      ap (take 8) split ∙ (ap (λ n. take n (numbers_of l.loaded ++ numbers_of l.previous)) (sym eight) ∙ take-append_seam (numbers_of l.loaded) (numbers_of l.previous)),
      ap (drop 8) split ∙ (ap (λ n. drop n (numbers_of l.loaded ++ numbers_of l.previous)) (sym eight) ∙ drop-append_seam (numbers_of l.loaded) (numbers_of l.previous)),
    )

-- a put after the magazine behind went to the depot
pub put_relieved : {X : Type 0} (places : ℕ) (empty full : List (BufState X)) (b : BufState X) (old l new : Layer (BufState X)) (seat seat' : DepotSeatState) →
    IsFull old.loaded → IsFull old.previous → empty ≡ [] → l ≡ relieved empty old → full ≡ old.previous → new ≡ (put_to b l.loaded l.previous).1 →
    HasSwapped places 0 [] (numbers_of full) seat seat' → (layer_rounds new ≡ b ∷ old.loaded) × HasPut places b.number (numbers_of (layer_rounds old)) (numbers_of (layer_rounds new)) seat seat'
put_relieved {X} places empty full b old l new seat seat' first second none relieves is put swapped =
    let half = halves old first second in
    let away : l ≡ relieved [] old = relieves ∙ ap (λ e. relieved e old) none in
    let after : layer_rounds new ≡ b ∷ old.loaded = ap layer_rounds put ∙ ap (λ (k : Layer (BufState X)). layer_rounds (put_to b k.loaded k.previous).1) away in (
      after,
      inr (half.0, ap numbers_of after ∙ ap (λ ns. b.number ∷ ns) (sym half.1), subst (λ ns. HasSwapped places 0 [] ns seat seat') (ap numbers_of is ∙ sym half.2) swapped),
    )

-- a put that stays in the magazines
pub put_kept : {X : Type 0} (places : ℕ) (b : BufState X) (old new : Layer (BufState X)) (seat : DepotSeatState) →
    length (layer_rounds old) < 16 → layer_rounds new ≡ b ∷ layer_rounds old → HasPut places b.number (numbers_of (layer_rounds old)) (numbers_of (layer_rounds new)) seat seat
put_kept places b old new seat below after = inl (omega (arith, length-numbers (layer_rounds old)), ap numbers_of after, refl)

-- what holds where there is an outcome holds where it is Ok
pub on_ok : {A E : Type 0} (P : Type 0) (r : Result A E) → P → OnOk r P
on_ok P (Ok x) p = p
on_ok P (Err e) p = tt

-- a round was taken: the others are ready as before
pub taken_ready : {X : Type 0} (constructed : X → Type 0) (home : Homes) (rounds left : List (BufState X)) (r : Option (BufState X)) → true ≡ is_some r →
    MatchOption r (rounds ≡ []) (λ b. rounds ≡ b ∷ left) → AreReady constructed home rounds → AreReady constructed home left
taken_ready constructed home rounds left None some_there took ready = absurd (cc some_there)
taken_ready constructed home rounds left (Some b) some_there took ready = (ready_rest constructed home rounds left b took ready).1
