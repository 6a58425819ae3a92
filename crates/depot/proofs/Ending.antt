-- What the end of a depot shows.
use Rattle.std.proofs.Common.{◌≡◌, ℕ, zero, suc, ◌+◌, ◌*◌, ◌<◌, ◌≤◌, List, [], ◌∷◌, map, length, All, Some, None, refl, sym, ap, ◌∙◌, subst, inl, inr, ⊎_elim, arith}
use Rattle.std.proofs.lemmas.List.Sums.{sum_by-cons}
use Rattle.std.proofs.lemmas.List.Elements.{All-head, All-tail}
use Rattle.std.specs.List.{sum_by}
use mathlib.Core.Option.{some}
use lib.ListN.{get_elem?}
use Rattle.atomic_table.specs.Table.{State, Final, Seen}
use Rattle.kmem_buf.specs.Buffers.{BufState}
use Rattle.kmem_buf.specs.Homes.{Homes}
use Rattle.magazine.specs.Ready.{AreReady}
use Rattle.depot.specs.declared.rule.View.{View}
use Rattle.kmem_buf.specs.Answers.{numbers_of}
use Rattle.depot.specs.Depot.{DepotSeatState, full_from, IsFullOrEmpty, put_by, taken_by}
use Rattle.depot.specs.Rule.{seats_of, IsFree, IsTurned, IsShared}
use Rattle.depot.specs.Steps.{Sat, HasGathered}
use Rattle.depot.proofs.Totals.{total_only, total_rest, total-each, element, read_at, map_of}
use Rattle.depot.proofs.Keeps.{not_mine}

-- the rounds of magazines that are full or empty
rounds_of : {X : Type 0} (k : ℕ) (xs : List (List (BufState X))) → All IsFullOrEmpty xs → sum_by length xs ≡ 8 * length (full_from k (map numbers_of xs))
rounds_of k [] all = refl
rounds_of {X} k ([] ∷ xs) all = omega (arith, sum_by-cons length [] xs, rounds_of (k + 1) xs (All-tail IsFullOrEmpty [] xs all))
rounds_of {X} k ((y ∷ ys) ∷ xs) all =
    let rest = rounds_of (k + 1) xs (All-tail IsFullOrEmpty (y ∷ ys) xs all) in
    ⊎_elim
    (λ (e : y ∷ ys ≡ []). absurd (cc e))
    (λ (e : length (y ∷ ys) ≡ 8). omega (arith, sum_by-cons length (y ∷ ys) xs))
    (All-head IsFullOrEmpty (y ∷ ys) xs all)

-- a magazine whose turn word is right is full or empty
evenly : {A : Type 0} (rounds : List A) (word : ℕ) → word < 2 → length rounds ≡ 8 * word → IsFullOrEmpty rounds
evenly [] word low e = inl refl
evenly (x ∷ xs) zero low e = absurd (omega arith)
evenly (x ∷ xs) (suc zero) low e = inr e
evenly (x ∷ xs) (suc (suc n)) low e = absurd (omega arith)

module _ {X : Type 0} (constructed : X → Type 0) (home : Homes) (seats : ℕ) where
  abbrev St : Type 0
  St = State (List (BufState X)) View

  abbrev R : St → Type 0
  R = IsShared constructed home seats

  -- one view has all seats and turns no place: then no place is turned
  all_free : (s : St) (r : R s) (id : ℕ) (v : View) → get_elem? s.views id ≡ some v → v.turning ≡ None → v.seats ≡ seats → (place : ℕ) (numbers : List ℕ) → get_elem? r.standing place ≡ some numbers
      → IsFree constructed home s place numbers
  all_free s r id v at idle every place numbers stands = ⊎_elim (λ (f : IsFree constructed home s place numbers). f)
      (λ (t : IsTurned s (r.owner place) place numbers).
      let apart = not_mine s.views id (r.owner place) v t.view (place, numbers) at idle t.sits t.turns in
      let none_left = total_rest seats_of s.views id (r.owner place) v t.view at t.sits (omega (arith, r.all)) apart in
      let fit = r.fits (r.owner place) t.view t.sits in
      let clash : Some (place, numbers) ≡ None = sym t.turns ∙ (fit.spent none_left).2 in absurd (cc clash))
      (r.places place numbers stands)

  pub record IsEnd (v : View) (xs : List (List (BufState X))) : Type 0 where
    pub ready : All (AreReady constructed home) xs
    pub even : All IsFullOrEmpty xs
    pub count : (weight : ℕ × List ℕ → ℕ) → sum_by weight v.put ≡ sum_by weight v.taken + sum_by weight (full_from 0 (map numbers_of xs))

  pub ends : (id : ℕ) (v : View) (ws : List ℕ) (xs : List (List (BufState X))) → Final (Seen R id v) ws xs → v.turning ≡ None → v.seats ≡ seats → IsEnd v xs
  ends id v ws xs final idle every =
      let s = final.0 in let r = final.1.0 in let at = final.1.1 in
      let many : length xs ≡ length r.standing = sym final.3 ∙ sym r.standing_many in
      let here : (k : ℕ) (numbers : List ℕ) → get_elem? r.standing k ≡ some numbers → (m : List (BufState X)) × (get_elem? xs k ≡ some m) × (numbers_of m ≡ numbers) =
      λ k numbers e. let f = all_free s r id v at idle every k numbers e in (f.magazine, final.4 k f.magazine f.here, f.numbers_are) in
      let standing : map numbers_of xs ≡ r.standing = map_of numbers_of xs r.standing many here in
      let each : (P : List (BufState X) → Type 0) → ((k : ℕ) (numbers : List ℕ) (f : IsFree constructed home s k numbers) → P f.magazine) → All P xs =
      λ P all k d low. let there = element r.standing k (omega (arith, many)) in let f = all_free s r id v at idle every k there.0 there.1 in
      subst P (sym (read_at xs k f.magazine d (final.4 k f.magazine f.here))) (all k there.0 f) in
      let whole : sum_by seats_of s.views ≤ v.seats = omega (arith, r.all) in
      record {
        ready = each (AreReady constructed home) (λ k numbers f. f.ready);
        even = each IsFullOrEmpty (λ k numbers f. evenly f.magazine f.word f.free f.rounds);
        count = λ weight.
            let no_put : sum_by (λ u. sum_by weight u.put) s.views ≡ sum_by weight v.put = total_only seats_of (λ u. sum_by weight u.put) s.views id v at whole
            (λ j u there none_left. let fit = r.fits j u there in ap (sum_by weight) (fit.spent none_left).0) in
            let no_taken : sum_by (λ u. sum_by weight u.taken) s.views ≡ sum_by weight v.taken = total_only seats_of (λ u. sum_by weight u.taken) s.views id v at whole
            (λ j u there none_left. let fit = r.fits j u there in ap (sum_by weight) (fit.spent none_left).1) in
            omega (arith, r.count weight, ap (λ l. sum_by weight (full_from 0 l)) standing);
      }

-- the same in terms of the seats
pub stands_of : {X : Type 0} (all : List DepotSeatState) (me : Sat X) (xs : List (List (BufState X))) → HasGathered all me
    → ((weight : ℕ × List ℕ → ℕ) → sum_by weight me.0.put ≡ sum_by weight me.0.taken + sum_by weight (full_from 0 (map numbers_of xs)))
    → (weight : ℕ × List ℕ → ℕ) → sum_by (λ (s : DepotSeatState). sum_by weight s.put) all ≡ sum_by (λ (s : DepotSeatState). sum_by weight s.taken) all + sum_by weight (full_from 0 (map numbers_of xs))
stands_of all me xs gathered count weight = omega (arith, gathered.put weight, gathered.taken weight, count weight)

pub rounds_in : {X : Type 0} (all : List DepotSeatState) (me : Sat X) (xs : List (List (BufState X))) → HasGathered all me → All IsFullOrEmpty xs
    → ((weight : ℕ × List ℕ → ℕ) → sum_by weight me.0.put ≡ sum_by weight me.0.taken + sum_by weight (full_from 0 (map numbers_of xs)))
    → sum_by length xs + 8 * taken_by all ≡ 8 * put_by all
rounds_in all me xs gathered even count =
    let one : ℕ × List ℕ → ℕ = λ _. 1 in
    let put : sum_by (λ (s : DepotSeatState). sum_by one s.put) all ≡ put_by all = ap (λ (f : DepotSeatState → ℕ). sum_by f all) (λ i s. total-each s.put i) in
    let taken : sum_by (λ (s : DepotSeatState). sum_by one s.taken) all ≡ taken_by all = ap (λ (f : DepotSeatState → ℕ). sum_by f all) (λ i s. total-each s.taken i) in
    omega (arith, stands_of all me xs gathered count one, put, taken, total-each (full_from 0 (map numbers_of xs)), rounds_of 0 xs even)
