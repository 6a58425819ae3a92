-- What seats know together, as they are put into one.
use Rattle.std.proofs.Common.{◌≡◌, ℕ, true, List, [], ◌∷◌, ◌++◌, length, All, sym, ap, ◌∙◌, subst, arith, eqb-true, length-append}
use Rattle.std.proofs.lemmas.List.Sums.{sum_by-cons}
use Rattle.std.proofs.lemmas.List.Elements.{All-nil, All-cons, All-head, All-tail}
use Rattle.std.specs.List.{sum_by}
use mathlib.Core.Option.{some}
use lib.ListN.{get_elem?}
use Rattle.atomic_table.specs.Seated.{TableId}
use Rattle.object_cache.specs.Moves.{JobState}
use Rattle.move_queue.specs.declared.rule.Terms.{Terms}
use Rattle.move_queue.specs.declared.rule.View.{View}
use Rattle.move_queue.specs.declared.rule.CountView.{CountView}
use Rattle.move_queue.specs.Queue.{QueueSeatState, numbers_in, AreIn}
use Rattle.move_queue.specs.Rule.{joined}
use Rattle.move_queue.specs.Count.{count_joined}
use Rattle.move_queue.specs.Seats.{seat_state, IsSeated, IsSeatOf, HasGathered}
use Rattle.move_queue.proofs.Lists.{numbers_append}

module _ {A : Type 0} (P : A → Type 0) where
  pub all_left : (xs ys : List A) → All P (xs ++ ys) → All P xs
  all_left [] ys all = All-nil P
  all_left (x ∷ xs) ys all = All-cons P x xs (All-head P x (xs ++ ys) all) (all_left xs ys (All-tail P x (xs ++ ys) all))

  pub all_right : (xs ys : List A) → All P (xs ++ ys) → All P ys
  all_right [] ys all = all
  all_right (x ∷ xs) ys all = all_right xs ys (All-tail P x (xs ++ ys) all)

module _ {X : Type 0} where
  -- one seat
  pub gathers_one : (ring count : TableId) (terms : Terms) (refused : ℕ) (v : View X) (c : CountView) → v.terms ≡ terms → IsSeated v c → HasGathered terms (seat_state ring count v c refused ∷ []) v c
  gathers_one ring count terms refused v c same seated = let s : QueueSeatState X = seat_state ring count v c refused in record {
    terms_are = same;
    some = omega arith;
    many = seated.one;
    counts_many = seated.counts_one;
    counted = seated.counted;
    counted_off = seated.counted_off;
    pending = seated.pending;
    popped_many = omega (arith, sum_by-cons (λ (x : QueueSeatState X). length x.popped) s []);
    pushed_many = omega (arith, sum_by-cons (λ (x : QueueSeatState X). length x.pushed) s []);
    pushed = λ jobs all. All-cons (λ (x : QueueSeatState X). AreIn jobs x.pushed) s [] all (All-nil (λ (x : QueueSeatState X). AreIn jobs x.pushed));
    popped = λ jobs all. All-cons (λ (x : QueueSeatState X). AreIn jobs x.popped) s [] all (All-nil (λ (x : QueueSeatState X). AreIn jobs x.popped));
    pushes = λ weight. omega (arith, sum_by-cons (λ (x : QueueSeatState X). sum_by weight (numbers_in x.pushed)) s []);
    pops = λ weight. omega (arith, sum_by-cons (λ (x : QueueSeatState X). sum_by weight (numbers_in x.popped)) s []);
    done = λ all. eqb-true c.busy 0 (All-head (λ (x : QueueSeatState X). x.done ≡ true) s [] all);
  }

  -- one seat more
  pub gathers_more : (ring count : TableId) (terms : Terms) (refused : ℕ) (seats : List (QueueSeatState X)) (v w : View X) (c d : CountView) → HasGathered terms seats v c → IsSeated w d
      → HasGathered terms (seat_state ring count w d refused ∷ seats) (joined v w) (count_joined c d)
  gathers_more ring count terms refused seats v w c d g seated = let s : QueueSeatState X = seat_state ring count w d refused in record {
    terms_are = g.terms_are;
    some = omega arith;
    many = omega (arith, g.many, seated.one);
    counts_many = omega (arith, g.counts_many, seated.counts_one);
    counted = omega (arith, g.counted, seated.counted, length-append v.pushed w.pushed);
    counted_off = omega (arith, g.counted_off, seated.counted_off, length-append v.popped w.popped);
    pending = omega (arith, g.pending, seated.pending);
    popped_many = omega (arith, g.popped_many, length-append v.popped w.popped, sum_by-cons (λ (x : QueueSeatState X). length x.popped) s seats);
    pushed_many = omega (arith, g.pushed_many, length-append v.pushed w.pushed, sum_by-cons (λ (x : QueueSeatState X). length x.pushed) s seats);
    pushed = λ jobs all. let P : ℕ × JobState X → Type 0 = λ e. get_elem? jobs e.0 ≡ some e.1 in
        All-cons (λ (x : QueueSeatState X). AreIn jobs x.pushed) s seats (all_right P v.pushed w.pushed all) (g.pushed jobs (all_left P v.pushed w.pushed all));
    popped = λ jobs all. let P : ℕ × JobState X → Type 0 = λ e. get_elem? jobs e.0 ≡ some e.1 in
        All-cons (λ (x : QueueSeatState X). AreIn jobs x.popped) s seats (all_right P v.popped w.popped all) (g.popped jobs (all_left P v.popped w.popped all));
    pushes = λ weight. omega (arith, numbers_append weight v.pushed w.pushed, g.pushes weight, sum_by-cons (λ (x : QueueSeatState X). sum_by weight (numbers_in x.pushed)) s seats);
    pops = λ weight. omega (arith, numbers_append weight v.popped w.popped, g.pops weight, sum_by-cons (λ (x : QueueSeatState X). sum_by weight (numbers_in x.popped)) s seats);
    done = λ all. omega (arith, g.done (All-tail (λ (x : QueueSeatState X). x.done ≡ true) s seats all), eqb-true d.busy 0 (All-head (λ (x : QueueSeatState X). x.done ≡ true) s seats all));
  }

  -- the last of some seats is of the queue, and so are the others
  pub last_of : (ring count : TableId) (terms : Terms) (seats rest : List (QueueSeatState X)) (last : QueueSeatState X) → seats ≡ rest ++ last ∷ [] → All (IsSeatOf ring count terms) seats
      → IsSeatOf ring count terms last × All (IsSeatOf ring count terms) rest
  last_of ring count terms seats rest last e all =
      let P : QueueSeatState X → Type 0 = IsSeatOf ring count terms in let split = subst (All P) e all in (All-head P last [] (all_right P rest (last ∷ []) split), all_left P rest (last ∷ []) split)

  -- a seat is of the queue, and so are its two parts
  pub part_of : (ring count : TableId) (terms : Terms) (s : QueueSeatState X) (ring' count' : TableId) (v : View X) (c : CountView) → IsSeatOf ring count terms s → s ≡ seat_state ring' count' v c s.refused
      → (ring' ≡ ring) × (count' ≡ count) × (v.terms ≡ terms)
  part_of ring count terms s ring' count' v c of is =
      (ap (λ (x : QueueSeatState X). x.ring) (sym is) ∙ of.ring_is, ap (λ (x : QueueSeatState X). x.count) (sym is) ∙ of.count_is, ap (λ (x : QueueSeatState X). x.terms) (sym is) ∙ of.terms_are)

  pub first_in : (terms : Terms) (s : QueueSeatState X) (ring count : TableId) (v : View X) (c : CountView) → s ≡ seat_state ring count v c s.refused → v.terms ≡ terms → IsSeated v c → HasGathered terms (s ∷ []) v c
  first_in terms s ring count v c is same seated = subst (λ x. HasGathered terms (x ∷ []) v c) (sym is) (gathers_one ring count terms s.refused v c same seated)

  pub more_in : (terms : Terms) (s : QueueSeatState X) (done : List (QueueSeatState X)) (ring count : TableId) (v w : View X) (c d : CountView) → s ≡ seat_state ring count w d s.refused → HasGathered terms done v c → IsSeated w d
      → HasGathered terms (s ∷ done) (joined v w) (count_joined c d)
  more_in terms s done ring count v w c d is g seated = subst (λ x. HasGathered terms (x ∷ done) (joined v w) (count_joined c d)) (sym is) (gathers_more ring count terms s.refused done v w c d g seated)
