-- What a seat that stands for all seats pops, one job after another.
use Rattle.std.proofs.Common.{◌≡◌, ℕ, ◌+◌, ◌<◌, List, [], ◌∷◌, ◌++◌, length, All, sym, ap, ◌∙◌, subst, arith, append_assoc, length-append}
use Rattle.std.proofs.lemmas.List.FromFn.{length-enumerate_from}
use Rattle.std.specs.List.{enumerate_from}
use mathlib.Core.Option.{some}
use lib.ListN.{get_elem?}
use Rattle.crossbeam_queue.specs.Fifo.{Held}
use Rattle.object_cache.specs.Moves.{JobState, IsJobOf}
use Rattle.move_queue.specs.declared.rule.View.{View}
use Rattle.move_queue.specs.Rule.{Popped, KnowsAll}
use Rattle.move_queue.specs.Seats.{HasDrained}
use Rattle.move_queue.proofs.Gathering.{all_left, all_right}

enumerate-push : {A : Type 0} (k : ℕ) (xs : List A) (x : A) (place : ℕ) → k + length xs ≡ place → enumerate_from k (xs ++ x ∷ []) ≡ enumerate_from k xs ++ (place, x) ∷ []
enumerate-push k [] x place e = let same : k ≡ place = omega arith in ap (λ n. (n, x) ∷ []) same
enumerate-push k (y ∷ ys) x place e = ap (λ l. (k, y) ∷ l) (enumerate-push (k + 1) ys x place (omega arith))

module _ {X : Type 0} where
  -- the view after these jobs were popped
  abbrev pub popped_more : View X → List (JobState X) → View X
  popped_more v jobs = record v { popped = v.popped ++ enumerate_from (length v.popped) jobs }

  many_more : (v : View X) (jobs : List (JobState X)) → length (popped_more v jobs).popped ≡ length v.popped + length jobs
  many_more v jobs = length-append v.popped (enumerate_from (length v.popped) jobs) ∙ ap (λ n. length v.popped + n) (length-enumerate_from (length v.popped) jobs)

  -- while fewer were popped than stood, one stands
  pub one_stands : (v w : View X) (jobs : List (JobState X)) (count : ℕ) → w ≡ popped_more v jobs → 0 < v.seats → v.seats ≡ v.terms.seats → length v.popped + count ≡ length v.pushed
      → length jobs < count → Held 0 (KnowsAll w) → ⊥
  one_stands v w jobs count is some_seat every whole few held =
      let h = subst (λ u. Held 0 (KnowsAll u)) is held in let all = h.2 some_seat every in
      omega (arith, h.1, all.many, all.as_many, many_more v jobs)

  pub pops_one : (constructed : X → Type 0) (v w u : View X) (jobs : List (JobState X)) (job : JobState X) → w ≡ popped_more v jobs → v.seats ≡ v.terms.seats → Popped constructed w job u
      → (u ≡ popped_more v (jobs ++ job ∷ [])) × IsJobOf constructed v.terms.home job
  pops_one constructed v w u jobs job is every popped =
      let p = subst (λ x. Popped constructed x job u) is popped in let k = length v.popped in
      let place : k + length jobs ≡ p.number = sym (p.alone every ∙ many_more v jobs) in
      (p.view ∙ ap (λ l. record v { popped = l }) (append_assoc v.popped (enumerate_from k jobs) ((p.number, job) ∷ []) ∙ ap (λ l. v.popped ++ l) (sym (enumerate-push k jobs job p.number place))), p.is_job)

  pub all_popped : (constructed : X → Type 0) (v w : View X) (jobs stood items : List (JobState X)) (count : ℕ) → w ≡ popped_more v jobs → 0 < v.seats → v.seats ≡ v.terms.seats
      → length v.popped + count ≡ length v.pushed → length jobs ≡ count → All (IsJobOf constructed v.terms.home) jobs → KnowsAll v stood → KnowsAll w items → HasDrained constructed v jobs
  all_popped constructed v w jobs stood items count is some_seat every whole many are first last =
      let all = subst (λ u. KnowsAll u items) is last some_seat every in let before = first some_seat every in
      let P : ℕ × JobState X → Type 0 = λ e. get_elem? all.jobs e.0 ≡ some e.1 in let more = enumerate_from (length v.popped) jobs in
      record {
        jobs = all.jobs;
        pushed = all.pushed;
        popped = all_left P v.popped more all.popped;
        left_are = all_right P v.popped more all.popped;
        many = omega (arith, all.many, all.as_many, many_more v jobs);
        as_many = all.as_many;
        pushes = all.pushes;
        pops = before.pops;
        are_jobs = are;
      }
