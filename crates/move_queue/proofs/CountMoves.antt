-- The rule of the count holds at the start, and each kind of step keeps it.
use Rattle.std.proofs.Common.{◌≡◌, ℕ, zero, suc, ◌+◌, ◌-◌, ◌*◌, ◌%◌, ◌^◌, ◌<◌, ◌≤◌, List, [], ◌∷◌, set, get_or, refl, sym, ap, subst, ⊎_elim, arith}
use Rattle.std.proofs.lemmas.List.Sums.{sum_by_push}
use Rattle.std.specs.List.{sum_by}
use mathlib.Core.Logic.{dite}
use mathlib.Core.Option.{some, some-injective, some-ne-none}
use native.Mathlib.Decide.{ℕ_discrete}
use lib.ListN.{get_elem?}
use Rattle.atomic_table.specs.Table.{State, keeps, Allows, Splits, Joins, opening, Final, Seen}
use Rattle.atomic_table.proofs.Lists.{at_snoc}
use Rattle.table_sums.proofs.Totals.{total_set, total_at, total_le}
use Rattle.table_sums.proofs.Spreads.{seats_set}
use Rattle.move_queue.proofs.Lists.{total_only}
use Rattle.move_queue.specs.declared.rule.CountView.{CountView}
use Rattle.move_queue.specs.Count.{count_opener, count_spent, count_dealt, count_newcomer, count_joined, added, released, committed, taken_off, rested, counts_seats, counts_quota, counted_in, off, pending_of, busy_of, IsSpent, IsUnusedCount, IsCounted, CountMe, Becomes, Looked}

module _ (quotas seats : ℕ) where
  abbrev St : Type 0
  St = State (Unit {0}) CountView

  abbrev R : St → Type 0
  R = IsCounted quotas seats

  pub opens : quotas < 2 ^ 32 → R (opening (0 ∷ []) [] (count_opener quotas seats))
  opens few = record {
    word = 0;
    wraps = 0;
    words = refl;
    few = few;
    under_way = omega arith;
    all = omega arith;
    within = omega arith;
    done = λ _. omega arith;
    spent = spent;
  }
    where
      spent : (id : ℕ) (v : CountView) → get_elem? (count_opener quotas seats ∷ []) id ≡ some v → IsSpent v
      spent zero v e = subst IsSpent (some-injective (count_opener quotas seats) v e) (λ none_left. (refl, refl, refl, none_left))
      spent (suc id) v e = absurd (some-ne-none v (sym e))

  -- one seat's view changes from v to w, and the word to another
  changed : (s : St) (r : R s) (id : ℕ) (v w : CountView) (word wraps : ℕ) → get_elem? s.views id ≡ some v → 0 < v.seats → w.seats ≡ v.seats
      → word + w.counted_off + v.counted + 2 ^ 64 * r.wraps ≡ r.word + v.counted_off + w.counted + 2 ^ 64 * wraps
      → w.counted + w.left ≡ v.counted + v.left
      → (sum_by busy_of (set s.views id w) ≡ 0 → sum_by counted_in (set s.views id w) ≤ sum_by off (set s.views id w) + sum_by pending_of (set s.views id w))
      → R record { words = set s.words 0 word; homes = s.homes; views = set s.views id w }
  changed s r id v w word wraps at some_seat same balanced quota done = record {
    word = word;
    wraps = wraps;
    words = ap (λ ws. set ws 0 word) r.words;
    few = r.few;
    under_way = omega (arith, total_set off s.views id v w at, total_set counted_in s.views id v w at, r.under_way, balanced);
    all = omega (arith, total_set counts_seats s.views id v w at, r.all);
    within = omega (arith, total_set counts_quota s.views id v w at, r.within, quota);
    done = done;
    spent = seats_set (λ _. IsSpent) (λ _. IsSpent) s.views id w (λ none_left. absurd (omega arith)) (λ _ _ _ _ h. h) r.spent;
  }

  -- what the word shows
  found_is : (s : St) (r : R s) → get_or s.words 0 0 ≡ r.word
  found_is s r = ap (λ ws. get_or ws 0 0) r.words

  -- counted in are at most the quotas
  few_in : (s : St) (r : R s) → sum_by counted_in s.views ≤ quotas
  few_in s r = omega (arith, r.within, total_le counted_in counts_quota s.views (λ _ _ _. omega arith))

  -- fetch_add: a job is counted in
  pub adds : (slots id : ℕ) (me : CountMe) → 0 < me.0.seats → 0 < me.0.left
      → Allows R slots id me 0 (λ n. (n + 1) % 2 ^ 64) (λ _ me'. Becomes added me me')
  adds slots id me some_seat some_left s r _ at small =
      let v = me.0 in let w = added v in let here = found_is s r in
      let done : sum_by busy_of (set s.views id w) ≡ 0 → sum_by counted_in (set s.views id w) ≤ sum_by off (set s.views id w) + sum_by pending_of (set s.views id w) = λ idle.
      let old = r.done (omega (arith, total_set busy_of s.views id v w at)) in
      omega (arith, total_set counted_in s.views id v w at, total_set off s.views id v w at, total_set pending_of s.views id v w at) in
      let next : R record { words = set s.words 0 ((get_or s.words 0 0 + 1) % 2 ^ 64); homes = s.homes; views = set s.views id w } = dite (ℕ_discrete r.word 18446744073709551615)
      (λ top. subst (λ n. R (record { words = set s.words 0 n; homes = s.homes; views = set s.views id w })) (omega arith)
      (changed s r id v w 0 (r.wraps - 1) at some_seat refl (omega (arith, r.under_way, few_in s r, r.few)) (omega arith) done))
      (λ low. subst (λ n. R (record { words = set s.words 0 n; homes = s.homes; views = set s.views id w })) (omega arith)
      (changed s r id v w (r.word + 1) r.wraps at some_seat refl (omega arith) (omega arith) done)) in
      (w, keeps, tt, next, refl)

  -- fetch_sub: that is undone
  pub releases : (slots id : ℕ) (me : CountMe) → 0 < me.0.seats → 0 < me.0.counted → 0 < me.0.pending
      → Allows R slots id me 0 (λ n. (n + (2 ^ 64 - 1)) % 2 ^ 64) (λ _ me'. Becomes released me me')
  releases slots id me some_seat some_counted some_pending s r _ at small =
      let v = me.0 in let w = released v in let here = found_is s r in
      let done : sum_by busy_of (set s.views id w) ≡ 0 → sum_by counted_in (set s.views id w) ≤ sum_by off (set s.views id w) + sum_by pending_of (set s.views id w) = λ idle.
      let old = r.done (omega (arith, total_set busy_of s.views id v w at)) in
      omega (arith, total_set counted_in s.views id v w at, total_set off s.views id v w at, total_set pending_of s.views id v w at) in
      let next : R record { words = set s.words 0 ((get_or s.words 0 0 + (2 ^ 64 - 1)) % 2 ^ 64); homes = s.homes; views = set s.views id w } = dite (ℕ_discrete r.word 0)
      (λ bottom. subst (λ n. R (record { words = set s.words 0 n; homes = s.homes; views = set s.views id w })) (omega arith)
      (changed s r id v w 18446744073709551615 (r.wraps + 1) at some_seat refl (omega arith) (omega arith) done))
      (λ high. subst (λ n. R (record { words = set s.words 0 n; homes = s.homes; views = set s.views id w })) (omega arith)
      (changed s r id v w (r.word - 1) r.wraps at some_seat refl (omega arith) (omega arith) done)) in
      (w, keeps, tt, next, refl)

  -- fetch_sub: a job that was popped is counted off
  pub takes_off : (slots id : ℕ) (me : CountMe) → 0 < me.0.seats
      → Allows R slots id me 0 (λ n. (n + (2 ^ 64 - 1)) % 2 ^ 64) (λ _ me'. Becomes taken_off me me')
  takes_off slots id me some_seat s r _ at small =
      let v = me.0 in let w = taken_off v in let here = found_is s r in
      let done : sum_by busy_of (set s.views id w) ≡ 0 → sum_by counted_in (set s.views id w) ≤ sum_by off (set s.views id w) + sum_by pending_of (set s.views id w) = λ idle.
      let old = r.done (omega (arith, total_set busy_of s.views id v w at)) in
      omega (arith, total_set counted_in s.views id v w at, total_set off s.views id v w at, total_set pending_of s.views id v w at) in
      let next : R record { words = set s.words 0 ((get_or s.words 0 0 + (2 ^ 64 - 1)) % 2 ^ 64); homes = s.homes; views = set s.views id w } = dite (ℕ_discrete r.word 0)
      (λ bottom. subst (λ n. R (record { words = set s.words 0 n; homes = s.homes; views = set s.views id w })) (omega arith)
      (changed s r id v w 18446744073709551615 (r.wraps + 1) at some_seat refl (omega arith) (omega arith) done))
      (λ high. subst (λ n. R (record { words = set s.words 0 n; homes = s.homes; views = set s.views id w })) (omega arith)
      (changed s r id v w (r.word - 1) r.wraps at some_seat refl (omega arith) (omega arith) done)) in
      (w, keeps, tt, next, refl)

  -- load: the job that was counted in is pushed
  pub commits : (slots id : ℕ) (me : CountMe) → me.0.seats ≡ 1 → Allows R slots id me 0 (λ n. n) (λ _ me'. Becomes committed me me')
  commits slots id me one s r _ at small =
      let v = me.0 in let w = committed v in let here = found_is s r in
      let done : sum_by busy_of (set s.views id w) ≡ 0 → sum_by counted_in (set s.views id w) ≤ sum_by off (set s.views id w) + sum_by pending_of (set s.views id w) = λ idle.
      absurd (omega (arith, total_set busy_of s.views id v w at, total_at busy_of s.views id v at)) in
      (w, keeps, tt, subst (λ n. R (record { words = set s.words 0 n; homes = s.homes; views = set s.views id w })) (sym here) (changed s r id v w r.word r.wraps at (omega arith) refl (omega arith) (omega arith) done), refl)

  -- load: where no job is under way, the seat is done
  pub looks : (slots id : ℕ) (me : CountMe) → 0 < me.0.seats → Allows R slots id me 0 (λ n. n) (λ found me'. Looked found me me')
  looks slots id me some_seat s r _ at small =
      let v = me.0 in let w = rested v in let here = found_is s r in
      dite (ℕ_discrete r.word 0)
      (λ empty.
      let done : sum_by busy_of (set s.views id w) ≡ 0 → sum_by counted_in (set s.views id w) ≤ sum_by off (set s.views id w) + sum_by pending_of (set s.views id w) = λ idle.
      omega (arith, total_set counted_in s.views id v w at, total_set off s.views id v w at, r.under_way, few_in s r, r.few) in (
        w,
        keeps,
        tt,
        subst (λ n. R (record { words = set s.words 0 n; homes = s.homes; views = set s.views id w })) (sym here) (changed s r id v w r.word r.wraps at some_seat refl (omega arith) (omega arith) done),
        record { empty = λ _. refl; others = λ some_there. absurd (omega arith) },
      ))
      (λ other. (
        v,
        keeps,
        tt,
        subst (λ n. R (record { words = set s.words 0 n; homes = s.homes; views = set s.views id v })) (sym here)
            (changed s r id v v r.word r.wraps at some_seat refl (omega arith) refl
            (λ idle. let old = r.done (omega (arith, total_set busy_of s.views id v v at)) in
            omega (arith, total_set counted_in s.views id v v at, total_set off s.views id v v at, total_set pending_of s.views id v v at))),
        record { empty = λ none_there. absurd (omega arith); others = λ _. refl },
      ))

  -- split a seat: one of those that the first seat stands for
  pub deals : (id quota : ℕ) (v : CountView) → IsUnusedCount v → 0 < v.seats → quota ≤ v.left → Splits R id v (count_dealt quota v) (count_newcomer quota)
  deals id quota v unused some_left enough s r at =
      let w = count_dealt quota v in let new = count_newcomer quota in let views = set s.views id w in
      let no_counted : v.counted ≡ 0 = ap counted_in unused in let no_off : v.counted_off ≡ 0 = ap off unused in
      let no_pending : v.pending ≡ 0 = ap pending_of unused in let busy : v.busy ≡ v.seats = ap busy_of unused in
      record {
        word = r.word;
        wraps = r.wraps;
        words = r.words;
        few = r.few;
        under_way = omega (arith, sum_by_push off views new, sum_by_push counted_in views new, total_set off s.views id v w at, total_set counted_in s.views id v w at, r.under_way);
        all = omega (arith, sum_by_push counts_seats views new, total_set counts_seats s.views id v w at, r.all);
        within = omega (arith, sum_by_push counts_quota views new, total_set counts_quota s.views id v w at, r.within);
        done = λ idle. absurd (omega (arith, sum_by_push busy_of views new));
        spent = λ j u e. ⊎_elim
            (λ (t : get_elem? views j ≡ some u). seats_set (λ _. IsSpent) (λ _. IsSpent) s.views id w (λ none_left. (no_counted, no_off, no_pending, omega arith)) (λ _ _ _ _ h. h) r.spent j u t)
            (λ (t : new ≡ u). subst IsSpent t (λ none_left. absurd (omega arith)))
            (at_snoc views new u j e);
      }

  -- join a seat
  pub gathers : (id : ℕ) (v : CountView) (other : ℕ) (u : CountView) → 0 < v.seats → Joins R id v other u (count_joined v u) count_spent
  gathers id v other u some_left s r at ne there =
      let w = count_joined v u in let views = set s.views id w in let gone = count_spent in
      record {
        word = r.word;
        wraps = r.wraps;
        words = r.words;
        few = r.few;
        under_way = omega (arith, total_set off s.views id v w at, total_set counted_in s.views id v w at, total_set off views other u gone there, total_set counted_in views other u gone there, r.under_way);
        all = omega (arith, total_set counts_seats s.views id v w at, total_set counts_seats views other u gone there, r.all);
        within = omega (arith, total_set counts_quota s.views id v w at, total_set counts_quota views other u gone there, r.within);
        done = λ idle.
            let old = r.done (omega (arith, total_set busy_of s.views id v w at, total_set busy_of views other u gone there)) in
            omega (
              arith,
              total_set off s.views id v w at,
              total_set counted_in s.views id v w at,
              total_set pending_of s.views id v w at,
              total_set off views other u gone there,
              total_set counted_in views other u gone there,
              total_set pending_of views other u gone there,
            );
        spent = seats_set (λ _. IsSpent) (λ _. IsSpent) views other gone (λ _. (refl, refl, refl, refl)) (λ _ _ _ _ h. h)
            (seats_set (λ _. IsSpent) (λ _. IsSpent) s.views id w (λ none_left. absurd (omega arith)) (λ _ _ _ _ h. h) r.spent);
      }

  -- at the end one view has all seats: where all were done, as many jobs were counted off as in
  pub ends : (id : ℕ) (v : CountView) (ws : List ℕ) (xs : List (Unit {0})) → Final (Seen R id v) ws xs → v.seats ≡ seats → v.busy ≡ 0 → v.counted ≤ v.counted_off + v.pending
  ends id v ws xs final every idle =
      let s = final.0 in let r = final.1.0 in let at = final.1.1 in
      let whole : sum_by counts_seats s.views ≤ v.seats = omega (arith, r.all) in
      let busy : sum_by busy_of s.views ≡ v.busy = total_only counts_seats busy_of s.views id v at whole (λ j u there none_left. (r.spent j u there none_left).3) in
      let counted : sum_by counted_in s.views ≡ v.counted = total_only counts_seats counted_in s.views id v at whole (λ j u there none_left. (r.spent j u there none_left).0) in
      let gone : sum_by off s.views ≡ v.counted_off = total_only counts_seats off s.views id v at whole (λ j u there none_left. (r.spent j u there none_left).1) in
      let pending : sum_by pending_of s.views ≡ v.pending = total_only counts_seats pending_of s.views id v at whole (λ j u there none_left. (r.spent j u there none_left).2) in
      let old = r.done (omega (arith, busy)) in omega (arith, old, counted, gone, pending)
