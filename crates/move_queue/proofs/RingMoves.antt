-- The rule of the ring holds at the start, and each kind of step keeps it.
use Rattle.std.proofs.Common.{◌≡◌, ℕ, zero, suc, ◌+◌, ◌-◌, ◌<◌, ◌≤◌, List, [], ◌∷◌, ◌++◌, length, set, refl, sym, ap, ◌∙◌, subst, ⊎_elim, arith, append_assoc, length-append}
use Rattle.std.proofs.lemmas.List.Sums.{sum_by_push}
use Rattle.std.proofs.lemmas.List.Elements.{All-nil, All-head, All-tail, All-push, All-append}
use Rattle.std.specs.List.{sum_by, range_with_len}
use mathlib.Core.Option.{some, some-injective, some-ne-none}
use lib.ListN.{get_elem?}
use Rattle.crossbeam_queue.specs.Fifo.{Pushes, Pops, Learns, Forks, Merges}
use Rattle.atomic_table.proofs.Lists.{set_else, at_last, at_snoc}
use Rattle.table_sums.proofs.Totals.{total_set, total_at, total_two}
use Rattle.table_sums.proofs.Spreads.{seats_set, spread_kept}
use Rattle.object_cache.specs.Moves.{JobState, IsJobOf}
use Rattle.move_queue.specs.declared.rule.Terms.{Terms}
use Rattle.move_queue.specs.declared.rule.View.{View}
use Rattle.move_queue.specs.Queue.{numbers_in}
use Rattle.move_queue.specs.Rule.{no_terms, opener, untold, spent, dealt, newcomer, joined, seats_of, quota_of, FitsSeat, IsQueued, Pushed, IsNumbered, Popped, KnowsAll}
use Rattle.move_queue.proofs.Lists.{total_only, total_sum, numbers_push, numbers_append, run_push, spread_many, in_longer, in_before}

module _ {X : Type 0} (constructed : X → Type 0) where
  abbrev J : Type 0
  J = JobState X

  abbrev V : Type 0
  V = View X

  abbrev R : List J → List V → Type 0
  R = IsQueued constructed

  abbrev pushed_in : V → List ℕ
  pushed_in v = numbers_in v.pushed

  abbrev popped_in : V → List ℕ
  popped_in v = numbers_in v.popped

  abbrev pushed_many : V → ℕ
  pushed_many v = length v.pushed

  abbrev popped_many : V → ℕ
  popped_many v = length v.popped

  abbrev left_of : V → ℕ
  left_of v = v.left

  pub begins : R [] (untold ∷ [])
  begins = record {
    terms = no_terms;
    gone = [];
    seats = omega arith;
    quotas = omega arith;
    pushes = λ weight. omega arith;
    pops = λ weight. omega arith;
    jobs = All-nil (IsJobOf constructed no_terms.home);
    fits = fits;
  }
    where
      fits : (id : ℕ) (v : V) → get_elem? (untold ∷ []) id ≡ some v → FitsSeat no_terms [] [] v
      fits zero v e = subst (FitsSeat no_terms [] []) (some-injective untold v e) (record {
        terms_are = λ _. refl;
        spent = λ _. (refl, refl);
        pushed = All-nil (λ (x : ℕ × J). get_elem? [] x.0 ≡ some x.1);
        popped = All-nil (λ (x : ℕ × J). get_elem? [] x.0 ≡ some x.1);
      })
      fits (suc id) v e = absurd (some-ne-none v (sym e))

  -- all jobs that were pushed so far
  abbrev log : (items : List J) (views : List V) → R items views → List J
  log items views r = r.gone ++ items

  many_pushed : (items : List J) (views : List V) (r : R items views) → sum_by pushed_many views ≡ length (r.gone ++ items)
  many_pushed items views r = spread_many (λ (v : V). v.pushed) views (length (r.gone ++ items)) r.pushes

  many_popped : (items : List J) (views : List V) (r : R items views) → sum_by popped_many views ≡ length r.gone
  many_popped items views r = spread_many (λ (v : V). v.popped) views (length r.gone) r.pops

  -- what fits still does after more pushes, or more pops
  fits_longer : (terms : Terms) (all gone more : List J) (v : V) → FitsSeat terms all gone v → FitsSeat terms (all ++ more) gone v
  fits_longer terms all gone more v fit = record { terms_are = fit.terms_are; spent = fit.spent; pushed = in_longer all more v.pushed fit.pushed; popped = fit.popped }

  fits_gone : (terms : Terms) (all gone more : List J) (v : V) → FitsSeat terms all gone v → FitsSeat terms all (gone ++ more) v
  fits_gone terms all gone more v fit = record { terms_are = fit.terms_are; spent = fit.spent; pushed = fit.pushed; popped = in_longer gone more v.popped fit.popped }

  -- push: the job goes last
  pub pushes : (n id : ℕ) (v : V) (job : J) → 0 < v.seats → 1 ≤ v.left → IsJobOf constructed v.terms.home job → Pushes R n id v job (Pushed v job)
  pushes n id v job some_seat some_left is_job items views room r at =
      let all = r.gone ++ items in let next = r.gone ++ (items ++ job ∷ []) in
      let longer : all ++ job ∷ [] ≡ next = append_assoc r.gone items (job ∷ []) in
      let one_more : length next ≡ length all + 1 = omega (arith, length-append r.gone items, length-append r.gone (items ++ job ∷ []), length-append items (job ∷ [])) in
      let number = length all in
      let w : V = record v { left = v.left - 1; pushed = v.pushed ++ (number, job) ∷ [] } in
      let fit = r.fits id v at in let same = fit.terms_are some_seat in
      let mine : FitsSeat r.terms next r.gone w = subst (λ l. FitsSeat r.terms l r.gone w) longer (record {
        terms_are = λ _. same;
        spent = λ none_left. absurd (omega arith);
        pushed = All-push (λ (x : ℕ × J). get_elem? (all ++ job ∷ []) x.0 ≡ some x.1) v.pushed (number, job) (in_longer all (job ∷ []) v.pushed fit.pushed) (at_last all job number refl);
        popped = fit.popped;
      }) in (
        w,
        record {
          terms = r.terms;
          gone = r.gone;
          seats = omega (arith, total_set seats_of views id v w at, r.seats);
          quotas = omega (arith, total_set quota_of views id v w at, length-append v.pushed ((number, job) ∷ []), r.quotas);
          pushes = λ weight.
              let mine_now : sum_by weight (pushed_in w) ≡ sum_by weight (pushed_in v) + weight number = numbers_push weight v.pushed number job in
              let last : sum_by weight (range_with_len 0 (length next)) ≡ sum_by weight (range_with_len 0 number) + weight number = run_push weight number _ one_more in
              omega (arith, total_set (λ u. sum_by weight (pushed_in u)) views id v w at, mine_now, r.pushes weight, last);
          pops = spread_kept popped_in views (range_with_len 0 (length r.gone)) id v w at refl r.pops;
          jobs = All-push (IsJobOf constructed r.terms.home) items job r.jobs (subst (λ (t : Terms). IsJobOf constructed t.home job) same is_job);
          fits = seats_set (λ _. FitsSeat r.terms all r.gone) (λ _. FitsSeat r.terms next r.gone) views id w mine
              (λ j u _ _ h. subst (λ l. FitsSeat r.terms l r.gone u) longer (fits_longer r.terms all r.gone (job ∷ []) u h)) r.fits;
        },
        record { number = number; later = in_before all v.pushed fit.pushed; view = refl },
      )

  -- pop: the first job comes out
  pub pops : (id : ℕ) (v : V) → 0 < v.seats → Pops R id v (Popped constructed v)
  pops id v some_seat job items views r at =
      let all = r.gone ++ (job ∷ items) in let gone = r.gone ++ job ∷ [] in let number = length r.gone in
      let shifted : gone ++ items ≡ all = append_assoc r.gone (job ∷ []) items in
      let one_more : length gone ≡ number + 1 = length-append r.gone (job ∷ []) in
      let w : V = record v { popped = v.popped ++ (number, job) ∷ [] } in
      let fit = r.fits id v at in let same = fit.terms_are some_seat in
      let mine : FitsSeat r.terms (gone ++ items) gone w = subst (λ l. FitsSeat r.terms l gone w) (sym shifted) (record {
        terms_are = λ _. same;
        spent = λ none_left. absurd (omega arith);
        pushed = fit.pushed;
        popped = All-push (λ (x : ℕ × J). get_elem? gone x.0 ≡ some x.1) v.popped (number, job) (in_longer r.gone (job ∷ []) v.popped fit.popped) (at_last r.gone job number refl);
      }) in
      let whole = many_popped (job ∷ items) views r in let total = many_pushed (job ∷ items) views r in
      let terms_same : v.terms.seats ≡ r.terms.seats = ap (λ (t : Terms). t.seats) same in
      let quotas_same : v.terms.quotas ≡ r.terms.quotas = ap (λ (t : Terms). t.quotas) same in (
        w,
        record {
          terms = r.terms;
          gone = gone;
          seats = omega (arith, total_set seats_of views id v w at, r.seats);
          quotas = omega (arith, total_set quota_of views id v w at, r.quotas);
          pushes = λ weight. spread_kept pushed_in views (range_with_len 0 (length all)) id v w at refl r.pushes weight ∙ ap (λ l. sum_by weight (range_with_len 0 (length l))) (sym shifted);
          pops = λ weight.
              let mine_now : sum_by weight (popped_in w) ≡ sum_by weight (popped_in v) + weight number = numbers_push weight v.popped number job in
              let last : sum_by weight (range_with_len 0 (length gone)) ≡ sum_by weight (range_with_len 0 number) + weight number = run_push weight number _ one_more in
              omega (arith, total_set (λ u. sum_by weight (popped_in u)) views id v w at, mine_now, r.pops weight, last);
          jobs = All-tail (IsJobOf constructed r.terms.home) job items r.jobs;
          fits = seats_set (λ _. FitsSeat r.terms all r.gone) (λ _. FitsSeat r.terms (gone ++ items) gone) views id w mine
              (λ j u _ _ h. subst (λ l. FitsSeat r.terms l gone u) (sym shifted) (fits_gone r.terms all r.gone (job ∷ []) u h)) r.fits;
        },
        record {
          number = number;
          later = in_before r.gone v.popped fit.popped;
          alone = λ every. sym whole
              ∙ total_only seats_of popped_many views id v at (omega (arith, r.seats, terms_same)) (λ j u there none_left. ap length ((r.fits j u there).spent none_left).1);
          few = omega (
            arith,
            total_at popped_many views id v at,
            whole,
            total,
            length-append r.gone (job ∷ items),
            total_sum pushed_many left_of views,
            r.quotas,
            quotas_same,
          );
          is_job = subst (λ (t : Terms). IsJobOf constructed t.home job) (sym same) (All-head (IsJobOf constructed r.terms.home) job items r.jobs);
          view = refl;
        },
      )

  -- how many pushes and pops there were
  pub numbered : (id : ℕ) (v : V) → 0 < v.seats → Learns R id v (IsNumbered v)
  numbered id v some_seat items views r at =
      let quotas_same : v.terms.quotas ≡ r.terms.quotas = ap (λ (t : Terms). t.quotas) ((r.fits id v at).terms_are some_seat) in
      record {
        pushes = length (r.gone ++ items);
        pops = length r.gone;
        stand = length-append r.gone items;
        mine = omega (arith, total_at pushed_many views id v at, many_pushed items views r);
        popped = omega (arith, total_at popped_many views id v at, many_popped items views r);
        within = omega (arith, total_at left_of views id v at, many_pushed items views r, total_sum pushed_many left_of views, r.quotas, quotas_same);
      }

  -- what a seat that stands for all seats knows
  pub knows : (id : ℕ) (v : V) → Learns R id v (KnowsAll v)
  knows id v items views r at some_seat every =
      let all = r.gone ++ items in let fit = r.fits id v at in let same = fit.terms_are some_seat in
      let terms_same : v.terms.seats ≡ r.terms.seats = ap (λ (t : Terms). t.seats) same in
      let whole : sum_by seats_of views ≤ v.seats = omega (arith, r.seats, terms_same) in
      let only : (g : V → ℕ) → ((u : V) → u.pushed ≡ [] → u.popped ≡ [] → g u ≡ 0) → sum_by g views ≡ g v = λ g none.
      total_only seats_of g views id v at whole (λ j u there none_left. let s = (r.fits j u there).spent none_left in none u s.0 s.1) in
      let pops_mine : length v.popped ≡ length r.gone = sym (only popped_many (λ u _ e. ap length e)) ∙ many_popped items views r in
      record {
        jobs = all;
        pushed = fit.pushed;
        popped = in_longer r.gone items v.popped fit.popped;
        many = omega (arith, pops_mine, length-append r.gone items);
        as_many = sym (only pushed_many (λ u e _. ap length e)) ∙ many_pushed items views r;
        pushes = λ weight. sym (only (λ u. sum_by weight (pushed_in u)) (λ u e _. ap (λ l. sum_by weight (numbers_in l)) e)) ∙ r.pushes weight;
        pops = λ weight. sym (only (λ u. sum_by weight (popped_in u)) (λ u _ e. ap (λ l. sum_by weight (numbers_in l)) e)) ∙ (r.pops weight ∙ ap (λ k. sum_by weight (range_with_len 0 k)) (sym pops_mine));
      }

  -- the first seat is told the terms
  pub tells : (id : ℕ) (terms : Terms) → 0 < terms.seats → Forks R id untold (opener terms) spent
  tells id terms some_seat items views r at =
      let v : V = untold in let w : V = opener terms in let new : V = spent in let vs = set views id w in
      let fit = r.fits id v at in let same : no_terms ≡ r.terms = fit.terms_are (omega arith) in
      let one_seat : 1 ≡ r.terms.seats = ap (λ (t : Terms). t.seats) same in
      let no_quota : 0 ≡ r.terms.quotas = ap (λ (t : Terms). t.quotas) same in
      let none_there : length items ≡ 0 = omega (arith, many_pushed items views r, length-append r.gone items, total_sum pushed_many left_of views, r.quotas, no_quota) in
      let all = r.gone ++ items in
      let mine : FitsSeat terms all r.gone w = record { terms_are = λ _. refl; spent = λ none_left. absurd (omega arith); pushed = fit.pushed; popped = fit.popped } in
      let theirs : FitsSeat terms all r.gone new = record { terms_are = λ some_there. absurd (omega arith); spent = λ _. (refl, refl); pushed = fit.pushed; popped = fit.popped } in
      record {
        terms = terms;
        gone = r.gone;
        seats = omega (arith, sum_by_push seats_of vs new, total_set seats_of views id v w at, r.seats, one_seat);
        quotas = omega (arith, sum_by_push quota_of vs new, total_set quota_of views id v w at, r.quotas, no_quota);
        pushes = λ weight. omega (arith, sum_by_push (λ u. sum_by weight (pushed_in u)) vs new, total_set (λ u. sum_by weight (pushed_in u)) views id v w at, r.pushes weight);
        pops = λ weight. omega (arith, sum_by_push (λ u. sum_by weight (popped_in u)) vs new, total_set (λ u. sum_by weight (popped_in u)) views id v w at, r.pops weight);
        jobs = λ k d low. absurd (omega (arith, none_there));
        fits = λ j u e. ⊎_elim
            (λ (t : get_elem? vs j ≡ some u).
            seats_set (λ _. FitsSeat r.terms all r.gone) (λ _. FitsSeat terms all r.gone) views id w mine
            (λ k x ne there h. let none_left : x.seats ≡ 0 = omega (arith, total_two seats_of views k id x v ne there at, r.seats, one_seat) in
            record { terms_are = λ some_there. absurd (omega (arith, none_left)); spent = h.spent; pushed = h.pushed; popped = h.popped })
            r.fits j u t)
            (λ (t : new ≡ u). subst (FitsSeat terms all r.gone) t theirs)
            (at_snoc vs new u j e);
      }

  -- split a seat: one of those that the first seat stands for
  pub deals : (id quota : ℕ) (v : V) → v.pushed ≡ [] → v.popped ≡ [] → 0 < v.seats → quota ≤ v.left → Forks R id v (dealt quota v) (newcomer quota v)
  deals id quota v no_pushed no_popped some_seat enough items views r at =
      let w : V = dealt quota v in let new : V = newcomer quota v in let vs = set views id w in let all = r.gone ++ items in
      let fit = r.fits id v at in let same = fit.terms_are some_seat in
      let mine : FitsSeat r.terms all r.gone w = record { terms_are = λ _. same; spent = λ _. (no_pushed, no_popped); pushed = fit.pushed; popped = fit.popped } in
      let theirs : FitsSeat r.terms all r.gone new = record {
        terms_are = λ _. same;
        spent = λ _. (refl, refl);
        pushed = All-nil (λ (x : ℕ × J). get_elem? all x.0 ≡ some x.1);
        popped = All-nil (λ (x : ℕ × J). get_elem? r.gone x.0 ≡ some x.1);
      } in
      record {
        terms = r.terms;
        gone = r.gone;
        seats = omega (arith, sum_by_push seats_of vs new, total_set seats_of views id v w at, r.seats);
        quotas = omega (arith, sum_by_push quota_of vs new, total_set quota_of views id v w at, r.quotas);
        pushes = λ weight. omega (arith, sum_by_push (λ u. sum_by weight (pushed_in u)) vs new, total_set (λ u. sum_by weight (pushed_in u)) views id v w at, r.pushes weight);
        pops = λ weight. omega (arith, sum_by_push (λ u. sum_by weight (popped_in u)) vs new, total_set (λ u. sum_by weight (popped_in u)) views id v w at, r.pops weight);
        jobs = r.jobs;
        fits = λ j u e. ⊎_elim
            (λ (t : get_elem? vs j ≡ some u). seats_set (λ _. FitsSeat r.terms all r.gone) (λ _. FitsSeat r.terms all r.gone) views id w mine (λ _ _ _ _ h. h) r.fits j u t)
            (λ (t : new ≡ u). subst (FitsSeat r.terms all r.gone) t theirs)
            (at_snoc vs new u j e);
      }

  -- join a seat
  pub gathers : (id : ℕ) (v : V) (other : ℕ) (u : V) → 0 < v.seats → Merges R id v other u (joined v u) spent
  gathers id v other u some_seat items views r at ne there =
      let w : V = joined v u in let gone : V = spent in let vs = set views id w in let all = r.gone ++ items in
      let there_before : get_elem? views other ≡ some u = sym (set_else views id other w ne) ∙ there in
      let fit = r.fits id v at in let fit_other = r.fits other u there_before in let same = fit.terms_are some_seat in
      let mine : FitsSeat r.terms all r.gone w = record {
        terms_are = λ _. same;
        spent = λ none_left. absurd (omega arith);
        pushed = All-append (λ (x : ℕ × J). get_elem? all x.0 ≡ some x.1) v.pushed u.pushed fit.pushed fit_other.pushed;
        popped = All-append (λ (x : ℕ × J). get_elem? r.gone x.0 ≡ some x.1) v.popped u.popped fit.popped fit_other.popped;
      } in
      let theirs : FitsSeat r.terms all r.gone gone = record {
        terms_are = λ some_there. absurd (omega arith);
        spent = λ _. (refl, refl);
        pushed = All-nil (λ (x : ℕ × J). get_elem? all x.0 ≡ some x.1);
        popped = All-nil (λ (x : ℕ × J). get_elem? r.gone x.0 ≡ some x.1);
      } in
      record {
        terms = r.terms;
        gone = r.gone;
        seats = omega (arith, total_set seats_of views id v w at, total_set seats_of vs other u gone there, r.seats);
        quotas = omega (arith, total_set quota_of views id v w at, total_set quota_of vs other u gone there, length-append v.pushed u.pushed, r.quotas);
        pushes = λ weight. omega (
          arith,
          total_set (λ x. sum_by weight (pushed_in x)) views id v w at,
          total_set (λ x. sum_by weight (pushed_in x)) vs other u gone there,
          numbers_append weight v.pushed u.pushed,
          r.pushes weight,
        );
        pops = λ weight. omega (
          arith,
          total_set (λ x. sum_by weight (popped_in x)) views id v w at,
          total_set (λ x. sum_by weight (popped_in x)) vs other u gone there,
          numbers_append weight v.popped u.popped,
          r.pops weight,
        );
        jobs = r.jobs;
        fits = seats_set (λ _. FitsSeat r.terms all r.gone) (λ _. FitsSeat r.terms all r.gone) vs other gone theirs (λ _ _ _ _ h. h)
            (seats_set (λ _. FitsSeat r.terms all r.gone) (λ _. FitsSeat r.terms all r.gone) views id w mine (λ _ _ _ _ h. h) r.fits);
      }
