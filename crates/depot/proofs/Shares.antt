-- The rule holds at the start, is kept where seats are dealt and joined, and says at the end what stands at the places.
use Rattle.std.proofs.Common.{◌≡◌, ◌⊎◌, ℕ, zero, suc, ◌+◌, ◌<◌, List, [], ◌∷◌, ◌++◌, map, length, set, replicate, None, refl, sym, ap, ◌∙◌, subst, inl, inr, ⊎_elim, arith}
use Rattle.std.proofs.lemmas.List.{length-map, length-replicate}
use Rattle.std.proofs.lemmas.List.Sums.{sum_by-append, sum_by_push}
use Rattle.std.proofs.lemmas.List.Elements.{All-nil}
use Rattle.std.specs.List.{sum_by}
use mathlib.Core.Option.{some, some-injective, some-ne-none}
use lib.ListN.{get_elem?}
use Rattle.atomic_table.specs.Table.{State, Splits, Joins, opening}
use Rattle.atomic_table.proofs.Lists.{set_else, at_snoc, at_longer, at_map}
use Rattle.table_sums.proofs.Totals.{total_set}
use Rattle.table_sums.proofs.Spreads.{seats_set}
use Rattle.kmem_buf.specs.Buffers.{BufState}
use Rattle.kmem_buf.specs.Homes.{Homes}
use Rattle.magazine.specs.Ready.{IsReady}
use Rattle.depot.specs.declared.rule.View.{View}
use Rattle.depot.specs.Depot.{full_from}
use Rattle.depot.specs.Rule.{opener, spent, seats_of, IsFree, IsTurned, FitsSeat, IsShared}
use Rattle.depot.specs.Steps.{dealt_one, newcomer, joined, IsUnused}
use Rattle.depot.proofs.Keeps.{not_mine}

at_replicate : {A : Type 0} (n : ℕ) (x : A) (i : ℕ) (y : A) → get_elem? (replicate n x) i ≡ some y → (i < n) × (y ≡ x)
at_replicate zero x i y e = absurd (some-ne-none y (sym e))
at_replicate (suc n) x zero y e = (omega arith, sym (some-injective x y e))
at_replicate (suc n) x (suc i) y e = let t = at_replicate n x i y e in (omega arith, t.1)

replicate_at : {A : Type 0} (n : ℕ) (x : A) (i : ℕ) → i < n → get_elem? (replicate n x) i ≡ some x
replicate_at zero x i lt = absurd (omega arith)
replicate_at (suc n) x zero lt = refl
replicate_at (suc n) x (suc i) lt = replicate_at n x i (omega arith)

none_full : (k n : ℕ) → full_from k (replicate n []) ≡ []
none_full k zero = refl
none_full k (suc n) = none_full (k + 1) n

module _ {X : Type 0} (constructed : X → Type 0) (home : Homes) (seats : ℕ) where
  abbrev St : Type 0
  St = State (List (BufState X)) View

  abbrev R : St → Type 0
  R = IsShared constructed home seats

  abbrev empties : ℕ → List (List (BufState X))
  empties n = replicate n []

  many : (n : ℕ) → length (map some (empties n)) ≡ n
  many n = length-map (empties n) some ∙ length-replicate n []

  pub opens : (n : ℕ) → R (opening (replicate n 0) (empties n) (opener home seats))
  opens n = record {
    standing = replicate n [];
    owner = λ q. q;
    words_many = length-replicate n 0 ∙ sym (many n);
    standing_many = length-replicate n [] ∙ sym (many n);
    all = omega arith;
    count = λ weight. omega (arith, ap (sum_by weight) (none_full 0 n));
    places = places;
    fits = fits;
  }
    where
      places : (q : ℕ) (ns : List ℕ) → get_elem? (replicate n []) q ≡ some ns → IsFree constructed home (opening (replicate n 0) (empties n) (opener home seats)) q ns ⊎ IsTurned {X = X} (opening (replicate n 0) (empties n) (opener home seats)) q q ns
      places q ns e = let t = at_replicate n [] q ns e in inl (record {
        word = 0;
        magazine = [];
        word_is = replicate_at n 0 q t.0;
        here = at_map some (empties n) q [] (replicate_at n [] q t.0);
        free = omega arith;
        rounds = refl;
        numbers_are = sym t.1;
        ready = All-nil (IsReady constructed home);
      })

      fits : (id : ℕ) (v : View) → get_elem? (opener home seats ∷ []) id ≡ some v → FitsSeat home (replicate n 0) (replicate n []) (λ q. q) id v
      fits zero v e = subst (FitsSeat home (replicate n 0) (replicate n []) (λ q. q) 0) (some-injective (opener home seats) v e) (record {
        home_is = λ _. refl;
        spent = λ _. (refl, refl, refl);
        turns = λ q ns e. absurd (cc e);
      })
      fits (suc id) v e = absurd (some-ne-none v (sym e))

  -- split a seat: one of those that the first seat stands for
  pub deals : (id : ℕ) (v : View) → IsUnused v → 0 < v.seats → Splits R id v (dealt_one v) (newcomer v)
  deals id v unused some_left s r at =
      let w = dealt_one v in let new = newcomer v in let views = set s.views id w in
      let fit = r.fits id v at in let here = fit.home_is some_left in
      let idle : v.turning ≡ None = ap (λ (x : View). x.turning) unused in
      let no_put : v.put ≡ [] = ap (λ (x : View). x.put) unused in let no_taken : v.taken ≡ [] = ap (λ (x : View). x.taken) unused in
      let New : St = record { words = s.words; homes = s.homes; views = views ++ new ∷ [] } in
      record {
        standing = r.standing;
        owner = r.owner;
        words_many = r.words_many;
        standing_many = r.standing_many;
        all = omega (arith, sum_by_push seats_of views new, total_set seats_of s.views id v w at, r.all);
        count = λ weight. omega (
          arith,
          sum_by_push (λ u. sum_by weight u.put) views new,
          sum_by_push (λ u. sum_by weight u.taken) views new,
          total_set (λ u. sum_by weight u.put) s.views id v w at,
          total_set (λ u. sum_by weight u.taken) s.views id v w at,
          r.count weight,
        );
        places = λ q ns e. ⊎_elim
            (λ (g : IsFree constructed home s q ns). inl (record {
              word = g.word;
              magazine = g.magazine;
              word_is = g.word_is;
              here = g.here;
              free = g.free;
              rounds = g.rounds;
              numbers_are = g.numbers_are;
              ready = g.ready;
            }))
            (λ (t : IsTurned s (r.owner q) q ns). inr (record {
              view = t.view;
              word_is = t.word_is;
              sits = at_longer views (new ∷ []) (r.owner q) t.view (set_else s.views id (r.owner q) w (not_mine s.views id (r.owner q) v t.view (q, ns) at idle t.sits t.turns) ∙ t.sits);
              turns = t.turns;
            }))
            (r.places q ns e);
        fits = λ j u e. ⊎_elim
            (λ (t : get_elem? views j ≡ some u). seats_set (FitsSeat home s.words r.standing r.owner) (FitsSeat home s.words r.standing r.owner) s.views id w
            (record { home_is = λ _. here; spent = λ _. (no_put, no_taken, idle); turns = fit.turns }) (λ _ _ _ _ h. h) r.fits j u t)
            (λ (t : new ≡ u). subst (FitsSeat home s.words r.standing r.owner j) t (record {
              home_is = λ _. here;
              spent = λ none_left. absurd (omega arith);
              turns = λ q ns e. absurd (cc e);
            }))
            (at_snoc views new u j e);
      }

  -- join a seat
  pub gathers : (id : ℕ) (v : View) (other : ℕ) (u : View) → v.turning ≡ None → u.turning ≡ None → 0 < v.seats → Joins R id v other u (joined v u) spent
  gathers id v other u idle other_idle some_left s r at ne there =
      let w = joined v u in let views = set s.views id w in let gone : View = spent in
      let there_before : get_elem? s.views other ≡ some u = sym (set_else s.views id other w ne) ∙ there in
      let fit = r.fits id v at in let here = fit.home_is some_left in
      let Q = FitsSeat home s.words r.standing r.owner in
      let mine : Q id w = record { home_is = λ _. here; spent = λ none_left. absurd (omega arith); turns = fit.turns } in
      let theirs : Q other gone = record { home_is = λ some_there. absurd (omega arith); spent = λ _. (refl, refl, refl); turns = λ q ns e. absurd (cc e) } in
      record {
        standing = r.standing;
        owner = r.owner;
        words_many = r.words_many;
        standing_many = r.standing_many;
        all = omega (arith, total_set seats_of s.views id v w at, total_set seats_of views other u gone there, r.all);
        count = λ weight. omega (
          arith,
          total_set (λ x. sum_by weight x.put) s.views id v w at,
          total_set (λ x. sum_by weight x.taken) s.views id v w at,
          total_set (λ x. sum_by weight x.put) views other u gone there,
          total_set (λ x. sum_by weight x.taken) views other u gone there,
          sum_by-append weight v.put u.put,
          sum_by-append weight v.taken u.taken,
          r.count weight,
        );
        places = λ q ns e. ⊎_elim
            (λ (g : IsFree constructed home s q ns). inl (record {
              word = g.word;
              magazine = g.magazine;
              word_is = g.word_is;
              here = g.here;
              free = g.free;
              rounds = g.rounds;
              numbers_are = g.numbers_are;
              ready = g.ready;
            }))
            (λ (t : IsTurned s (r.owner q) q ns). inr (record {
              view = t.view;
              word_is = t.word_is;
              sits = set_else views other (r.owner q) gone (not_mine s.views other (r.owner q) u t.view (q, ns) there_before other_idle t.sits t.turns)
                  ∙ (set_else s.views id (r.owner q) w (not_mine s.views id (r.owner q) v t.view (q, ns) at idle t.sits t.turns) ∙ t.sits);
              turns = t.turns;
            }))
            (r.places q ns e);
        fits = seats_set Q Q views other gone theirs (λ _ _ _ _ h. h) (seats_set Q Q s.views id w mine (λ _ _ _ _ h. h) r.fits);
      }
