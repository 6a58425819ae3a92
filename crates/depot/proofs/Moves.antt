-- Each kind of step keeps the rule.
use Rattle.std.proofs.Common.{◌≡◌, ◌≢◌, ◌⊎◌, ℕ, ◌+◌, ◌*◌, ◌<◌, List, length, set, get_or, Some, None, refl, sym, ap, ◌∙◌, subst, inl, inr, ⊎_elim, arith}
use Rattle.std.proofs.lemmas.List.{length-set}
use Rattle.std.proofs.lemmas.List.Sums.{sum_by-append}
use Rattle.std.specs.List.{sum_by}
use mathlib.Core.Logic.{dite}
use mathlib.Core.Option.{some, none, some-injective}
use native.Mathlib.Decide.{ℕ_discrete}
use lib.ListN.{get_elem?}
use Rattle.atomic_table.specs.Table.{State, Act, step, keeps, takes, gives, stepped, carried_after, put_back, Valid, Allows}
use Rattle.atomic_table.proofs.Lists.{set_here, set_else, set_again}
use Rattle.table_sums.proofs.Spreads.{inside}
use Rattle.kmem_buf.specs.Buffers.{BufState}
use Rattle.kmem_buf.specs.Homes.{Homes}
use Rattle.magazine.specs.Ready.{AreReady}
use Rattle.depot.specs.declared.rule.View.{View}
use Rattle.kmem_buf.specs.Answers.{numbers_of}
use Rattle.depot.specs.Depot.{full_at}
use Rattle.depot.specs.Rule.{IsFree, IsTurned, FitsSeat, IsShared}
use Rattle.depot.specs.Steps.{Sat, tried, took, kept_back, traded, was_of, hand_of, Turned, Left, Settled, IsTurning}
use Rattle.depot.proofs.Totals.{full_set, element, read_at}
use Rattle.depot.proofs.Keeps.{not_mine, owned, owned-here, owned-else, changed}

module _ {X : Type 0} (constructed : X → Type 0) (home : Homes) (seats : ℕ) where
  abbrev Mag : Type 0
  Mag = List (BufState X)

  abbrev St : Type 0
  St = State Mag View

  abbrev R : St → Type 0
  R = IsShared constructed home seats

  -- what a swap of this turn word comes to
  abbrev IsSwap : ℕ → ℕ → Sat X → ℕ → St → Type 0
  IsSwap slots id me place s =
      (w : View) × (a : Act Mag) × Valid s.homes me.1 a × R (stepped s place 2 id me.1 w a) × Turned constructed (step slots place 2 0 none) me (get_or s.words place 0) (w, carried_after me.1 a)

  -- a free place is taken, with its magazine
  takes_free : (slots id : ℕ) (me : Sat X) (place : ℕ) (s : St) (r : R s) (numbers : List ℕ) → get_elem? s.views id ≡ some me.0 → me.0.turning ≡ None → me.0.seats ≡ 1
      → get_elem? r.standing place ≡ some numbers → IsFree constructed home s place numbers → IsSwap slots id me place s
  takes_free slots id me place s r numbers at idle one stands f =
      let v = me.0 in let found = get_or s.words place 0 in let w = took place found (numbers_of f.magazine) v in
      let found_is : found ≡ f.word = read_at s.words place f.word 0 f.word_is in
      let words = set s.words place 2 in let homes = set s.homes place none in let views = set s.views id w in
      let owner = owned r.owner place id in
      let turning : w.turning ≡ Some (place, numbers) = ap (λ l. Some (place, l)) f.numbers_are in
      let fit = r.fits id v at in
      let here : home ≡ v.home = sym (fit.home_is (omega arith)) in
      let Free : ℕ → List ℕ → Type 0 = IsFree constructed home (record { words = words; homes = homes; views = views }) in
      let places : (q : ℕ) (ns : List ℕ) → get_elem? r.standing q ≡ some ns → Free q ns ⊎ IsTurned {X = X} (record { words = words; homes = homes; views = views }) (owner q) q ns =
      λ q ns e. dite (ℕ_discrete q place)
      (λ same. inr (record {
        view = w;
        word_is = ap (get_elem? words) same ∙ set_here s.words place 2 (inside s.words place f.word f.word_is);
        sits = ap (get_elem? views) (ap owner same ∙ owned-here r.owner place id) ∙ set_here s.views id w (inside s.views id v at);
        turns = turning ∙ ap Some (λ i. (sym same i, some-injective numbers ns (sym stands ∙ (ap (get_elem? r.standing) (sym same) ∙ e)) i));
      }))
      (λ ne. ⊎_elim
      (λ (g : IsFree constructed home s q ns). inl (record {
        word = g.word;
        magazine = g.magazine;
        word_is = set_else s.words place q 2 ne ∙ g.word_is;
        here = set_else s.homes place q none ne ∙ g.here;
        free = g.free;
        rounds = g.rounds;
        numbers_are = g.numbers_are;
        ready = g.ready;
      }))
      (λ (t : IsTurned s (r.owner q) q ns). inr (record {
        view = t.view;
        word_is = set_else s.words place q 2 ne ∙ t.word_is;
        sits = ap (get_elem? views) (owned-else r.owner place id q ne) ∙ (set_else s.views id (r.owner q) w (not_mine s.views id (r.owner q) v t.view (q, ns) at idle t.sits t.turns) ∙ t.sits);
        turns = t.turns;
      }))
      (r.places q ns e)) in
      let mine : FitsSeat home words r.standing owner id w = record {
        home_is = fit.home_is;
        spent = λ none_left. absurd (omega arith);
        turns = λ q ns e. let pair : (place, numbers) ≡ (q, ns) = cc (sym turning ∙ e) in let same : place ≡ q = ap (λ (x : ℕ × List ℕ). x.0) pair in (
          ap owner (sym same) ∙ owned-here r.owner place id,
          ap (get_elem? words) (sym same) ∙ set_here s.words place 2 (inside s.words place f.word f.word_is),
          ap (get_elem? r.standing) (sym same) ∙ (stands ∙ ap (λ (x : ℕ × List ℕ). some x.1) pair),
        );
      } in
      let others : (j : ℕ) (u : View) → j ≢ id → get_elem? s.views j ≡ some u → FitsSeat home s.words r.standing r.owner j u → FitsSeat home words r.standing owner j u = λ j u ne there g. record {
        home_is = g.home_is;
        spent = g.spent;
        turns = λ q ns e. let t = g.turns q ns e in
            let apart : q ≢ place = λ same. let two : 2 ≡ f.word = some-injective 2 f.word (sym t.1 ∙ (ap (get_elem? s.words) same ∙ f.word_is)) in let low = f.free in absurd (omega arith) in
            (owned-else r.owner place id q apart ∙ t.0, set_else s.words place q 2 apart ∙ t.1, t.2);
      } in
      let low = f.free in let eight = f.rounds in (
        w,
        takes place f.magazine,
        f.here,
        changed constructed home seats s r id v w at words homes r.standing owner
            (length-set s.words place 2 ∙ (r.words_many ∙ sym (length-set s.homes place none))) (r.standing_many ∙ sym (length-set s.homes place none)) refl (λ weight. refl) places mine others,
        record {
          most = omega arith;
          turned = λ two. absurd (omega arith);
          taken = λ _. (f.magazine, refl, eight ∙ ap (λ n. 8 * n) (sym found_is), subst (λ h. AreReady constructed h f.magazine) here f.ready);
        },
      )

  -- a place that another seat turns is left to it
  finds_turned : (slots id : ℕ) (me : Sat X) (place : ℕ) (s : St) (r : R s) (numbers : List ℕ) → get_elem? s.views id ≡ some me.0 → me.0.turning ≡ None
      → IsTurned s (r.owner place) place numbers → IsSwap slots id me place s
  finds_turned slots id me place s r numbers at idle t =
      let v = me.0 in let w = tried place 2 v in let views = set s.views id w in
      let found_is : get_or s.words place 0 ≡ 2 = read_at s.words place 2 0 t.word_is in
      let same : set s.words place 2 ≡ s.words = set_again s.words place 2 t.word_is in
      let places : (q : ℕ) (ns : List ℕ) → get_elem? r.standing q ≡ some ns
      → IsFree constructed home (record { words = s.words; homes = s.homes; views = views }) q ns ⊎ IsTurned {X = X} (record { words = s.words; homes = s.homes; views = views }) (r.owner q) q ns =
      λ q ns e. ⊎_elim
      (λ (g : IsFree constructed home s q ns). inl (record {
        word = g.word;
        magazine = g.magazine;
        word_is = g.word_is;
        here = g.here;
        free = g.free;
        rounds = g.rounds;
        numbers_are = g.numbers_are;
        ready = g.ready;
      }))
      (λ (o : IsTurned s (r.owner q) q ns). inr (record {
        view = o.view;
        word_is = o.word_is;
        sits = set_else s.views id (r.owner q) w (not_mine s.views id (r.owner q) v o.view (q, ns) at idle o.sits o.turns) ∙ o.sits;
        turns = o.turns;
      }))
      (r.places q ns e) in
      let fit = r.fits id v at in
      let kept : R record { words = s.words; homes = s.homes; views = views } = changed constructed home seats s r id v w at s.words s.homes r.standing r.owner r.words_many r.standing_many refl (λ weight. refl) places
      (record { home_is = fit.home_is; spent = fit.spent; turns = fit.turns }) (λ j u _ _ g. g) in (
        w,
        keeps,
        tt,
        subst (λ ws. R (record { words = ws; homes = s.homes; views = views })) (sym same) kept,
        record {
          most = omega arith;
          turned = λ _. refl;
          taken = λ low. absurd (omega arith);
        },
      )

  -- swap: the place is taken, unless another seat turns it
  pub turns_it : (slots id : ℕ) (me : Sat X) (place : ℕ) → place < slots → me.0.turning ≡ None → me.0.seats ≡ 1 → Allows R slots id me place (λ _. 2) (Turned constructed (step slots place 2 0 none) me)
  turns_it slots id me place low idle one s r many at small =
      let there = element r.standing place (omega (arith, r.standing_many)) in
      ⊎_elim
      (λ (f : IsFree constructed home s place there.0). takes_free slots id me place s r there.0 at idle one there.1 f)
      (λ (t : IsTurned s (r.owner place) place there.0). finds_turned slots id me place s r there.0 at idle t)
      (r.places place there.0 there.1)

  -- store: the place is free from then on, with the magazine in hand
  frees : (slots id : ℕ) (me : Sat X) (place word : ℕ) (magazine : Mag) (w : View) → IsTurning constructed place word magazine me → w.seats ≡ me.0.seats → w.home ≡ me.0.home → w.turning ≡ None
      → ((weight : ℕ × List ℕ → ℕ) → sum_by weight w.put + sum_by weight me.0.taken + sum_by weight (full_at place (was_of me.0)) ≡ sum_by weight me.0.put + sum_by weight w.taken + sum_by weight (full_at place (numbers_of magazine)))
      → (s : St) → R s → get_elem? s.views id ≡ some me.0 → R (stepped s place word id me.1 w gives)
  frees slots id me place word magazine w turning same_seats same_home free balanced s r at =
      let v = me.0 in let numbers = numbers_of magazine in let views = set s.views id w in
      let words = set s.words place word in let homes = set s.homes place (some magazine) in let standing = set r.standing place numbers in
      let fit = r.fits id v at in let held = fit.turns place (was_of v) turning.turns in let one = turning.one in
      let here : v.home ≡ home = fit.home_is (omega arith) in
      let low : place < length s.words = inside s.words place 2 held.1 in
      let homes_are : put_back s.homes me.1 ≡ homes = ap (put_back s.homes) turning.hand in
      let New : St = record { words = words; homes = homes; views = views } in
      let places : (q : ℕ) (ns : List ℕ) → get_elem? standing q ≡ some ns → IsFree constructed home New q ns ⊎ IsTurned {X = X} New (r.owner q) q ns =
      λ q ns e. dite (ℕ_discrete q place)
      (λ same. inl (record {
        word = word;
        magazine = magazine;
        word_is = ap (get_elem? words) same ∙ set_here s.words place word low;
        here = ap (get_elem? homes) same ∙ set_here s.homes place (some magazine) (omega (arith, r.words_many));
        free = turning.free;
        rounds = turning.rounds;
        numbers_are = some-injective numbers ns (sym (set_here r.standing place numbers (omega (arith, r.words_many, r.standing_many))) ∙ (ap (get_elem? standing) (sym same) ∙ e));
        ready = subst (λ h. AreReady constructed h magazine) here turning.ready;
      }))
      (λ ne. ⊎_elim
      (λ (g : IsFree constructed home s q ns). inl (record {
        word = g.word;
        magazine = g.magazine;
        word_is = set_else s.words place q word ne ∙ g.word_is;
        here = set_else s.homes place q (some magazine) ne ∙ g.here;
        free = g.free;
        rounds = g.rounds;
        numbers_are = g.numbers_are;
        ready = g.ready;
      }))
      (λ (t : IsTurned s (r.owner q) q ns). inr (record {
        view = t.view;
        word_is = set_else s.words place q word ne ∙ t.word_is;
        sits = set_else s.views id (r.owner q) w
            (λ mine. let own : t.view ≡ v = some-injective t.view v (sym t.sits ∙ (ap (get_elem? s.views) mine ∙ at)) in
            let both : Some (place, was_of v) ≡ Some (q, ns) = sym turning.turns ∙ (ap (λ (x : View). x.turning) (sym own) ∙ t.turns) in
            let pair : (place, was_of v) ≡ (q, ns) = cc both in ne (sym (ap (λ (x : ℕ × List ℕ). x.0) pair))) ∙ t.sits;
        turns = t.turns;
      }))
      (r.places q ns (sym (set_else r.standing place q numbers ne) ∙ e))) in
      let mine : FitsSeat home words standing r.owner id w = record {
        home_is = λ _. same_home ∙ here;
        spent = λ none_left. absurd (omega arith);
        turns = λ q ns e. let clash : None ≡ Some (q, ns) = sym free ∙ e in absurd (cc clash);
      } in
      let others : (j : ℕ) (u : View) → j ≢ id → get_elem? s.views j ≡ some u → FitsSeat home s.words r.standing r.owner j u → FitsSeat home words standing r.owner j u = λ j u ne there g. record {
        home_is = g.home_is;
        spent = g.spent;
        turns = λ q ns e. let t = g.turns q ns e in let apart : q ≢ place = λ same. ne (sym t.0 ∙ (ap r.owner same ∙ held.0)) in
            (t.0, set_else s.words place q word apart ∙ t.1, set_else r.standing place q numbers apart ∙ t.2);
      } in
      subst (λ hs. R (record { words = words; homes = hs; views = views })) (sym homes_are)
      (changed constructed home seats s r id v w at words homes standing r.owner
      (length-set s.words place word ∙ (r.words_many ∙ sym (length-set s.homes place (some magazine))))
      (length-set r.standing place numbers ∙ (r.standing_many ∙ sym (length-set s.homes place (some magazine)))) same_seats
      (λ weight. omega (arith, balanced weight, full_set weight 0 r.standing place place (was_of v) numbers (omega arith) held.2)) places mine others)

  -- store: with the magazine that was found there
  pub leaves : (slots id : ℕ) (me : Sat X) (place word : ℕ) (magazine : Mag) → IsTurning constructed place word magazine me → numbers_of magazine ≡ was_of me.0
      → Allows R slots id me place (λ _. word) (λ _. Left (step slots place word 0 none) me word)
  leaves slots id me place word magazine turning same s r many at small =
      let w = kept_back me.0 in (
        w,
        gives,
        tt,
        frees slots id me place word magazine w turning refl refl refl (λ weight. omega (arith, ap (λ l. sum_by weight (full_at place l)) same)) s r at,
        refl,
      )

  -- store: with the magazine that was brought
  pub settles : (slots id : ℕ) (me : Sat X) (place word : ℕ) (magazine : Mag) → IsTurning constructed place word magazine me
      → Allows R slots id me place (λ _. word) (λ _. Settled (step slots place word 0 none) me word)
  settles slots id me place word magazine turning s r many at small =
      let v = me.0 in let w = traded place (was_of v) (hand_of me.1) v in let hand : hand_of me.1 ≡ numbers_of magazine = ap hand_of turning.hand in (
        w,
        gives,
        tt,
        frees slots id me place word magazine w turning refl refl refl
            (λ weight. omega (arith, sum_by-append weight v.put (full_at place (hand_of me.1)), sum_by-append weight v.taken (full_at place (was_of v)), ap (λ l. sum_by weight (full_at place l)) hand)) s r at,
        refl,
      )
