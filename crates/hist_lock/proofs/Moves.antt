-- Each kind of step keeps the rule: one lemma for each.
use Rattle.std.proofs.Common.{◌≡◌, ◌≢◌, ◌==◌, ◌⊎◌, ℕ, zero, suc, ◌+◌, ◌-◌, ◌%◌, ◌^◌, ◌<◌, ◌≤◌, List, [], ◌∷◌, ◌++◌, map, length, set, get_or, refl, sym, ap, ◌∙◌, subst, inl, inr, ⊎_elim, arith, All, Some, vec_capacity, length-append, append_assoc, ne_eqb, eq-eqb, cond}
use Rattle.std.proofs.Math.Nat.{mod-add-mod, mod-eq_of_lt}
use Rattle.std.proofs.lemmas.List.{append-nil, map-append}
use Rattle.std.proofs.lemmas.List.Elements.{All-nil, All-cons, All-head, All-same, All-push}
use Rattle.std.proofs.lemmas.List.Elements.{filter-append}
use Rattle.std.specs.List.{sum_by, range_with_len, filter}
use mathlib.Core.Logic.{dite}
use mathlib.Core.Option.{some, none, some-injective, some-ne-none}
use mathlib.Core.Option as maybe
use native.Mathlib.Decide.{ℕ_discrete}
use lib.ListN.{get_elem?}
use lib.Seq.{set-get_or}
use Rattle.atomic_table.specs.Table.{State, Me, step, keeps, takes, gives, stepped, Allows, Splits, Joins}
use Rattle.atomic_table.proofs.Lists.{set_here, set_again, one_turn}
use Rattle.hist_lock.specs.declared.rule.Held.{Held}
use Rattle.hist_lock.specs.declared.rule.Bounds.{Bounds}
use Rattle.hist_lock.specs.declared.rule.Claim.{Claim}
use Rattle.hist_lock.specs.declared.rule.Stage.{Stage}
use Rattle.hist_lock.specs.declared.rule.Stage.TheVariants.{Idle, Waiting, Called, Holding}
use Rattle.hist_lock.specs.declared.rule.View.{View}
use Rattle.hist_lock.specs.History.{IsFront, entries_of}
use Rattle.table_sums.specs.Spread.{IsSpread}
use Rattle.hist_lock.specs.Rule.{drawn, tickets_of, claim_numbers, left_of, own, FitsClaim, FitsStage, FitsSeat, IsHome, IsIn, IsOut, OneLog}
use Rattle.hist_lock.specs.Steps.{at_stage, drew, with_journal, took, learned, raised, Sat, IsAt, Draws, Looks, Takes, journal_of, Learns, Raises, Gives, Serves}
use Rattle.table_sums.proofs.Spreads.{seats_set, spread_kept}
use Rattle.table_sums.proofs.Totals.{total_set, run_last, run_first}
use Rattle.hist_lock.proofs.Keeps.{drawn_waiting, drawn_called, drawn_holding, out_kept, in_kept, few, in_line, alone, dealt_number, others_differ, room_at, changed}

-- the words of the table, by place
abbrev words_of : ℕ → ℕ → ℕ → List ℕ → List ℕ
words_of tickets served len bells = tickets ∷ served ∷ len ∷ bells

-- a bell changes no other word
set_bell : (i tickets served len new : ℕ) (bells : List ℕ) → 3 ≤ i → (after : List ℕ) × (set (words_of tickets served len bells) i new ≡ words_of tickets served len after)
set_bell zero tickets served len new bells le = absurd (omega arith)
set_bell (suc zero) tickets served len new bells le = absurd (omega arith)
set_bell (suc (suc zero)) tickets served len new bells le = absurd (omega arith)
set_bell (suc (suc (suc i))) tickets served len new bells le = (set bells i new, refl)

idle_only : (stage : Stage) → stage ≡ Idle → stage ≢ Holding
idle_only stage e h = absurd (cc (e, h))

called_only : (stage : Stage) → stage ≡ Called → stage ≢ Holding
called_only stage e h = absurd (cc (e, h))

set_one : {A : Type 0} (xs : List A) (y : A) → length xs ≡ 1 → set xs 0 y ≡ y ∷ []
set_one [] y e = absurd (omega arith)
set_one (x ∷ []) y e = refl
set_one (x ∷ x' ∷ xs) y e = absurd (omega arith)

module _ {E : Type 0} where
  pub entries_of-append : (n : ℕ) (xs ys : List (ℕ × E)) → entries_of n (xs ++ ys) ≡ entries_of n xs ++ entries_of n ys
  entries_of-append n xs ys =
      ap (map (λ (x : ℕ × E). x.1)) (filter-append (λ (x : ℕ × E). x.0 == n) xs ys) ∙ map-append (λ (x : ℕ × E). x.1) (filter (λ (x : ℕ × E). x.0 == n) xs) (filter (λ (x : ℕ × E). x.0 == n) ys)

  entries_of-other : (n m : ℕ) (x : E) → m ≢ n → entries_of n ((m, x) ∷ []) ≡ []
  entries_of-other n m x ne = ap (λ b. map (λ (x : ℕ × E). x.1) (cond b ((m, x) ∷ []) [])) (ne_eqb m n ne)

  pub entries_of-own : (n : ℕ) (x : E) → entries_of n ((n, x) ∷ []) ≡ x ∷ []
  entries_of-own n x = ap (λ b. map (λ (x : ℕ × E). x.1) (cond b ((n, x) ∷ []) [])) (eq-eqb n n refl)

  -- the pass's entries after one more of its own
  pub entries_of-push : (n : ℕ) (h : List (ℕ × E)) (x : E) → entries_of n (h ++ (n, x) ∷ []) ≡ entries_of n h ++ x ∷ []
  entries_of-push n h x = entries_of-append n h ((n, x) ∷ []) ∙ ap (λ l. entries_of n h ++ l) (entries_of-own n x)

  -- another pass's entry changes nothing that a claim says
  claim_longer : (log : List (ℕ × E)) (m : ℕ) (x : E) (c : Claim E) → m ≢ c.number → FitsClaim log c → FitsClaim (log ++ (m, x) ∷ []) c
  claim_longer log m x c ne fits =
      let front = fits.0 in let added = (m, x) ∷ [] in (
        (front.0 ++ added, sym (append_assoc c.seen front.0 added) ∙ ap (λ l. l ++ added) front.1),
        entries_of-append c.number log added ∙ (ap (λ l. entries_of c.number log ++ l) (entries_of-other c.number m x ne) ∙ (append-nil (entries_of c.number log) ∙ fits.1)),
      )

  -- a history that is longer changes nothing for a seat that has not the value
  stage_longer : (serving : ℕ) (log longer : List (ℕ × E)) (ticket : ℕ) (c : Claim E) (stage : Stage) → stage ≢ Holding → FitsStage serving log ticket c stage → FitsStage serving longer ticket c stage
  stage_longer serving log longer ticket c Idle not fits = fits
  stage_longer serving log longer ticket c Waiting not fits = fits
  stage_longer serving log longer ticket c Called not fits = fits
  stage_longer serving log longer ticket c Holding not fits = absurd (not refl)

  -- nor does the next ticket, for a seat that was not served
  stage_later : (serving later : ℕ) (log : List (ℕ × E)) (ticket : ℕ) (c : Claim E) (stage : Stage) → (stage ≡ Called → ticket ≢ serving) → (stage ≡ Holding → ticket ≢ serving)
      → FitsStage serving log ticket c stage → FitsStage later log ticket c stage
  stage_later serving later log ticket c Idle called holding fits = fits
  stage_later serving later log ticket c Waiting called holding fits = fits
  stage_later serving later log ticket c Called called holding fits = absurd (called refl fits)
  stage_later serving later log ticket c Holding called holding fits = absurd (holding refl fits.0)

module _ {O E H : Type 0} (bounds : Bounds H) (stands : O → List (ℕ × E) → Type 0) (home_of : O → H) where
  abbrev St : Type 0
  St = State (Held O E) (View E H)

  abbrev V : Type 0
  V = View E H

  abbrev M : Type 0
  M = Sat O E H

  abbrev R : St → Type 0
  R = OneLog bounds stands home_of

  abbrev Home : List (maybe.Option (Held O E)) → List (ℕ × E) → List V → Type 0
  Home homes log views = (held : Held O E) × (homes ≡ some held ∷ []) × IsHome bounds stands home_of log held × IsIn views

  -- the slot is as it was, where the view neither takes it nor loses it
  slot_kept : (s : St) (r : R s) (me : ℕ) (v w : V) → get_elem? s.views me ≡ some v → v.stage ≢ Holding → w.stage ≢ Holding
      → Home s.homes r.log (set s.views me w) ⊎ IsOut (set s.views me w)
  slot_kept s r me v w at not still = ⊎_elim
      (λ (t : Home s.homes r.log s.views). inl (t.0, t.1, t.2, in_kept s.views me w still t.3))
      (λ (o : IsOut s.views). inr (out_kept s.views me v w at (λ h. absurd (not h)) o))
      r.slot

  -- what a seat knows where neither its claims nor its bounds change
  restaged : (s : St) (r : R s) (me : ℕ) (v w : V) (serving : ℕ) → get_elem? s.views me ≡ some v → w.bounds ≡ v.bounds → w.dealt ≡ v.dealt → w.claims ≡ v.claims
      → FitsStage serving r.log w.ticket (own w) w.stage → length (tickets_of w) ≤ length v.claims → FitsSeat bounds serving r.dealt r.log me w
  restaged s r me v w serving at same_bounds same_dealt same_claims stage ticket = let f = r.seats me v at in record {
    of = λ b e. f.of b (sym same_bounds ∙ e);
    deals = λ n e. f.deals n (sym same_dealt ∙ e);
    claims = All-same (FitsClaim r.log) w.claims v.claims same_claims f.claims;
    stage = stage;
    ticket = omega (arith, ap length same_claims);
  }

  -- a step that changes no word
  same_words : (s : St) (r : R s) (i : ℕ) → set s.words i (get_or s.words i 0) ≡ words_of ((r.serving + r.waiting) % 2 ^ 64) (r.serving % 2 ^ 64) (length r.log) r.bells
  same_words s r i = set-get_or s.words i 0 ∙ r.words

  pub draws : (slots id : ℕ) (me : M) → IsAt Idle [] me → Allows R slots id me 0 (λ n. (n + 1) % 2 ^ 64) (Draws (step slots 0 1 0 none) me)
  draws slots id me is s r one at small =
      let v = me.0 in let t = r.serving + r.waiting in let w = drew t v in
      let found : get_or s.words 0 0 ≡ t % 2 ^ 64 = ap (λ ws. get_or ws 0 0) r.words in
      let one_more : t + 1 ≡ r.serving + (r.waiting + 1) = omega arith in
      let next : (get_or s.words 0 0 + 1) % 2 ^ 64 ≡ (r.serving + (r.waiting + 1)) % 2 ^ 64 =
      ap (λ n. (n + 1) % 2 ^ 64) found ∙ (mod-add-mod t (2 ^ 64) 1 ∙ ap (λ n. n % 2 ^ 64) one_more) in
      let words : set s.words 0 ((get_or s.words 0 0 + 1) % 2 ^ 64) ≡ words_of ((r.serving + (r.waiting + 1)) % 2 ^ 64) (r.serving % 2 ^ 64) (length r.log) r.bells =
      ap (λ ws. set ws 0 ((get_or s.words 0 0 + 1) % 2 ^ 64)) r.words ∙ ap (λ n. words_of n (r.serving % 2 ^ 64) (length r.log) r.bells) next in
      let none_yet : tickets_of v ≡ [] = ap (λ st. drawn st v.ticket) is.0 in
      let tickets : IsSpread tickets_of (set s.views id w) (range_with_len r.serving (r.waiting + 1)) = λ (f : ℕ → ℕ). omega (arith, total_set (λ u. sum_by f (tickets_of u)) s.views id v w at, ap (sum_by f) none_yet, r.tickets f, run_last f r.serving r.waiting) in (
        w,
        keeps,
        tt,
        changed bounds stands home_of s r id v w at (set s.words 0 ((get_or s.words 0 0 + 1) % 2 ^ 64)) s.homes r.serving (r.waiting + 1) r.log r.bells words tickets refl (omega arith) r.known
            (restaged s r id v w r.serving at refl refl refl tt (omega (arith, ap length is.1))) (λ j u _ _ f. f) (slot_kept s r id v w at (idle_only v.stage is.0) (λ h. absurd (cc h))),
        (t, found, refl),
      )

  pub looks : (slots id : ℕ) (me : M) → IsAt Waiting [] me → Allows R slots id me 1 (λ n. n) (Looks (step slots 1 0 0 none) me)
  looks slots id me is s r one at small =
      let v = me.0 in let found : get_or s.words 1 0 ≡ r.serving % 2 ^ 64 = ap (λ ws. get_or ws 1 0) r.words in
      dite (ℕ_discrete (get_or s.words 1 0) (v.ticket % 2 ^ 64))
      (λ e. let w = at_stage Called v in
      let line = in_line bounds stands home_of s r id v Waiting at is.0 drawn_waiting in
      let near : v.ticket < r.serving + 2 ^ 64 = let a = few bounds stands home_of s r in let b = r.dealt_in in let c = r.small in omega arith in
      let served : r.serving ≡ v.ticket = one_turn r.serving v.ticket (2 ^ 64) line.0 near (sym found ∙ e) in
      let same : tickets_of w ≡ tickets_of v = sym (ap (λ st. drawn st v.ticket) is.0) in (
        w,
        keeps,
        tt,
        changed bounds stands home_of s r id v w at (set s.words 1 (get_or s.words 1 0)) s.homes r.serving r.waiting r.log r.bells (same_words s r 1)
            (spread_kept tickets_of s.views (range_with_len r.serving r.waiting) id v w at same r.tickets) refl (omega arith) r.known
            (restaged s r id v w r.serving at refl refl refl (sym served) (omega (arith, ap length is.1))) (λ j u _ _ f. f)
            (slot_kept s r id v w at (λ h. absurd (cc (h, is.0))) (λ h. absurd (cc h))),
        ((λ _. refl), λ ne. absurd (ne e)),
      ))
      (λ ne. let f = r.seats id v at in (
        v,
        keeps,
        tt,
        changed bounds stands home_of s r id v v at (set s.words 1 (get_or s.words 1 0)) s.homes r.serving r.waiting r.log r.bells (same_words s r 1)
            (spread_kept tickets_of s.views (range_with_len r.serving r.waiting) id v v at refl r.tickets) refl (omega arith) r.known f (λ j u _ _ f. f)
            (slot_kept s r id v v at (λ h. absurd (cc (h, is.0))) (λ h. absurd (cc (h, is.0)))),
        ((λ e. absurd (ne e)), λ _. refl),
      ))

  -- what the one claim of a pass says
  own_fits : (s : St) (r : R s) (id : ℕ) (v : V) → get_elem? s.views id ≡ some v → v.claims ≡ own v ∷ [] → FitsClaim r.log (own v)
  own_fits s r id v at is = let f = r.seats id v at in All-head (FitsClaim r.log) (own v) [] (All-same (FitsClaim r.log) (own v ∷ []) v.claims (sym is) f.claims)

  stage_at : (s : St) (r : R s) (id : ℕ) (v : V) (stage : Stage) → get_elem? s.views id ≡ some v → v.stage ≡ stage → FitsStage r.serving r.log v.ticket (own v) stage
  stage_at s r id v stage at is = let f = r.seats id v at in subst (FitsStage r.serving r.log v.ticket (own v)) is f.stage

  -- the pass has seen this journal, which is the history
  seen_journal : (s : St) (r : R s) (id : ℕ) (v w : V) (log journal : List (ℕ × E)) → get_elem? s.views id ≡ some v → journal ≡ log → w.bounds ≡ v.bounds → w.dealt ≡ v.dealt
      → w.claims ≡ with_journal journal (own v) ∷ [] → w.ticket ≡ r.serving → w.stage ≡ Holding → FitsSeat bounds r.serving r.dealt log id w
  seen_journal s r id v w log journal at j same_bounds same_dealt claims served holding = let f = r.seats id v at in let c = with_journal journal (own v) in record {
    of = λ b e. f.of b (sym same_bounds ∙ e);
    deals = λ n e. f.deals n (sym same_dealt ∙ e);
    claims = All-same (FitsClaim log) w.claims (c ∷ []) claims (All-cons (FitsClaim log) c [] (([], append-nil journal ∙ j), ap (entries_of c.number) (sym j)) (All-nil (FitsClaim log)));
    stage = subst (FitsStage r.serving log w.ticket (own w)) (sym holding) (served, ap (λ cs. (Rattle.hist_lock.specs.Rule.first_of cs).seen) claims ∙ j);
    ticket = let t : tickets_of w ≡ w.ticket ∷ [] = ap (λ st. drawn st w.ticket) holding in omega (arith, ap length t, ap length claims);
  }

  inside : (views : List V) (me : ℕ) (v : V) → get_elem? views me ≡ some v → me < length views
  inside [] me v e = absurd (some-ne-none v (sym e))
  inside (x ∷ xs) zero v e = omega arith
  inside (x ∷ xs) (suc me) v e = let h = inside xs me v e in omega arith

  -- who is called finds the value at home
  at_home : (s : St) (r : R s) (id : ℕ) (v : V) → get_elem? s.views id ≡ some v → v.stage ≡ Called → Home s.homes r.log s.views
  at_home s r id v at called = ⊎_elim (λ (h : Home s.homes r.log s.views). h)
      (λ (o : IsOut s.views). absurd (dite (ℕ_discrete o.0 id)
      (λ e. let same : v ≡ o.1 = some-injective v o.1 (sym at ∙ (ap (get_elem? s.views) (sym e) ∙ o.2)) in called_only o.1.stage (ap (λ u. u.stage) (sym same) ∙ called) o.3)
      (λ ne. let served = stage_at s r id v Called at called in
      let theirs = stage_at s r o.0 o.1 Holding o.2 o.3 in
      alone bounds stands home_of s r id o.0 v o.1 Called Holding ne at o.2 called o.3 drawn_called drawn_holding served theirs.0)))
      r.slot

  pub takes_it : (slots id : ℕ) (me : M) → IsAt Called [] me → Allows R slots id me 2 (λ n. n) (Takes stands home_of (step slots 2 0 0 none) me)
  takes_it slots id me is s r one at small =
      let v = me.0 in let home = at_home s r id v at is.0 in let held = home.0 in let h = home.2 in let journal = held.journal.items in let w = took journal v in
      let f = r.seats id v at in let mine = own_fits s r id v at is.1 in let served = stage_at s r id v Called at is.0 in
      let numbers : claim_numbers w ≡ claim_numbers v = ap (map (λ (c : Claim E). c.number)) (sym is.1) in
      let same : tickets_of w ≡ tickets_of v = sym (ap (λ st. drawn st v.ticket) is.0) in
      let j = h.journal in let roomy = room_at bounds stands home_of s r id v at in
      let P : Bounds H → Type 0 = λ b. (home_of held.object ≡ b.home) × (length journal + v.left ≤ b.room) × (b.room < 2 ^ 32) × (b.room ≤ vec_capacity held.journal) in (
        w,
        takes 0 held,
        ap (λ hs. get_elem? hs 0) home.1,
        changed bounds stands home_of s r id v w at (set s.words 2 (get_or s.words 2 0)) (set s.homes 0 none) r.serving r.waiting r.log r.bells (same_words s r 2)
            (spread_kept tickets_of s.views (range_with_len r.serving r.waiting) id v w at same r.tickets) numbers (omega arith) r.known
            (seen_journal s r id v w r.log journal at j refl refl refl served refl) (λ j u _ _ f. f)
            (inr (id, w, set_here s.views id w (inside s.views id v at), refl)),
        (
          held,
          ap (λ c. (w, (0, held) ∷ c)) is.2,
          record {
            stood = subst (stands held.object) (sym j) h.stood;
            front = subst (IsFront (own v).seen) (sym j) mine.0;
            exact = ap (entries_of (own v).number) j ∙ mine.1;
            within = λ b e. subst P (sym (f.of b e)) (h.home, omega (arith, ap length j), (let k = r.small in k.0), h.room);
          },
        ),
      )

  pub raises : (slots id : ℕ) (me : M) (held : Held O E) (x : E) → IsAt Holding ((0, held) ∷ []) me → held.journal.items ≡ (own me.0).seen ++ ((own me.0).number, x) ∷ [] → 1 ≤ me.0.left
      → Allows R slots id me 2 (λ n. (n + 1) % 2 ^ 64) (Raises (step slots 2 1 0 none) me)
  raises slots id me held x is pushed some_left s r one at small =
      let v = me.0 in let n = (own v).number in let journal = journal_of me.1 in let w = raised journal v in
      let fits = stage_at s r id v Holding at is.0 in
      let longer : journal ≡ r.log ++ (n, x) ∷ [] = ap journal_of is.2 ∙ (pushed ∙ ap (λ l. l ++ (n, x) ∷ []) fits.1) in
      let length_is : length journal ≡ length r.log + 1 = omega (arith, ap length longer, length-append r.log ((n, x) ∷ [])) in
      let roomy = room_at bounds stands home_of s r id v at in let limits = r.small in
      let found : get_or s.words 2 0 ≡ length r.log = ap (λ ws. get_or ws 2 0) r.words in
      let next : (get_or s.words 2 0 + 1) % 2 ^ 64 ≡ length journal = ap (λ n. (n + 1) % 2 ^ 64) found ∙ (mod-eq_of_lt (omega arith) ∙ sym length_is) in
      let words : set s.words 2 ((get_or s.words 2 0 + 1) % 2 ^ 64) ≡ words_of ((r.serving + r.waiting) % 2 ^ 64) (r.serving % 2 ^ 64) (length journal) r.bells =
      ap (λ ws. set ws 2 ((get_or s.words 2 0 + 1) % 2 ^ 64)) r.words ∙ ap (λ n. words_of ((r.serving + r.waiting) % 2 ^ 64) (r.serving % 2 ^ 64) n r.bells) next in
      let numbers : claim_numbers w ≡ claim_numbers v = ap (map (λ (c : Claim E). c.number)) (sym is.1) in
      let known : All (λ (y : ℕ × E). y.0 < r.dealt) journal = All-same (λ y. y.0 < r.dealt) journal (r.log ++ (n, x) ∷ []) longer
      (All-push (λ (y : ℕ × E). y.0 < r.dealt) r.log (n, x) r.known (dealt_number bounds stands home_of s r id v (own v) at is.1)) in
      let others : (j : ℕ) (u : V) → j ≢ id → get_elem? s.views j ≡ some u → FitsSeat bounds r.serving r.dealt r.log j u → FitsSeat bounds r.serving r.dealt journal j u = λ j u ne there f.
      let differ = others_differ bounds stands home_of s r id j v u (own v) ne at there is.1 in record {
        of = f.of;
        deals = f.deals;
        claims = λ k d lt. let c = get_or u.claims k d in subst (λ l. FitsClaim l c) (sym longer) (claim_longer r.log n x c (λ e. differ k d lt (sym e)) (f.claims k d lt));
        stage = stage_longer r.serving r.log journal u.ticket (own u) u.stage
            (λ holding. let theirs = stage_at s r j u Holding there holding in alone bounds stands home_of s r id j v u Holding Holding ne at there is.0 holding drawn_holding drawn_holding fits.0 theirs.0)
            f.stage;
        ticket = f.ticket;
      } in (
        w,
        keeps,
        tt,
        changed bounds stands home_of s r id v w at (set s.words 2 ((get_or s.words 2 0 + 1) % 2 ^ 64)) s.homes r.serving r.waiting journal r.bells words
            (spread_kept tickets_of s.views (range_with_len r.serving r.waiting) id v w at refl r.tickets) numbers (omega arith) known
            (seen_journal s r id v w journal journal at refl refl refl refl fits.0 is.0) others
            (inr (id, w, set_here s.views id w (inside s.views id v at), is.0)),
        refl,
      )

  pub gives_it : (slots id : ℕ) (me : M) (held : Held O E) (b : Bounds H) → slots ≡ 1 → IsAt Holding ((0, held) ∷ []) me → me.0.bounds ≡ Some b → held.journal.items ≡ (own me.0).seen
      → stands held.object held.journal.items → home_of held.object ≡ b.home → b.room ≤ vec_capacity held.journal → Allows R slots id me 2 (λ n. n) (Gives (step slots 2 0 0 none) me)
  gives_it slots id me held b single is bound seen stood home roomy s r one at small =
      let v = me.0 in let w = at_stage Called v in let f = r.seats id v at in let fits = stage_at s r id v Holding at is.0 in
      let j : held.journal.items ≡ r.log = seen ∙ fits.1 in let same = f.of b bound in
      let tickets : tickets_of w ≡ tickets_of v = sym (ap (λ st. drawn st v.ticket) is.0) in
      let homes : Rattle.atomic_table.specs.Table.put_back s.homes me.1 ≡ some held ∷ [] = ap (Rattle.atomic_table.specs.Table.put_back s.homes) is.2 ∙ set_one s.homes (some held) (one ∙ single) in
      let none_out : IsIn (set s.views id w) = seats_set (λ j u. get_elem? s.views j ≡ some u) (λ j u. u.stage ≢ Holding) s.views id w (λ h. absurd (cc h))
      (λ j u ne there _ holding. let theirs = stage_at s r j u Holding there holding in alone bounds stands home_of s r id j v u Holding Holding ne at there is.0 holding drawn_holding drawn_holding fits.0 theirs.0)
      (λ j u there. there) in (
        w,
        gives,
        tt,
        changed bounds stands home_of s r id v w at (set s.words 2 (get_or s.words 2 0)) (Rattle.atomic_table.specs.Table.put_back s.homes me.1) r.serving r.waiting r.log r.bells (same_words s r 2)
            (spread_kept tickets_of s.views (range_with_len r.serving r.waiting) id v w at tickets r.tickets) refl (omega arith) r.known
            (restaged s r id v w r.serving at refl refl refl fits.0 (omega (arith, ap length is.1))) (λ j u _ _ f. f)
            (inl (held, homes, record { journal = j; stood = subst (stands held.object) j stood; home = home ∙ ap (λ (x : Bounds H). x.home) same; room = omega (arith, ap (λ (x : Bounds H). x.room) same) }, none_out)),
        refl,
      )

  pub serves : (slots id : ℕ) (me : M) → IsAt Called [] me → Allows R slots id me 1 (λ n. (n + 1) % 2 ^ 64) (Serves (step slots 1 1 0 none) me)
  serves slots id me is s r one at small =
      let v = me.0 in let w = at_stage Idle v in let served = stage_at s r id v Called at is.0 in
      let line = in_line bounds stands home_of s r id v Called at is.0 drawn_called in
      let some_wait : 0 < r.waiting = omega arith in
      let found : get_or s.words 1 0 ≡ r.serving % 2 ^ 64 = ap (λ ws. get_or ws 1 0) r.words in
      let next : (get_or s.words 1 0 + 1) % 2 ^ 64 ≡ (r.serving + 1) % 2 ^ 64 = ap (λ n. (n + 1) % 2 ^ 64) found ∙ mod-add-mod r.serving (2 ^ 64) 1 in
      let drawn_same : r.serving + r.waiting ≡ r.serving + 1 + (r.waiting - 1) = omega arith in
      let words : set s.words 1 ((get_or s.words 1 0 + 1) % 2 ^ 64) ≡ words_of ((r.serving + 1 + (r.waiting - 1)) % 2 ^ 64) ((r.serving + 1) % 2 ^ 64) (length r.log) r.bells =
      ap (λ ws. set ws 1 ((get_or s.words 1 0 + 1) % 2 ^ 64)) r.words ∙ (λ i. words_of (drawn_same i % 2 ^ 64) (next i) (length r.log) r.bells) in
      let had : tickets_of v ≡ r.serving ∷ [] = ap (λ st. drawn st v.ticket) is.0 ∙ ap (λ n. n ∷ []) served in
      let tickets : IsSpread tickets_of (set s.views id w) (range_with_len (r.serving + 1) (r.waiting - 1)) = λ (f : ℕ → ℕ).
      omega (arith, total_set (λ u. sum_by f (tickets_of u)) s.views id v w at, ap (sum_by f) had, r.tickets f, run_first f r.serving r.waiting some_wait) in
      let others : (j : ℕ) (u : V) → j ≢ id → get_elem? s.views j ≡ some u → FitsSeat bounds r.serving r.dealt r.log j u → FitsSeat bounds (r.serving + 1) r.dealt r.log j u = λ j u ne there f. record {
        of = f.of;
        deals = f.deals;
        claims = f.claims;
        stage = stage_later r.serving (r.serving + 1) r.log u.ticket (own u) u.stage
            (λ called. alone bounds stands home_of s r id j v u Called Called ne at there is.0 called drawn_called drawn_called served)
            (λ holding. alone bounds stands home_of s r id j v u Called Holding ne at there is.0 holding drawn_called drawn_holding served) f.stage;
        ticket = f.ticket;
      } in (
        w,
        keeps,
        tt,
        changed bounds stands home_of s r id v w at (set s.words 1 ((get_or s.words 1 0 + 1) % 2 ^ 64)) s.homes (r.serving + 1) (r.waiting - 1) r.log r.bells words tickets refl (omega arith) r.known
            (restaged s r id v w (r.serving + 1) at refl refl refl tt (omega (arith, ap length is.1))) others
            (slot_kept s r id v w at (called_only v.stage is.0) (λ h. absurd (cc h))),
        refl,
      )

  pub learns : (slots id : ℕ) (me : M) → IsAt Idle [] me → Allows R slots id me 2 (λ n. n) (Learns (step slots 2 0 0 none) me)
  learns slots id me is s r one at small =
      let v = me.0 in let log = r.log in let w = learned log v in let c = with_journal log (own v) in
      let f = r.seats id v at in let mine = own_fits s r id v at is.1 in
      let found : get_or s.words 2 0 ≡ length r.log = ap (λ ws. get_or ws 2 0) r.words in
      let numbers : claim_numbers w ≡ claim_numbers v = ap (map (λ (c : Claim E). c.number)) (sym is.1) in
      let none_yet : tickets_of w ≡ [] = ap (λ st. drawn st v.ticket) is.0 in (
        w,
        keeps,
        tt,
        changed bounds stands home_of s r id v w at (set s.words 2 (get_or s.words 2 0)) s.homes r.serving r.waiting r.log r.bells (same_words s r 2)
            (spread_kept tickets_of s.views (range_with_len r.serving r.waiting) id v w at refl r.tickets) numbers (omega arith) r.known
            (record {
              of = f.of;
              deals = f.deals;
              claims = All-cons (FitsClaim log) c [] (([], append-nil log), refl) (All-nil (FitsClaim log));
              stage = subst (FitsStage r.serving log v.ticket c) (sym is.0) tt;
              ticket = omega (arith, ap length none_yet);
            })
            (λ j u _ _ f. f) (slot_kept s r id v w at (idle_only v.stage is.0) (idle_only v.stage is.0)),
        (log, found, refl, mine.0, mine.1),
      )

  -- a bell tells nothing, whatever it is set to
  pub rings : (slots id : ℕ) (me : M) (i : ℕ) (f : ℕ → ℕ) → 3 ≤ i → Allows R slots id me i f (λ _ me'. me' ≡ me)
  rings slots id me i f bell s r one at small =
      let v = me.0 in let new = f (get_or s.words i 0) in
      let rung = set_bell i ((r.serving + r.waiting) % 2 ^ 64) (r.serving % 2 ^ 64) (length r.log) new r.bells bell in
      let words = ap (λ ws. set ws i new) r.words ∙ rung.1 in (
        v,
        keeps,
        tt,
        changed bounds stands home_of s r id v v at (set s.words i new) s.homes r.serving r.waiting r.log rung.0 words
            (spread_kept tickets_of s.views (range_with_len r.serving r.waiting) id v v at refl r.tickets) refl (omega arith) r.known (r.seats id v at) (λ j u _ _ f. f)
            (subst (λ views. Home s.homes r.log views ⊎ IsOut views) (sym (set_again s.views id v at)) r.slot),
        refl,
      )
