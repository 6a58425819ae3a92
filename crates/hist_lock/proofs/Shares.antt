-- The rule holds at the start, is kept where seats are split and joined, and says at the end what the lock's close does.
use Rattle.std.proofs.Common.{◌≡◌, ◌≢◌, ◌==◌, ℕ, zero, suc, ◌+◌, ◌^◌, ◌<◌, ◌≤◌, List, [], ◌∷◌, ◌++◌, map, length, set, refl, sym, ap, ◌∙◌, subst, inl, inr, ⊎_elim, arith, All, Contains, Some, unwrap_or, vec_capacity, ne_eqb, cond}
use Rattle.std.proofs.lemmas.List.{map-append, length-map}
use Rattle.std.proofs.lemmas.List.Sums.{sum_by-append, sum_by_push}
use Rattle.std.proofs.lemmas.List.Elements.{All-nil, All-cons, All-head, All-tail, All-append, All-weaker}
use Rattle.std.specs.List.{sum_by, range_with_len, filter}
use mathlib.Core.Logic.{dite}
use mathlib.Core.Option.{some, none, some-injective, some-ne-none}
use mathlib.Core.Option as maybe
use native.Mathlib.Decide.{ℕ_discrete}
use lib.ListN.{get_elem?}
use Rattle.atomic_table.specs.Table.{State, Splits, Joins, opening, Final, Seen}
use Rattle.atomic_table.proofs.Lists.{set_else, at_snoc, at_longer}
use Rattle.hist_lock.specs.declared.rule.Held.{Held}
use Rattle.hist_lock.specs.declared.rule.Bounds.{Bounds}
use Rattle.hist_lock.specs.declared.rule.Claim.{Claim}
use Rattle.hist_lock.specs.declared.rule.Stage.TheVariants.{Idle, Holding}
use Rattle.hist_lock.specs.declared.rule.View.{View}
use Rattle.hist_lock.specs.History.{entries_of}
use Rattle.table_sums.specs.Spread.{IsSpread}
use Rattle.hist_lock.specs.Rule.{drawn, tickets_of, claim_numbers, left_of, dealer, own, FitsClaim, FitsStage, FitsSeat, IsHome, IsIn, IsOut, OneLog}
use Rattle.hist_lock.specs.Steps.{spent, joined, dealt_of, dealt_one, newcomer}
use Rattle.table_sums.proofs.Spreads.{seats_set, spread_kept, contains_marked}
use Rattle.table_sums.proofs.Totals.{total_set, total_at, total_two, total_none, total_only, mark, one, total-one, run_one, run_last, run_has}
use Rattle.hist_lock.proofs.Keeps.{out_kept, in_kept}

module _ {E : Type 0} where
  -- a history with no entry of a number
  none_of : (n : ℕ) (log : List (ℕ × E)) → All (λ x. x.0 < n) log → entries_of n log ≡ []
  none_of n [] all = refl
  none_of n (x ∷ xs) all =
      let below = All-head (λ (y : ℕ × E). y.0 < n) x xs all in
      let kept = filter (λ (y : ℕ × E). y.0 == n) xs in
      ap (λ b. map (λ (y : ℕ × E). y.1) (cond b (x ∷ kept) kept)) (ne_eqb x.0 n (λ e. omega arith)) ∙ none_of n xs (All-tail (λ (y : ℕ × E). y.0 < n) x xs all)

module _ {O E H : Type 0} (bounds : Bounds H) (stands : O → List (ℕ × E) → Type 0) (home_of : O → H) where
  abbrev St : Type 0
  St = State (Held O E) (View E H)

  abbrev V : Type 0
  V = View E H

  abbrev R : St → Type 0
  R = OneLog bounds stands home_of

  abbrev Home : List (maybe.Option (Held O E)) → List (ℕ × E) → List V → Type 0
  Home homes log views = (held : Held O E) × (homes ≡ some held ∷ []) × IsHome bounds stands home_of log held × IsIn views

  pub opens : (bells : List ℕ) (held : Held O E) → held.journal.items ≡ [] → stands held.object [] → home_of held.object ≡ bounds.home → bounds.room ≤ vec_capacity held.journal
      → bounds.room < 2 ^ 32 → bounds.count < 2 ^ 32 → R (opening (0 ∷ 0 ∷ 0 ∷ bells) (held ∷ []) (dealer bounds))
  opens bells held empty stood home roomy room count = record {
    small = (room, count);
    serving = 0;
    waiting = 0;
    dealt = 0;
    log = [];
    bells = bells;
    words = refl;
    tickets = λ f. refl;
    numbers = λ f. refl;
    dealt_in = omega arith;
    room = omega arith;
    known = All-nil (λ x. x.0 < 0);
    seats = seats;
    slot = inl (held, refl, record { journal = empty; stood = stood; home = home; room = roomy }, none_out);
  }
    where
      first : FitsSeat {E = E} bounds 0 0 [] 0 (dealer bounds)
      first = record {
        of = λ b e. cc e;
        deals = λ n e. (refl, cc e);
        claims = All-nil (FitsClaim []);
        stage = tt;
        ticket = omega arith;
      }

      seats : (id : ℕ) (v : V) → get_elem? (dealer bounds ∷ []) id ≡ some v → FitsSeat {E = E} bounds 0 0 [] id v
      seats zero v e = subst (FitsSeat bounds 0 0 [] 0) (some-injective (dealer bounds) v e) first
      seats (suc id) v e = absurd (some-ne-none v (sym e))

      none_out : IsIn {E = E} (dealer bounds ∷ [])
      none_out zero v e h = let i : Idle ≡ Holding = ap (λ (u : V). u.stage) (some-injective (dealer bounds) v e) ∙ h in absurd (cc i)
      none_out (suc id) v e h = some-ne-none v (sym e)

  pub deals_one : (id : ℕ) (v : V) (n quota : ℕ) (b : Bounds H) → v.stage ≡ Idle → v.claims ≡ [] → v.dealt ≡ Some n → v.bounds ≡ Some b → n < b.count → quota ≤ v.left
      → Splits R id v (dealt_one quota v) (newcomer quota v)
  deals_one id v n quota b idle no_claims dealt bound below fits_left s r at =
      let f = r.seats id v at in let w = dealt_one quota v in let new = newcomer quota v in let views = set s.views id w in
      let first = f.deals n dealt in let same = f.of b bound in let number : dealt_of v ≡ n = ap (λ d. unwrap_or d 0) dealt in
      let tickets : IsSpread tickets_of (views ++ new ∷ []) (range_with_len r.serving r.waiting) = λ (g : ℕ → ℕ).
      omega (arith, sum_by_push (λ u. sum_by g (tickets_of u)) views new, spread_kept tickets_of s.views (range_with_len r.serving r.waiting) id v w at refl r.tickets g) in
      let next : 0 + r.dealt ≡ dealt_of v = omega arith in
      let numbers : IsSpread claim_numbers (views ++ new ∷ []) (range_with_len 0 (r.dealt + 1)) = λ (g : ℕ → ℕ).
      omega (arith, sum_by_push (λ u. sum_by g (claim_numbers u)) views new, spread_kept claim_numbers s.views (range_with_len 0 r.dealt) id v w at refl r.numbers g, run_last g 0 r.dealt, ap g next) in
      let nothing : entries_of (dealt_of v) r.log ≡ [] = none_of (dealt_of v) r.log (All-weaker (λ x. x.0 < r.dealt) (λ x. x.0 < dealt_of v) (λ x lt. omega arith) r.log r.known) in
      let dealing : FitsSeat bounds r.serving (r.dealt + 1) r.log id w = record {
        of = f.of;
        deals = λ m e. let m_is : dealt_of v + 1 ≡ m = cc e in (first.0, omega arith);
        claims = f.claims;
        stage = f.stage;
        ticket = f.ticket;
      } in
      let others : (j : ℕ) (u : V) → j ≢ id → get_elem? s.views j ≡ some u → FitsSeat bounds r.serving r.dealt r.log j u → FitsSeat bounds r.serving (r.dealt + 1) r.log j u = λ j u ne there fu. record {
        of = fu.of;
        deals = λ m e. absurd (let zeroth = fu.deals m e in ne (zeroth.0 ∙ sym first.0));
        claims = fu.claims;
        stage = fu.stage;
        ticket = fu.ticket;
      } in
      let joining : (j : ℕ) → FitsSeat bounds r.serving (r.dealt + 1) r.log j new = λ j. record {
        of = f.of;
        deals = λ m e. absurd (cc e);
        claims = All-cons (FitsClaim r.log) (record { number = dealt_of v; seen = []; mine = [] }) [] ((r.log, refl), nothing) (All-nil (FitsClaim r.log));
        stage = tt;
        ticket = omega arith;
      } in
      let not_holding : w.stage ≢ Holding = λ h. absurd (cc (h, idle)) in
      record {
        small = r.small;
        serving = r.serving;
        waiting = r.waiting;
        dealt = r.dealt + 1;
        log = r.log;
        bells = r.bells;
        words = r.words;
        tickets = tickets;
        numbers = numbers;
        dealt_in = omega (arith, ap (λ (x : Bounds H). x.count) same);
        room = let all = r.room in omega (arith, sum_by_push left_of views new, total_set left_of s.views id v w at);
        known = All-weaker (λ x. x.0 < r.dealt) (λ x. x.0 < r.dealt + 1) (λ x lt. omega arith) r.log r.known;
        seats = λ j u e. ⊎_elim
            (λ (t : get_elem? views j ≡ some u). seats_set (FitsSeat bounds r.serving r.dealt r.log) (FitsSeat bounds r.serving (r.dealt + 1) r.log) s.views id w dealing others r.seats j u t)
            (λ (t : new ≡ u). subst (FitsSeat bounds r.serving (r.dealt + 1) r.log j) t (joining j))
            (at_snoc views new u j e);
        slot = ⊎_elim
            (λ (t : Home s.homes r.log s.views). inl (
              t.0,
              t.1,
              t.2,
              λ j u e. ⊎_elim
                  (λ (k : get_elem? views j ≡ some u). in_kept s.views id w not_holding t.3 j u k)
                  (λ (k : new ≡ u) h. let i : Idle ≡ Holding = ap (λ (x : V). x.stage) k ∙ h in absurd (cc i))
                  (at_snoc views new u j e),
            ))
            (λ (o : IsOut s.views). let out = out_kept s.views id v w at (λ h. h) o in inr (out.0, out.1, at_longer views (new ∷ []) out.0 out.1 out.2, out.3))
            r.slot;
      }

  pub gathers : (id : ℕ) (v : V) (other : ℕ) (u : V) → v.stage ≡ Idle → u.stage ≡ Idle → Joins R id v other u (joined v u) spent
  gathers id v other u idle other_idle s r at ne there =
      let f = r.seats id v at in let w = joined v u in let views = set s.views id w in let gone : V = spent in
      let there_before : get_elem? s.views other ≡ some u = sym (set_else s.views id other w ne) ∙ there in
      let fu = r.seats other u there_before in
      let no_ticket : tickets_of v ≡ [] = ap (λ st. drawn st v.ticket) idle in let no_other : tickets_of u ≡ [] = ap (λ st. drawn st u.ticket) other_idle in
      let tickets : IsSpread tickets_of (set views other gone) (range_with_len r.serving r.waiting) = λ (g : ℕ → ℕ).
      omega (arith, total_set (λ x. sum_by g (tickets_of x)) views other u gone there, spread_kept tickets_of s.views (range_with_len r.serving r.waiting) id v w at refl r.tickets g, ap (sum_by g) no_other) in
      let numbers : IsSpread claim_numbers (set views other gone) (range_with_len 0 r.dealt) = λ (g : ℕ → ℕ).
      let split : claim_numbers w ≡ claim_numbers u ++ claim_numbers v = map-append (λ (c : Claim E). c.number) u.claims v.claims in
      omega (arith, total_set (λ x. sum_by g (claim_numbers x)) views other u gone there, total_set (λ x. sum_by g (claim_numbers x)) s.views id v w at, ap (sum_by g) split, sum_by-append g (claim_numbers u) (claim_numbers v), r.numbers g) in
      let mine : FitsSeat bounds r.serving r.dealt r.log id w = record {
        of = f.of;
        deals = f.deals;
        claims = All-append (FitsClaim r.log) u.claims v.claims fu.claims f.claims;
        stage = subst (FitsStage r.serving r.log w.ticket (own w)) (sym idle) tt;
        ticket = omega (arith, ap length no_ticket);
      } in
      let theirs : FitsSeat bounds r.serving r.dealt r.log other gone = record {
        of = λ b e. absurd (cc e);
        deals = λ n e. absurd (cc e);
        claims = All-nil (FitsClaim r.log);
        stage = tt;
        ticket = omega arith;
      } in
      let Q = FitsSeat bounds r.serving r.dealt r.log in
      let all = seats_set Q Q s.views id w mine (λ _ _ _ _ h. h) r.seats in
      record {
        small = r.small;
        serving = r.serving;
        waiting = r.waiting;
        dealt = r.dealt;
        log = r.log;
        bells = r.bells;
        words = r.words;
        tickets = tickets;
        numbers = numbers;
        dealt_in = r.dealt_in;
        room = let all_room = r.room in omega (arith, total_set left_of s.views id v w at, total_set left_of views other u gone there);
        known = r.known;
        seats = seats_set Q Q views other gone theirs (λ _ _ _ _ h. h) all;
        slot = ⊎_elim
            (λ (t : Home s.homes r.log s.views). inl (t.0, t.1, t.2, in_kept views other gone (λ h. absurd (cc h)) (in_kept s.views id w (λ h. absurd (cc (h, idle))) t.3)))
            (λ (o : IsOut s.views). inr (out_kept views other u gone there (λ h. absurd (cc (h, other_idle))) (out_kept s.views id v w at (λ h. h) o)))
            r.slot;
      }

  -- what the end of the lock shows of its value and of the claims of its passes
  pub record IsClosed (held : Held O E) (claims : List (Claim E)) : Type 0 where
    pub stood : stands held.object held.journal.items
    pub home : home_of held.object ≡ bounds.home
    pub fits : All (FitsClaim held.journal.items) claims
    pub known : All (λ x. Contains (map (λ (c : Claim E). c.number) claims) x.0) held.journal.items
    pub weighs : (weight : ℕ → ℕ) → sum_by weight (map (λ (c : Claim E). c.number) claims) ≡ sum_by weight (range_with_len 0 bounds.count)
    pub room : length held.journal.items ≤ bounds.room

  -- as many numbers as there are passes stand with this seat: the value is at home, and each entry carries one of them
  pub closes : (id : ℕ) (v : V) (ws : List ℕ) (xs : List (Held O E)) (held : Held O E) → Final (Seen R id v) ws xs → v.stage ≡ Idle → length v.claims ≡ bounds.count
      → get_elem? xs 0 ≡ some held → IsClosed held v.claims
  closes id v ws xs held final idle every here =
      let s = final.0 in let r = final.1.0 in let at = final.1.1 in let f = r.seats id v at in
      let F : V → ℕ = λ u. sum_by one (claim_numbers u) in
      let mine : F v ≡ length v.claims = total-one (claim_numbers v) ∙ length-map v.claims (λ (c : Claim E). c.number) in
      let total = r.numbers one in let limit = r.dealt_in in
      let whole : sum_by F s.views ≤ F v = omega (arith, run_one 0 r.dealt) in
      let home : Home s.homes r.log s.views = ⊎_elim (λ (h : Home s.homes r.log s.views). h)
      (λ (o : IsOut s.views). absurd (dite (ℕ_discrete o.0 id)
      (λ e. let same : v ≡ o.1 = some-injective v o.1 (sym at ∙ (ap (get_elem? s.views) (sym e) ∙ o.2)) in
      let i : Idle ≡ Holding = sym idle ∙ (ap (λ (u : V). u.stage) same ∙ o.3) in absurd (cc i))
      (λ ne. let fu = r.seats o.0 o.1 o.2 in let t = fu.ticket in
      let two = total_two F s.views id o.0 v o.1 (λ e. ne (sym e)) at o.2 in
      let theirs : F o.1 ≡ length o.1.claims = total-one (claim_numbers o.1) ∙ length-map o.1.claims (λ (c : Claim E). c.number) in
      let ticket : tickets_of o.1 ≡ o.1.ticket ∷ [] = ap (λ st. drawn st o.1.ticket) o.3 in
      omega (arith, ap length ticket))))
      r.slot in
      let same : home.0 ≡ held = some-injective home.0 held (sym (final.4 0 home.0 (ap (λ hs. get_elem? hs 0) home.1)) ∙ here) in
      let h = home.2 in
      let known : All (λ x. Contains (claim_numbers v) x.0) r.log = All-weaker (λ x. x.0 < r.dealt) (λ x. Contains (claim_numbers v) x.0)
      (λ x lt. let only = total_only F (λ u. sum_by (mark x.0) (claim_numbers u)) s.views id v at whole
      (λ u z. total_none one (mark x.0) (claim_numbers u) z (λ n e. absurd (omega arith))) in
      let all = r.numbers (mark x.0) in let has = run_has x.0 0 r.dealt (omega arith) (omega arith) in
      contains_marked x.0 (claim_numbers v) (omega arith)) r.log r.known in
      let all_dealt : r.dealt ≡ bounds.count = omega (arith, run_one 0 r.dealt, total_at F s.views id v at) in
      let closed : IsClosed home.0 v.claims = record {
        stood = subst (stands home.0.object) (sym h.journal) h.stood;
        home = h.home;
        fits = subst (λ l. All (FitsClaim l) v.claims) (sym h.journal) f.claims;
        known = subst (λ l. All (λ x. Contains (claim_numbers v) x.0) l) (sym h.journal) known;
        weighs = λ weight.
            let only = total_only F (λ u. sum_by weight (claim_numbers u)) s.views id v at whole
            (λ u z. total_none one weight (claim_numbers u) z (λ n e. absurd (omega arith))) in
            sym only ∙ (r.numbers weight ∙ ap (λ n. sum_by weight (range_with_len 0 n)) all_dealt);
        room = let all = r.room in omega (arith, ap length h.journal);
      } in
      subst (λ x. IsClosed x v.claims) same closed
