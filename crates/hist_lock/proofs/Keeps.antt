-- What follows from the rule, and that a change of one seat's view keeps it.
use Rattle.std.proofs.Common.{◌≡◌, ◌≢◌, ◌⊎◌, ℕ, ◌+◌, ◌%◌, ◌^◌, ◌<◌, ◌≤◌, List, [], ◌∷◌, map, length, set, refl, sym, ap, ◌∙◌, arith, All}
use Rattle.std.proofs.lemmas.List.{length-map}
use Rattle.std.proofs.lemmas.List.Sums.{sum_by-cons}
use Rattle.std.proofs.lemmas.List.Elements.{All-nil, All-cons}
use Rattle.std.specs.List.{sum_by, range_with_len}
use mathlib.Core.Logic.{dite}
use mathlib.Core.Option.{some, some-injective, some-ne-none}
use mathlib.Core.Option as maybe
use native.Mathlib.Decide.{ℕ_discrete}
use lib.ListN.{get_elem?}
use Rattle.atomic_table.specs.Table.{State}
use Rattle.atomic_table.proofs.Lists.{set_here, set_else}
use Rattle.hist_lock.specs.declared.rule.Held.{Held}
use Rattle.hist_lock.specs.declared.rule.Bounds.{Bounds}
use Rattle.hist_lock.specs.declared.rule.Claim.{Claim}
use Rattle.hist_lock.specs.declared.rule.Stage.{Stage}
use Rattle.hist_lock.specs.declared.rule.Stage.TheVariants.{Waiting, Called, Holding}
use Rattle.hist_lock.specs.declared.rule.View.{View}
use Rattle.table_sums.specs.Spread.{IsSpread}
use Rattle.hist_lock.specs.Rule.{drawn, tickets_of, claim_numbers, left_of, FitsSeat, IsHome, IsIn, IsOut, OneLog}
use Rattle.table_sums.proofs.Spreads.{seats_set, spread_kept, inside}
use Rattle.table_sums.proofs.Totals.{total_set, total_at, total_two, total_le, mark, mark-same, mark-alone, one, total-one, run_one, run_once, run_in}

-- a stage with a ticket
abbrev pub IsDrawn : Stage → Type 0
IsDrawn stage = (ticket : ℕ) → drawn stage ticket ≡ ticket ∷ []

pub drawn_waiting : IsDrawn Waiting
drawn_waiting ticket = refl

pub drawn_called : IsDrawn Called
drawn_called ticket = refl

pub drawn_holding : IsDrawn Holding
drawn_holding ticket = refl

module _ {E H : Type 0} where
  tickets_at : (v : View E H) (stage : Stage) → v.stage ≡ stage → IsDrawn stage → tickets_of v ≡ v.ticket ∷ []
  tickets_at v stage e is = ap (λ st. drawn st v.ticket) e ∙ is v.ticket

  -- where the seat keeps the value or has none, the value stays out
  pub out_kept : (views : List (View E H)) (me : ℕ) (v w : View E H) → get_elem? views me ≡ some v → (v.stage ≡ Holding → w.stage ≡ Holding) → IsOut views → IsOut (set views me w)
  out_kept views me v w at still out = dite (ℕ_discrete out.0 me)
      (λ e. let same : v ≡ out.1 = some-injective v out.1 (sym at ∙ (ap (get_elem? views) (sym e) ∙ out.2)) in (me, w, set_here views me w (inside views me v at), still (ap (λ u. u.stage) same ∙ out.3)))
      (λ ne. (out.0, out.1, set_else views me out.0 w ne ∙ out.2, out.3))

  pub in_kept : (views : List (View E H)) (me : ℕ) (w : View E H) → w.stage ≢ Holding → IsIn views → IsIn (set views me w)
  in_kept views me w not all = seats_set (λ _ u. u.stage ≢ Holding) (λ _ u. u.stage ≢ Holding) views me w not (λ j u _ _ h. h) all

module _ {O E H : Type 0} (bounds : Bounds H) (stands : O → List (ℕ × E) → Type 0) (home_of : O → H) where
  abbrev St : Type 0
  St = State (Held O E) (View E H)

  abbrev pub Rule : St → Type 0
  Rule = OneLog bounds stands home_of

  -- no more tickets are out than passes were dealt
  pub few : (s : St) (r : Rule s) → r.waiting ≤ r.dealt
  few s r =
      let less = total_le (λ v. sum_by one (tickets_of v)) (λ v. sum_by one (claim_numbers v)) s.views
      (λ i v at. let fits = r.seats i v at in let t = fits.ticket in omega (arith, total-one (tickets_of v), total-one (claim_numbers v), length-map v.claims (λ (c : Claim E). c.number))) in
      omega (arith, less, r.tickets one, r.numbers one, run_one r.serving r.waiting, run_one 0 r.dealt)

  -- a seat's ticket is one of those that are out
  pub in_line : (s : St) (r : Rule s) (me : ℕ) (v : View E H) (stage : Stage) → get_elem? s.views me ≡ some v → v.stage ≡ stage → IsDrawn stage
      → (r.serving ≤ v.ticket) × (v.ticket < r.serving + r.waiting)
  in_line s r me v stage at e is =
      let t = v.ticket in
      let mine : sum_by (mark t) (tickets_of v) ≡ 1 = ap (sum_by (mark t)) (tickets_at v stage e is) ∙ mark-alone t in
      let here = total_at (λ u. sum_by (mark t) (tickets_of u)) s.views me v at in
      let all = r.tickets (mark t) in
      run_in t r.serving r.waiting (omega arith)

  -- two seats have two tickets
  pub apart : (s : St) (r : Rule s) (me j : ℕ) (v u : View E H) (stage other : Stage) → j ≢ me → get_elem? s.views me ≡ some v → get_elem? s.views j ≡ some u
      → v.stage ≡ stage → u.stage ≡ other → IsDrawn stage → IsDrawn other → u.ticket ≢ v.ticket
  apart s r me j v u stage other ne at there e f is is' same =
      let t = v.ticket in
      let mine : sum_by (mark t) (tickets_of v) ≡ 1 = ap (sum_by (mark t)) (tickets_at v stage e is) ∙ mark-alone t in
      let theirs : sum_by (mark t) (tickets_of u) ≡ 1 = ap (sum_by (mark t)) (tickets_at u other f is' ∙ ap (λ n. n ∷ []) same) ∙ mark-alone t in
      let both = total_two (λ w. sum_by (mark t) (tickets_of w)) s.views j me u v ne there at in
      let all = r.tickets (mark t) in
      let once = run_once t r.serving r.waiting in
      omega arith

  -- who is called or holds the value is alone with the ticket that is served
  pub alone : (s : St) (r : Rule s) (me j : ℕ) (v u : View E H) (stage other : Stage) → j ≢ me → get_elem? s.views me ≡ some v → get_elem? s.views j ≡ some u
      → v.stage ≡ stage → u.stage ≡ other → IsDrawn stage → IsDrawn other → v.ticket ≡ r.serving → u.ticket ≢ r.serving
  alone s r me j v u stage other ne at there e f is is' served same = apart s r me j v u stage other ne at there e f is is' (same ∙ sym served)

  -- a pass's number is one of those that were dealt
  pub dealt_number : (s : St) (r : Rule s) (me : ℕ) (v : View E H) (c : Claim E) → get_elem? s.views me ≡ some v → v.claims ≡ c ∷ [] → c.number < r.dealt
  dealt_number s r me v c at e =
      let n = c.number in
      let mine : sum_by (mark n) (claim_numbers v) ≡ 1 = ap (λ cs. sum_by (mark n) (map (λ (x : Claim E). x.number) cs)) e ∙ mark-alone n in
      let here = total_at (λ u. sum_by (mark n) (claim_numbers u)) s.views me v at in
      let all = r.numbers (mark n) in
      let within = run_in n 0 r.dealt (omega arith) in omega arith

  unmarked : (n : ℕ) (cs : List (Claim E)) → sum_by (mark n) (map (λ c. c.number) cs) ≡ 0 → All (λ c. c.number ≢ n) cs
  unmarked n [] z = All-nil (λ c. c.number ≢ n)
  unmarked n (c ∷ cs) z =
      let parts = sum_by-cons (mark n) c.number (map (λ (x : Claim E). x.number) cs) in
      let differs : c.number ≢ n = λ e. let marked : mark n c.number ≡ 1 = ap (mark n) e ∙ mark-same n in omega arith in
      All-cons (λ x. x.number ≢ n) c cs differs (unmarked n cs (omega arith))

  -- no other seat has the number
  pub others_differ : (s : St) (r : Rule s) (me j : ℕ) (v u : View E H) (c : Claim E) → j ≢ me → get_elem? s.views me ≡ some v → get_elem? s.views j ≡ some u → v.claims ≡ c ∷ []
      → All (λ x. x.number ≢ c.number) u.claims
  others_differ s r me j v u c ne at there e =
      let n = c.number in
      let mine : sum_by (mark n) (claim_numbers v) ≡ 1 = ap (λ cs. sum_by (mark n) (map (λ (x : Claim E). x.number) cs)) e ∙ mark-alone n in
      let both = total_two (λ w. sum_by (mark n) (claim_numbers w)) s.views j me u v ne there at in
      let all = r.numbers (mark n) in
      let once = run_once n 0 r.dealt in
      unmarked n u.claims (omega arith)

  -- what each seat's left adds to the history is within the room
  pub room_at : (s : St) (r : Rule s) (me : ℕ) (v : View E H) → get_elem? s.views me ≡ some v → length r.log + v.left ≤ bounds.room
  room_at s r me v at = let here = total_at left_of s.views me v at in let all = r.room in omega arith

  -- A seat's view changes from v to w. The rest of the rule is kept where these are
  pub changed : (s : St) (r : Rule s) (me : ℕ) (v w : View E H) → get_elem? s.views me ≡ some v
      → (words : List ℕ) (homes : List (maybe.Option (Held O E))) (serving waiting : ℕ) (log : List (ℕ × E)) (bells : List ℕ)
      → words ≡ (serving + waiting) % 2 ^ 64 ∷ serving % 2 ^ 64 ∷ length log ∷ bells
      → IsSpread tickets_of (set s.views me w) (range_with_len serving waiting)
      → claim_numbers w ≡ claim_numbers v
      → length log + w.left ≤ length r.log + v.left
      → All (λ x. x.0 < r.dealt) log
      → FitsSeat bounds serving r.dealt log me w
      → ((j : ℕ) (u : View E H) → j ≢ me → get_elem? s.views j ≡ some u → FitsSeat bounds r.serving r.dealt r.log j u → FitsSeat bounds serving r.dealt log j u)
      → (((held : Held O E) × (homes ≡ some held ∷ []) × IsHome bounds stands home_of log held × IsIn (set s.views me w)) ⊎ IsOut (set s.views me w))
      → Rule record { words = words; homes = homes; views = set s.views me w }
  changed s r me v w at words homes serving waiting log bells words_are tickets same room known mine others slot = record {
    small = r.small;
    serving = serving;
    waiting = waiting;
    dealt = r.dealt;
    log = log;
    bells = bells;
    words = words_are;
    tickets = tickets;
    numbers = spread_kept claim_numbers s.views (range_with_len 0 r.dealt) me v w at same r.numbers;
    dealt_in = r.dealt_in;
    room = let all = r.room in omega (arith, total_set left_of s.views me v w at);
    known = known;
    seats = seats_set (FitsSeat bounds r.serving r.dealt r.log) (FitsSeat bounds serving r.dealt log) s.views me w mine others r.seats;
    slot = slot;
  }
