-- The rule of the ticket lock: what its words, its slot and the views of its seats are between any two steps.
-- Word 0 counts the tickets that were drawn, word 1 those that were served, and word 2 is the length of the history. The words from 3 on are
-- bells, of which the rule says nothing. Slot 0 has the value.
use Rattle.std.specs.Prelude.{◌≡◌, ◌≢◌, ◌⊎◌, ℕ, ◌+◌, ◌%◌, ◌^◌, ◌<◌, ◌≤◌, List, [], ◌∷◌, map, length, All, Some, vec_capacity}
use Rattle.std.specs.List.{sum_by, range_with_len}
use mathlib.Core.Option.{some}
use lib.ListN.{get_elem?}
use Rattle.atomic_table.specs.Table.{State}
use Rattle.hist_lock.specs.declared.rule.Held.{Held}
use Rattle.hist_lock.specs.declared.rule.Terms.{Terms}
use Rattle.hist_lock.specs.declared.rule.Bounds.{Bounds}
use Rattle.hist_lock.specs.declared.rule.Claim.{Claim}
use Rattle.hist_lock.specs.declared.rule.Stage.{Stage}
use Rattle.hist_lock.specs.declared.rule.Stage.TheVariants.{Idle, Waiting, Called, Holding}
use Rattle.hist_lock.specs.declared.rule.View.{View}
use Rattle.hist_lock.specs.History.{IsFront, entries_of}
use Rattle.table_sums.specs.Spread.{IsSpread}

-- the ticket that a seat has at this stage
abbrev pub drawn : Stage → ℕ → List ℕ
drawn Idle ticket = []
drawn Waiting ticket = ticket ∷ []
drawn Called ticket = ticket ∷ []
drawn Holding ticket = ticket ∷ []

abbrev pub bounds_of : {O H : Type 0} → (O → H) → Terms O → Bounds H
bounds_of home_of terms = record { home = home_of terms.origin.value; room = terms.room; count = terms.count }

module _ {E : Type 0} where
  -- the first claim of a view, which is the pass's own
  abbrev pub first_of : List (Claim E) → Claim E
  first_of [] = record { number = 0; seen = []; mine = [] }
  first_of (c ∷ cs) = c

  -- what a pass knows of the history
  abbrev pub FitsClaim : List (ℕ × E) → Claim E → Type 0
  FitsClaim log c = IsFront c.seen log × (entries_of c.number log ≡ c.mine)

  -- who is called has the ticket that is served, and who holds the value has seen the whole history
  abbrev pub FitsStage : ℕ → List (ℕ × E) → ℕ → Claim E → Stage → Type 0
  FitsStage serving log ticket mine Idle = Unit {0}
  FitsStage serving log ticket mine Waiting = Unit {0}
  FitsStage serving log ticket mine Called = ticket ≡ serving
  FitsStage serving log ticket mine Holding = (ticket ≡ serving) × (mine.seen ≡ log)

module _ {E H : Type 0} where
  -- a pass's own claim
  abbrev pub own : View E H → Claim E
  own v = first_of v.claims

  abbrev pub tickets_of : View E H → List ℕ
  tickets_of v = drawn v.stage v.ticket

  abbrev pub claim_numbers : View E H → List ℕ
  claim_numbers v = map (λ c. c.number) v.claims

  abbrev pub left_of : View E H → ℕ
  left_of v = v.left

  -- the view of the first seat, which has dealt no pass yet
  abbrev pub dealer : Bounds H → View E H
  dealer b = record { bounds = Some b; dealt = Some 0; left = b.room; stage = Idle; ticket = 0; claims = [] }

  -- what the rule says of one seat
  pub record FitsSeat (bounds : Bounds H) (serving dealt : ℕ) (log : List (ℕ × E)) (id : ℕ) (v : View E H) : Type 0 where
    pub of : (b : Bounds H) → v.bounds ≡ Some b → b ≡ bounds
    pub deals : (n : ℕ) → v.dealt ≡ Some n → (id ≡ 0) × (n ≡ dealt)
    pub claims : All (FitsClaim log) v.claims
    pub stage : FitsStage serving log v.ticket (own v) v.stage
    pub ticket : length (tickets_of v) ≤ length v.claims

-- the value is at home: its journal is the history, and its object stands for it
pub record IsHome {O E H : Type 0} (bounds : Bounds H) (stands : O → List (ℕ × E) → Type 0) (home_of : O →
    H) (log : List (ℕ × E)) (held : Held O E) : Type 0 where
  pub journal : held.journal.items ≡ log
  pub stood : stands held.object log
  pub home : home_of held.object ≡ bounds.home
  pub room : bounds.room ≤ vec_capacity held.journal

-- no seat holds the value
abbrev pub IsIn : {E H : Type 0} → List (View E H) → Type 0
IsIn {E} {H} views = (id : ℕ) (v : View E H) → get_elem? views id ≡ some v → v.stage ≢ Holding

-- some seat holds the value
abbrev pub IsOut : {E H : Type 0} → List (View E H) → Type 0
IsOut {E} {H} views = (id : ℕ) × (v : View E H) × (get_elem? views id ≡ some v) × (v.stage ≡ Holding)

-- There is one history. The tickets that are out are the next ones to serve, each once; the numbers that were dealt are the
-- first ones, each once, and the history has entries of no others; there is room for all entries that may still be made
pub record OneLog {O E H : Type 0} (bounds : Bounds H) (stands : O → List (ℕ × E) → Type 0) (home_of : O →
    H) (s : State (Held O E) (View E H)) : Type 0 where
  pub small : (bounds.room < 2 ^ 32) × (bounds.count < 2 ^ 32)
  pub serving : ℕ
  pub waiting : ℕ
  pub dealt : ℕ
  pub log : List (ℕ × E)
  pub bells : List ℕ
  pub words : s.words ≡ (serving + waiting) % 2 ^ 64 ∷ serving % 2 ^ 64 ∷ length log ∷ bells
  pub tickets : IsSpread tickets_of s.views (range_with_len serving waiting)
  pub numbers : IsSpread claim_numbers s.views (range_with_len 0 dealt)
  pub dealt_in : dealt ≤ bounds.count
  pub room : length log + sum_by left_of s.views ≤ bounds.room
  pub known : All (λ x. x.0 < dealt) log
  pub seats : (id : ℕ) (v : View E H) → get_elem? s.views id ≡ some v → FitsSeat bounds serving dealt log id v
  pub slot : ((held : Held O E) × (s.homes ≡ some held ∷ []) × IsHome bounds stands home_of log held × IsIn s.views) ⊎ IsOut s.views
