-- The rule of the ring between any two steps, and what each kind of step tells (this project's own).
use Rattle.std.specs.Prelude.{◌≡◌, ℕ, ◌+◌, ◌-◌, ◌<◌, ◌≤◌, List, [], ◌∷◌, ◌++◌, length, All}
use Rattle.std.specs.List.{sum_by, range_with_len}
use mathlib.Core.Option.{some}
use lib.ListN.{get_elem?}
use Rattle.table_sums.specs.Spread.{IsSpread}
use Rattle.object_cache.specs.Moves.{JobState, IsJobOf}
use Rattle.move_queue.specs.declared.rule.Terms.{Terms}
use Rattle.move_queue.specs.declared.rule.View.{View}
use Rattle.move_queue.specs.Queue.{numbers_in, AreIn, IsLater}

-- the terms of a seat that was told none yet: it is the one seat, and may push nothing
abbrev pub no_terms : Terms
no_terms = record { home = record { cells = []; moves = [] }; quotas = 0; seats = 1 }

module _ {X : Type 0} where
  -- the view of so many seats that were not used yet, with so many pushes
  abbrev pub unused : Terms → ℕ → ℕ → View X
  unused terms seats left = record { seats = seats; terms = terms; left = left; pushed = []; popped = [] }

  -- the view of all seats
  abbrev pub opener : Terms → View X
  opener terms = unused terms terms.seats terms.quotas

  -- the view of the first seat before it is told the terms
  abbrev pub untold : View X
  untold = opener no_terms

  -- the view of no seat
  abbrev pub spent : View X
  spent = unused no_terms 0 0

  -- the view after a seat with so many pushes was dealt, and that seat's view
  abbrev pub dealt : ℕ → View X → View X
  dealt quota v = record v { seats = v.seats - 1; left = v.left - quota }

  abbrev pub newcomer : ℕ → View X → View X
  newcomer quota v = unused v.terms 1 quota

  abbrev pub joined : View X → View X → View X
  joined v w = record v { seats = v.seats + w.seats; left = v.left + w.left; pushed = v.pushed ++ w.pushed; popped = v.popped ++ w.popped }

  abbrev pub seats_of : View X → ℕ
  seats_of v = v.seats

  -- the pushes that were made and those that may be made yet
  abbrev pub quota_of : View X → ℕ
  quota_of v = length v.pushed + v.left

  -- what the rule says of one view: `all` are the jobs that were pushed so far, in order, and `gone` those that were popped
  pub record FitsSeat (terms : Terms) (all gone : List (JobState X)) (v : View X) : Type 0 where
    pub terms_are : 0 < v.seats → v.terms ≡ terms
    pub spent : v.seats ≡ 0 → (v.pushed ≡ []) × (v.popped ≡ [])
    pub pushed : AreIn all v.pushed
    pub popped : AreIn gone v.popped

  -- The jobs that stand are those that went in and did not come out, in order. Each push of a seat has a number of its own among all
  -- pushes, and each pop among all pops: the pushes of all seats are the pops of all and what stands. All pushes are within the quotas
  pub record IsQueued (constructed : X → Type 0) (items : List (JobState X)) (views : List (View X)) : Type 0 where
    pub terms : Terms
    pub gone : List (JobState X)
    pub seats : sum_by seats_of views ≡ terms.seats
    pub quotas : sum_by quota_of views ≡ terms.quotas
    pub pushes : IsSpread (λ v. numbers_in v.pushed) views (range_with_len 0 (length (gone ++ items)))
    pub pops : IsSpread (λ v. numbers_in v.popped) views (range_with_len 0 (length gone))
    pub jobs : All (IsJobOf constructed terms.home) items
    pub fits : (id : ℕ) (v : View X) → get_elem? views id ≡ some v → FitsSeat terms (gone ++ items) gone v

  -- a push tells the job's number, which is above those of the seat's other pushes
  pub record Pushed (v : View X) (job : JobState X) (w : View X) : Type 0 where
    pub number : ℕ
    pub later : IsLater number v.pushed
    pub view : w ≡ record v { left = v.left - 1; pushed = v.pushed ++ (number, job) ∷ [] }

  -- a push that finds no room tells how many pushes and pops there were
  pub record IsNumbered (v : View X) (items : List (JobState X)) : Type 0 where
    pub pushes : ℕ
    pub pops : ℕ
    pub stand : pushes ≡ pops + length items
    pub mine : length v.pushed ≤ pushes
    pub popped : length v.popped ≤ pops
    pub within : pushes + v.left ≤ v.terms.quotas

  -- a pop tells the job's number. Where the seat stands for all seats, it is the number of its pops
  pub record Popped (constructed : X → Type 0) (v : View X) (job : JobState X) (w : View X) : Type 0 where
    pub number : ℕ
    pub later : IsLater number v.popped
    pub alone : v.seats ≡ v.terms.seats → number ≡ length v.popped
    pub few : length v.popped < v.terms.quotas
    pub is_job : IsJobOf constructed v.terms.home job
    pub view : w ≡ record v { popped = v.popped ++ (number, job) ∷ [] }

  -- what a seat that stands for all seats knows of the jobs that stand
  pub record HasAll (v : View X) (items : List (JobState X)) : Type 0 where
    pub jobs : List (JobState X)
    pub pushed : AreIn jobs v.pushed
    pub popped : AreIn jobs v.popped
    pub many : length v.popped + length items ≡ length jobs
    pub as_many : length v.pushed ≡ length jobs
    pub pushes : (weight : ℕ → ℕ) → sum_by weight (numbers_in v.pushed) ≡ sum_by weight (range_with_len 0 (length jobs))
    pub pops : (weight : ℕ → ℕ) → sum_by weight (numbers_in v.popped) ≡ sum_by weight (range_with_len 0 (length v.popped))

  abbrev pub KnowsAll : View X → List (JobState X) → Type 0
  KnowsAll v items = 0 < v.seats → v.seats ≡ v.terms.seats → HasAll v items
