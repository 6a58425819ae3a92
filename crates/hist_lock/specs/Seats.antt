-- A seat of the lock's table between its steps.
use Rattle.std.specs.Prelude.{◌≡◌, ℕ, List, [], ◌∷◌, map, Option, Some, unwrap_or, vec_capacity}
use Rattle.atomic_table.specs.Seated.{TableId}
use Rattle.atomic_table.specs.declared.shared.Seat.{Seat}
use Rattle.hist_lock.specs.declared.rule.Held.{Held}
use Rattle.hist_lock.specs.declared.rule.Bounds.{Bounds}
use Rattle.hist_lock.specs.declared.rule.Claim.{Claim}
use Rattle.hist_lock.specs.declared.rule.Stage.TheVariants.{Idle, Holding}
use Rattle.hist_lock.specs.declared.rule.View.{View}
use Rattle.hist_lock.specs.History.{IsFront, entries_of, told}
use Rattle.hist_lock.specs.Passes.{Site, PassState}
use Rattle.hist_lock.specs.Rule.{own}
use Rattle.hist_lock.specs.Steps.{Sat, IsAt, IsFound, with_journal}

-- the seat is one of this table, which is a lock's
abbrev pub IsSeatOf : TableId → TableId → Type 0
IsSeatOf seat line = (seat ≡ line) × (line.words ≡ 21) × (line.slots ≡ 1)

abbrev pub IsSameSeat : {S V : Type 0} → Seat S V → Seat S V → Type 0
IsSameSeat s t = (t.table_id ≡ s.table_id) × (t.id ≡ s.id)

abbrev pub site_of : {H : Type 0} → TableId → Bounds H → Site H
site_of table bounds = record { table = table; home = bounds.home; room = bounds.room; count = bounds.count }

-- the bounds that a seat knows, or else some of this home
abbrev pub bounds_in : {E H : Type 0} → H → View E H → Bounds H
bounds_in anywhere v = unwrap_or v.bounds (record { home = anywhere; room = 0; count = 0 })

-- a pass, as contracts see it
abbrev pub pass_state : {E H : Type 0} → TableId → Bounds H → ℕ → ℕ → Claim E → PassState E H
pass_state table bounds number left c = record { site = site_of table bounds; number = number; left = left; seen = c.seen; mine = c.mine }

abbrev pub claim_of : {E H : Type 0} → PassState E H → Claim E
claim_of pass = record { number = pass.number; seen = pass.seen; mine = pass.mine }

-- the seat of a pass between its turns
pub record IsResting {O E H : Type 0} (b : Bounds H) (number left : ℕ) (me : Sat O E H) : Type 0 where
  pub idle : IsAt Idle [] me
  pub bounds : me.0.bounds ≡ Some b
  pub left_is : me.0.left ≡ left
  pub number_is : (own me.0).number ≡ number
  pub exact : entries_of number (own me.0).seen ≡ (own me.0).mine

-- the view v has become w, which differs in the stage, the ticket and what is said
abbrev pub IsSameView : {E H : Type 0} → View E H → View E H → Type 0
IsSameView v w = (w.bounds ≡ v.bounds) × (w.left ≡ v.left)

-- the seat is idle, and has learned of entries of others alone
pub record HasLearned {O E H : Type 0} (v : View E H) (me : Sat O E H) : Type 0 where
  pub idle : IsAt Idle [] me
  pub same : IsSameView v me.0
  pub number : (own me.0).number ≡ (own v).number
  pub front : IsFront (own v).seen (own me.0).seen
  pub mine : (own me.0).mine ≡ (own v).mine
  pub exact : entries_of (own me.0).number (own me.0).seen ≡ (own me.0).mine

-- the seat has taken the value, and has seen its journal
pub record HasEntered {O E H : Type 0} (stands : O → List (ℕ × E) → Type 0) (home_of : O →
    H) (v : View E H) (held : Held O E) (me : Sat O E H) : Type 0 where
  pub holds : IsAt Holding ((0, held) ∷ []) me
  pub same : IsSameView v me.0
  pub claim : own me.0 ≡ with_journal held.journal.items (own v)
  pub found : IsFound stands home_of v held

-- the turn ran on the object, and the journal is as it was
pub record HasRun {O E H Out : Type 0} (stands : O → List (ℕ × E) → Type 0) (home_of : O → H) (can : H → List (ℕ × E) → Type 0)
    (tells : H → O → O → List (ℕ × E) → Out → Option E →
    Type 0) (who : ℕ) (old new : Held O E) (out : Out) (entry : Option E) : Type 0 where
  pub journal : new.journal ≡ old.journal
  pub home : home_of new.object ≡ home_of old.object
  pub ran : (h : List (ℕ × E)) → stands old.object h → can (home_of old.object) h → stands new.object (told h who entry) ×
      tells (home_of old.object) old.object new.object h out entry

-- the entry is in the journal and in the history, if there is one
pub record HasNoted {O E H : Type 0} (entry : Option E) (old new : Held O E) (v : View E H) (me : Sat O E H) : Type 0 where
  pub holds : IsAt Holding ((0, new) ∷ []) me
  pub object : new.object ≡ old.object
  pub journal : new.journal.items ≡ told old.journal.items (own v).number entry
  pub room : vec_capacity new.journal ≡ vec_capacity old.journal
  pub bounds : me.0.bounds ≡ v.bounds
  pub claim : own me.0 ≡ with_journal new.journal.items (own v)

-- the first seat, which has dealt so many passes and has so many entries left to deal
pub record IsDealer {O E H : Type 0} (bounds : Bounds H) (dealt left : ℕ) (me : Sat O E H) : Type 0 where
  pub idle : me.0.stage ≡ Idle
  pub no_claims : me.0.claims ≡ []
  pub dealt_is : me.0.dealt ≡ Some dealt
  pub bounds_is : me.0.bounds ≡ Some bounds
  pub left_is : me.0.left ≡ left

-- the seat has taken in the seats of these passes
pub record HasGathered {O E H : Type 0} (passes : List (PassState E H)) (me : Sat O E H) : Type 0 where
  pub idle : me.0.stage ≡ Idle
  pub empty : me.1 ≡ []
  pub claims : me.0.claims ≡ map claim_of passes
