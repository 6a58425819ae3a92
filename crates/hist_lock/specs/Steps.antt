-- What each step of the lock tells the seat that makes it.
use Rattle.std.specs.Prelude.{◌≡◌, ◌≢◌, ℕ, ◌+◌, ◌-◌, ◌%◌, ◌^◌, ◌<◌, ◌≤◌, List, [], ◌∷◌, ◌++◌, length, Some, None, unwrap_or, vec_capacity}
use Rattle.atomic_table.specs.Table.{Me, Step, rest}
use Rattle.hist_lock.specs.declared.rule.Held.{Held}
use Rattle.hist_lock.specs.declared.rule.Bounds.{Bounds}
use Rattle.hist_lock.specs.declared.rule.Claim.{Claim}
use Rattle.hist_lock.specs.declared.rule.Stage.{Stage}
use Rattle.hist_lock.specs.declared.rule.Stage.TheVariants.{Idle, Waiting, Called, Holding}
use Rattle.hist_lock.specs.declared.rule.View.{View}
use Rattle.hist_lock.specs.History.{IsFront, entries_of}
use Rattle.hist_lock.specs.Rule.{own}

module _ {E : Type 0} where
  -- the pass's claim, once it has seen this journal
  abbrev pub with_journal : List (ℕ × E) → Claim E → Claim E
  with_journal journal c = record c { seen = journal; mine = entries_of c.number journal }

module _ {E H : Type 0} where
  abbrev pub at_stage : Stage → View E H → View E H
  at_stage stage v = record v { stage = stage }

  abbrev pub drew : ℕ → View E H → View E H
  drew ticket v = record v { stage = Waiting; ticket = ticket }

  abbrev pub took : List (ℕ × E) → View E H → View E H
  took journal v = record v { stage = Holding; claims = with_journal journal (own v) ∷ [] }

  abbrev pub learned : List (ℕ × E) → View E H → View E H
  learned log v = record v { claims = with_journal log (own v) ∷ [] }

  abbrev pub raised : List (ℕ × E) → View E H → View E H
  raised journal v = record v { left = v.left - 1; claims = with_journal journal (own v) ∷ [] }

  -- a seat that another took in
  abbrev pub spent : View E H
  spent = record { bounds = None; dealt = None; left = 0; stage = Idle; ticket = 0; claims = [] }

  abbrev pub joined : View E H → View E H → View E H
  joined v w = record v { claims = w.claims ++ v.claims }

  abbrev pub dealt_of : View E H → ℕ
  dealt_of v = unwrap_or v.dealt 0

  abbrev pub dealt_one : ℕ → View E H → View E H
  dealt_one quota v = record v { dealt = Some (dealt_of v + 1); left = v.left - quota }

  abbrev pub newcomer : ℕ → View E H → View E H
  newcomer quota v =
      record {
        bounds = v.bounds;
        dealt = None;
        left = quota;
        stage = Idle;
        ticket = 0;
        claims = record { number = dealt_of v; seen = []; mine = [] } ∷ [];
      }

module _ {O E : Type 0} where
  -- the journal of the slot in hand
  abbrev pub journal_of : List (ℕ × Held O E) → List (ℕ × E)
  journal_of [] = []
  journal_of (slot ∷ slots) = slot.1.journal.items

abbrev pub Sat : Type 0 → Type 0 → Type 0 → Type 0
Sat O E H = Me (Held O E) (View E H)

module _ {O E H : Type 0} where
  -- the seat is a pass's, at this stage, with these slots in hand
  abbrev pub IsAt : Stage → List (ℕ × Held O E) → Sat O E H → Type 0
  IsAt stage slots me = (me.0.stage ≡ stage) × (me.0.claims ≡ own me.0 ∷ []) × (me.1 ≡ slots)

  abbrev pub Draws : Step (Held O E) → Sat O E H → ℕ → Sat O E H → Type 0
  Draws s me found me' = (ticket : ℕ) × (found ≡ ticket % 2 ^ 64) × (me' ≡ (drew ticket me.0, me.1))

  -- the ticket is served, or nothing changes
  abbrev pub Looks : Step (Held O E) → Sat O E H → ℕ → Sat O E H → Type 0
  Looks s me found me' = (found ≡ me.0.ticket % 2 ^ 64 → me' ≡ (at_stage Called me.0, me.1)) × (found ≢ me.0.ticket % 2 ^ 64 → me' ≡ me)

  -- what the seat finds in the value that it takes
  pub record IsFound (stands : O → List (ℕ × E) → Type 0) (home_of : O → H) (v : View E H) (held : Held O E) : Type 0 where
    pub stood : stands held.object held.journal.items
    pub front : IsFront (own v).seen held.journal.items
    pub exact : entries_of (own v).number held.journal.items ≡ (own v).mine
    pub within : (b : Bounds H) → v.bounds ≡ Some b → (home_of held.object ≡ b.home) × (length held.journal.items + v.left ≤ b.room) ×
        (b.room < 2 ^ 32) × (b.room ≤ vec_capacity held.journal)

  abbrev pub Takes : (O → List (ℕ × E) → Type 0) → (O → H) → Step (Held O E) → Sat O E H → ℕ → Sat O E H → Type 0
  Takes stands home_of s me found me' = (held : Held O E) × (me' ≡ (took held.journal.items me.0, (0, held) ∷ [])) ×
      IsFound stands home_of me.0 held

  abbrev pub Raises : Step (Held O E) → Sat O E H → ℕ → Sat O E H → Type 0
  Raises s me found me' = me' ≡ (raised (journal_of me.1) me.0, me.1)

  abbrev pub Gives : Step (Held O E) → Sat O E H → ℕ → Sat O E H → Type 0
  Gives s me found me' = me' ≡ (at_stage Called me.0, rest me.1)

  abbrev pub Serves : Step (Held O E) → Sat O E H → ℕ → Sat O E H → Type 0
  Serves s me found me' = me' ≡ (at_stage Idle me.0, me.1)

  -- the pass learns the history as it is, whose length is found
  abbrev pub Learns : Step (Held O E) → Sat O E H → ℕ → Sat O E H → Type 0
  Learns s me found me' = (log : List (ℕ × E)) × (found ≡ length log) × (me' ≡ (learned log me.0, me.1)) ×
      IsFront (own me.0).seen log × (entries_of (own me.0).number log ≡ (own me.0).mine)

  -- a bell is set, which tells the seat nothing
  abbrev pub Rings : Step (Held O E) → Sat O E H → ℕ → Sat O E H → Type 0
  Rings s me found me' = me' ≡ me
