-- What a mover's question comes to (this project's own).
use Rattle.std.specs.Prelude.{◌≡◌, ◌≢◌, ℕ, ◌<◌, ◌≤◌, Bool, true, false, List, [], Option, Some, None, is_some, length, refl, unwrap_or}
use Rattle.std.specs.Coded.{Coded, code_by, coded×, coded_ℕ}
use Rattle.kmem_buf.specs.Answers.{Flags, verdict_of}
use Rattle.kmem_buf.specs.declared.client.Answer.{Answer}
use Rattle.kmem_buf.specs.declared.client.Verdict.{Verdict}
use Rattle.kmem_buf.specs.declared.client.Verdict.TheVariants.{DontKnow, Later, No, DontNeed}
use Rattle.kmem_answers.specs.Words.{said_of}
use Rattle.kmem_model.specs.Heap.{Object, object_at}
use Rattle.kmem_model.specs.Says.{says}
use Rattle.kmem_model.specs.declared.record_entry.RecordEntry.{RecordEntry}
use Rattle.kmem_model.specs.Records.{no_records}
use Rattle.kmem_model.specs.History.{IsLegalHistory, has_held, has_fixed}
use Rattle.atomic_table.specs.Seated.{TableId, table_id_coded}
use Rattle.hist_lock.specs.History.{entries_of}
use Rattle.hist_lock.specs.Passes.{PassState, Site}
use Rattle.marks.specs.Words.{MarkSeatState}
use Rattle.record_table.specs.Ended.{has_dropped, has_ended}
use Rattle.record_table.specs.Shares.{ShareState, IsShareAt}
use Rattle.record_table.specs.Tables.{TableHome, home_code, TableView, home_of, IsStandingFor}
use Rattle.record_table.specs.Sessions.{HasLooked, no_share}

-- a mover: its pass of the table, its seat of the known words, its share of the heap, which answers it has given, the last of them, and how many
-- they are, modulo 2^64
pub record MoverState : Type 0 where
  pub pass : PassState RecordEntry TableHome
  pub seat : MarkSeatState
  pub share : ShareState
  pub flags : Flags
  pub last : Option Verdict
  pub answered : ℕ

-- the mover that these parts are
abbrev pub mover_of : PassState RecordEntry TableHome → MarkSeatState → Option ShareState → Flags → Option Verdict → ℕ → MoverState
mover_of pass seat share flags last answered =
    record { pass = pass; seat = seat; share = unwrap_or share no_share; flags = flags; last = last; answered = answered }

-- an answer of this kind can be given after the history: later only after a `hold`, no after a `fix`, and not needed after a `drop` that ended a
-- record, each with `ok`
abbrev pub IsDueAfter : TableHome → Verdict → List (ℕ × RecordEntry) → Type 0
IsDueAfter home Later h = has_held h ≡ true
IsDueAfter home No h = has_fixed h ≡ true
IsDueAfter home DontNeed h = has_ended (no_records home.names home.workers) h ≡ true
IsDueAfter home _ h = Unit {0}

-- these flags can be set after the history: later only after a `hold`, no after a `fix`, and not needed after a `drop`, each with `ok`
pub record AreFlagsDue (flags : Flags) (h : List (ℕ × RecordEntry)) : Type 0 where
  pub later : flags.later ≡ true → has_held h ≡ true
  pub never : flags.no ≡ true → has_fixed h ≡ true
  pub unneeded : flags.dont_need ≡ true → has_dropped h ≡ true

-- what always holds of a mover, where this says whether its share is at hand: what its pass has seen is legal, and has of its own entries
-- exactly those that it made, which are none; and its flags are due
pub record IsMover (mover : MoverState) (shared : Bool) : Type 0 where
  pub legal : IsLegalHistory (no_records mover.pass.site.home.names mover.pass.site.home.workers) mover.pass.seen
  pub exact : entries_of mover.pass.number mover.pass.seen ≡ mover.pass.mine
  pub none : mover.pass.mine ≡ []
  pub share : IsShareAt mover.pass.site.home.shares mover.share
  pub there : shared ≡ true
  pub due : AreFlagsDue mover.flags mover.pass.seen

-- the mover is of this table
pub record IsMoverOf (table : Site TableHome) (mover : MoverState) : Type 0 where
  pub pass : mover.pass.site ≡ table
  pub seat : mover.seat.home ≡ table.home.words

abbrev pub no_flags : Flags
no_flags = record { yes = false; no = false; later = false; dont_need = false; dont_know = false }

-- nothing was done with it
pub record IsFreshMover (mover : MoverState) : Type 0 where
  pub counts : (mover.share.brought ≡ 0) × (mover.share.fetched ≡ 0)
  pub flags : mover.flags ≡ no_flags
  pub last : mover.last ≡ None
  pub answered : mover.answered ≡ 0

-- some object that stood for the history that the pass has seen has an object at that place, about which this is the right answer; and the
-- answer is due by that history
pub record WasAnswered (pass : PassState RecordEntry TableHome) (from : ℕ) {K : Type 0} (answer : Answer K Object) : Type 0 where
  pub before : TableView
  pub home_is : home_of before ≡ pass.site.home
  pub stood : IsStandingFor before pass.seen
  pub there : is_some (object_at before.heap.heap from) ≡ true
  pub right : said_of (verdict_of answer) ≡ says before.heap.heap true from
  pub due : IsDueAfter pass.site.home (verdict_of answer) pass.seen

-- the pass has looked and the seat has loaded words. It doesn't know only where the last load of this call was of that buffer, and found it
-- not known; every other answer is the heap's at the last turn
pub record HasAsked (old new : PassState RecordEntry TableHome) (seat seat' : MarkSeatState) (from : ℕ) {K : Type 0} (answer : Answer K Object) : Type 0 where
  pub looked : HasLooked old new
  pub loaded : seat.loads < seat'.loads
  pub home : seat'.home ≡ seat.home
  pub unknown : verdict_of answer ≡ DontKnow → seat'.last ≡ Some (from, false)
  pub known : verdict_of answer ≢ DontKnow → WasAnswered new from answer

-- the mover waited until the table's history had so many entries, and has then seen a legal one that has; nothing else changed
pub record HasAwaitedCommands (count : ℕ) (old new : MoverState) : Type 0 where
  pub looked : HasLooked old.pass new.pass
  pub long : count ≤ length new.pass.seen
  pub same : new ≡ record old { pass = new.pass }

-- nothing was answered so far
pub record IsAsking (old new : PassState RecordEntry TableHome) (seat seat' : MarkSeatState) : Type 0 where
  pub looked : HasLooked old new
  pub loads : seat.loads ≤ seat'.loads
  pub home : seat'.home ≡ seat.home

-- What an asker shows of itself: its table, its mover's number, and which mover was lent to it
pub record SignState : Type 0 where
  pub table : Site TableHome
  pub number : ℕ
  pub mover : ℕ

-- it is stored as its parts
abbrev pub sign_code : Coded SignState
sign_code =
    code_by (TableId × (TableHome × (ℕ × (ℕ × (ℕ × ℕ)))))
    (coded× table_id_coded (coded× home_code (coded× coded_ℕ (coded× coded_ℕ (coded× coded_ℕ coded_ℕ)))))
    (λ s. (s.table.table, (s.table.home, (s.table.room, (s.table.count, (s.number, s.mover))))))
    (λ p. record {
      table = record { table = p.0; home = p.1.0; room = p.1.1.0; count = p.1.1.1.0 };
      number = p.1.1.1.1.0;
      mover = p.1.1.1.1.1;
    })
    (λ _. refl)

abbrev pub sign_of : Site TableHome → MoverState → ℕ → SignState
sign_of table mover name = record { table = table; number = mover.pass.number; mover = name }
