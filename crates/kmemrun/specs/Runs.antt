-- What a run of the program does to its streams, and when it ends how (this project's own rule).
use Rattle.std.specs.Prelude.{◌≡◌, ◌≢◌, ◌<◌, ◌≤◌, ◌↔◌, ◌⊎◌, ℕ, List, Option, Some, None, IsNone, IsSome, IfSome}
use Rattle.std.specs.Io.KnownBytes.{Appends, Keeps}
use Rattle.kmem_io.specs.Streams.{AppendsFront}
use Rattle.kmem_text.specs.declared.spelling.LineFault.{LineFault}
use Rattle.command_line.specs.declared.program.Program.{Program}
use Rattle.run_engine.specs.declared.ran.Ran.{Ran}
use Rattle.kmemrun.specs.declared.status.Status.{Status}
use Rattle.kmemrun.specs.declared.status.Status.TheVariants as status
use Rattle.kmemrun.specs.declared.status.Ending.{Ending}
use Rattle.kmemrun.specs.declared.status.Ending.TheVariants.{Fine, Usage, Failed}
use Rattle.run_check.specs.declared.fault.Fault.{Fault}
use Rattle.run_check.specs.declared.fault.Fault.TheVariants.{BadScript, Read, Write, Limit, NoMemory, Illegal}
use Rattle.kmemrun.specs.Answers.{Writes, IsTextDue, IsFaultOf, IsPlanText, bad_line, IsCheck, IsMaking, OfInput, HasReadAll, IsRunning, IsHandedOut}
use Rattle.kmemrun.specs.Endings.{ending_status, ending_line}

-- a stream before and after a run: what the input had left, or what was written, where the stream tells it, and how often it had failed
pub record Stream : Type 0 where
  pub known : Option (List ℕ)
  pub known_after : Option (List ℕ)
  pub faults : ℕ
  pub faults_after : ℕ

-- the stream that this object was before and is after
abbrev pub stream : {S : Type 0} → (S → Option (List ℕ)) → (S → ℕ) → S → S → Stream
stream known faults old new = record { known = known old; known_after = known new; faults = faults old; faults_after = faults new }

-- a stream that is left as it is
abbrev pub still : Option (List ℕ) → ℕ → Stream
still known faults = record { known = known; known_after = known; faults = faults; faults_after = faults }

-- the run ended as it is due, but for want of memory, which is free, and for a read that failed
abbrev pub IsDueEnding : Ending → Ending → Type 0
IsDueEnding ended due = (ended ≡ due) ⊎ ((ended ≡ Failed NoMemory) ⊎ (ended ≡ Failed Read))

-- how a plan ends, what it reads and what it writes
pub record Ends (plan : Option Program) (input out : Stream) (ended : Ending) : Type 0 where
  -- at Fine exactly the text for the bytes that were left is written, which is one of a history, and all of them are read
  pub text : ended ≡ Fine → OfInput plan input.known (λ bytes. Writes plan bytes (λ text.
      Appends out.known out.known_after text × IsPlanText plan bytes text))
  pub end : ended ≡ Fine → HasReadAll plan input.known_after
  pub unread : IsMaking plan → (input.known_after ≡ input.known) × (input.faults_after ≡ input.faults)
  -- when each other ending comes
  pub usage : (ended ≡ Usage) ↔ IsNone plan
  pub read_fault : (ended ≡ Failed Read) ↔ (input.faults < input.faults_after)
  pub limit : ended ≡ Failed Limit → OfInput plan input.known (λ bytes. IsFaultOf plan bytes Limit)
  pub bad_script : (line : ℕ) (f : LineFault) → ended ≡ Failed (BadScript line f) →
      OfInput plan input.known (λ bytes. IsFaultOf plan bytes (BadScript line f))
  pub first_bad : (line : ℕ) (f : LineFault) → ended ≡ Failed (BadScript line f) →
      OfInput plan input.known (λ bytes. bad_line plan bytes ≡ Some (line, f))
  pub illegal : (line : ℕ) → ended ≡ Failed (Illegal line) →
      IsCheck plan × OfInput plan input.known (λ bytes. IsFaultOf plan bytes (Illegal line))
  pub counted : (line : ℕ) (f : LineFault) → ended ≡ Failed (BadScript line f) → 1 ≤ line
  pub counted_illegal : (line : ℕ) → ended ≡ Failed (Illegal line) → 1 ≤ line
  pub write_fault : (ended ≡ Failed Write) ↔ (out.faults < out.faults_after)
  pub due : OfInput plan input.known (λ bytes. (due : Fault) → IsFaultOf plan bytes due → IsDueEnding ended (Failed due))
  pub fine : OfInput plan input.known (λ bytes. IsTextDue plan bytes → (ended ≡ Failed Write) ⊎ IsDueEnding ended Fine)
  -- what they leave: a front of the text after a write fault, and else nothing
  pub front : ended ≡ Failed Write → OfInput plan input.known (λ bytes.
      Writes plan bytes (λ text. AppendsFront out.known out.known_after text))
  pub untouched : ended ≢ Fine → ended ≢ Failed Write → Keeps out.known out.known_after

-- what is handed out: the histories of a run on threads, exactly where one ended Fine
pub record HandsOut (plan : Option Program) (input out : Stream) (ended : Ending) (ran : Option Ran) : Type 0 where
  pub due : (ended ≡ Fine) × IsRunning plan → IsSome ran
  pub just : IsSome ran → (ended ≡ Fine) × IsRunning plan
  pub what : IfSome ran (λ r. OfInput plan input.known (λ bytes. IsHandedOut plan bytes r out.known out.known_after))

-- a front of the ending's line was told; the whole, where standard error did not fail
pub record Tells (err : Stream) (ended : Ending) : Type 0 where
  pub front : AppendsFront err.known err.known_after (ending_line ended)
  pub whole : err.faults_after ≡ err.faults → Appends err.known err.known_after (ending_line ended)

-- the plan was carried out, and its ending told, which has this status
pub record IsRun (plan : Option Program) (input out err : Stream) (answered : Status) (ran : Option Ran) : Type 0 where
  pub ended : Ending
  pub answer : answered ≡ ending_status ended
  pub ends : Ends plan input out ended
  pub hands : HandsOut plan input out ended ran
  pub tells : Tells err ended

-- memory was wanting before anything was read or written
pub record IsWanting (input out err : Stream) (answered : Status) (ran : Option Ran) : Type 0 where
  pub none : ran ≡ None
  pub answer : answered ≡ status.NoMemory
  pub unread : (input.known_after ≡ input.known) × (input.faults_after ≡ input.faults)
  pub unwritten : (out.known_after ≡ out.known) × (out.faults_after ≡ out.faults)
  pub tells : Tells err (Failed NoMemory)

abbrev pub IsRunOrWanting : Option Program → Stream → Stream → Stream → Status → Option Ran → Type 0
IsRunOrWanting plan input out err answered ran = IsRun plan input out err answered ran ⊎ IsWanting input out err answered ran

-- what keeps a run from its words: they aren't text, or memory is wanting
abbrev pub IsRefusal : Ending → Type 0
IsRefusal ended = (ended ≡ Usage) ⊎ (ended ≡ Failed NoMemory)
