-- What a run of the program writes, or which status it ends with, by its words and its input (this project's own rule).
use Rattle.std.specs.Prelude.{◌≡◌, ℕ, Bool, false, List, [], All, length, Option, Some, None, IsOk, IsOkAnd, IsErrOf, IfSome}
use Rattle.std.specs.Io.KnownBytes.{Appends, IsAtEnd}
use Rattle.kmem_text.specs.Grammar.{Plain, script_of, first_bad_of}
use Rattle.kmem_text.specs.declared.spelling.LineFault.{LineFault}
use Rattle.kmem_model.specs.declared.plan.Plan.TheVariants.{One, Check}
use Rattle.kmem_model.specs.declared.record_entry.RecordEntry.{RecordEntry}
use Rattle.command_line.specs.declared.program.Program.{Program}
use Rattle.command_line.specs.declared.program.Program.TheVariants as program
use Rattle.kmem_model.specs.declared.cache_entry.CacheEntry.{CacheEntry}
use Rattle.kmem_model.specs.Report.{Report, report_text}
use Rattle.kmem_model.specs.RunLines.{IsHistoryOf, run_text}
use Rattle.run_engine.specs.declared.plan.RunPlan.{RunPlan}
use Rattle.run_engine.specs.declared.ran.Ran.{Ran}
use Rattle.run_engine.specs.Ran.{IsRan, IsReportOn, IsPrinted, last_map}
use Rattle.run_workers.specs.Workers.{is_refused}
use Rattle.run_made.specs.Making.{made_plan, alone_records, summary_of}
use Rattle.generator.specs.Made.{made}
use Rattle.run_serve.specs.Served.{HasGoodScript, IsInputFault}
use Rattle.kmem_model.specs.Checked.{checked_fault}
use Rattle.run_check.specs.Verdicts.{IsLegal, IsToldHistory, IsDueFault, legal_text}
use Rattle.run_check.specs.declared.fault.Fault.{Fault}
use Rattle.run_one.specs.Answers.{one_answer, IsTextOfHistory}

-- the plan of a run of these numbers
abbrev pub run_plan : ℕ → ℕ → ℕ → ℕ → Bool → RunPlan
run_plan slabs chunks workers scans desperate =
    record { slabs = slabs; chunks = chunks; workers = workers; scans = scans; desperate = desperate }

-- a text of a run on threads: that of one of the histories of its script, with a report on what it did
pub record IsRunText (plan : RunPlan) (script : Plain) (text : List ℕ) : Type 0 where
  pub records : List (ℕ × RecordEntry)
  pub history : List (ℕ × CacheEntry)
  pub report : Report
  pub of : IsHistoryOf plan.workers script records
  pub on : IsReportOn plan script.lines (last_map plan script records) history report
  pub is : text ≡ run_text plan.workers script.names records (report_text report)

-- a text of a made run: the summary of one of the histories of its script
pub record IsMadeText (workers : ℕ) (script : Plain) (text : List ℕ) : Type 0 where
  pub records : List (ℕ × RecordEntry)
  pub of : IsHistoryOf workers script records
  pub is : text ≡ summary_of workers script records

-- what the program writes for an input, of which this holds, where it writes a text
abbrev pub Writes : Option Program → List ℕ → (List ℕ → Type 0) → Type 0
Writes None bytes P = ⊥
Writes (Some (program.Plain (One slabs chunks every))) bytes P = IsOkAnd (one_answer slabs chunks every bytes) P
Writes (Some (program.Plain (Check workers))) bytes P = IsLegal workers bytes × P legal_text
Writes (Some (program.Run slabs chunks workers scans desperate)) bytes P =
    HasGoodScript workers bytes × ((text : List ℕ) × IsRunText (run_plan slabs chunks workers scans desperate) (script_of workers bytes) text × P text)
Writes (Some (program.Gen seed workers commands)) bytes P = (text : List ℕ) × IsMadeText workers (made seed workers commands) text × P text

-- a text is due for the input, and no fault
abbrev pub IsTextDue : Option Program → List ℕ → Type 0
IsTextDue None bytes = ⊥
IsTextDue (Some (program.Plain (One slabs chunks every))) bytes = IsOk (one_answer slabs chunks every bytes)
IsTextDue (Some (program.Plain (Check workers))) bytes = IsLegal workers bytes
IsTextDue (Some (program.Run slabs chunks workers scans desperate)) bytes = HasGoodScript workers bytes
IsTextDue (Some (program.Gen seed workers commands)) bytes = Unit {0}

-- the fault is due for the input, in place of a text
abbrev pub IsFaultOf : Option Program → List ℕ → Fault → Type 0
IsFaultOf None bytes f = ⊥
IsFaultOf (Some (program.Plain (One slabs chunks every))) bytes f = IsErrOf (one_answer slabs chunks every bytes) f
IsFaultOf (Some (program.Plain (Check workers))) bytes f = IsDueFault workers bytes f
IsFaultOf (Some (program.Run slabs chunks workers scans desperate)) bytes f = IsInputFault workers bytes f
IsFaultOf (Some (program.Gen seed workers commands)) bytes f = ⊥

-- the text is one of a history: it has the history's replies, or says that the input has them
abbrev pub IsPlanText : Option Program → List ℕ → List ℕ → Type 0
IsPlanText None bytes text = ⊥
IsPlanText (Some (program.Plain (One slabs chunks every))) bytes text = IsTextOfHistory slabs chunks (script_of 16 bytes) text
IsPlanText (Some (program.Plain (Check workers))) bytes text = IsToldHistory workers bytes
IsPlanText (Some (program.Run slabs chunks workers scans desperate)) bytes text =
    IsRunText (run_plan slabs chunks workers scans desperate) (script_of workers bytes) text
IsPlanText (Some (program.Gen seed workers commands)) bytes text = IsMadeText workers (made seed workers commands) text

-- the first bad line of the script in the input, with its fault
abbrev pub bad_line : Option Program → List ℕ → Option (ℕ × LineFault)
bad_line None bytes = None
bad_line (Some (program.Plain (One slabs chunks every))) bytes = first_bad_of 16 bytes
bad_line (Some (program.Plain (Check workers))) bytes = checked_fault workers bytes
bad_line (Some (program.Run slabs chunks workers scans desperate)) bytes = first_bad_of workers bytes
bad_line (Some (program.Gen seed workers commands)) bytes = None

-- the program is to check a run
abbrev pub IsCheck : Option Program → Type 0
IsCheck asked = (workers : ℕ) × (asked ≡ Some (program.Plain (Check workers)))

-- the program is to make its script itself
abbrev pub IsMaking : Option Program → Type 0
IsMaking (Some (program.Gen seed workers commands)) = Unit {0}
IsMaking _ = ⊥

-- this holds of the input's bytes, where the source tells them. A program that makes its script needs none
abbrev pub OfInput : Option Program → Option (List ℕ) → (List ℕ → Type 0) → Type 0
OfInput (Some (program.Gen seed workers commands)) known P = P []
OfInput _ known P = IfSome known P

-- the input was read to its end. A program that makes its script reads nothing
abbrev pub HasReadAll : Option Program → Option (List ℕ) → Type 0
HasReadAll (Some (program.Gen seed workers commands)) known = Unit {0}
HasReadAll _ known = IsAtEnd known

-- the program is to run a script on threads
abbrev pub IsRunning : Option Program → Type 0
IsRunning (Some (program.Run slabs chunks workers scans desperate)) = Unit {0}
IsRunning (Some (program.Gen seed workers commands)) = Unit {0}
IsRunning _ = ⊥

-- the histories are those of a run of the input's script, and the text of the first, with a report on the second, was appended; or those of a
-- run of the made script, which has an entry for each command and in which nothing is refused, and the summary of the first was appended
abbrev pub IsHandedOut : Option Program → List ℕ → Ran → Option (List ℕ) → Option (List ℕ) → Type 0
IsHandedOut (Some (program.Run slabs chunks workers scans desperate)) bytes ran written written' =
    IsRan (run_plan slabs chunks workers scans desperate) (script_of workers bytes) ran
    × IsPrinted (run_plan slabs chunks workers scans desperate) (script_of workers bytes) ran written written'
IsHandedOut (Some (program.Gen seed workers commands)) bytes ran written written' =
    IsRan (made_plan workers) (made seed workers commands) ran
    × Appends written written' (summary_of workers (made seed workers commands) ran.records.entries)
    × (length ran.records.entries ≡ commands)
    × All (λ e. is_refused e.1 ≡ false) ran.records.entries
    × (workers ≡ 1 → ran.records.entries ≡ alone_records (made seed 1 commands))
IsHandedOut _ bytes ran written written' = ⊥
