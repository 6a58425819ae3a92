-- A run of a script that is made from a seed, and its summary (this project's own rule).
use Rattle.std.specs.Prelude.{ℕ, ◌+◌, false, List, [], ◌∷◌, Option, length}
use Rattle.kmem_io.specs.Streams.{AppendsFront}
use Rattle.kmem_text.specs.Grammar.{Plain}
use Rattle.kmem_text.specs.declared.command.Command.{Command}
use Rattle.kmem_model.specs.declared.record_entry.RecordEntry.{RecordEntry}
use Rattle.kmem_model.specs.Records.{RecordMap, no_records, live_count}
use Rattle.kmem_model.specs.RecordStep.{step}
use Rattle.kmem_model.specs.History.{commands_of, map_after}
use Rattle.kmem_model.specs.RunLines.{IsHistoryOf}
use Rattle.run_summary.specs.Summary.{summary_text}
use Rattle.run_engine.specs.declared.plan.RunPlan.{RunPlan}

-- it has 4,096 slabs of 16 buffers, and 16 scans, which move records where the cache is fragmented
abbrev pub made_plan : ℕ → RunPlan
made_plan workers = record { slabs = 4096; chunks = 16; workers = workers; scans = 16; desperate = false }

-- the summary of a history of this script
abbrev pub summary_of : ℕ → Plain → List (ℕ × RecordEntry) → List ℕ
summary_of workers script records = summary_text (length records) records (live_count (map_after (no_records (length script.names) workers) records))

-- of the summary of some history of the script a front was appended
pub record IsSummaryFront (workers : ℕ) (script : Plain) (written written' : Option (List ℕ)) : Type 0 where
  pub records : List (ℕ × RecordEntry)
  pub of : IsHistoryOf workers script records
  pub front : AppendsFront written written' (summary_of workers script records)

-- the history of these commands from this map on, where the first worker is alone and is never refused
abbrev pub alone_history : RecordMap → ℕ → List Command → List (ℕ × RecordEntry)
alone_history m number [] = []
alone_history m number (c ∷ cs) =
    (0, record { number = number; command = c; reply = (step m 1 c).reply }) ∷ alone_history (step m 1 c).map (number + 1) cs

-- that of a script
abbrev pub alone_records : Plain → List (ℕ × RecordEntry)
alone_records script = alone_history (no_records (length script.names) 1) 1 (commands_of 1 script.lines)
