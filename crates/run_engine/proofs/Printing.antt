-- What is printed of a run that is over.
use Rattle.std.proofs.Common.{ℕ, List, Option, Result, Ok, Err}
use Rattle.std.specs.Result.{IfOk}
use Rattle.std.specs.Io.KnownBytes.{Appends}
use Rattle.kmem_io.specs.Streams.{AppendsFront}
use Rattle.kmem_text.specs.Grammar.{Plain}
use Rattle.kmem_model.specs.RunLines.{run_text}
use Rattle.kmem_model.specs.Report.{report_text}
use Rattle.kmem_report.specs.Reported.{reported}
use Rattle.object_cache.specs.Cache.{CacheView}
use Rattle.run_engine.specs.declared.plan.RunPlan.{RunPlan}
use Rattle.run_engine.specs.declared.ran.Ran.{Ran}
use Rattle.run_engine.specs.declared.over_run.Counts.{Counts}
use Rattle.run_engine.specs.Over.{IsOver}
use Rattle.run_engine.specs.Ran.{IsPrinted, IsPrintedFront}

-- the text of a run that is over
abbrev pub over_text : RunPlan → Plain → Ran → CacheView → Counts → List ℕ
over_text plan script ran slabs counts =
    run_text plan.workers script.names ran.records.entries (report_text (reported counts.live plan.scans counts.moves counts.settled slabs.state))

module _ (plan : RunPlan) (script : Plain) (ran : Ran) (slabs : CacheView) (counts : Counts) (page : List ℕ) (old new : Option (List ℕ)) (over : IsOver plan script ran slabs counts page) where
  pub printed_whole : Appends old new (over_text plan script ran slabs counts) → IsPrinted plan script ran old new
  printed_whole whole = (reported counts.live plan.scans counts.moves counts.settled slabs.state, over.report, whole)

  pub printed_front : AppendsFront old new (over_text plan script ran slabs counts) → IsPrintedFront plan script old new
  printed_front front =
      record {
        records = ran.records.entries;
        history = ran.cache.entries;
        report = reported counts.live plan.scans counts.moves counts.settled slabs.state;
        of = over.is.records;
        on = over.report;
        front = front;
      }

-- what holds of a result where it is fine, put otherwise
pub if_ok : {X E : Type 0} (r : Result X E) (P Q : X → Type 0) → ((x : X) → P x → Q x) → IfOk r P → IfOk r Q
if_ok (Ok x) P Q on p = on x p
if_ok (Err e) P Q on p = tt
