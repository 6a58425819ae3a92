-- A run that is over and settled (this project's own).
use Rattle.std.specs.Prelude.{◌≡◌, ℕ, ◌≤◌, List, [], length}
use Rattle.kmem_text.specs.Grammar.{Plain}
use Rattle.kmem_model.specs.Records.{live_count}
use Rattle.kmem_report.specs.Reported.{reported}
use Rattle.object_cache.specs.Cache.{CacheView}
use Rattle.run_print.specs.Printed.{IsPrintable}
use Rattle.run_engine.specs.declared.plan.RunPlan.{RunPlan}
use Rattle.run_engine.specs.declared.ran.Ran.{Ran}
use Rattle.run_engine.specs.declared.over_run.Counts.{Counts}
use Rattle.run_engine.specs.Ran.{IsRan, IsReportOn, last_map}

-- its histories are those of the plan and the script, and these counts and slabs make the report on them
pub record IsOver (plan : RunPlan) (script : Plain) (ran : Ran) (slabs : CacheView) (counts : Counts) (page : List ℕ) : Type 0 where
  pub workers : plan.workers ≤ 16
  pub is : IsRan plan script ran
  pub printable : IsPrintable (length script.names) ran.records.entries
  pub report : IsReportOn plan script.lines (last_map plan script ran.records.entries) ran.cache.entries
      (reported counts.live plan.scans counts.moves counts.settled slabs.state)
  pub live : counts.live ≡ live_count (last_map plan script ran.records.entries)
  pub page_is : page ≡ []

-- what contracts see of it
pub record OverView : Type 0 where
  pub plan : RunPlan
  pub script : Plain
  pub ran : Ran
