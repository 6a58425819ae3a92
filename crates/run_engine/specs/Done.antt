-- A run whose commands are carried out and whose scans are made (this project's own).
use Rattle.std.specs.Prelude.{◌≡◌, ℕ, ◌+◌, List, All, map}
use Rattle.std.specs.List.{range_with_len}
use Rattle.kmem_text.specs.declared.command.Line.{Line}
use Rattle.consolidator.specs.declared.driving.MoverPlan.{MoverPlan}
use Rattle.run_workers.specs.declared.worker.Worker.{Worker}
use Rattle.run_workers.specs.Workers.{HasWorked}
use Rattle.run_movers.specs.declared.mover.MoverTask.{MoverTask}
use Rattle.run_movers.specs.Movers.{HasMoved}
use Rattle.run_engine.specs.declared.plan.RunPlan.{RunPlan}
use Rattle.run_engine.specs.declared.shared.Shared.{Shared}
use Rattle.run_engine.specs.declared.crew.Crew.{Crew}
use Rattle.run_engine.specs.Quotas.{first_plan, second_plan}
use Rattle.run_engine.specs.Opened.{pass_of, IsStarting, IsWaiting}

-- the worker has carried out its commands of these lines
pub record IsWorkerDone (shared : Shared) (lines : List Line) (w : Worker) : Type 0 where
  pub before : Worker
  pub starting : IsStarting shared lines before
  pub worked : HasWorked shared.cache before w

-- the mover has gone by this plan
pub record IsMoverDone (shared : Shared) (pass : ℕ) (plan : MoverPlan) (t : MoverTask) : Type 0 where
  pub before : MoverTask
  pub waiting : IsWaiting shared pass plan before
  pub moved : HasMoved shared.table shared.cache shared.queue before t

-- all have
pub record IsCrewDone (plan : RunPlan) (lines : List Line) (shared : Shared) (crew : Crew) : Type 0 where
  pub workers : All (IsWorkerDone shared lines) crew.workers.items
  pub passes : map pass_of crew.workers.items ≡ range_with_len 0 plan.workers
  pub first : IsMoverDone shared plan.workers (first_plan plan) crew.first
  pub second : IsMoverDone shared (plan.workers + 1) (second_plan plan) crew.second
