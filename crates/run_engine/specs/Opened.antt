-- A run that was opened and hasn't begun (this project's own).
use Rattle.std.specs.Prelude.{◌≡◌, ℕ, ◌+◌, ◌*◌, ◌<◌, ◌≤◌, List, [], All, length, map, vec_capacity}
use Rattle.std.specs.List.{range_with_len}
use Rattle.kmem_text.specs.Grammar.{Plain}
use Rattle.kmem_text.specs.Scripts.{IsScript}
use Rattle.kmem_text.specs.declared.command.Line.{Line}
use Rattle.kmem_model.specs.History.{worker_of, commands_of}
use Rattle.kmem_cache.specs.Seats.{buffers_at}
use Rattle.consolidator.specs.declared.driving.MoverPlan.{MoverPlan}
use Rattle.run_workers.specs.declared.worker.Worker.{Worker}
use Rattle.run_workers.specs.Workers.{IsReady}
use Rattle.run_movers.specs.declared.mover.MoverTask.{MoverTask}
use Rattle.run_movers.specs.Movers.{IsReadyMover}
use Rattle.run_engine.specs.declared.plan.RunPlan.{RunPlan}
use Rattle.run_engine.specs.declared.shared.Shared.{Shared}
use Rattle.run_engine.specs.declared.crew.Crew.{Crew}
use Rattle.run_engine.specs.declared.parts.Parts.{Parts}
use Rattle.run_engine.specs.Quotas.{IsInPlan, first_plan, second_plan}

-- the cache, the table and the queue are of one run of this plan, with so many names
pub record IsShared (plan : RunPlan) (names : ℕ) (shared : Shared) : Type 0 where
  pub sizes : (shared.cache.lock.home.slabs ≡ plan.slabs) × (shared.cache.lock.home.chunks ≡ plan.chunks)
  pub cells : length (buffers_at shared.cache).cells ≡ plan.slabs * plan.chunks
  pub moves : length (buffers_at shared.cache).moves ≡ 64
  pub seats : shared.cache.lock.count ≡ plan.workers + 2
  pub places : shared.cache.depot.places ≡ 2 * plan.workers
  pub home : buffers_at shared.cache ≡ shared.table.home.cache
  pub names_are : shared.table.home.names ≡ names
  pub workers : shared.table.home.workers ≡ plan.workers
  pub passes : shared.table.count ≡ plan.workers + 2
  pub jobs : shared.queue.terms.home ≡ buffers_at shared.cache
  pub pushes : shared.queue.terms.quotas ≡ 64 * plan.scans
  pub movers : shared.queue.terms.seats ≡ 2

-- the number of a worker's pass, in the table and in the cache
abbrev pub pass_of : Worker → ℕ
pass_of w = w.session.pass.number

-- a worker that hasn't begun: it has its commands of these lines
pub record IsStarting (shared : Shared) (lines : List Line) (w : Worker) : Type 0 where
  pub ready : IsReady shared.table shared.cache w
  pub number : w.number ≡ worker_of (pass_of w)
  pub commands : w.commands.items ≡ commands_of (worker_of (pass_of w)) lines
  pub seat : w.seat.pass.number ≡ pass_of w

-- a mover that hasn't begun, with this plan and pass
pub record IsWaiting (shared : Shared) (pass : ℕ) (plan : MoverPlan) (t : MoverTask) : Type 0 where
  pub ready : IsReadyMover shared.table shared.cache shared.queue t
  pub plan_is : t.plan ≡ plan
  pub seat : t.seat.pass.number ≡ pass
  pub mover : t.mover.pass.number ≡ pass

-- there is a worker for each pass from 0 on, and then come the two movers
pub record IsReadyCrew (plan : RunPlan) (lines : List Line) (shared : Shared) (crew : Crew) : Type 0 where
  pub workers : All (IsStarting shared lines) crew.workers.items
  pub passes : map pass_of crew.workers.items ≡ range_with_len 0 plan.workers
  pub some : 0 < length crew.workers.items
  pub first : IsWaiting shared plan.workers (first_plan plan) crew.first
  pub second : IsWaiting shared (plan.workers + 1) (second_plan plan) crew.second

-- there is room for what the workers and movers are made of
pub record IsRoomy (plan : RunPlan) (parts : Parts) : Type 0 where
  pub none : (parts.sessions.items ≡ []) × (parts.movers.items ≡ []) × (parts.seats.items ≡ []) × (parts.places.items ≡ []) × (parts.moves.items ≡ [])
  pub sessions : plan.workers ≤ vec_capacity parts.sessions
  pub movers : 2 ≤ vec_capacity parts.movers
  pub seats : plan.workers + 2 ≤ vec_capacity parts.seats
  pub places : 2 ≤ vec_capacity parts.places
  pub moves : 2 ≤ vec_capacity parts.moves

-- a run of this plan over this script, which hasn't begun
pub record IsOpen (plan : RunPlan) (script : Plain) (shared : Shared) (crew : Crew) (parts : Parts) (page : List ℕ) : Type 0 where
  pub in_plan : IsInPlan plan
  pub of : IsScript plan.workers script
  pub shared_is : IsShared plan (length script.names) shared
  pub crew_is : IsReadyCrew plan script.lines shared crew
  pub roomy : IsRoomy plan parts
  pub page_is : page ≡ []

-- what contracts see of it
pub record RunView : Type 0 where
  pub plan : RunPlan
  pub script : Plain
