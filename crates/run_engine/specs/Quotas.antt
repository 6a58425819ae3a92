-- How many entries and pushes each part of a run may make, and which scans each mover makes (this project's own rule).
use Rattle.std.specs.Prelude.{ℕ, ◌+◌, ◌*◌, ◌<◌, ◌≤◌, ◌/◌, true, false, List, [], ◌∷◌, ◌++◌, length, map}
use Rattle.std.specs.List.{range_with_len}
use Rattle.kmem_text.specs.declared.command.Line.{Line}
use Rattle.kmem_model.specs.History.{commands_of}
use Rattle.consolidator.specs.declared.driving.MoverPlan.{MoverPlan}
use Rattle.run_engine.specs.declared.plan.RunPlan.{RunPlan}

-- the plan is within the limits
pub record IsInPlan (plan : RunPlan) : Type 0 where
  pub slabs : (0 < plan.slabs) × (plan.slabs ≤ 4096)
  pub chunks : (0 < plan.chunks) × (plan.chunks ≤ 64)
  pub buffers : plan.slabs * plan.chunks ≤ 65536
  pub workers : (0 < plan.workers) × (plan.workers ≤ 16)
  pub scans : (0 < plan.scans) × (plan.scans ≤ 1000)

-- how many commands each worker has
abbrev pub command_counts : ℕ → List Line → List ℕ
command_counts workers lines = map (λ w. length (commands_of w lines)) (range_with_len 1 workers)

-- two entries of the cache's history a command
abbrev pub worker_entries : List ℕ → List ℕ
worker_entries counts = map (λ n. 2 * n) counts

-- each mover: for each scan of the run 1 for the scan, 64 for moves that begin or an idle, 1 to spare, 64 for jobs handed back and 64 for
-- jobs popped; and 8 for each place of the depot, of which there are two a worker
abbrev pub mover_entries : RunPlan → ℕ
mover_entries plan = 194 * plan.scans + 16 * plan.workers

-- those of all workers, and of the two movers
abbrev pub cache_quotas : RunPlan → List ℕ → List ℕ
cache_quotas plan counts = worker_entries counts ++ mover_entries plan ∷ mover_entries plan ∷ []

-- the first mover makes the odd scans, the second the even ones
abbrev pub odd_scans : ℕ → ℕ
odd_scans scans = (scans + 1) / 2

abbrev pub even_scans : ℕ → ℕ
even_scans scans = scans / 2

-- the first mover reaps full magazines before its last scan
abbrev pub first_plan : RunPlan → MoverPlan
first_plan plan = record { mover = plan.workers + 1; first = 1; scans = odd_scans plan.scans; desperate = plan.desperate; reaps = true }

abbrev pub second_plan : RunPlan → MoverPlan
second_plan plan = record { mover = plan.workers + 2; first = 2; scans = even_scans plan.scans; desperate = plan.desperate; reaps = false }

-- each scan pushes at most 64 moves
abbrev pub queue_quotas : RunPlan → List ℕ
queue_quotas plan = 64 * odd_scans plan.scans ∷ 64 * even_scans plan.scans ∷ []
