-- A run of `one` that was opened and hasn't begun (this project's own).
use Rattle.std.specs.Prelude.{◌≡◌, ℕ, List, All, length}
use Rattle.kmem_text.specs.Grammar.{Plain}
use Rattle.kmem_text.specs.Scripts.{IsScript}
use Rattle.kmem_model.specs.OneRun.{run_start}
use Rattle.run_one.specs.Bench.{BenchView, RunsAt, IsGoodLine}

-- the bench is as one of these sizes starts, with a name for each of the script's, and there is room for a page
pub record IsOpenOne (slabs chunks : ℕ) (script : Plain) (bench : BenchView) (page : List ℕ) : Type 0 where
  pub of : IsScript 16 script
  pub bench_is : RunsAt (run_start slabs chunks (length script.names)) bench
  pub names : length bench.heap.heap.names ≡ length script.names
  pub within : All (IsGoodLine (length script.names)) script.lines
  pub page_is : length page ≡ 65536
