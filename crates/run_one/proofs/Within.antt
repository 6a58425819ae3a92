-- What holds while lines are carried out, and while leftovers are freed.
use Rattle.std.specs.Prelude.{ℕ, ◌≡◌, ◌≤◌, ◌+◌, ◌++◌, Bool, false, List, [], Option, None, count_by, take, drop}
use Rattle.kmem_text.specs.declared.command.Line.{Line}
use Rattle.kmem_model.specs.Heap.{places_of}
use Rattle.kmem_model.specs.History.{IsFullExactly}
use Rattle.kmem_model.specs.One.{OneState, buffers_of, least_leftover}
use Rattle.kmem_model.specs.OneRun.{OneRun, lines_run, replies, reply_lines, history_of, without_leftovers}
use Rattle.run_one.specs.Bench.{BenchView, StandsAt, RunsAt}
use Rattle.run_one.specs.Pages.{MovesOut}

-- what is left after some leftovers were freed, and that freeing the rest leaves what freeing all does
pub record IsFreeing (s : OneState) (b : BenchView) (more : Bool) : Type 0 where
  pub n : ℕ
  pub state : OneState
  pub stands : StandsAt state b
  pub fuel : count_by (λ x. x) (places_of b.heap.heap.objects) ≤ n
  pub same : without_leftovers n state ≡ without_leftovers (buffers_of s.cache) s
  pub last : more ≡ false → least_leftover state ≡ None

-- within the lines: the replies to the first i lines were put out, or stand in the page, and those to the rest are as the bench runs on
pub record IsOnPage (every : Option ℕ) (names : List (List ℕ)) (lines : List Line) (i : ℕ) (start : OneRun) (b : BenchView) (old now : Option (List ℕ)) (page : List ℕ) : Type 0 where
  pub run : OneRun
  pub runs : RunsAt run b
  pub written : MovesOut old now (reply_lines names (replies every 1 start lines)) (page ++ reply_lines names (replies every (i + 1) run (drop i lines)))
  pub rest : lines_run every 1 start lines ≡ lines_run every (i + 1) run (drop i lines)
  -- there are as many buffers; and `full` comes exactly where no room is, if it does so from here on
  pub buffers : buffers_of run.state.cache ≡ buffers_of start.state.cache
  pub full : IsFullExactly (buffers_of start.state.cache) run.state.map (history_of every (i + 1) run (take i lines) (drop i lines)) →
      IsFullExactly (buffers_of start.state.cache) start.state.map (history_of every 1 start [] lines)
