use Rattle.std.proofs.Common.{◌≡◌, ◌≢◌, ◌<◌, ◌∷◌, ℕ, List}
use Rattle.kmem_model.specs.declared.record_entry.RecordEntry.{RecordEntry}
use Rattle.kmem_model.specs.RunLines.{place_line}
use Rattle.kmem_model.specs.Checked.{answered}
use Rattle.run_check.specs.Shares.{left_in}
use Rattle.run_check.proofs.history.find_share.Given as goal

-- the line is the place of no pass's next entry so far
abbrev pub invariant-loop-pass : goal.invariant-loop-pass
invariant-loop-pass l = (pass : ℕ) → pass < l.pass → (e : RecordEntry) (rest : List RecordEntry) → left_in l.shares pass ≡ e ∷ rest → l.line ≢ place_line (answered (pass, e))
