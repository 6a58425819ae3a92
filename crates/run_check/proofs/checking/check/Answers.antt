use Rattle.std.proofs.Common.{◌≡◌, Err, rules, sym, subst, ◌∙◌}
use Rattle.run_check.proofs.Verdict.{if_some, all_read, due_is}
use Rattle.run_check.proofs.checking.check.Goals as goal

pub returns-in_err-judge-clause-due : goal.returns-in_err-judge-clause-due
returns-in_err-judge-clause-due g c = if_some (g.R.Source.left c.args.input.now) _ (λ bytes is due found.
    let failed : c.from_residual-in_err-judge.result ≡ Err c.in_err-judge.field-0.0 = search rules in
    let read = all_read (g.R.Source.left c.args.input.now) (g.R.Source.left c.read_input.new.input) c.in_ok-bytes.bytes.items bytes c.in_ok-bytes.ensures.bytes c.in_ok-bytes.ensures.end is in
    due_is c.args.workers bytes c.deref.result.now c.from_residual-in_err-judge.result c.in_err-judge.field-0.0 due failed (c.deref.ensures.value ∙ read) c.in_err-judge.ensures.due found)
