use Rattle.std.proofs.Common.{◌≡◌, Err, rules}
use Rattle.run_check.proofs.Verdict.{counted_bad}
use Rattle.run_serve.proofs.serving.open_run.Goals as goal

pub returns-in_err-script-clause-counted : goal.returns-in_err-script-clause-counted
returns-in_err-script-clause-counted c =
    let failed : c.from_residual.result ≡ Err c.in_err-script.field-0.0 = search rules in
    counted_bad c.args.plan.workers c.args.bytes.now c.from_residual.result c.in_err-script.field-0.0 failed c.in_err-script.ensures.fault
