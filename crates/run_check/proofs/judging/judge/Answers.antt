use Rattle.std.proofs.Common.{◌≡◌, Err, rules, ◌∙◌, sym}
use Rattle.kmem_text.specs.Scripts.{plain}
use Rattle.run_check.specs.Cursor.{lines_in}
use Rattle.run_check.proofs.ShareLists.{on_ok}
use Rattle.run_check.proofs.Verdict.{same_script, has_script, legal_is, first_is, due_on, counted_by, counted_bad}
use Rattle.run_check.proofs.judging.judge.Goals as goal

pub returns-clause-legal : goal.returns-clause-legal
returns-clause-legal c =
    let bytes = c.args.bytes.now in
    let cut = c.cut_script.ensures in
    let read = c.in_ok-script.ensures in
    let script = plain c.in_ok-script.script in
    on_ok c.check_run.result _ _
    (legal_is c.args.workers bytes (lines_in c.cut_script.result.1.rest.now) script (has_script c.args.workers bytes c.cut_script.result.0.now script c.requires.size cut.script read.script read.good read.whole)
    (same_script c.args.workers bytes c.cut_script.result.0.now script cut.script read.script) cut.run)
    c.check_run.ensures.stand

pub returns-clause-due : goal.returns-clause-due
returns-clause-due c =
    let bytes = c.args.bytes.now in
    let cut = c.cut_script.ensures in
    let read = c.in_ok-script.ensures in
    let script = plain c.in_ok-script.script in
    due_on c.args.workers bytes c.check_run.result _
    (λ line h. (
      has_script c.args.workers bytes c.cut_script.result.0.now script c.requires.size cut.script read.script read.good read.whole,
      first_is c.args.workers bytes (lines_in c.cut_script.result.1.rest.now) script c.cut_script.result.1.taken line (same_script c.args.workers bytes c.cut_script.result.0.now script cut.script read.script) cut.run cut.taken h,
    ))
    c.check_run.ensures.illegal

pub returns-in_err-script-clause-counted : goal.returns-in_err-script-clause-counted
returns-in_err-script-clause-counted c =
    let failed : c.from_residual.result ≡ Err c.in_err-script.field-0.0 = search rules in
    counted_bad c.args.workers c.cut_script.result.0.now c.from_residual.result c.in_err-script.field-0.0 failed c.in_err-script.ensures.fault

pub returns-clause-counted : goal.returns-clause-counted
returns-clause-counted c = counted_by c.args.workers c.args.bytes.now c.check_run.result (returns-clause-due c)
