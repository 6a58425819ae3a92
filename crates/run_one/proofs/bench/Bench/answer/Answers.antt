use Rattle.std.proofs.Common.{sym, ◌∙◌, subst}
use Rattle.std.proofs.lemmas.Bool.{cond-true}
use Rattle.kmem_model.specs.One.{one_step}
use Rattle.kmem_model.specs.OneRun.{OneRun, settled_run, is_settle_due}
use Rattle.run_one.specs.Bench.{RunsAt}
use Rattle.run_one.proofs.bench.Bench.answer.Goals as goal

pub returns-then-is_settle_due-clause-answers : goal.returns-then-is_settle_due-clause-answers
returns-then-is_settle_due-clause-answers c = λ run at.
    let line = c.args.line.now in
    let done = c.carry_out-reply.ensures.carried_out in
    let out = done.out run.state at.stands in
    let next : OneRun = record run { state = (one_step run.state line.worker line.command).state } in
    record {
      replies = out.replies;
      runs = subst (λ (r : OneRun). RunsAt r c.settle.new.self)
          (sym (cond-true (is_settle_due c.args.every c.args.number) (settled_run next) next (sym c.is_settle_due.ensures ∙ c.if-is_settle_due.true)))
          (c.settle.ensures.settled next (record { stands = out.stands; settled = done.settled ∙ at.settled }));
    }
