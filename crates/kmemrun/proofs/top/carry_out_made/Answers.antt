use Rattle.std.proofs.Common.{ℕ, Ok, Err, subst}
use Rattle.kmemrun.specs.Runs.{stream}
use Rattle.kmemrun.proofs.Making.{MakingRun, ok_made, err_made}
use Rattle.kmemrun.proofs.top.carry_out_made.Goals as goal

pub returns-in-Ok-clause-ends : goal.returns-in-Ok-clause-ends
returns-in-Ok-clause-ends g c =
    let left = g.R.Source.left c.args.input.now in
    let faults = g.R.Source.faults c.args.input.now in
    let s = c.in-Ok.ensures in
    let out = stream g.W.Sink.written g.W.Sink.faults c.args.out.now c.made.new.out in
    ok_made c.args.seed c.args.workers c.args.commands out left faults c.in-Ok.ran
    (subst (λ (seed : ℕ). MakingRun seed c.args.workers c.args.commands out (Ok c.in-Ok.ran)) c.from.ensures
    (record {
      ran = s.ran;
      text = s.text;
      write = s.write;
      fault = s.fault;
      front = s.front;
      untouched = s.untouched;
    }))

pub returns-in-Err-clause-ends : goal.returns-in-Err-clause-ends
returns-in-Err-clause-ends g c =
    let left = g.R.Source.left c.args.input.now in
    let faults = g.R.Source.faults c.args.input.now in
    let s = c.in-Err.ensures in
    let out = stream g.W.Sink.written g.W.Sink.faults c.args.out.now c.made.new.out in
    err_made c.args.seed c.args.workers c.args.commands out left faults c.in-Err.fault
    (subst (λ (seed : ℕ). MakingRun seed c.args.workers c.args.commands out (Err c.in-Err.fault)) c.from.ensures
    (record {
      ran = s.ran;
      text = s.text;
      write = s.write;
      fault = s.fault;
      front = s.front;
      untouched = s.untouched;
    }))
