use Rattle.kmemrun.specs.Runs.{stream}
use Rattle.kmemrun.proofs.Running.{ok_ends, err_ends}
use Rattle.kmemrun.proofs.top.carry_out_run.Goals as goal

pub returns-in-Ok-clause-ends : goal.returns-in-Ok-clause-ends
returns-in-Ok-clause-ends g c =
    let s = c.in-Ok.ensures in
    ok_ends c.args.plan (stream g.R.Source.left g.R.Source.faults c.args.input.now c.serve.new.input) (stream g.W.Sink.written g.W.Sink.faults c.args.out.now c.serve.new.out) c.in-Ok.ran
    (record {
      ran = s.ran;
      text = s.text;
      end = s.end;
      read = s.read;
      write = s.write;
      fault = s.fault;
      counted = s.counted;
      none_illegal = s.none_illegal;
      due = s.due;
      fine = s.fine;
      front = s.front;
      untouched = s.untouched;
    })

pub returns-in-Err-clause-ends : goal.returns-in-Err-clause-ends
returns-in-Err-clause-ends g c =
    let s = c.in-Err.ensures in
    err_ends c.args.plan (stream g.R.Source.left g.R.Source.faults c.args.input.now c.serve.new.input) (stream g.W.Sink.written g.W.Sink.faults c.args.out.now c.serve.new.out) c.in-Err.fault
    (record {
      ran = s.ran;
      text = s.text;
      end = s.end;
      read = s.read;
      write = s.write;
      fault = s.fault;
      counted = s.counted;
      none_illegal = s.none_illegal;
      due = s.due;
      fine = s.fine;
      front = s.front;
      untouched = s.untouched;
    })
