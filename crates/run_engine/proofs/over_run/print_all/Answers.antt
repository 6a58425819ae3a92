use Rattle.std.proofs.Common.{ℕ, List, subst}
use Rattle.std.specs.Io.KnownBytes.{Appends}
use Rattle.std.specs.Result.{OnOk}
use Rattle.kmem_io.specs.Streams.{AppendsFront}
use Rattle.kmem_model.specs.declared.record_entry.RecordEntry.{RecordEntry}
use Rattle.kmem_model.specs.RunLines.{replies_at, run_lines, as_lines, run_text}
use Rattle.kmem_model.specs.Report.{report_text}
use Rattle.kmem_report.specs.Reported.{reported}
use Rattle.kmem_report.proofs.Left.{front_of_head, front_behind, whole_behind}
use Rattle.run_engine.proofs.over_run.print_all.Goals as goal

pub returns-in_err-print_run-clause-front : goal.returns-in_err-print_run-clause-front
returns-in_err-print_run-clause-front g c =
    let counts = c.args.counts.now in
    let report = report_text (reported counts.live c.args.plan.now.scans counts.moves counts.settled c.args.slabs.now.state) in
    subst
    (λ (es : List (ℕ × RecordEntry)).
    AppendsFront (g.W.Sink.written c.args.out.now) (g.W.Sink.written c.print_run.new.out) (run_text c.args.plan.now.workers c.args.script.now.names.items es report))
    c.entries.ensures
    (front_of_head (g.W.Sink.written c.args.out.now) (g.W.Sink.written c.print_run.new.out)
    (as_lines (run_lines c.args.plan.now.workers c.args.script.now.names.items (replies_at c.entries.result.now))) report c.print_run.ensures.front)

pub returns-clause-whole : goal.returns-clause-whole
returns-clause-whole g c =
    let counts = c.args.counts.now in
    let report = report_text (reported counts.live c.args.plan.now.scans counts.moves counts.settled c.args.slabs.now.state) in
    subst
    (λ (es : List (ℕ × RecordEntry)).
    OnOk c.write_report.result
    (Appends (g.W.Sink.written c.args.out.now) (g.W.Sink.written c.write_report.new.out) (run_text c.args.plan.now.workers c.args.script.now.names.items es report)))
    c.entries.ensures
    (whole_behind (g.W.Sink.written c.args.out.now) (g.W.Sink.written c.print_run.new.out) (g.W.Sink.written c.write_report.new.out)
    (as_lines (run_lines c.args.plan.now.workers c.args.script.now.names.items (replies_at c.entries.result.now))) report c.write_report.result
    c.in_ok-print_run.ensures.whole c.write_report.ensures.whole)

pub returns-clause-front : goal.returns-clause-front
returns-clause-front g c =
    let counts = c.args.counts.now in
    let report = report_text (reported counts.live c.args.plan.now.scans counts.moves counts.settled c.args.slabs.now.state) in
    subst
    (λ (es : List (ℕ × RecordEntry)).
    AppendsFront (g.W.Sink.written c.args.out.now) (g.W.Sink.written c.write_report.new.out) (run_text c.args.plan.now.workers c.args.script.now.names.items es report))
    c.entries.ensures
    (front_behind (g.W.Sink.written c.args.out.now) (g.W.Sink.written c.print_run.new.out) (g.W.Sink.written c.write_report.new.out)
    (as_lines (run_lines c.args.plan.now.workers c.args.script.now.names.items (replies_at c.entries.result.now))) report c.in_ok-print_run.ensures.whole
    c.write_report.ensures.front)
