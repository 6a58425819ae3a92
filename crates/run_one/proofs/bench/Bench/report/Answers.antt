use Rattle.std.proofs.Common.{◌≡◌, sym, ap, ◌∙◌, subst}
use Rattle.std.proofs.lemmas.Result.{on_ok_weaker}
use Rattle.std.specs.Io.KnownBytes.{Appends}
use Rattle.kmem_io.specs.Streams.{AppendsFront}
use Rattle.kmem_model.specs.Report.{Report, report_text}
use Rattle.kmem_model.specs.OneRun.{OneRun, report_of}
use Rattle.kmem_model.specs.Report.{ends_in}
use Rattle.kmem_model.specs.SettleEntries.{moves_entries}
use Rattle.kmem_report.specs.Reported.{counts_of, reported}
use Rattle.consolidator.specs.Tallies.{tally_of}
use Rattle.run_one.specs.Bench.{RunsAt}
use Rattle.run_one.proofs.Reports.{counts_are, report_is}
use Rattle.run_one.proofs.bench.Bench.report.Given.{Over}
use Rattle.run_one.proofs.bench.Bench.report.Goals as goal

same : (g : Over) (c : goal.After-write_report g) (run : OneRun) → RunsAt run c.args.self.now → reported c.live-live.result 0 c.no_moves.result c.self.inside.settled c.self.inside.cache.state ≡ report_of run
same g c run given =
    let at = subst (RunsAt run) (sym c.self.view_is) given in
    report_is run c.live-live.result c.no_moves.result c.self.inside.settled c.self.inside.cache.state
    (c.live-live.ensures.live run.state.map run.state.addresses at.stands.stands.stands) c.no_moves.ensures
    (ap counts_of at.settled ∙ counts_are (tally_of run.moves) (ends_in (moves_entries run.moves)) (c.law_tally.ensures.yes run.moves) (c.law_tally.ensures.no run.moves) (c.law_tally.ensures.later run.moves) (c.law_tally.ensures.dont_need run.moves) (c.law_tally.ensures.dont_know run.moves) (c.law_tally.ensures.gone run.moves))
    at.stands.cache

pub returns-clause-whole : goal.returns-clause-whole
returns-clause-whole g c = on_ok_weaker c.write_report.result (λ whole run given.
    subst (λ (r : Report). Appends (g.W.Sink.written c.args.out.now) (g.W.Sink.written c.write_report.new.out) (report_text r)) (same g c run given) whole) c.write_report.ensures.whole

pub returns-clause-front : goal.returns-clause-front
returns-clause-front g c = λ run given.
    subst (λ (r : Report). AppendsFront (g.W.Sink.written c.args.out.now) (g.W.Sink.written c.write_report.new.out) (report_text r)) (same g c run given) c.write_report.ensures.front
