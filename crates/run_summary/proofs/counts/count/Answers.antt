use Rattle.std.proofs.Common.{sym, ap, ◌∙◌}
use Rattle.std.proofs.lemmas.List.{take_all}
use Rattle.run_summary.specs.Counts.{counts_in, counted}
use Rattle.run_summary.proofs.Counting.{counts_more}
use Rattle.run_summary.proofs.counts.count.Goals as goal

pub loop-entry-preserved : goal.loop-entry-preserved
loop-entry-preserved c =
    c.add.ensures
    ∙ (ap (λ counts. counted counts c.entry-item.result.1.reply) c.loop-entry.invariant
    ∙ sym (counts_more c.args.entries.now c.loop-entry.entry-index c.entry-item.result c.loop-entry-test.true c.entry-item.is))

pub returns : goal.returns
returns c = c.loop-entry.invariant ∙ ap counts_in (take_all c.loop-entry.entry-index c.args.entries.now c.loop-entry-test.false)
