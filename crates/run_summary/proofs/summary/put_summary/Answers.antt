use Rattle.std.proofs.Common.{◌++◌, codes, ap, ap₂, ◌∙◌}
use Rattle.kmem_model.specs.Report.{number_line}
use Rattle.run_summary.specs.Summary.{count_of}
use Rattle.run_summary.specs.Counts.{counts_text}
use Rattle.run_summary.proofs.Counting.{kinds_text}
use Rattle.run_summary.proofs.summary.put_summary.Goals as goal

pub returns-clause-text : goal.returns-clause-text
returns-clause-text c =
    let counted = ap counts_text c.count.ensures ∙ kinds_text (λ kind. count_of kind c.args.entries.now) in
    let before = c.put_counts-end.ensures.text ∙ ap₂ (λ front lines. front ++ lines) c.put_line-end.ensures.text counted in
    c.put_line.ensures.text ∙ ap₂ (λ front n. front ++ number_line (codes "live") n) before c.from.ensures
