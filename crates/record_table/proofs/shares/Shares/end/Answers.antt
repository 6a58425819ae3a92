use Rattle.std.proofs.Common.{ap, sym, ◌∙◌}
use Rattle.record_table.specs.Shares.{SharesState}
use Rattle.record_table.proofs.Sums.{none_out}
use Rattle.record_table.proofs.shares.Shares.end.Goals as goal

pub returns : goal.returns
returns c = λ none.
    let is = c.self.view_is in
    let both = none_out c.self.inside.stubs.items (ap (λ (s : SharesState). s.out) is ∙ none) in
    (sym (ap (λ (s : SharesState). s.brought) is) ∙ both.0, sym (ap (λ (s : SharesState). s.fetched) is) ∙ both.1)
