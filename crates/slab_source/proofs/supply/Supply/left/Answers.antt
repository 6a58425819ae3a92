use Rattle.std.proofs.Common.{sym, ap, ◌∙◌}
use Rattle.std.specs.FinSet as fin
use Rattle.slab_source.proofs.Places.{len-places}
use Rattle.slab_source.proofs.supply.Supply.left.Goals as goal

pub returns : goal.returns
returns c = c.self.invariant.3 ∙ sym (len-places c.self.inside.held.items) ∙ ap (λ s. fin.len s.held) c.self.view_is
