use Rattle.std.proofs.Common.{ap, is_some, nat_lt, ◌∙◌}
use Rattle.std.specs.List.{list_any}
use Rattle.object_cache.proofs.Lists.{any_counted}
use Rattle.object_cache.proofs.moves.Moves.is_any.Goals as goal

pub returns : goal.returns
returns c =
    ap (nat_lt 0) c.self.invariant.counted
    ∙ (any_counted is_some c.self.inside.pending.items ∙ ap (λ m. list_any is_some m.pending) c.self.view_is)
