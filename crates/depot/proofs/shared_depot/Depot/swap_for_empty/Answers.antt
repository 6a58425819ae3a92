use Rattle.std.proofs.Common.{◌≡◌}
use Rattle.depot.specs.Depot.{WasRefused}
use Rattle.depot.proofs.Tries.{counts_put}
use Rattle.depot.proofs.shared_depot.Depot.swap_for_empty.Goals as goal

pub returns-clause-count : goal.returns-clause-count
returns-clause-count g c =
    let depot = c.args.self.now in let old = c.args.seat.now in let new = c.swap.new.seat in
    counts_put g.K.Kind.constructed depot.home depot.places old new (λ back. (back ≡ c.args.full) × WasRefused depot.places 0 old new) c.args.full c.requires.full c.swap.result c.swap.ensures
