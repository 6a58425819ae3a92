use Rattle.std.proofs.Common.{◌≡◌}
use Rattle.depot.specs.Depot.{WasRefused}
use Rattle.depot.proofs.Tries.{counts_taken}
use Rattle.depot.proofs.shared_depot.Depot.swap_for_full.Goals as goal

pub returns-clause-count : goal.returns-clause-count
returns-clause-count g c =
    let depot = c.args.self.now in let old = c.args.seat.now in let new = c.swap.new.seat in
    counts_taken g.K.Kind.constructed depot.home depot.places old new (λ back. (back ≡ c.args.empty) × WasRefused depot.places 1 old new) c.args.empty c.requires.empty c.swap.result c.swap.ensures
