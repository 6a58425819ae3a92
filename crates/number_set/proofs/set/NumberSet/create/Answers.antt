use Rattle.std.proofs.Common.{arith, ◌∙◌}
use Rattle.number_set.specs.Levels.{level_of}
use Rattle.number_set.proofs.Flags.{flag_is, length-flags}
use Rattle.number_set.proofs.Rising.{blank}
use Rattle.number_set.proofs.set.NumberSet.create.Goals as goal

pub returns-clause-room : goal.returns-clause-room
returns-clause-room c =
    let ws = level_of c.in_ok-empty_levels.field-0.items 0 in
    omega (arith, c.in_ok-empty_levels.ensures.room, length-flags ws)

pub returns-clause-empty : goal.returns-clause-empty
returns-clause-empty c =
    let ws = level_of c.in_ok-empty_levels.field-0.items 0 in
    λ n. flag_is ws n ∙ blank ws (c.in_ok-empty_levels.ensures.empty 0) n
