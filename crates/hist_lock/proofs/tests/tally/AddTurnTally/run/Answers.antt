use Rattle.hist_lock.proofs.Tallies.{tally_fits}
use Rattle.std.proofs.Common.{arith}
use Rattle.hist_lock.proofs.tests.tally.AddTurnTally.run.Goals as goal

pub overflow_add-object : goal.overflow_add-object
overflow_add-object c =
    let t = c.args.object.now in let h = c.requires.0 in let can = c.requires.2 in let fits = tally_fits t.sum t.adds t.most c.args.self.0 h c.requires.1 can.0 can.1 in
    omega (arith, c.from.ensures)
