use Rattle.std.proofs.Common.{arith}
use Rattle.hist_lock.specs.Rule.{bounds_of}
use Rattle.hist_lock.proofs.Shares.{deals_one}
use Rattle.hist_lock.proofs.steps.split.Goals as goal

pub split_seat-requires : goal.split_seat-requires
split_seat-requires g c =
    let told = g.O.Told in let line = c.args.line.now in let seat = c.args.dealer.now in
    (c.requires.of.0, omega (arith, c.requires.of.1), deals_one (bounds_of told.home line.key) told.stands told.home seat.id seat.me.0 c.requires.deals.0 g.Q.Quota.quota c.requires.deals.1 c.requires.deals.2 c.requires.deals.3 c.requires.deals.4 c.requires.deals.5 c.requires.deals.6 c.requires.deals.7)
