use Rattle.std.proofs.Common.{arith}
use Rattle.hist_lock.specs.Rule.{bounds_of}
use Rattle.hist_lock.proofs.deal.deal_one.Goals as goal

pub split-seat-requires-clause-deals : goal.split-seat-requires-clause-deals
split-seat-requires-clause-deals g c =
    let d = c.requires.deals in
    (c.args.number, bounds_of g.O.Told.home c.args.terms.now, d.idle, d.no_claims, d.dealt_is, d.bounds_is, c.requires.fits.0, omega (arith, c.requires.quota))
