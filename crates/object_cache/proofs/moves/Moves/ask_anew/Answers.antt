use Rattle.object_cache.proofs.Tracked.{anew}
use Rattle.object_cache.proofs.moves.Moves.ask_anew.Goals as goal

pub invariant_of-self : goal.invariant_of-self
invariant_of-self g c =
    let f = c.self.inside in
    anew f.stubs.items f.pending.items f.asked c.ask_none.new.asked f.count c.self.invariant c.ask_none.ensures.asked
