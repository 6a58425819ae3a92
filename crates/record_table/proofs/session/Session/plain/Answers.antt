use Rattle.std.proofs.Common.{◌+◌, refl, subst}
use Rattle.record_table.specs.Sessions.{SessionState, session_of}
use Rattle.record_table.specs.Runs.{HasCarriedOutAlone}
use Rattle.record_table.proofs.Runs.{IsAlone, alone_next, alone_done, did_plain}
use Rattle.record_table.proofs.session.Session.plain.Given.{Over}
use Rattle.record_table.proofs.session.Session.plain.Goals as goal

did : (g : Over) (c : goal.After-self-1 g) → IsAlone (c.args.command.now) c.run_plain-reply.result (session_of c.self.inside.pass c.self.inside.made c.self.inside.holds.items c.self.inside.share) (session_of c.run_plain-reply.new.pass (c.self.inside.made + 1) c.self.inside.holds.items c.self.inside.share)
did g c = did_plain (session_of c.self.inside.pass c.self.inside.made c.self.inside.holds.items c.self.inside.share) (session_of c.run_plain-reply.new.pass (c.self.inside.made + 1) c.self.inside.holds.items c.self.inside.share) _ c.self.invariant c.args.command.now c.run_plain-reply.result c.requires.plain c.run_plain-reply.ensures.added refl refl refl

pub invariant_of-self : goal.invariant_of-self
invariant_of-self g c = alone_next (c.args.command.now) c.run_plain-reply.result (session_of c.self.inside.pass c.self.inside.made c.self.inside.holds.items c.self.inside.share) (session_of c.run_plain-reply.new.pass (c.self.inside.made + 1) c.self.inside.holds.items c.self.inside.share) _ c.self.invariant (did g c)

pub returns : goal.returns
returns g c = record {
  done = subst (λ (s : SessionState). HasCarriedOutAlone (c.args.command.now) c.run_plain-reply.result s (session_of c.run_plain-reply.new.pass (c.self.inside.made + 1) c.self.inside.holds.items c.self.inside.share)) c.self.view_is (alone_done (c.args.command.now) c.run_plain-reply.result (session_of c.self.inside.pass c.self.inside.made c.self.inside.holds.items c.self.inside.share) (session_of c.run_plain-reply.new.pass (c.self.inside.made + 1) c.self.inside.holds.items c.self.inside.share) _ c.self.invariant (did g c));
}
