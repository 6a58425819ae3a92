use Rattle.std.proofs.Common.{◌≡◌, ◌+◌, ◌<◌, refl, sym, ap, ◌∙◌, subst, arith}
use Rattle.kmem_text.specs.declared.command.Command.TheVariants.{Hold}
use Rattle.std.specs.Option.{IfSome}
use Rattle.record_table.specs.Sessions.{SessionState, session_of}
use Rattle.record_table.specs.Tables.{TableHome}
use Rattle.hist_lock.specs.Passes.{Site}
use Rattle.record_table.specs.Holds.{IsHeldBy}
use Rattle.record_table.specs.Runs.{HasCarriedOutAlone}
use Rattle.record_table.proofs.Runs.{IsAlone, alone_next, alone_done, did_hold}
use Rattle.record_table.proofs.session.Session.hold.Given.{Over}
use Rattle.record_table.proofs.session.Session.hold.Goals as goal

did : (g : Over) (c : goal.After-self-1 g) → IsAlone (Hold c.args.tag c.args.name) c.run_hold-reply.result.0 (session_of c.self.inside.pass c.self.inside.made c.self.inside.holds.items c.self.inside.share) (session_of c.run_hold-reply.new.pass (c.self.inside.made + 1) c.keep.new.holds.items c.self.inside.share)
did g c =
    let of : c.self.inside.pass.site ≡ c.args.table.now = ap (λ (s : SessionState). s.pass.site) c.self.view_is ∙ c.requires.can.of in
    let low : c.args.tag < 8 = omega arith in
    did_hold (session_of c.self.inside.pass c.self.inside.made c.self.inside.holds.items c.self.inside.share) (session_of c.run_hold-reply.new.pass (c.self.inside.made + 1) c.keep.new.holds.items c.self.inside.share) _ c.self.invariant c.args.tag c.args.name c.run_hold-reply.result.0 c.run_hold-reply.result.1 low c.run_hold-reply.ensures.added refl
    c.run_hold-reply.ensures.done.0 c.run_hold-reply.ensures.done.1
    (subst (λ (site : Site TableHome). IfSome c.run_hold-reply.result.1 (IsHeldBy site.home c.self.inside.pass.number c.args.tag)) (sym of) c.run_hold-reply.ensures.given)
    c.keep.ensures refl

pub invariant_of-self : goal.invariant_of-self
invariant_of-self g c = alone_next (Hold c.args.tag c.args.name) c.run_hold-reply.result.0 (session_of c.self.inside.pass c.self.inside.made c.self.inside.holds.items c.self.inside.share) (session_of c.run_hold-reply.new.pass (c.self.inside.made + 1) c.keep.new.holds.items c.self.inside.share) _ c.self.invariant (did g c)

pub returns : goal.returns
returns g c = record {
  done = subst (λ (s : SessionState). HasCarriedOutAlone (Hold c.args.tag c.args.name) c.run_hold-reply.result.0 s (session_of c.run_hold-reply.new.pass (c.self.inside.made + 1) c.keep.new.holds.items c.self.inside.share)) c.self.view_is (alone_done (Hold c.args.tag c.args.name) c.run_hold-reply.result.0 (session_of c.self.inside.pass c.self.inside.made c.self.inside.holds.items c.self.inside.share) (session_of c.run_hold-reply.new.pass (c.self.inside.made + 1) c.keep.new.holds.items c.self.inside.share) _ c.self.invariant (did g c));
}
