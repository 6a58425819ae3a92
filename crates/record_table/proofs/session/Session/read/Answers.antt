use Rattle.std.proofs.Common.{◌+◌, ◌<◌, Some, refl, sym, ap, ◌∙◌, subst, arith}
use Rattle.kmem_text.specs.declared.command.Command.TheVariants.{Read}
use Rattle.record_table.specs.Sessions.{SessionState, HasAdded, session_of, kept_at}
use Rattle.record_table.specs.Runs.{HasCarriedOutAlone}
use Rattle.record_table.proofs.Runs.{IsAlone, alone_next, alone_done, did_held, did_idle, put_back, none_there, held_of}
use Rattle.record_table.proofs.session.Session.read.Given.{Over}
use Rattle.record_table.proofs.session.Session.read.Goals as goal

did : (g : Over) (c : goal.After-self-1 g) → IsAlone (Read c.args.tag) c.run_read-reply.result.0 (session_of c.self.inside.pass c.self.inside.made c.self.inside.holds.items c.self.inside.share) (session_of c.run_read-reply.new.pass (c.self.inside.made + 1) c.keep.new.holds.items c.self.inside.share)
did g c =
    let there = sym c.take.ensures.taken ∙ c.in-Some.is in
    let low : c.args.tag < 8 = omega arith in
    let same = (held_of (session_of c.self.inside.pass c.self.inside.made c.self.inside.holds.items c.self.inside.share) _ c.self.invariant c.args.tag c.in-Some.hold low there).same in
    let added = subst (λ t. HasAdded c.self.inside.pass c.run_read-reply.new.pass (c.self.inside.made + 1) (Read t) c.run_read-reply.result.0) same c.run_read-reply.ensures.added in
    did_held (session_of c.self.inside.pass c.self.inside.made c.self.inside.holds.items c.self.inside.share) (session_of c.run_read-reply.new.pass (c.self.inside.made + 1) c.keep.new.holds.items c.self.inside.share) _ c.self.invariant (Read c.args.tag) c.run_read-reply.result.0 c.args.tag c.in-Some.hold refl refl refl there c.run_read-reply.ensures.met added refl
    (c.keep.ensures ∙ (ap (λ h. kept_at c.take.new.holds.items c.args.tag (Some h)) c.run_read-reply.ensures.hold
    ∙ (ap (λ hs. kept_at hs c.args.tag (Some c.in-Some.hold)) c.take.ensures.left ∙ put_back c.self.inside.holds.items c.args.tag c.in-Some.hold there))) refl

pub invariant_of-self : goal.invariant_of-self
invariant_of-self g c = alone_next (Read c.args.tag) c.run_read-reply.result.0 (session_of c.self.inside.pass c.self.inside.made c.self.inside.holds.items c.self.inside.share) (session_of c.run_read-reply.new.pass (c.self.inside.made + 1) c.keep.new.holds.items c.self.inside.share) _ c.self.invariant (did g c)

pub returns-in-Some : goal.returns-in-Some
returns-in-Some g c = record {
  done = subst (λ (s : SessionState). HasCarriedOutAlone (Read c.args.tag) c.run_read-reply.result.0 s (session_of c.run_read-reply.new.pass (c.self.inside.made + 1) c.keep.new.holds.items c.self.inside.share)) c.self.view_is (alone_done (Read c.args.tag) c.run_read-reply.result.0 (session_of c.self.inside.pass c.self.inside.made c.self.inside.holds.items c.self.inside.share) (session_of c.run_read-reply.new.pass (c.self.inside.made + 1) c.keep.new.holds.items c.self.inside.share) _ c.self.invariant (did g c));
}

did_none : (g : Over) (c : goal.After-self-in-None-1 g) → IsAlone (Read c.args.tag) c.run_idle-reply.result (session_of c.self.inside.pass c.self.inside.made c.self.inside.holds.items c.self.inside.share) (session_of c.run_idle-reply.new.pass (c.self.inside.made + 1) c.take.new.holds.items c.self.inside.share)
did_none g c =
    let none = sym c.take.ensures.taken ∙ c.in-None.is in
    did_idle (session_of c.self.inside.pass c.self.inside.made c.self.inside.holds.items c.self.inside.share) (session_of c.run_idle-reply.new.pass (c.self.inside.made + 1) c.take.new.holds.items c.self.inside.share) _ c.self.invariant (Read c.args.tag) c.run_idle-reply.result c.args.tag refl refl none c.run_idle-reply.ensures.idle c.run_idle-reply.ensures.added refl
    (c.take.ensures.left ∙ none_there c.self.inside.holds.items c.args.tag none) refl

pub invariant_of-self-in-None : goal.invariant_of-self-in-None
invariant_of-self-in-None g c = alone_next (Read c.args.tag) c.run_idle-reply.result (session_of c.self.inside.pass c.self.inside.made c.self.inside.holds.items c.self.inside.share) (session_of c.run_idle-reply.new.pass (c.self.inside.made + 1) c.take.new.holds.items c.self.inside.share) _ c.self.invariant (did_none g c)

pub returns-in-None : goal.returns-in-None
returns-in-None g c = record {
  done = subst (λ (s : SessionState). HasCarriedOutAlone (Read c.args.tag) c.run_idle-reply.result s (session_of c.run_idle-reply.new.pass (c.self.inside.made + 1) c.take.new.holds.items c.self.inside.share)) c.self.view_is (alone_done (Read c.args.tag) c.run_idle-reply.result (session_of c.self.inside.pass c.self.inside.made c.self.inside.holds.items c.self.inside.share) (session_of c.run_idle-reply.new.pass (c.self.inside.made + 1) c.take.new.holds.items c.self.inside.share) _ c.self.invariant (did_none g c));
}
