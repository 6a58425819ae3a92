use Rattle.std.proofs.Common.{◌∷◌, ◌++◌, [], map, ap, ◌∙◌, arith, append_assoc}
use Rattle.std.proofs.lemmas.List.Elements.{All-pop, All-push, All-same}
use Rattle.record_table.specs.Sessions.{SessionState, IsFreshSession}
use Rattle.record_table.specs.Openings.{IsFreshPass, IsFreshShare}
use Rattle.record_table.proofs.Ends.{made_more}
use Rattle.record_table.proofs.opening.all_sessions.Goals as goal

pub loop-pass-preserved : goal.loop-pass-preserved
loop-pass-preserved c =
    let inv = c.loop-pass.invariant in
    let done = inv.dealt.0 in
    let pass = c.in-Some.pass in
    let left = c.pop.new.self.items in
    let session = c.in_ok-session_of.field-0 in
    let sessions = c.loop-pass.sessions.items in
    let popped = c.in-Some.ensures in
    let other = c.in-Some-pop.ensures in
    let pushed = c.push_reserved.ensures in
    record {
      fresh = (All-pop (IsFreshPass c.args.lock.now c.args.lock.now.home.workers) c.loop-pass.passes.items left c.pop.result c.pop.ensures.items inv.fresh).0;
      shares = (All-pop (IsFreshShare c.args.lock.now.home.shares) c.loop-pass.shares.items c.pop-in-Some.new.self.items c.pop-in-Some.result c.pop-in-Some.ensures.items inv.shares).0;
      count = omega (arith, inv.count, popped.len, other.len);
      dealt = (
        pass ∷ done,
        inv.dealt.1 ∙ (ap (λ l. l ++ done) popped.items ∙ append_assoc left (pass ∷ []) done),
        ap (map (λ (s : SessionState). s.pass)) pushed.items ∙ made_more (λ (s : SessionState). s.pass) sessions session done pass inv.dealt.2 c.in_ok-session_of.ensures.pass,
      );
      new = All-same IsFreshSession c.push_reserved.new.self.items (sessions ++ session ∷ []) pushed.items (All-push IsFreshSession sessions session inv.new c.in_ok-session_of.ensures.fresh);
      room = omega (arith, inv.room, popped.len, pushed.len, pushed.capacity);
    }
