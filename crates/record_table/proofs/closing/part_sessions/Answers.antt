use Rattle.std.proofs.Common.{◌≡◌, ◌∷◌, ◌++◌, [], Option, unwrap_or, ap, sym, ◌∙◌, subst, arith, append_assoc}
use Rattle.std.specs.Option.{IfSome}
use Rattle.std.proofs.lemmas.List.Elements.{All-pop, All-push, All-same}
use Rattle.hist_lock.specs.Passes.{Site}
use Rattle.kmem_cache.proofs.Partings.{map-more}
use Rattle.record_table.specs.Shares.{ShareState, IsShareAt}
use Rattle.record_table.specs.Tables.{TableHome}
use Rattle.record_table.specs.Sessions.{SessionState, no_share}
use Rattle.record_table.proofs.closing.part_sessions.Goals as goal

pub loop-session-preserved : goal.loop-session-preserved
loop-session-preserved c =
    let inv = c.loop-session.invariant in
    let done = inv.parted.0 in
    let session = c.in-Some.session in
    let inside = c.session.inside in
    let left = c.pop.new.self.items in
    let popped = c.in-Some.ensures in
    let first = c.push_reserved.ensures in
    let second = c.push_reserved-in-Some.ensures in
    let share = c.in-Some-share.share in
    let lock = c.args.lock.now in
    let P : SessionState → Type 0 = λ s. s.pass.site ≡ lock in
    let parts = All-pop P c.loop-session.sessions.items left c.pop.result c.pop.ensures.items inv.of in
    let here : session.pass.site ≡ lock = subst (λ (x : Option SessionState). IfSome x P) c.in-Some.is parts.1 in
    let given : unwrap_or inside.share no_share ≡ share = ap (λ (x : Option ShareState). unwrap_or x no_share) c.in-Some-share.is in
    let same : share ≡ session.share = sym given ∙ ap (λ (s : SessionState). s.share) c.session.view_is in
    let at : IsShareAt lock.home.shares share =
    subst (IsShareAt lock.home.shares) given
    (subst (λ (site : Site TableHome). IsShareAt site.home.shares (unwrap_or inside.share no_share)) (ap (λ (s : SessionState). s.pass.site) c.session.view_is ∙ here) c.session.invariant.share) in
    record {
      parted = (
        session ∷ done,
        inv.parted.1 ∙ (ap (λ l. l ++ done) popped.items ∙ append_assoc left (session ∷ []) done),
        first.items ∙ ((λ i. inv.parted.2 i ++ (c.session.view_is i).pass ∷ []) ∙ sym (map-more (λ (s : SessionState). s.pass) session done)),
        second.items ∙ ((λ i. inv.parted.3 i ++ same i ∷ []) ∙ sym (map-more (λ (s : SessionState). s.share) session done)),
      );
      of = parts.0;
      at =
          All-same (IsShareAt lock.home.shares) c.push_reserved-in-Some.new.self.items (c.loop-session.shares.items ++ share ∷ []) second.items
          (All-push (IsShareAt lock.home.shares) c.loop-session.shares.items share inv.at at);
      room = (omega (arith, inv.room, popped.len, first.len, first.capacity), omega (arith, inv.room, popped.len, second.len, second.capacity));
      same = (omega (arith, inv.same, first.capacity), omega (arith, inv.same, second.capacity));
    }
