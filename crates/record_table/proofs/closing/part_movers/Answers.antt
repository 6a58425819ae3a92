use Rattle.std.proofs.Common.{◌≡◌, ◌∷◌, ◌++◌, [], map, reverse, Option, unwrap_or, ap, sym, ◌∙◌, subst, arith, append_assoc}
use Rattle.std.specs.Option.{IfSome}
use Rattle.std.proofs.lemmas.List.Elements.{All-pop, All-push, All-same, All-cons}
use Rattle.hist_lock.specs.Passes.{Site, PassState}
use Rattle.kmem_model.specs.declared.record_entry.RecordEntry.{RecordEntry}
use Rattle.kmem_cache.proofs.Partings.{map-more}
use Rattle.record_table.specs.Shares.{ShareState, IsShareAt}
use Rattle.record_table.specs.Tables.{TableHome}
use Rattle.record_table.specs.Sessions.{no_share}
use Rattle.record_table.specs.Asks.{MoverState, AreFlagsDue}
use Rattle.record_table.proofs.closing.part_movers.Goals as goal

pub loop-mover-preserved : goal.loop-mover-preserved
loop-mover-preserved c =
    let inv = c.loop-mover.invariant in
    let done = inv.parted.0 in
    let mover = c.in-Some.mover in
    let inside = c.mover.inside in
    let left = c.pop.new.self.items in
    let popped = c.in-Some.ensures in
    let first = c.push_reserved.ensures in
    let second = c.push_reserved-in-Some.ensures in
    let share = c.in-Some-share.share in
    let lock = c.args.lock.now in
    let P : MoverState → Type 0 = λ m. m.pass.site ≡ lock in
    let D : MoverState → Type 0 = λ m. AreFlagsDue m.flags m.pass.seen in
    let N : MoverState → Type 0 = λ m. m.pass.mine ≡ [] in
    let pass : MoverState → PassState RecordEntry TableHome = λ m. m.pass in
    let shared : MoverState → ShareState = λ m. m.share in
    let parts = All-pop P c.loop-mover.movers.items left c.pop.result c.pop.ensures.items inv.of in
    let here : mover.pass.site ≡ lock = subst (λ (x : Option MoverState). IfSome x P) c.in-Some.is parts.1 in
    let given : unwrap_or inside.share no_share ≡ share = ap (λ (x : Option ShareState). unwrap_or x no_share) c.in-Some-share.is in
    let same : share ≡ mover.share = sym given ∙ ap shared c.mover.view_is in
    let at : IsShareAt lock.home.shares share =
    subst (IsShareAt lock.home.shares) given
    (subst (λ (site : Site TableHome). IsShareAt site.home.shares (unwrap_or inside.share no_share)) (ap (λ (m : MoverState). m.pass.site) c.mover.view_is ∙ here) c.mover.invariant.share) in
    record {
      parted = (
        mover ∷ done,
        inv.parted.1 ∙ (ap (λ l. l ++ done) popped.items ∙ append_assoc left (mover ∷ []) done),
        first.items ∙ ((λ i. inv.parted.2 i ++ (c.mover.view_is i).pass ∷ [])
            ∙ (append_assoc c.args.parts.passes.items (map pass (reverse done)) (mover.pass ∷ []) ∙ ap (λ l. c.args.parts.passes.items ++ l) (sym (map-more pass mover done)))),
        second.items ∙ ((λ i. inv.parted.3 i ++ same i ∷ [])
            ∙ (append_assoc c.args.parts.shares.items (map shared (reverse done)) (mover.share ∷ []) ∙ ap (λ l. c.args.parts.shares.items ++ l) (sym (map-more shared mover done)))),
        All-cons D mover done (subst D c.mover.view_is c.mover.invariant.due) inv.parted.4,
        All-cons N mover done (subst N c.mover.view_is c.mover.invariant.none) inv.parted.5,
      );
      of = parts.0;
      at =
          All-same (IsShareAt lock.home.shares) c.push_reserved-in-Some.new.self.items (c.loop-mover.shares.items ++ share ∷ []) second.items
          (All-push (IsShareAt lock.home.shares) c.loop-mover.shares.items share inv.at at);
      room = (omega (arith, inv.room, popped.len, first.len, first.capacity), omega (arith, inv.room, popped.len, second.len, second.capacity));
    }
