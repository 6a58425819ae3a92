use Rattle.std.proofs.Common.{◌≡◌, ◌∷◌, ◌++◌, [], ap, sym, ◌∙◌, arith, append_assoc}
use Rattle.std.proofs.lemmas.List.Elements.{All-pop}
use Rattle.depot.specs.Depot.{DepotSeatState, fresh_depot_seat}
use Rattle.kmem_cache.specs.Seats.{fresh_cache_seat}
use Rattle.kmem_cache.specs.Opening.{IsFreshPass}
use Rattle.kmem_cache.proofs.Partings.{map-more}
use Rattle.kmem_cache.proofs.opening.seat_all.Goals as goal

pub loop-pass-preserved : goal.loop-pass-preserved
loop-pass-preserved g c =
    let inv = c.loop-pass.invariant in let store = c.args.store.now in let done = inv.seated.0 in let pass = c.in-Some.pass in let left = c.pop.new.self.items in
    let popped = c.in-Some.ensures in let other = c.in-Some-pop.ensures in let pushed = c.push_reserved.ensures in
    let D : DepotSeatState → Type 0 = λ d. d ≡ fresh_depot_seat store in
    record {
      fresh = (All-pop (IsFreshPass store.home) c.loop-pass.passes.items left c.pop.result c.pop.ensures.items inv.fresh).0;
      depots = (All-pop D c.loop-pass.depots.items c.pop-in-Some.new.self.items c.pop-in-Some.result c.pop-in-Some.ensures.items inv.depots).0;
      count = omega (arith, inv.count, popped.len, other.len);
      seated = (
        pass ∷ done,
        inv.seated.1 ∙ (ap (λ l. l ++ done) popped.items ∙ append_assoc left (pass ∷ []) done),
        pushed.items ∙ ((λ i. inv.seated.2 i ++ c.in_ok-seat_one.ensures i ∷ []) ∙ sym (map-more (fresh_cache_seat store) pass done)),
      );
      room = omega (arith, inv.room, popped.len, pushed.len, pushed.capacity);
    }
