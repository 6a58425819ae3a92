use Rattle.std.proofs.Common.{◌≡◌, ◌∷◌, ◌++◌, [], List, reverse, ap, sym, ◌∙◌, subst, arith, append_assoc}
use Rattle.kmem_cache.specs.Seats.{CacheSeatState}
use Rattle.kmem_cache.specs.Closing.{IsPart, AreParts}
use Rattle.kmem_cache.proofs.Magazines.{length-numbers}
use Rattle.kmem_cache.proofs.Partings.{reverse-cons, map-more, parts_last}
use Rattle.kmem_cache.proofs.closing.part_all.Goals as goal

pub loop-seat-preserved : goal.loop-seat-preserved
loop-seat-preserved g c =
    let inv = c.loop-seat.invariant in let done = inv.parted.0 in let seat = c.in-Some.seat in let inside = c.seat.inside in let was = c.seat.invariant in
    let left = c.pop.new.self.items in let popped = c.in-Some.ensures in let constructed = g.K.Kind.constructed in
    let part : IsPart constructed seat inside.cpu = subst (λ (s : CacheSeatState). IsPart constructed s inside.cpu) c.seat.view_is
    (record { adds = was.adds; rounds = length-numbers _; ready = was.ready }) in
    let room = inv.room in
    record {
      parted = (
        seat ∷ done,
        inv.parted.1 ∙ (ap (λ l. l ++ done) popped.items ∙ append_assoc left (seat ∷ []) done),
        c.push_reserved.ensures.items ∙ ((λ i. inv.parted.2 i ++ (c.seat.view_is i).pass ∷ []) ∙ sym (map-more (λ (s : CacheSeatState). s.pass) seat done)),
        c.push_reserved-in-Some.ensures.items ∙ ((λ i. inv.parted.3 i ++ (c.seat.view_is i).depot ∷ []) ∙ sym (map-more (λ (s : CacheSeatState). s.depot) seat done)),
        (λ (e : c.push_reserved-in-Some-2.new.self.items ≡ c.loop-seat.cpus.items ++ inside.cpu ∷ []). subst (λ ls. AreParts constructed (reverse (seat ∷ done)) ls) (sym e)
            (subst (λ (ss : List CacheSeatState). AreParts constructed ss (c.loop-seat.cpus.items ++ inside.cpu ∷ [])) (sym (reverse-cons seat done))
            (parts_last constructed (reverse done) c.loop-seat.cpus.items seat inside.cpu inv.parted.4 part))) c.push_reserved-in-Some-2.ensures.items,
      );
      room = (
        omega (arith, popped.len, c.push_reserved.ensures.len, c.push_reserved.ensures.capacity),
        omega (arith, popped.len, c.push_reserved-in-Some.ensures.len, c.push_reserved-in-Some.ensures.capacity),
        omega (arith, popped.len, c.push_reserved-in-Some-2.ensures.len, c.push_reserved-in-Some-2.ensures.capacity),
      );
    }
