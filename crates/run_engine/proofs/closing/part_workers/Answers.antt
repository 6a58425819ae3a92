use Rattle.std.proofs.Common.{◌∷◌, ◌++◌, [], map, reverse, ap, sym, ◌∙◌, arith, append_assoc}
use Rattle.kmem_cache.proofs.Partings.{map-more}
use Rattle.run_workers.specs.declared.worker.Worker.{Worker}
use Rattle.run_engine.proofs.closing.part_workers.Goals as goal

pub loop-worker-preserved : goal.loop-worker-preserved
loop-worker-preserved c =
    let inv = c.loop-worker.invariant in let done = inv.parted.0 in let worker = c.in-Some.worker in let left = c.pop.new.self.items in
    let popped = c.in-Some.ensures in let first = c.push_reserved.ensures in let second = c.push_reserved-in-Some.ensures in
    record {
      parted = (
        worker ∷ done,
        inv.parted.1 ∙ (ap (λ l. l ++ done) popped.items ∙ append_assoc left (worker ∷ []) done),
        first.items
            ∙ (ap (λ l. l ++ worker.session ∷ []) inv.parted.2
            ∙ (append_assoc c.args.parts.now.sessions.items (map (λ (w : Worker). w.session) (reverse done)) (worker.session ∷ [])
            ∙ ap (λ l. c.args.parts.now.sessions.items ++ l) (sym (map-more (λ (w : Worker). w.session) worker done)))),
        second.items
            ∙ (ap (λ l. l ++ worker.seat ∷ []) inv.parted.3
            ∙ (append_assoc c.args.parts.now.seats.items (map (λ (w : Worker). w.seat) (reverse done)) (worker.seat ∷ [])
            ∙ ap (λ l. c.args.parts.now.seats.items ++ l) (sym (map-more (λ (w : Worker). w.seat) worker done)))),
      );
      rest = inv.rest;
      room = (omega (arith, inv.room.0, popped.len, first.len, first.capacity), omega (arith, inv.room.1, popped.len, second.len, second.capacity));
    }
