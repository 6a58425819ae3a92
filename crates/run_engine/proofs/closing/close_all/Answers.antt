use Rattle.std.proofs.Common.{length, sym, ap, ◌∙◌, arith}
use Rattle.kmem_text.specs.Scripts.{plain}
use Rattle.run_engine.proofs.Parting.{many_workers, sessions_of, movers_of, places_of, places_done, seats_of, many_sessions, many_movers, many_seats}
use Rattle.run_engine.proofs.Closings.{closed_so}
use Rattle.run_engine.proofs.closing.close_all.Goals as goal

pub part_crew-tally-requires-clause-workers : goal.part_crew-tally-requires-clause-workers
part_crew-tally-requires-clause-workers g c = many_workers c.args.plan.now.workers c.args.crew.workers.items c.requires.done.passes

pub close-heap-requires-clause-of : goal.close-heap-requires-clause-of
close-heap-requires-clause-of g c = sessions_of c.args.plan.now c.args.script.now.lines.items c.args.shared c.args.crew c.part_crew-tally.new.parts c.requires.done c.part_crew-tally.ensures.parts

pub close-heap-requires-clause-movers_of : goal.close-heap-requires-clause-movers_of
close-heap-requires-clause-movers_of g c = movers_of c.args.plan.now c.args.script.now.lines.items c.args.shared c.args.crew c.part_crew-tally.new.parts c.requires.done c.part_crew-tally.ensures.parts

pub close-heap-requires-clause-count : goal.close-heap-requires-clause-count
close-heap-requires-clause-count g c =
    let parts = c.part_crew-tally.new.parts in
    omega (
      arith,
      many_sessions c.args.plan.now c.args.script.now.lines.items c.args.shared c.args.crew parts c.requires.done c.part_crew-tally.ensures.parts,
      many_movers c.args.plan.now c.args.script.now.lines.items c.args.shared c.args.crew parts c.requires.done c.part_crew-tally.ensures.parts,
      c.requires.shared.passes,
    )

pub close-requires-clause-of : goal.close-requires-clause-of
close-requires-clause-of g c = places_of c.args.plan.now c.args.script.now.lines.items c.args.shared c.args.crew c.part_crew-tally.new.parts c.requires.done c.part_crew-tally.ensures.parts

pub close-slabs-requires-clause-of : goal.close-slabs-requires-clause-of
close-slabs-requires-clause-of g c = seats_of c.args.plan.now c.args.script.now.lines.items c.args.shared c.args.crew c.part_crew-tally.new.parts c.requires.done c.part_crew-tally.ensures.parts

pub close-slabs-requires-clause-count : goal.close-slabs-requires-clause-count
close-slabs-requires-clause-count g c =
    many_seats c.args.plan.now c.args.script.now.lines.items c.args.shared c.args.crew c.part_crew-tally.new.parts c.requires.done c.part_crew-tally.ensures.parts ∙ sym c.requires.shared.seats

pub returns : goal.returns
returns g c =
    let parts = c.part_crew-tally.new.parts in
    let table = c.close-heap.ensures in
    let cache = c.close-slabs.ensures in
    closed_so
    (record {
      pending = c.law_counts.ensures.pending;
      pending_along = c.law_counts.ensures.pending_along;
      sums = c.law_movers.ensures.sums;
      whole = c.law_whole.ensures.reached;
      out = c.law_counts.ensures.out;
      passes = c.law_counts.ensures.passes;
      begun = c.law_movers.ensures.begun;
      ended = c.law_movers.ensures.ended;
      shared = c.law_shared.ensures;
      valid = c.law_step.ensures.valid;
      told = c.law_one_step.ensures.within;
      start = c.law_step.ensures.start;
    })
    c.args.plan.now (plain c.args.script.now) c.args.shared c.args.crew parts c.close-heap.result.0 c.close-heap.result.1 c.close-slabs.result.0 c.close-slabs.result.1 c.part_crew-tally.result
    (record {
      in_plan = c.requires.plan;
      of = c.requires.script;
      is = c.requires.shared;
      done = c.requires.done;
      parted = c.part_crew-tally.ensures.parts;
      tally_is = c.part_crew-tally.ensures.tally;
      legal = table.closed.legal;
      in_range = table.closed.within;
      addresses = table.closed.addresses;
      stands = table.closed.stands;
      objects = table.closed.objects;
      counts = table.counts;
      exact = table.exact;
      silent = table.silent;
      flags = table.flags;
      fronts = table.mover_fronts;
      within = table.within;
      homes = table.home;
      jobs =
          let none = c.close.ensures.done (places_done c.args.plan.now c.args.script.now.lines.items c.args.shared c.args.crew parts c.requires.done c.part_crew-tally.ensures.parts) in
          omega (arith, c.close.ensures.count, ap length none);
      state = cache.closed.state;
      rounds = cache.closed.frees;
      reached = cache.closed.reached;
      flushed = cache.closed.flushed;
      cache_counts = cache.counts;
      cache_exact = cache.exact;
      cache_within = cache.within;
      cache_homes = cache.home;
    })
