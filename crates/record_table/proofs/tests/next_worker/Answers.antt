use Rattle.std.proofs.Common.{◌≡◌}
use Rattle.std.proofs.lemmas.List.Elements.{All-pop}
use Rattle.kmem_cache.specs.Seats.{IsCacheSeat}
use Rattle.record_table.specs.Sessions.{IsFreshSession}
use Rattle.record_table.proofs.tests.next_worker.Goals as goal

pub returns-clause-of : goal.returns-clause-of
returns-clause-of c =
    (All-pop (λ s. s.pass.site ≡ c.args.table.now) c.args.sessions.now.items c.pop.new.self.items c.pop.result c.pop.ensures.items c.requires.of).0

pub returns-clause-fresh : goal.returns-clause-fresh
returns-clause-fresh c =
    (All-pop IsFreshSession c.args.sessions.now.items c.pop.new.self.items c.pop.result c.pop.ensures.items c.requires.fresh).0

pub returns-clause-seats : goal.returns-clause-seats
returns-clause-seats c =
    (All-pop (IsCacheSeat c.args.cache.now) c.args.seats.now.items c.pop-2.new.self.items c.pop-2.result c.pop-2.ensures.items c.requires.seats).0
