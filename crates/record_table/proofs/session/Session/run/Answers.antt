use Rattle.std.proofs.Common.{sym, subst}
use Rattle.kmem_text.specs.declared.command.Command.{Command}
use Rattle.record_table.specs.Runs.{HasCarriedOut}
use Rattle.record_table.proofs.session.Session.run.Goals as goal

pub returns-in-Hold : goal.returns-in-Hold
returns-in-Hold g c = record {
  done =
      subst (λ (k : Command). HasCarriedOut c.args.cache.now k c.hold.result c.args.self.now c.hold.new.self c.args.seat.now c.args.seat.now) (sym c.in-Hold.is)
      (c.hold.ensures.done c.args.cache.now c.args.seat.now c.requires.can.seat_of);
}

pub returns-in-Read : goal.returns-in-Read
returns-in-Read g c = record {
  done =
      subst (λ (k : Command). HasCarriedOut c.args.cache.now k c.read.result c.args.self.now c.read.new.self c.args.seat.now c.args.seat.now) (sym c.in-Read.is)
      (c.read.ensures.done c.args.cache.now c.args.seat.now c.requires.can.seat_of);
}

pub returns-in-Write : goal.returns-in-Write
returns-in-Write g c = record {
  done =
      subst (λ (k : Command). HasCarriedOut c.args.cache.now k c.write.result c.args.self.now c.write.new.self c.args.seat.now c.args.seat.now) (sym c.in-Write.is)
      (c.write.ensures.done c.args.cache.now c.args.seat.now c.requires.can.seat_of);
}

pub returns-in-Drop : goal.returns-in-Drop
returns-in-Drop g c = record {
  done =
      subst (λ (k : Command). HasCarriedOut c.args.cache.now k c.let_go.result c.args.self.now c.let_go.new.self c.args.seat.now c.args.seat.now) (sym c.in-Drop.is)
      (c.let_go.ensures.done c.args.cache.now c.args.seat.now c.requires.can.seat_of);
}

pub returns-in_default : goal.returns-in_default
returns-in_default g c = record { done = c.plain.ensures.done c.args.cache.now c.args.seat.now c.requires.can.seat_of }
