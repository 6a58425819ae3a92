use Rattle.std.proofs.Common.{◌<◌, inl, sym, subst}
use Rattle.kmem_text.specs.declared.command.Command.TheVariants.{Hold}
use Rattle.record_table.specs.Tables.{TableView}
use Rattle.record_table.specs.Turns.{entry_of, HasEntered}
use Rattle.kmem_model.specs.History.{worker_of}
use Rattle.record_table.proofs.Lives.{hold_lives}
use Rattle.record_table.proofs.Entered.{stepped}
use Rattle.record_table.proofs.records.Records.hold.Goals as goal

pub returns-clause-entered : goal.returns-clause-entered
returns-clause-entered c = λ number.
    let f = c.self.inside in
    let t : TableView = record { heap = f.heap; pen = f.pen; shares = f.shares; names = f.names; workers = f.workers } in
    subst (λ (v : TableView). HasEntered v (record t { heap = c.hold.new.self }) c.args.who (entry_of number (Hold c.args.tag c.args.name) c.hold.result.0)) c.self.view_is
    (stepped t c.hold.new.self c.args.who number (Hold c.args.tag c.args.name) c.hold.result.0
    (subst (λ (v : TableView). c.args.who < v.workers) (sym c.self.view_is) c.requires.worker)
    (subst (λ (v : TableView). c.args.name.0 < v.names) (sym c.self.view_is) c.requires.named)
    (subst (λ n. n < 8) c.number.ensures.is c.number.ensures.small)
    c.hold.ensures.reply c.hold.ensures.stands c.hold.ensures.places
    (λ m addresses stands. inl (hold_lives m (worker_of c.args.who) c.args.tag c.args.name)))
