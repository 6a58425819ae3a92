use Rattle.std.proofs.Common.{◌<◌, inl, sym, subst}
use Rattle.kmem_text.specs.declared.command.Command.TheVariants.{Write}
use Rattle.kmem_model.specs.Records.{tag_place, held_at}
use Rattle.kmem_model.specs.RecordStep.{write_step}
use Rattle.record_heap.specs.View.{IsReplyBy, IsStepBy}
use Rattle.record_table.specs.Tables.{TableView}
use Rattle.record_table.specs.Turns.{entry_of, HasEntered}
use Rattle.kmem_model.specs.History.{worker_of}
use Rattle.record_table.proofs.Lives.{write_lives}
use Rattle.record_table.proofs.Entered.{stepped}
use Rattle.record_table.proofs.records.Records.write.Goals as goal

pub returns-clause-entered : goal.returns-clause-entered
returns-clause-entered c = λ number.
    let f = c.self.inside in
    let t : TableView = record { heap = f.heap; pen = f.pen; shares = f.shares; names = f.names; workers = f.workers } in
    let hold = c.args.hold.now in
    subst (λ (v : TableView). HasEntered v (record t { heap = c.write.new.self }) c.args.who (entry_of number (Write hold.tag c.args.value) c.write.result)) c.self.view_is
    (stepped t c.write.new.self c.args.who number (Write hold.tag c.args.value) c.write.result
    (subst (λ (v : TableView). c.args.who < v.workers) (sym c.self.view_is) c.requires.worker) tt
    (subst (λ n. n < 8) c.tag.ensures (subst (λ n. n < 8) c.number.ensures.is c.number.ensures.small))
    (subst (λ w. IsReplyBy f.heap.heap (λ m. (write_step m c.args.value (held_at m (tag_place w hold.tag))).reply) c.write.result) c.requires.held.worker c.write.ensures.reply)
    (subst (λ w. IsStepBy f.heap.heap c.write.new.self.heap (λ m. (write_step m c.args.value (held_at m (tag_place w hold.tag))).map)) c.requires.held.worker c.write.ensures.stands)
    c.write.ensures.places (λ m addresses stands. inl (write_lives m (worker_of c.args.who) hold.tag c.args.value)))
