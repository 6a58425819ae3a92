use Rattle.std.proofs.Common.{◌<◌, sym, refl, subst}
use Rattle.kmem_text.specs.declared.command.Command.TheVariants.{Read}
use Rattle.kmem_model.specs.Records.{tag_place, held_at}
use Rattle.kmem_model.specs.RecordStep.{read_step}
use Rattle.record_heap.specs.View.{HeapView, IsReplyBy}
use Rattle.record_table.specs.Tables.{TableView}
use Rattle.record_table.specs.Turns.{entry_of, HasEntered}
use Rattle.record_table.proofs.Entered.{Enters, looked}
use Rattle.record_table.proofs.records.Records.read.Goals as goal

pub returns-clause-entered : goal.returns-clause-entered
returns-clause-entered c = λ number.
    let f = c.self.inside in
    let t : TableView = record { heap = f.heap; pen = f.pen; shares = f.shares; names = f.names; workers = f.workers } in
    let hold = c.args.hold.now in
    subst (λ (x : HeapView). HasEntered c.args.self.now (record t { heap = x }) c.args.who (entry_of number (Read hold.tag) c.read.result)) (sym c.read.ensures.heap)
    (subst (λ (v : TableView). Enters v t c.args.who number (Read hold.tag) c.read.result) c.self.view_is
    (looked t c.args.who number (Read hold.tag) (Read hold.tag) c.read.result refl
    (subst (λ n. n < 8) c.tag.ensures (subst (λ n. n < 8) c.number.ensures.is c.number.ensures.small)) refl
    (subst (λ w. IsReplyBy f.heap.heap (λ m. (read_step m (held_at m (tag_place w hold.tag))).reply) c.read.result) c.requires.held.worker c.read.ensures.reply))
    c.requires.worker tt)
