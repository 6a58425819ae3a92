use Rattle.std.proofs.Common.{◌≡◌, ◌<◌, ℕ, List, Option, Some, inr, sym, ap, ◌∙◌, subst}
use Rattle.kmem_text.specs.declared.command.Command.TheVariants.{Drop}
use Rattle.kmem_text.specs.declared.command.Reply.TheVariants.{Done}
use Rattle.kmem_model.specs.Records.{RecordMap, no_records, tag_place, held_at}
use Rattle.kmem_model.specs.History.{map_after}
use Rattle.kmem_model.specs.RecordStep.{drop_step}
use Rattle.kmem_model.specs.Heap.{HeapState, StandsFor}
use Rattle.record_heap.specs.View.{IsReplyBy, IsStepBy}
use Rattle.record_table.specs.Ended.{drops}
use Rattle.record_table.specs.Tables.{TableView}
use Rattle.record_table.specs.Turns.{entry_of, HasEntered}
use Rattle.record_table.proofs.Entered.{stepped}
use Rattle.record_table.proofs.Idle.{held_in}
use Rattle.record_table.proofs.records.Records.release.Goals as goal

-- a tag that holds a record is let go with `ok`
dropped_done : (m : RecordMap) (place : ℕ) (x : Option ℕ) (id : ℕ) → x ≡ Some id → (drop_step m place x).reply ≡ Done
dropped_done m place x id is = ap (λ (y : Option ℕ). (drop_step m place y).reply) is

pub returns-clause-entered : goal.returns-clause-entered
returns-clause-entered c = λ number.
    let f = c.self.inside in
    let t : TableView = record { heap = f.heap; pen = f.pen; shares = f.shares; names = f.names; workers = f.workers } in
    let hold = c.args.hold in
    let done : (m : RecordMap) (addresses : List ℕ) → StandsFor m addresses f.heap.heap → c.release.result ≡ Done =
    (λ m addresses stands.
    let id = held_in m addresses f.heap.heap (tag_place hold.worker hold.tag) hold.address stands c.release.ensures.held in
    c.release.ensures.reply m addresses stands ∙ dropped_done m (tag_place hold.worker hold.tag) (held_at m (tag_place hold.worker hold.tag)) id.0 id.1) in
    subst (λ (v : TableView). HasEntered v (record t { heap = c.release.new.self }) c.args.who (entry_of number (Drop hold.tag) c.release.result)) c.self.view_is
    (stepped t c.release.new.self c.args.who number (Drop hold.tag) c.release.result
    (subst (λ (v : TableView). c.args.who < v.workers) (sym c.self.view_is) c.requires.worker) tt
    (subst (λ n. n < 8) c.tag.ensures (subst (λ n. n < 8) c.number.ensures.is c.number.ensures.small))
    (subst (λ w. IsReplyBy f.heap.heap (λ m. (drop_step m (tag_place w hold.tag) (held_at m (tag_place w hold.tag))).reply) c.release.result) c.requires.held.worker c.release.ensures.reply)
    (subst (λ w. IsStepBy f.heap.heap c.release.new.self.heap (λ m. (drop_step m (tag_place w hold.tag) (held_at m (tag_place w hold.tag))).map)) c.requires.held.worker c.release.ensures.stands)
    c.release.ensures.places
    (λ m addresses stands. inr (λ n. ap (λ r. drops (c.args.who, entry_of n (Drop hold.tag) r)) (done m addresses stands))))

pub returns-clause-done : goal.returns-clause-done
returns-clause-done c = λ h it.
    let f = c.self.inside in
    let hold = c.args.hold in
    let m = map_after (no_records c.args.self.now.names c.args.self.now.workers) h in
    let place = tag_place hold.worker hold.tag in
    let stands : StandsFor m it.addresses f.heap.heap = subst (λ (x : HeapState). StandsFor m it.addresses x) (sym (ap (λ (v : TableView). v.heap.heap) c.self.view_is)) it.stands in
    let id = held_in m it.addresses f.heap.heap place hold.address stands c.release.ensures.held in
    c.release.ensures.reply m it.addresses stands ∙ dropped_done m place (held_at m place) id.0 id.1
