use Rattle.std.proofs.Common.{◌≡◌, ◌<◌, Option, false, inl, set, arith, sym, ap, ◌∙◌, subst, add-zero}
use Rattle.std.specs.Option.{IfSome, IfNone}
use Rattle.kmem_text.specs.declared.command.Command.TheVariants.{Del}
use Rattle.kmem_buf.specs.Buffers.{BufState}
use Rattle.kmem_model.specs.History.{map_after}
use Rattle.kmem_model.specs.Records.{no_records, id_of}
use Rattle.kmem_model.specs.Heap.{Object, StandsFor}
use Rattle.marks.specs.Words.{MarkPenState}
use Rattle.record_heap.specs.View.{IsHandedOut, IsKeptOn}
use Rattle.record_table.specs.Shares.{SharesState}
use Rattle.record_table.specs.Tables.{TableView}
use Rattle.record_table.specs.Turns.{entry_of, HasEntered}
use Rattle.record_table.proofs.Entered.{stepped, stepped_to}
use Rattle.record_table.proofs.Deletes.{ended_count, kept_lives}
use Rattle.record_table.proofs.Lives.{del_less}
use Rattle.record_table.proofs.records.Records.del.Goals as goal

pub returns-in-Some-clause-entered : goal.returns-in-Some-clause-entered
returns-in-Some-clause-entered c = λ number h it.
    let f = c.self.inside in
    let t : TableView = record { heap = f.heap; pen = f.pen; shares = f.shares; names = f.names; workers = f.workers } in
    let worker = subst (λ (v : TableView). c.args.who < v.workers) (sym c.self.view_is) c.requires.ask.worker in
    let named = subst (λ (v : TableView). c.args.name.0 < v.names) (sym c.self.view_is) c.requires.ask.named in
    let did = c.del-reply in
    let out : IsHandedOut f.heap c.args.name.0 c.in-Some.buf did.new.self =
    subst (λ (o : Option (BufState Object)). IfSome o (λ buf. IsHandedOut f.heap c.args.name.0 buf did.new.self)) c.in-Some.is did.ensures.out in
    let cleared : c.clear.new.pen.known ≡ set f.pen.known c.in-Some.buf.number false =
    ap (λ (p : MarkPenState). p.known) c.clear.ensures ∙ ap (λ n. set f.pen.known n false) c.number.ensures in
    let grown = ap (λ (s : SharesState). s.brought) c.count-share.ensures.shares ∙ add-zero f.shares.brought in
    let more = ap (λ (s : SharesState). s.fetched) c.count-share.ensures.shares in
    let standing = subst (λ (v : TableView). StandsFor (map_after (no_records c.args.self.now.names c.args.self.now.workers) h) it.addresses v.heap.heap) (sym c.self.view_is) it.stands in
    let less = ended_count f.heap c.args.name.0 c.in-Some.buf did.new.self out (map_after (no_records c.args.self.now.names c.args.self.now.workers) h) it.addresses standing in
    subst (λ (v : TableView). HasEntered v (record t { heap = did.new.self; pen = c.clear.new.pen; shares = c.count-share.new.self }) c.args.who (entry_of number (Del c.args.name) did.result.0)) c.self.view_is
    (stepped_to t did.new.self c.clear.new.pen c.count-share.new.self c.args.who number (Del c.args.name) did.result.0 worker named tt did.ensures.reply
    (λ m addresses stands. (addresses, did.ensures.stands m addresses stands))
    (λ known. cleared ∙ (ap (λ ks. set ks c.in-Some.buf.number false) known ∙ sym out.places))
    (λ counted. omega (arith, counted, grown, more, less))
    (λ m addresses stands. inl (omega (arith, less, del_less m c.args.name.0 (id_of m c.args.name.0)))))
    h it

pub returns-in-None-clause-entered : goal.returns-in-None-clause-entered
returns-in-None-clause-entered c = λ number.
    let f = c.self.inside in
    let t : TableView = record { heap = f.heap; pen = f.pen; shares = f.shares; names = f.names; workers = f.workers } in
    let worker = subst (λ (v : TableView). c.args.who < v.workers) (sym c.self.view_is) c.requires.ask.worker in
    let named = subst (λ (v : TableView). c.args.name.0 < v.names) (sym c.self.view_is) c.requires.ask.named in
    let did = c.del-reply in
    let kept : IsKeptOn f.heap c.args.name.0 did.new.self =
    subst (λ (o : Option (BufState Object)). IfNone o (IsKeptOn f.heap c.args.name.0 did.new.self)) c.in-None.is did.ensures.kept in
    subst (λ (v : TableView). HasEntered v (record t { heap = did.new.self }) c.args.who (entry_of number (Del c.args.name) did.result.0)) c.self.view_is
    (stepped t did.new.self c.args.who number (Del c.args.name) did.result.0 worker named tt did.ensures.reply did.ensures.stands kept.places
    (λ m addresses stands. inl (kept_lives f.heap c.args.name.0 did.new.self kept m addresses stands)))
