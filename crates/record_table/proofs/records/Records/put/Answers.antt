use Rattle.std.proofs.Common.{◌<◌, inl, inr, sym, ap, ◌∙◌, refl, subst, subst₂, add-zero}
use Rattle.marks.specs.Words.{MarkPenState}
use Rattle.record_heap.specs.Puts.{IsReadyOffer}
use Rattle.record_table.specs.Shares.{SharesState}
use Rattle.record_table.specs.Tables.{TableView}
use Rattle.record_table.specs.Turns.{IsPutTurn}
use Rattle.record_table.proofs.Puts.{one_new, none_new, offer_low}
use Rattle.record_table.proofs.records.Records.put.Goals as goal
use Rattle.record_table.proofs.records.Records.put.Goals.{in_default-via-in-Some+else-is_new, in_default-via-in_default}

pub returns-in-Some-clause-put : goal.returns-in-Some-clause-put
returns-in-Some-clause-put c = λ number.
    let f = c.self.inside in
    let t : TableView = record { heap = f.heap; pen = f.pen; shares = f.shares; names = f.names; workers = f.workers } in
    let end = c.decide_put-end in
    let ready : IsReadyOffer f.heap.home.cells c.args.offer = subst (λ (v : TableView). IsReadyOffer v.heap.home.cells c.args.offer) (sym c.self.view_is) c.requires.ask.offered in
    subst (λ (v : TableView). IsPutTurn v (record t { heap = end.new.self; pen = c.set.new.pen; shares = c.count-share.new.self }) c.args.who number c.args.name c.args.value c.args.offer end.result) c.self.view_is
    (one_new t end.new.self c.set.new.pen c.count-share.new.self c.args.who number c.args.name c.args.value c.args.offer end.result
    (subst (λ (v : TableView). c.args.who < v.workers) (sym c.self.view_is) c.requires.ask.worker)
    (subst (λ (v : TableView). c.args.name.0 < v.names) (sym c.self.view_is) c.requires.ask.named)
    end.ensures.present end.ensures.absent c.in-Some.b (sym c.fresh_number-fresh.ensures ∙ c.in-Some.is)
    (sym c.is_new.ensures ∙ c.if-is_new.true)
    (λ buf is. subst (λ n. buf.number < n) (sym c.self.invariant.objects) (offer_low f.heap.home.cells c.args.offer ready buf is))
    (ap (λ (p : MarkPenState). p.known) c.set.ensures)
    (ap (λ (s : SharesState). s.brought) c.count-share.ensures.shares, ap (λ (s : SharesState). s.fetched) c.count-share.ensures.shares ∙ add-zero f.shares.fetched))

pub returns-in_default-clause-put : goal.returns-in_default-clause-put
returns-in_default-clause-put c = λ number.
    let f = c.self.inside in
    let t : TableView = record { heap = f.heap; pen = f.pen; shares = f.shares; names = f.names; workers = f.workers } in
    let end = c.decide_put-end in
    let worker = subst (λ (v : TableView). c.args.who < v.workers) (sym c.self.view_is) c.requires.ask.worker in
    let named = subst (λ (v : TableView). c.args.name.0 < v.names) (sym c.self.view_is) c.requires.ask.named in
    elim c.in_default.branch [
      | in_default-via-in-Some+else-is_new w ↦
          subst₂ (λ (v after : TableView). IsPutTurn v after c.args.who number c.args.name c.args.value c.args.offer end.result) c.self.view_is (sym w.self-is)
          (none_new t end.new.self f.pen f.shares c.args.who number c.args.name c.args.value c.args.offer end.result worker named
          end.ensures.present end.ensures.absent (inr (sym w.is_new.ensures ∙ w.if-is_new.false)) refl refl)
      | in_default-via-in_default w ↦
          subst₂ (λ (v after : TableView). IsPutTurn v after c.args.who number c.args.name c.args.value c.args.offer end.result) c.self.view_is (sym w.self-is)
          (none_new t end.new.self f.pen f.shares c.args.who number c.args.name c.args.value c.args.offer end.result worker named
          end.ensures.present end.ensures.absent (inl (sym c.fresh_number-fresh.ensures ∙ w.in_default.is)) refl refl)
    ]
