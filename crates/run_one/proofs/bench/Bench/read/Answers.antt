use Rattle.std.proofs.Common.{◌≡◌, ◌<◌, length, get_or, set, Option, Some, None, is_some, refl, sym, ap, ◌∙◌, subst, arith}
use Rattle.std.specs.Option.{IfSome}
use Rattle.kmem_text.specs.declared.command.Command.TheVariants.{Read}
use Rattle.kmem_model.specs.Records.{held_at, tag_place}
use Rattle.kmem_model.specs.RecordStep.{read_step, step}
use Rattle.record_heap.specs.View.{HeapView, HoldState, IsFrame}
use Rattle.kmem_model.specs.One.{one_step}
use Rattle.kmem_model.specs.OneStands.{OneEnds}
use Rattle.run_one.specs.Bench.{BenchView, StandsAt, IsHoldAtPlace}
use Rattle.run_one.proofs.Benches.{carried, held_same, kept_at, read_is, same_frame}
use Rattle.run_one.proofs.bench.Bench.read.Goals as goal

pub returns-in-Some : goal.returns-in-Some
returns-in-Some c =
    let f = c.self.inside in
    let old : BenchView = record { cache = f.cache; heap = f.heap; holds = f.holds.items; settled = f.settled } in
    let below : c.place_of.result < length f.holds.items = omega (arith, c.place_of.ensures.within, c.self.invariant.places) in
    let item : get_or f.holds.items c.place_of.result None ≡ c.index_mut.result.now = read_is f.holds.items c.place_of.result c.index_mut.result.now below c.index_mut.ensures.value in
    let new : BenchView = record old { heap = c.read.new.self; holds = set f.holds.items c.place_of.result (Some c.read.new.hold) } in
    let here : get_or f.holds.items c.place_of.result None ≡ Some c.in-Some.hold = item ∙ c.in-Some.is in
    let place : tag_place c.in-Some.hold.worker c.in-Some.hold.tag ≡ tag_place c.args.worker c.args.tag =
    (subst (λ (o : Option HoldState). IfSome o (IsHoldAtPlace f.heap c.place_of.result)) here (c.self.invariant.held c.place_of.result)).1 ∙ c.place_of.ensures.place in
    record {
      carried_out = record {
        out = λ s given.
            let at = subst (StandsAt s) (sym c.self.view_is) given in
            let reply = subst (λ n. c.read.result ≡ (read_step s.map (held_at s.map n)).reply) place (c.read.ensures.reply s.map s.addresses at.stands.stands) in
            let ends =
            subst (λ (h : HeapView). OneEnds (one_step s c.args.worker (Read c.args.tag)) (step s.map c.args.worker (Read c.args.tag)).reply s.cache h.heap) (sym c.read.ensures.heap)
            (c.law_one_step.ensures.looking s f.heap.heap c.args.worker (Read c.args.tag) at.stands refl) in
            carried old new s c.args.worker (Read c.args.tag) c.read.result _ s.cache at ends reply at.cache refl
            (subst (λ (h : HeapView). IsFrame f.heap h) (sym c.read.ensures.heap) same_frame)
            (held_same old new s c.args.worker (Read c.args.tag) at ends.stands (c.law_one_step.ensures.tags s c.args.worker (Read c.args.tag) refl)
            (kept_at f.holds.items c.place_of.result (Some c.read.new.hold) below (sym (ap is_some here))));
        names = ap (λ (h : HeapView). length h.heap.names) c.read.ensures.heap ∙ ap (λ (b : BenchView). length b.heap.heap.names) c.self.view_is;
        settled = ap (λ (b : BenchView). b.settled) c.self.view_is;
      };
    }
