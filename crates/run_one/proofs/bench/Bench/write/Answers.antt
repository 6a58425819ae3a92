use Rattle.std.proofs.Common.{◌≡◌, ◌<◌, length, get_or, set, Option, Some, None, is_some, refl, sym, ap, ◌∙◌, subst, arith}
use Rattle.std.specs.Option.{IfSome}
use Rattle.kmem_text.specs.declared.command.Command.TheVariants.{Write}
use Rattle.kmem_text.specs.declared.command.Reply.TheVariants.{Idle}
use Rattle.kmem_model.specs.Records.{held_at, tag_place}
use Rattle.kmem_model.specs.RecordStep.{write_step}
use Rattle.kmem_model.specs.Heap.{StandsFor, hold_at}
use Rattle.record_heap.specs.View.{HoldState}
use Rattle.run_one.specs.Bench.{BenchView, StandsAt, IsHoldAtPlace}
use Rattle.run_one.proofs.Benches.{carried, held_same, kept_at, read_is, not_used, same_frame}
use Rattle.run_one.proofs.bench.Bench.write.Goals as goal

pub returns-in-Some : goal.returns-in-Some
returns-in-Some c =
    let f = c.self.inside in
    let old : BenchView = record { cache = f.cache; heap = f.heap; holds = f.holds.items; settled = f.settled } in
    let below : c.place_of.result < length f.holds.items = omega (arith, c.place_of.ensures.within, c.self.invariant.places) in
    let item : get_or f.holds.items c.place_of.result None ≡ c.index_mut.result.now = read_is f.holds.items c.place_of.result c.index_mut.result.now below c.index_mut.ensures.value in
    let new : BenchView = record old { heap = c.write.new.self; holds = set f.holds.items c.place_of.result (Some c.write.new.hold) } in
    let here : get_or f.holds.items c.place_of.result None ≡ Some c.in-Some.hold = item ∙ c.in-Some.is in
    let place : tag_place c.in-Some.hold.worker c.in-Some.hold.tag ≡ tag_place c.args.worker c.args.tag =
    (subst (λ (o : Option HoldState). IfSome o (IsHoldAtPlace f.heap c.place_of.result)) here (c.self.invariant.held c.place_of.result)).1 ∙ c.place_of.ensures.place in
    record {
      carried_out = record {
        out = λ s given.
            let at = subst (StandsAt s) (sym c.self.view_is) given in
            let after = subst (λ n. StandsFor (write_step s.map c.args.value (held_at s.map n)).map s.addresses c.write.new.self.heap) place (c.write.ensures.stands s.map s.addresses at.stands.stands) in
            let reply = subst (λ n. c.write.result ≡ (write_step s.map c.args.value (held_at s.map n)).reply) place (c.write.ensures.reply s.map s.addresses at.stands.stands) in
            let ends =
            c.law_one_step.ensures.leaving s f.heap.heap c.write.new.self.heap c.args.worker (Write c.args.tag c.args.value) at.stands refl
            after c.write.ensures.places in
            carried old new s c.args.worker (Write c.args.tag c.args.value) c.write.result _ s.cache at ends reply at.cache refl c.write.ensures.frame
            (held_same old new s c.args.worker (Write c.args.tag c.args.value) at ends.stands (c.law_one_step.ensures.tags s c.args.worker (Write c.args.tag c.args.value) refl)
            (kept_at f.holds.items c.place_of.result (Some c.write.new.hold) below (sym (ap is_some here))));
        names = c.write.ensures.frame.names ∙ ap (λ (b : BenchView). length b.heap.heap.names) c.self.view_is;
        settled = ap (λ (b : BenchView). b.settled) c.self.view_is;
      };
    }

pub returns-in-None : goal.returns-in-None
returns-in-None c =
    let f = c.self.inside in
    let old : BenchView = record { cache = f.cache; heap = f.heap; holds = f.holds.items; settled = f.settled } in
    let below : c.place_of.result < length f.holds.items = omega (arith, c.place_of.ensures.within, c.self.invariant.places) in
    let item : get_or f.holds.items c.place_of.result None ≡ c.index_mut.result.now = read_is f.holds.items c.place_of.result c.index_mut.result.now below c.index_mut.ensures.value in
    let new : BenchView = record old { holds = set f.holds.items c.place_of.result c.index_mut.result.now } in
    record {
      carried_out = record {
        out = λ s given.
            let at = subst (StandsAt s) (sym c.self.view_is) given in
            let none : hold_at f.heap.heap (tag_place c.args.worker c.args.tag) ≡ None = not_used s old (tag_place c.args.worker c.args.tag) at (ap (λ n. get_or f.holds.items n None) (sym c.place_of.ensures.place) ∙ (item ∙ c.in-None.is)) in
            let ends = c.law_one_step.ensures.idle s f.heap.heap c.args.worker (Write c.args.tag c.args.value) c.args.tag at.stands none refl in
            carried old new s c.args.worker (Write c.args.tag c.args.value) c.idle.result Idle s.cache at ends c.idle.ensures.reply at.cache refl same_frame
            (held_same old new s c.args.worker (Write c.args.tag c.args.value) at ends.stands (c.law_one_step.ensures.tags s c.args.worker (Write c.args.tag c.args.value) refl)
            (kept_at f.holds.items c.place_of.result c.index_mut.result.now below (ap is_some (sym item))));
        names = ap (λ (b : BenchView). length b.heap.heap.names) c.self.view_is;
        settled = ap (λ (b : BenchView). b.settled) c.self.view_is;
      };
    }
