use Rattle.std.proofs.Common.{◌≡◌, ◌<◌, true, length, get_or, set, Option, Some, None, is_some, refl, sym, ap, ap₂, ◌∙◌, subst, arith}
use Rattle.std.specs.Option.{IfSome}
use Rattle.kmem_text.specs.declared.command.Command.TheVariants.{Drop}
use Rattle.kmem_text.specs.declared.command.Reply.TheVariants.{Idle}
use Rattle.kmem_model.specs.Records.{RecordMap, held_at, tag_place}
use Rattle.kmem_model.specs.RecordStep.{drop_step}
use Rattle.kmem_model.specs.Heap.{StandsFor, hold_at}
use Rattle.record_heap.specs.View.{HoldState}
use Rattle.run_one.specs.Bench.{BenchView, StandsAt, IsHoldAtPlace}
use Rattle.run_one.proofs.Benches.{carried, held_changed, holds_are, cleared_both, kept_at, read_is, not_used, same_frame}
use Rattle.run_one.proofs.bench.Bench.release.Goals as goal

pub returns-in-Some : goal.returns-in-Some
returns-in-Some c =
    let f = c.self.inside in
    let old : BenchView = record { cache = f.cache; heap = f.heap; holds = f.holds.items; settled = f.settled } in
    let below : c.place_of.result < length f.holds.items = omega (arith, c.place_of.ensures.within, c.self.invariant.places) in
    let item : get_or f.holds.items c.place_of.result None ≡ c.index_mut.result.now = read_is f.holds.items c.place_of.result c.index_mut.result.now below c.index_mut.ensures.value in
    let new : BenchView = record old { heap = c.release.new.self; holds = set f.holds.items c.place_of.result c.take.new.self } in
    let here : get_or f.holds.items c.place_of.result None ≡ Some c.in-Some.hold = item ∙ (sym c.take.ensures.value ∙ c.in-Some.is) in
    let place : tag_place c.in-Some.hold.worker c.in-Some.hold.tag ≡ tag_place c.args.worker c.args.tag =
    (subst (λ (o : Option HoldState). IfSome o (IsHoldAtPlace f.heap c.place_of.result)) here (c.self.invariant.held c.place_of.result)).1 ∙ c.place_of.ensures.place in
    record {
      carried_out = record {
        out = λ s given.
            let at = subst (StandsAt s) (sym c.self.view_is) given in
            let after = subst (λ n. StandsFor (drop_step s.map n (held_at s.map n)).map s.addresses c.release.new.self.heap) place (c.release.ensures.stands s.map s.addresses at.stands.stands) in
            let reply = subst (λ n. c.release.result ≡ (drop_step s.map n (held_at s.map n)).reply) place (c.release.ensures.reply s.map s.addresses at.stands.stands) in
            let ends =
            c.law_one_step.ensures.leaving s f.heap.heap c.release.new.self.heap c.args.worker (Drop c.args.tag) at.stands refl
            after c.release.ensures.places in
            let used : is_some (held_at s.map (tag_place c.args.worker c.args.tag)) ≡ true = sym (holds_are s old at (tag_place c.args.worker c.args.tag)) ∙ (ap (λ n. is_some (get_or f.holds.items n None)) (sym c.place_of.ensures.place) ∙ ap is_some here) in
            let tags = ap (λ (m : RecordMap). m.tags) (c.law_one_step.ensures.maps s c.args.worker (Drop c.args.tag) refl) ∙ c.law_step.ensures.dropped s.map c.args.worker c.args.tag used in
            carried old new s c.args.worker (Drop c.args.tag) c.release.result _ s.cache at ends reply at.cache refl c.release.ensures.frame
            (held_changed old new s c.args.worker (Drop c.args.tag) (set s.map.tags (tag_place c.args.worker c.args.tag) None) ends.stands tags
            (λ n. ap₂ (λ i y. is_some (get_or (set f.holds.items i y) n None)) c.place_of.ensures.place c.take.ensures.after
            ∙ cleared_both f.holds.items s.map.tags (tag_place c.args.worker c.args.tag) (holds_are s old at) n));
        names = c.release.ensures.frame.names ∙ ap (λ (b : BenchView). length b.heap.heap.names) c.self.view_is;
        settled = ap (λ (b : BenchView). b.settled) c.self.view_is;
      };
    }

pub returns-in-None : goal.returns-in-None
returns-in-None c =
    let f = c.self.inside in
    let old : BenchView = record { cache = f.cache; heap = f.heap; holds = f.holds.items; settled = f.settled } in
    let below : c.place_of.result < length f.holds.items = omega (arith, c.place_of.ensures.within, c.self.invariant.places) in
    let item : get_or f.holds.items c.place_of.result None ≡ c.index_mut.result.now = read_is f.holds.items c.place_of.result c.index_mut.result.now below c.index_mut.ensures.value in
    let new : BenchView = record old { holds = set f.holds.items c.place_of.result c.take.new.self } in
    let empty : get_or f.holds.items c.place_of.result None ≡ None = item ∙ (sym c.take.ensures.value ∙ c.in-None.is) in
    record {
      carried_out = record {
        out = λ s given.
            let at = subst (StandsAt s) (sym c.self.view_is) given in
            let none : hold_at f.heap.heap (tag_place c.args.worker c.args.tag) ≡ None = not_used s old (tag_place c.args.worker c.args.tag) at (ap (λ n. get_or f.holds.items n None) (sym c.place_of.ensures.place) ∙ empty) in
            let ends = c.law_one_step.ensures.idle s f.heap.heap c.args.worker (Drop c.args.tag) c.args.tag at.stands none refl in
            carried old new s c.args.worker (Drop c.args.tag) c.idle.result Idle s.cache at ends c.idle.ensures.reply at.cache refl same_frame
            (λ n. kept_at f.holds.items c.place_of.result c.take.new.self below (ap is_some c.take.ensures.after ∙ sym (ap is_some empty)) n ∙ at.held n);
        names = ap (λ (b : BenchView). length b.heap.heap.names) c.self.view_is;
        settled = ap (λ (b : BenchView). b.settled) c.self.view_is;
      };
    }
