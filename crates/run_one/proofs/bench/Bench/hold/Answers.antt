use Rattle.std.proofs.Common.{◌≡◌, ◌<◌, length, get_or, set, Some, None, is_some, refl, sym, ap, ◌∙◌, subst, arith}
use Rattle.kmem_text.specs.declared.command.Command.TheVariants.{Hold}
use Rattle.kmem_text.specs.declared.command.Reply.TheVariants.{Done}
use Rattle.kmem_model.specs.Records.{RecordMap, tag_place}
use Rattle.run_one.specs.Bench.{BenchView, StandsAt, CarriesOut}
use Rattle.run_one.proofs.Benches.{carried, held_same, held_changed, holds_are, filled_both, tags_size, some_is, none_not}
use Rattle.run_one.proofs.bench.Bench.hold.Goals as goal
use Rattle.run_one.proofs.bench.Bench.hold.Goals.{in-Some-1, in-None-1}

pub returns-in-Some : goal.returns-in-Some
returns-in-Some c =
    let f = c.self.inside in
    let old : BenchView = record { cache = f.cache; heap = f.heap; holds = f.holds.items; settled = f.settled } in
    let below : c.place_of.result < length f.holds.items = omega (arith, c.place_of.ensures.within, c.self.invariant.places) in
    let new : BenchView = record old { heap = c.hold-reply.new.self; holds = set f.holds.items c.place_of.result (Some c.in-Some.hold) } in
    let done : c.hold-reply.result.0 ≡ Done = c.hold-reply.ensures.done.1 (some_is c.hold-reply.result.1 c.in-Some.hold c.in-Some.is) in
    let is : c.match-index_mut.self ≡ new = elim c.match-index_mut.branch [ in-Some-1 w ↦ w.self-is | in-None-1 w ↦ w.self-is ] in
    record {
      carried_out = subst (CarriesOut c.args.self.now c.args.worker (Hold c.args.tag c.args.name) c.hold-reply.result.0) (sym is) (record {
        out = λ s given.
            let at = subst (StandsAt s) (sym c.self.view_is) given in
            let reply = c.hold-reply.ensures.reply s.map s.addresses at.stands.stands in
            let ends =
            c.law_one_step.ensures.leaving s f.heap.heap c.hold-reply.new.self.heap c.args.worker (Hold c.args.tag c.args.name) at.stands refl
            (c.hold-reply.ensures.stands s.map s.addresses at.stands.stands) c.hold-reply.ensures.places in
            let held = c.law_step.ensures.held s.map c.args.worker c.args.tag c.args.name (sym reply ∙ done) in
            let tags = ap (λ (m : RecordMap). m.tags) (c.law_one_step.ensures.maps s c.args.worker (Hold c.args.tag c.args.name) refl) ∙ held.1 in
            carried old new s c.args.worker (Hold c.args.tag c.args.name) c.hold-reply.result.0 _ s.cache at ends reply at.cache refl c.hold-reply.ensures.frame
            (held_changed old new s c.args.worker (Hold c.args.tag c.args.name) (set s.map.tags (tag_place c.args.worker c.args.tag) (Some held.0)) ends.stands tags
            (λ n. ap (λ i. is_some (get_or (set f.holds.items i (Some c.in-Some.hold)) n None)) c.place_of.ensures.place
            ∙ filled_both f.holds.items s.map.tags (tag_place c.args.worker c.args.tag) c.in-Some.hold held.0
            (subst (λ i. i < length f.holds.items) c.place_of.ensures.place below)
            (subst (λ i. i < length s.map.tags) c.place_of.ensures.place (omega (arith, c.place_of.ensures.within, tags_size s old at, c.self.invariant.tags)))
            (holds_are s old at) n));
        names = c.hold-reply.ensures.frame.names ∙ ap (λ (b : BenchView). length b.heap.heap.names) c.self.view_is;
        settled = ap (λ (b : BenchView). b.settled) c.self.view_is;
      });
    }

pub returns-in_default : goal.returns-in_default
returns-in_default c =
    let f = c.self.inside in
    let old : BenchView = record { cache = f.cache; heap = f.heap; holds = f.holds.items; settled = f.settled } in
    let new : BenchView = record old { heap = c.hold-reply.new.self } in
    record {
      carried_out = record {
        out = λ s given.
            let at = subst (StandsAt s) (sym c.self.view_is) given in
            let reply = c.hold-reply.ensures.reply s.map s.addresses at.stands.stands in
            let ends =
            c.law_one_step.ensures.leaving s f.heap.heap c.hold-reply.new.self.heap c.args.worker (Hold c.args.tag c.args.name) at.stands refl
            (c.hold-reply.ensures.stands s.map s.addresses at.stands.stands) c.hold-reply.ensures.places in
            let tags = ap (λ (m : RecordMap). m.tags) (c.law_one_step.ensures.maps s c.args.worker (Hold c.args.tag c.args.name) refl)
            ∙ c.law_step.ensures.not_held s.map c.args.worker c.args.tag c.args.name (λ done. none_not c.hold-reply.result.1 c.in_default.is (c.hold-reply.ensures.done.0 (reply ∙ done))) in
            carried old new s c.args.worker (Hold c.args.tag c.args.name) c.hold-reply.result.0 _ s.cache at ends reply at.cache refl c.hold-reply.ensures.frame
            (held_same old new s c.args.worker (Hold c.args.tag c.args.name) at ends.stands tags (λ place. refl));
        names = c.hold-reply.ensures.frame.names ∙ ap (λ (b : BenchView). length b.heap.heap.names) c.self.view_is;
        settled = ap (λ (b : BenchView). b.settled) c.self.view_is;
      };
    }
