use Rattle.std.proofs.Common.{length, refl, sym, ap, ◌∙◌, subst}
use Rattle.kmem_text.specs.declared.command.Command.TheVariants.{Loose}
use Rattle.run_one.specs.Bench.{BenchView, StandsAt}
use Rattle.run_one.proofs.Benches.{carried, held_same}
use Rattle.run_one.proofs.bench.Bench.loose.Goals as goal

pub returns : goal.returns
returns c =
    let f = c.self.inside in
    let old : BenchView = record { cache = f.cache; heap = f.heap; holds = f.holds.items; settled = f.settled } in
    let new : BenchView = record old { heap = c.loose.new.self } in
    record {
      carried_out = λ worker. record {
        out = λ s given.
            let at = subst (StandsAt s) (sym c.self.view_is) given in
            let ends =
            c.law_one_step.ensures.leaving s f.heap.heap c.loose.new.self.heap worker (Loose c.args.name) at.stands refl
            (c.loose.ensures.stands s.map s.addresses at.stands.stands) c.loose.ensures.places in
            carried old new s worker (Loose c.args.name) c.loose.result _ s.cache at ends (c.loose.ensures.reply s.map s.addresses at.stands.stands) at.cache refl c.loose.ensures.frame
            (held_same old new s worker (Loose c.args.name) at ends.stands (c.law_one_step.ensures.tags s worker (Loose c.args.name) refl) (λ place. refl));
        names = c.loose.ensures.frame.names ∙ ap (λ (b : BenchView). length b.heap.heap.names) c.self.view_is;
        settled = ap (λ (b : BenchView). b.settled) c.self.view_is;
      };
    }
