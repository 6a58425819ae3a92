use Rattle.std.proofs.Common.{length, refl, sym, ap, ◌∙◌, subst}
use Rattle.kmem_text.specs.declared.command.Command.TheVariants.{Link}
use Rattle.run_one.specs.Bench.{BenchView, StandsAt}
use Rattle.run_one.proofs.Benches.{carried, held_same}
use Rattle.run_one.proofs.bench.Bench.link.Goals as goal

pub returns : goal.returns
returns c =
    let f = c.self.inside in
    let old : BenchView = record { cache = f.cache; heap = f.heap; holds = f.holds.items; settled = f.settled } in
    let new : BenchView = record old { heap = c.link.new.self } in
    record {
      carried_out = λ worker. record {
        out = λ s given.
            let at = subst (StandsAt s) (sym c.self.view_is) given in
            let ends =
            c.law_one_step.ensures.leaving s f.heap.heap c.link.new.self.heap worker (Link c.args.name c.args.other) at.stands refl
            (c.link.ensures.stands s.map s.addresses at.stands.stands) c.link.ensures.places in
            carried old new s worker (Link c.args.name c.args.other) c.link.result _ s.cache at ends (c.link.ensures.reply s.map s.addresses at.stands.stands) at.cache refl c.link.ensures.frame
            (held_same old new s worker (Link c.args.name c.args.other) at ends.stands (c.law_one_step.ensures.tags s worker (Link c.args.name c.args.other) refl) (λ place. refl));
        names = c.link.ensures.frame.names ∙ ap (λ (b : BenchView). length b.heap.heap.names) c.self.view_is;
        settled = ap (λ (b : BenchView). b.settled) c.self.view_is;
      };
    }
