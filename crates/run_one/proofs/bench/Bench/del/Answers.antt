use Rattle.std.proofs.Common.{◌≡◌, length, Option, Some, refl, sym, ap, ◌∙◌, subst}
use Rattle.std.specs.Option.{IfSome, IfNone}
use Rattle.kmem_buf.specs.Buffers.{BufState}
use Rattle.kmem_model.specs.Heap.{Object}
use Rattle.record_heap.specs.View.{IsHandedOut, IsKeptOn}
use Rattle.kmem_text.specs.declared.command.Command.TheVariants.{Del}
use Rattle.kmem_model.specs.CacheState.{CacheState}
use Rattle.kmem_model.specs.CacheEnter.{enter}
use Rattle.kmem_model.specs.declared.cache_entry.CacheEntry.TheVariants.{Free}
use Rattle.run_one.specs.Bench.{BenchView, StandsAt}
use Rattle.run_one.proofs.Benches.{carried, held_same}
use Rattle.run_one.proofs.bench.Bench.del.Goals as goal

pub returns-in-Some : goal.returns-in-Some
returns-in-Some c =
    let f = c.self.inside in
    let old : BenchView = record { cache = f.cache; heap = f.heap; holds = f.holds.items; settled = f.settled } in
    let new : BenchView = record old { cache = c.free.new.self; heap = c.del-reply.new.self } in
    let out : IsHandedOut f.heap c.args.name.0 c.in-Some.buf c.del-reply.new.self =
    subst (λ (o : Option (BufState Object)). IfSome o (λ buf. IsHandedOut f.heap c.args.name.0 buf c.del-reply.new.self)) c.in-Some.is c.del-reply.ensures.out in
    record {
      carried_out = record {
        out = λ s given.
            let at = subst (StandsAt s) (sym c.self.view_is) given in
            let ends =
            c.law_one_step.ensures.ended s f.heap.heap c.del-reply.new.self.heap c.free.new.self.state c.args.worker c.args.name c.in-Some.buf.number at.stands
            out.address (out.ended s.map s.addresses at.stands.stands)
            (subst (λ (t : CacheState). enter t (Free c.in-Some.buf.number) ≡ Some c.free.new.self.state) at.cache c.free.ensures.entry)
            (c.del-reply.ensures.stands s.map s.addresses at.stands.stands) out.places in
            carried old new s c.args.worker (Del c.args.name) c.del-reply.result.0 _ c.free.new.self.state at ends (c.del-reply.ensures.reply s.map s.addresses at.stands.stands) refl c.free.ensures.home c.del-reply.ensures.frame
            (held_same old new s c.args.worker (Del c.args.name) at ends.stands (c.law_one_step.ensures.tags s c.args.worker (Del c.args.name) refl) (λ place. refl));
        names = c.del-reply.ensures.frame.names ∙ ap (λ (b : BenchView). length b.heap.heap.names) c.self.view_is;
        settled = ap (λ (b : BenchView). b.settled) c.self.view_is;
      };
    }

pub returns-in_default : goal.returns-in_default
returns-in_default c =
    let f = c.self.inside in
    let old : BenchView = record { cache = f.cache; heap = f.heap; holds = f.holds.items; settled = f.settled } in
    let new : BenchView = record old { heap = c.del-reply.new.self } in
    let kept : IsKeptOn f.heap c.args.name.0 c.del-reply.new.self =
    subst (λ (o : Option (BufState Object)). IfNone o (IsKeptOn f.heap c.args.name.0 c.del-reply.new.self)) c.in_default.is c.del-reply.ensures.kept in
    record {
      carried_out = record {
        out = λ s given.
            let at = subst (StandsAt s) (sym c.self.view_is) given in
            let ends =
            c.law_one_step.ensures.kept s f.heap.heap c.del-reply.new.self.heap c.args.worker c.args.name at.stands
            (kept.lives s.map s.addresses at.stands.stands)
            (c.del-reply.ensures.stands s.map s.addresses at.stands.stands) kept.places in
            carried old new s c.args.worker (Del c.args.name) c.del-reply.result.0 _ s.cache at ends (c.del-reply.ensures.reply s.map s.addresses at.stands.stands) at.cache refl c.del-reply.ensures.frame
            (held_same old new s c.args.worker (Del c.args.name) at ends.stands (c.law_one_step.ensures.tags s c.args.worker (Del c.args.name) refl) (λ place. refl));
        names = c.del-reply.ensures.frame.names ∙ ap (λ (b : BenchView). length b.heap.heap.names) c.self.view_is;
        settled = ap (λ (b : BenchView). b.settled) c.self.view_is;
      };
    }
