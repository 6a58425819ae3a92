use Rattle.std.proofs.Common.{◌≡◌, ℕ, length, Option, Some, None, is_some, refl, sym, ap, ◌∙◌, subst}
use Rattle.kmem_text.specs.declared.command.Command.TheVariants.{Put}
use Rattle.kmem_model.specs.Heap.{address_of}
use Rattle.kmem_model.specs.One.{OneState}
use Rattle.record_heap.specs.View.{HeapView}
use Rattle.run_one.specs.Bench.{BenchView, StandsAt, Stands, CarriesOut, IsCarriedOut}
use Rattle.run_one.proofs.Benches.{carried, held_same, reply_same, wanted_not, absent_is}
use Rattle.run_one.proofs.bench.Bench.put.Goals as goal

pub returns-in-Some : goal.returns-in-Some
returns-in-Some c =
    let f = c.self.inside in
    let old : BenchView = record { cache = f.cache; heap = f.heap; holds = f.holds.items; settled = f.settled } in
    let new : BenchView = record old { heap = c.decide_put-end.new.self } in
    let told = sym c.reply_in.ensures ∙ c.in-Some.is in
    record {
      carried_out = record {
        out = λ s given. by_address c s given (address_of f.heap.heap c.args.name.0) refl;
        names = c.decide_put-end.ensures.frame.names ∙ ap (λ (b : BenchView). length b.heap.heap.names) c.self.view_is;
        settled = ap (λ (b : BenchView). b.settled) c.self.view_is;
      };
    }
  where
    by_address : (c : goal.Joined-end) (s : OneState) → StandsAt s c.args.self.now → (x : Option ℕ) → address_of c.self.inside.heap.heap c.args.name.0 ≡ x →
        IsCarriedOut s c.args.worker (Put c.args.name c.args.value) c.in-Some.reply (record { cache = c.self.inside.cache; heap = c.decide_put-end.new.self; holds = c.self.inside.holds.items; settled = c.self.inside.settled })
    by_address c s given None e = absurd (wanted_not c.decide_put-end.result c.in-Some.reply (sym c.reply_in.ensures ∙ c.in-Some.is) (c.decide_put-end.ensures.absent e).0)
    by_address c s given (Some b) e =
        let f = c.self.inside in
        let old : BenchView = record { cache = f.cache; heap = f.heap; holds = f.holds.items; settled = f.settled } in
        let new : BenchView = record old { heap = c.decide_put-end.new.self } in
        let at = subst (StandsAt s) (sym c.self.view_is) given in
        let put = c.decide_put-end.ensures.present b e in
        let ends =
        c.law_one_step.ensures.replaced s f.heap.heap c.decide_put-end.new.self.heap c.args.worker c.args.name c.args.value at.stands
        (ap is_some e) (put.stands s.map s.addresses at.stands.stands) put.places in
        carried old new s c.args.worker (Put c.args.name c.args.value) c.in-Some.reply _ s.cache at ends
        (reply_same c.in-Some.reply _ c.decide_put-end.result None (sym c.reply_in.ensures ∙ c.in-Some.is) (put.reply s.map s.addresses at.stands.stands)) at.cache refl c.decide_put-end.ensures.frame
        (held_same old new s c.args.worker (Put c.args.name c.args.value) at ends.stands (c.law_one_step.ensures.tags s c.args.worker (Put c.args.name c.args.value) refl) (λ place. refl))

-- where nothing was replied, the name is absent
pub put_new-requires-clause-absent : goal.put_new-requires-clause-absent
put_new-requires-clause-absent c =
    let f = c.self.inside in
    let s = c.requires.stands.0 in
    let at = subst (StandsAt s) (sym c.self.view_is) c.requires.stands.1 in
    let absent = absent_is f.heap c.args.name.0 c.args.value c.decide_put-end.result c.decide_put-end.new.self s at.stands c.decide_put-end.ensures.present (sym c.reply_in.ensures ∙ c.in-None.is) in
    ap (λ (h : HeapView). address_of h.heap c.args.name.0) (c.decide_put-end.ensures.absent absent).1 ∙ absent

pub put_new-requires-clause-stands : goal.put_new-requires-clause-stands
put_new-requires-clause-stands c =
    let f = c.self.inside in
    let s = c.requires.stands.0 in
    let at = subst (StandsAt s) (sym c.self.view_is) c.requires.stands.1 in
    let absent = absent_is f.heap c.args.name.0 c.args.value c.decide_put-end.result c.decide_put-end.new.self s at.stands c.decide_put-end.ensures.present (sym c.reply_in.ensures ∙ c.in-None.is) in
    subst Stands (sym (ap (λ (h : HeapView). record { cache = f.cache; heap = h; holds = f.holds.items; settled = f.settled }) (c.decide_put-end.ensures.absent absent).1 ∙ c.self.view_is)) c.requires.stands

pub returns : goal.returns
returns c =
    let f = c.self.inside in
    let s = c.requires.stands.0 in
    let at = subst (StandsAt s) (sym c.self.view_is) c.requires.stands.1 in
    let absent = absent_is f.heap c.args.name.0 c.args.value c.decide_put-end.result c.decide_put-end.new.self s at.stands c.decide_put-end.ensures.present (sym c.reply_in.ensures ∙ c.in-None.is) in
    record {
      carried_out = subst (λ (b : BenchView). CarriesOut b c.args.worker (Put c.args.name c.args.value) c.put_new.result c.put_new.new.self)
          (ap (λ (h : HeapView). record { cache = f.cache; heap = h; holds = f.holds.items; settled = f.settled }) (c.decide_put-end.ensures.absent absent).1 ∙ c.self.view_is)
          c.put_new.ensures.carried_out;
    }
