use Rattle.std.proofs.Common.{◌≡◌, ◌<◌, ℕ, true, List, length, Option, Some, None, is_some, Err, refl, sym, ap, ◌∙◌, subst}
use Rattle.std.proofs.lemmas.Option.{slice_get_within}
use Rattle.kmem_text.specs.declared.command.Command.TheVariants.{Put}
use Rattle.kmem_text.specs.declared.command.Reply.TheVariants.{New, Full}
use Rattle.kmem_model.specs.CacheState.{CacheState}
use Rattle.kmem_model.specs.CacheEnter.{enter, is_full}
use Rattle.kmem_model.specs.declared.cache_entry.CacheEntry.TheVariants.{Alloc}
use Rattle.kmem_model.specs.Heap.{least_left_in, address_of}
use Rattle.kmem_model.specs.One.{OneState, one_step}
use Rattle.kmem_model.specs.OneStands.{OneEnds}
use Rattle.kmem_text.specs.declared.command.Reply.{Reply}
use Rattle.record_heap.specs.declared.heap.put.PutEnd.TheVariants.{Replied}
use Rattle.object_cache.specs.Cache.{CacheView}
use Rattle.object_cache.specs.declared.cache.AllocRefused.TheVariants as refused
use Rattle.record_heap.specs.View.{HeapView}
use Rattle.record_heap.specs.Puts.{IsPutLast}
use Rattle.record_heap.specs.declared.heap.put.PutEnd.{PutEnd}
use Rattle.run_one.specs.Bench.{BenchView, StandsAt, IsCarriedOut, reply_in}
use Rattle.run_one.proofs.Benches.{carried, held_same, reply_same, legal_full, not_full, ok_err}
use Rattle.run_one.proofs.bench.Bench.put_new.Goals as goal

pub reply_of-requires : goal.reply_of-requires
reply_of-requires c = ap (λ end. is_some (reply_in end)) (c.decide_put.ensures.absent (ap (λ (b : BenchView). address_of b.heap.heap c.args.name.0) c.self.view_is ∙ c.requires.absent)).reply

last_replied : (h : HeapView) (name : ℕ) (value : List ℕ) (x : Option ℕ) (end : PutEnd) (new : HeapView) → IsPutLast h name value x end new → is_some (reply_in end) ≡ true
last_replied h name value None end new put = ap (λ e. is_some (reply_in e)) put.0
last_replied h name value (Some b) end new put = ap (λ e. is_some (reply_in e)) put.reply

pub reply_of-requires-in-Err-Full : goal.reply_of-requires-in-Err-Full
reply_of-requires-in-Err-Full c =
    last_replied c.self.inside.heap c.args.name.0 c.args.value (least_left_in c.self.inside.heap.heap) c.decide_put-in-Err-Full.result c.decide_put-in-Err-Full.new.self
    (c.decide_put-in-Err-Full.ensures.absent (ap (λ (b : BenchView). address_of b.heap.heap c.args.name.0) c.self.view_is ∙ c.requires.absent))

pub returns-in-Ok : goal.returns-in-Ok
returns-in-Ok c =
    let f = c.self.inside in
    let old : BenchView = record { cache = f.cache; heap = f.heap; holds = f.holds.items; settled = f.settled } in
    let new : BenchView = record old { cache = c.alloc.new.self; heap = c.decide_put.new.self } in
    let absent : address_of f.heap.heap c.args.name.0 ≡ None = ap (λ (b : BenchView). address_of b.heap.heap c.args.name.0) c.self.view_is ∙ c.requires.absent in
    let put = c.decide_put.ensures.absent absent in
    record {
      carried_out = record {
        out = λ s given.
            let at = subst (StandsAt s) (sym c.self.view_is) given in
            let ends =
            c.law_one_step.ensures.made s f.heap.heap c.decide_put.new.self.heap c.alloc.new.self.state c.args.worker c.args.name c.args.value c.in-Ok.buf.number at.stands absent
            (ap is_full (sym at.cache) ∙ not_full (is_full f.cache.state) f.cache.state (λ legal. ok_err c.alloc.result c.in-Ok.buf refused.Full c.in-Ok.is (c.alloc.ensures.full.1 legal)))
            (subst (λ (t : CacheState). enter t (Alloc c.in-Ok.buf.number) ≡ Some c.alloc.new.self.state) at.cache c.in-Ok.ensures.entry)
            (subst (λ n. c.in-Ok.buf.number < n) at.cells (slice_get_within f.cache.home.cells c.in-Ok.buf.number c.in-Ok.buf.home c.in-Ok.ensures.ready.1))
            put.empty (put.is_new s.map s.addresses at.stands.stands) put.places in
            carried old new s c.args.worker (Put c.args.name c.args.value) c.reply_of.result New c.alloc.new.self.state at ends
            (reply_same c.reply_of.result New c.decide_put.result None c.reply_of.ensures put.reply) refl c.in-Ok.ensures.home c.decide_put.ensures.frame
            (held_same old new s c.args.worker (Put c.args.name c.args.value) at ends.stands (c.law_one_step.ensures.tags s c.args.worker (Put c.args.name c.args.value) refl) (λ place. refl));
        names = c.decide_put.ensures.frame.names ∙ ap (λ (b : BenchView). length b.heap.heap.names) c.self.view_is;
        settled = ap (λ (b : BenchView). b.settled) c.self.view_is;
      };
    }

last : (c : goal.After-reply_of-in-Err-Full) (s : OneState) → StandsAt s (record { cache = c.self.inside.cache; heap = c.self.inside.heap; holds = c.self.inside.holds.items; settled = c.self.inside.settled }) →
    address_of c.self.inside.heap.heap c.args.name.0 ≡ None →
    (x : Option ℕ) → least_left_in c.self.inside.heap.heap ≡ x → IsPutLast c.self.inside.heap c.args.name.0 c.args.value x c.decide_put-in-Err-Full.result c.decide_put-in-Err-Full.new.self →
    IsCarriedOut s c.args.worker (Put c.args.name c.args.value) c.reply_of-in-Err-Full.result (record { cache = c.alloc.new.self; heap = c.decide_put-in-Err-Full.new.self; holds = c.self.inside.holds.items; settled = c.self.inside.settled })
last c s at absent x left put = by_left x left put
  where
    old : BenchView
    old = record { cache = c.self.inside.cache; heap = c.self.inside.heap; holds = c.self.inside.holds.items; settled = c.self.inside.settled }

    new : BenchView
    new = record { cache = c.alloc.new.self; heap = c.decide_put-in-Err-Full.new.self; holds = c.self.inside.holds.items; settled = c.self.inside.settled }

    full : is_full s.cache ≡ true
    full = ap is_full (sym at.cache) ∙ legal_full (is_full c.self.inside.cache.state) c.self.inside.cache.state (c.alloc.ensures.full.0 (c.in-Err-Full.is ∙ ap Err c.in-Err-Full.field-0-is))

    same : c.alloc.new.self ≡ c.self.inside.cache
    same = c.in-Err-Full.ensures.refused

    done : (said : Reply) → OneEnds (one_step s c.args.worker (Put c.args.name c.args.value)) said s.cache c.decide_put-in-Err-Full.new.self.heap → c.decide_put-in-Err-Full.result ≡ Replied said None →
        IsCarriedOut s c.args.worker (Put c.args.name c.args.value) c.reply_of-in-Err-Full.result new
    done said ends is =
        carried old new s c.args.worker (Put c.args.name c.args.value) c.reply_of-in-Err-Full.result said s.cache at ends
        (reply_same c.reply_of-in-Err-Full.result said c.decide_put-in-Err-Full.result None c.reply_of-in-Err-Full.ensures is)
        (ap (λ (v : CacheView). v.state) same ∙ at.cache) (ap (λ (v : CacheView). v.home) same) c.decide_put-in-Err-Full.ensures.frame
        (held_same old new s c.args.worker (Put c.args.name c.args.value) at ends.stands (c.law_one_step.ensures.tags s c.args.worker (Put c.args.name c.args.value) refl) (λ place. refl))

    by_left : (x : Option ℕ) → least_left_in c.self.inside.heap.heap ≡ x → IsPutLast c.self.inside.heap c.args.name.0 c.args.value x c.decide_put-in-Err-Full.result c.decide_put-in-Err-Full.new.self →
        IsCarriedOut s c.args.worker (Put c.args.name c.args.value) c.reply_of-in-Err-Full.result new
    by_left None left put =
        done Full
        (subst (λ (h : HeapView). OneEnds (one_step s c.args.worker (Put c.args.name c.args.value)) Full s.cache h.heap) (sym put.1)
        (c.law_one_step.ensures.refused s c.self.inside.heap.heap c.args.worker c.args.name c.args.value at.stands absent full left))
        put.0
    by_left (Some b) left put =
        done New
        (c.law_one_step.ensures.reused s c.self.inside.heap.heap c.decide_put-in-Err-Full.new.self.heap c.args.worker c.args.name c.args.value b at.stands absent full left
        (put.is_new s.map s.addresses at.stands.stands) put.places)
        put.reply

pub returns-in-Err-Full : goal.returns-in-Err-Full
returns-in-Err-Full c =
    let f = c.self.inside in
    let absent : address_of f.heap.heap c.args.name.0 ≡ None = ap (λ (b : BenchView). address_of b.heap.heap c.args.name.0) c.self.view_is ∙ c.requires.absent in
    record {
      carried_out = record {
        out = λ s given.
            last c s (subst (StandsAt s) (sym c.self.view_is) given)
            absent (least_left_in f.heap.heap) refl (c.decide_put-in-Err-Full.ensures.absent absent);
        names = c.decide_put-in-Err-Full.ensures.frame.names ∙ ap (λ (b : BenchView). length b.heap.heap.names) c.self.view_is;
        settled = ap (λ (b : BenchView). b.settled) c.self.view_is;
      };
    }
