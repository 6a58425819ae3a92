use Rattle.std.proofs.Common.{◌≡◌, ◌<◌, sym, ◌∙◌, ap, subst, Some}
use Rattle.std.proofs.lemmas.Option.{slice_get_within}
use Rattle.std.specs.Option.{is_some}
use Rattle.kmem_text.specs.declared.command.Command.TheVariants.{Put}
use Rattle.kmem_text.specs.declared.command.Reply.TheVariants.{New}
use Rattle.kmem_model.specs.CacheState.{CacheState}
use Rattle.kmem_model.specs.CacheEnter.{enter, is_full}
use Rattle.kmem_model.specs.declared.cache_entry.CacheEntry.TheVariants.{Alloc}
use Rattle.kmem_model.specs.One.{one_step}
use Rattle.object_cache.specs.declared.cache.AllocRefused.TheVariants.{Full}
use Rattle.consolidator.proofs.Bench.{none_is, not_full, ok_err, set_up_after}
use Rattle.consolidator.proofs.tests.Bench.put.Goals as goal

pub invariant_of-self-in-Ok-2 : goal.invariant_of-self-in-Ok-2
invariant_of-self-in-Ok-2 c =
    let was = c.self.invariant in
    let s = was.state in
    let cache = c.self.inside.cache in
    let heap = c.self.inside.heap in
    let absent = none_is _ (sym (ap is_some c.address.ensures) ∙ (sym c.is_some.ensures ∙ c.if-is_some.false)) in
    let put = c.decide_put-end.ensures.absent absent in
    set_up_after cache heap was c.alloc.new.self c.decide_put-end.new.self c.decide_put-end.ensures.frame c.in-Ok.ensures.home
    (one_step s 1 (Put (record { 0 = c.args.name }) c.args.value)) New
    (c.law_one_step.ensures.made s heap.heap c.decide_put-end.new.self.heap c.alloc.new.self.state 1 (record { 0 = c.args.name }) c.args.value c.in-Ok.buf.number was.stands absent
    (ap is_full (sym was.same) ∙ not_full (is_full cache.state) cache.state (λ legal. ok_err c.alloc.result c.in-Ok.buf Full c.in-Ok.is (c.alloc.ensures.full.1 legal)))
    (subst (λ (t : CacheState). enter t (Alloc c.in-Ok.buf.number) ≡ Some c.alloc.new.self.state) was.same c.in-Ok.ensures.entry)
    (subst (λ n. c.in-Ok.buf.number < n) (was.cells ∙ was.stands.size) (slice_get_within cache.home.cells c.in-Ok.buf.number c.in-Ok.buf.home c.in-Ok.ensures.ready.1))
    put.empty
    (put.is_new s.map s.addresses was.stands.stands)
    put.places)
