use Rattle.std.proofs.Common.{◌≡◌, Option, refl, sym, subst, ◌∙◌, Some}
use Rattle.std.specs.Option.{IfSome, IfNone}
use Rattle.kmem_buf.specs.Buffers.{BufState}
use Rattle.kmem_model.specs.Heap.{Object}
use Rattle.record_heap.specs.View.{IsHandedOut, IsKeptOn}
use Rattle.kmem_text.specs.declared.command.Command.TheVariants.{Del}
use Rattle.kmem_model.specs.CacheState.{CacheState}
use Rattle.kmem_model.specs.CacheEnter.{enter}
use Rattle.kmem_model.specs.RecordStep.{step}
use Rattle.kmem_model.specs.declared.cache_entry.CacheEntry.TheVariants.{Free}
use Rattle.kmem_model.specs.One.{one_step}
use Rattle.consolidator.proofs.Bench.{set_up_after}
use Rattle.consolidator.proofs.tests.Bench.del.Goals as goal

pub invariant_of-self : goal.invariant_of-self
invariant_of-self c =
    let was = c.self.invariant in
    let s = was.state in
    let heap = c.self.inside.heap in
    let out : IsHandedOut heap c.args.name c.in-Some.buf c.del-reply.new.self =
    subst (λ (o : Option (BufState Object)). IfSome o (λ buf. IsHandedOut heap c.args.name buf c.del-reply.new.self)) c.in-Some.is c.del-reply.ensures.out in
    set_up_after c.self.inside.cache heap was c.free.new.self c.del-reply.new.self c.del-reply.ensures.frame c.free.ensures.home
    (one_step s 1 (Del (record { 0 = c.args.name }))) (step s.map 1 (Del (record { 0 = c.args.name }))).reply
    (c.law_one_step.ensures.ended s heap.heap c.del-reply.new.self.heap c.free.new.self.state 1 (record { 0 = c.args.name }) c.in-Some.buf.number was.stands out.address
    (out.ended s.map s.addresses was.stands.stands)
    (subst (λ (t : CacheState). enter t (Free c.in-Some.buf.number) ≡ Some c.free.new.self.state) was.same c.free.ensures.entry)
    (c.del-reply.ensures.stands s.map s.addresses was.stands.stands)
    out.places)

pub invariant_of-self-in_default : goal.invariant_of-self-in_default
invariant_of-self-in_default c =
    let was = c.self.invariant in
    let s = was.state in
    let heap = c.self.inside.heap in
    let kept : IsKeptOn heap c.args.name c.del-reply.new.self =
    subst (λ (o : Option (BufState Object)). IfNone o (IsKeptOn heap c.args.name c.del-reply.new.self)) c.in_default.is c.del-reply.ensures.kept in
    let left =
    c.law_one_step.ensures.kept s heap.heap c.del-reply.new.self.heap 1 (record { 0 = c.args.name }) was.stands
    (kept.lives s.map s.addresses was.stands.stands)
    (c.del-reply.ensures.stands s.map s.addresses was.stands.stands)
    kept.places in
    set_up_after c.self.inside.cache heap was c.self.inside.cache c.del-reply.new.self c.del-reply.ensures.frame refl
    (one_step s 1 (Del (record { 0 = c.args.name }))) (step s.map 1 (Del (record { 0 = c.args.name }))).reply
    (record { replies = left.replies; leaves = left.leaves ∙ sym was.same; stands = left.stands })
