use Rattle.std.proofs.Common.{◌<◌, length, arith, ap, ◌∙◌}
use Rattle.std.proofs.lemmas.Option.{slice_get_within}
use Rattle.std.proofs.lemmas.List.{length-map}
use Rattle.kmem_buf.specs.Stubs.{StubState}
use Rattle.object_cache.proofs.Tracked.{pending_says}
use Rattle.object_cache.proofs.moves.Moves.meet.Goals as goal

pub returns-clause-is : goal.returns-clause-is
returns-clause-is c =
    let f = c.self.inside in
    let p = c.pending.inside in
    let low : p.slot < length f.pending.items =
    omega (arith, slice_get_within c.args.self.now.stubs c.args.pending.now.slot c.args.pending.now.home c.requires, length-map f.stubs.items (λ (s : StubState). s.home), c.self.invariant.size, ap (λ m. length m.stubs) c.self.view_is, ap (λ q. q.slot) c.pending.view_is) in
    let says =
    pending_says f.stubs.items f.pending.items f.asked f.count c.self.invariant p.slot low c.index_mut-stub.result.now p.no p.from p.to c.index_mut-stub.ensures.value
    (ap (λ s. s.issued) c.meet.ensures.issued) (ap (λ s. s.facts) c.meet.ensures.issued ∙ c.pending.invariant) in
    rw (← c.self.view_is, ← c.pending.view_is) (record { no = says.0.0; move = says.0.1 })

pub returns-clause-buffers : goal.returns-clause-buffers
returns-clause-buffers c =
    let f = c.self.inside in
    let p = c.pending.inside in
    let low : p.slot < length f.pending.items =
    omega (arith, slice_get_within c.args.self.now.stubs c.args.pending.now.slot c.args.pending.now.home c.requires, length-map f.stubs.items (λ (s : StubState). s.home), c.self.invariant.size, ap (λ m. length m.stubs) c.self.view_is, ap (λ q. q.slot) c.pending.view_is) in
    let says =
    pending_says f.stubs.items f.pending.items f.asked f.count c.self.invariant p.slot low c.index_mut-stub.result.now p.no p.from p.to c.index_mut-stub.ensures.value
    (ap (λ s. s.issued) c.meet.ensures.issued) (ap (λ s. s.facts) c.meet.ensures.issued ∙ c.pending.invariant) in
    rw (← c.self.view_is, ← c.pending.view_is) says.1
