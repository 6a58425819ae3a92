use Rattle.std.proofs.Common.{◌<◌, None, List, length, set, arith, ap, ◌∙◌}
use Rattle.std.proofs.Math.Seq.{map-set_same}
use Rattle.std.proofs.lemmas.Option.{slice_get_within}
use Rattle.std.proofs.lemmas.List.{length-map}
use Rattle.atomic_table.specs.Seated.{TableId}
use Rattle.kmem_buf.specs.Stubs.{StubState}
use Rattle.object_cache.specs.Moves.{MovesState}
use Rattle.object_cache.proofs.Tracked.{pending_says, some_pending, ended}
use Rattle.object_cache.proofs.moves.Moves.end.Goals as goal

pub overflow_sub-self : goal.overflow_sub-self
overflow_sub-self c =
    let f = c.self.inside in
    let p = c.pending.inside in
    let low : p.slot < length f.pending.items =
    omega (arith, slice_get_within c.args.self.now.stubs c.args.pending.slot c.args.pending.home c.requires, length-map f.stubs.items (λ (s : StubState). s.home), c.self.invariant.size, ap (λ m. length m.stubs) c.self.view_is, ap (λ q. q.slot) c.pending.view_is) in
    let says =
    pending_says f.stubs.items f.pending.items f.asked f.count c.self.invariant p.slot low c.index_mut-stub.result.now p.no p.from p.to c.index_mut-stub.ensures.value
    (ap (λ s. s.issued) c.redeem.ensures.was) (ap (λ s. s.facts) c.redeem.ensures.was ∙ c.pending.invariant) in
    some_pending f.stubs.items f.pending.items f.asked f.count c.self.invariant p.slot low (record { from = p.from; to = p.to }) says.0.1

pub invariant_of-self : goal.invariant_of-self
invariant_of-self c =
    let f = c.self.inside in
    let p = c.pending.inside in
    let low : p.slot < length f.pending.items =
    omega (arith, slice_get_within c.args.self.now.stubs c.args.pending.slot c.args.pending.home c.requires, length-map f.stubs.items (λ (s : StubState). s.home), c.self.invariant.size, ap (λ m. length m.stubs) c.self.view_is, ap (λ q. q.slot) c.pending.view_is) in
    let says =
    pending_says f.stubs.items f.pending.items f.asked f.count c.self.invariant p.slot low c.index_mut-stub.result.now p.no p.from p.to c.index_mut-stub.ensures.value
    (ap (λ s. s.issued) c.redeem.ensures.was) (ap (λ s. s.facts) c.redeem.ensures.was ∙ c.pending.invariant) in
    ended f.stubs.items f.pending.items f.asked f.count c.self.invariant p.slot low c.redeem.new.self (record { from = p.from; to = p.to }) says.0.1
    c.redeem.ensures.ended

pub returns-clause-buffers : goal.returns-clause-buffers
returns-clause-buffers c =
    let f = c.self.inside in
    let p = c.pending.inside in
    let low : p.slot < length f.pending.items =
    omega (arith, slice_get_within c.args.self.now.stubs c.args.pending.slot c.args.pending.home c.requires, length-map f.stubs.items (λ (s : StubState). s.home), c.self.invariant.size, ap (λ m. length m.stubs) c.self.view_is, ap (λ q. q.slot) c.pending.view_is) in
    let says =
    pending_says f.stubs.items f.pending.items f.asked f.count c.self.invariant p.slot low c.index_mut-stub.result.now p.no p.from p.to c.index_mut-stub.ensures.value
    (ap (λ s. s.issued) c.redeem.ensures.was) (ap (λ s. s.facts) c.redeem.ensures.was ∙ c.pending.invariant) in
    rw (← c.self.view_is, ← c.pending.view_is) says.1

pub returns-clause-was : goal.returns-clause-was
returns-clause-was c =
    let f = c.self.inside in
    let p = c.pending.inside in
    let low : p.slot < length f.pending.items =
    omega (arith, slice_get_within c.args.self.now.stubs c.args.pending.slot c.args.pending.home c.requires, length-map f.stubs.items (λ (s : StubState). s.home), c.self.invariant.size, ap (λ m. length m.stubs) c.self.view_is, ap (λ q. q.slot) c.pending.view_is) in
    let says =
    pending_says f.stubs.items f.pending.items f.asked f.count c.self.invariant p.slot low c.index_mut-stub.result.now p.no p.from p.to c.index_mut-stub.ensures.value
    (ap (λ s. s.issued) c.redeem.ensures.was) (ap (λ s. s.facts) c.redeem.ensures.was ∙ c.pending.invariant) in
    rw (← c.self.view_is, ← c.pending.view_is) (record { no = says.0.0; move = says.0.1 })

pub returns-clause-moves : goal.returns-clause-moves
returns-clause-moves c =
    let f = c.self.inside in
    let p = c.pending.inside in
    rw (← c.pending.view_is)
    (ap (λ (homes : List TableId). record { asked = f.asked; pending = set f.pending.items p.slot None; stubs = homes })
    (map-set_same (λ (s : StubState). s.home) f.stubs.items p.slot c.redeem.new.self c.index_mut-stub.result.now
    (c.redeem.ensures.home ∙ ap (λ s. s.home) c.index_mut-stub.ensures.value))
    ∙ ap (λ (s : MovesState). record s { pending = set s.pending p.slot None }) c.self.view_is)
