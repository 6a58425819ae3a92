use Rattle.std.proofs.Common.{◌≡◌, ◌<◌, ◌+◌, Bool, true, Some, None, List, length, get_or, set, arith, sym, ap, ap₂, ◌∙◌, refl, subst}
use Rattle.std.proofs.Math.Seq.{map-set_same}
use Rattle.std.proofs.lemmas.Option.{slice_get-get_or}
use Rattle.std.proofs.lemmas.List.{length-map, get_or-map}
use Rattle.kmem_buf.specs.Homes.{stub_homes}
use Rattle.kmem_model.specs.declared.cache_state.PendingMove.{PendingMove}
use Rattle.atomic_table.specs.Seated.{TableId}
use Rattle.kmem_buf.specs.Stubs.{StubState}
use Rattle.object_cache.specs.Moves.{MovesState, AreTracked}
use Rattle.object_cache.proofs.Tracked.{fewer, free_says, begun}
use Rattle.object_cache.proofs.moves.Moves.begin.Goals as goal

pub overflow_add-self : goal.overflow_add-self
overflow_add-self c =
    let f = c.self.inside in
    let low : c.args.number < length f.pending.items = omega (arith, c.requires.number, ap (λ m. length m.pending) c.self.view_is) in
    omega (arith, fewer f.stubs.items f.pending.items f.asked f.count c.self.invariant c.args.number low (ap (λ m. get_or m.pending c.args.number None) c.self.view_is ∙ c.requires.idle), c.self.invariant.few)

pub issue-requires : goal.issue-requires
issue-requires c =
    let f = c.self.inside in
    let low : c.args.number < length f.pending.items = omega (arith, c.requires.number, ap (λ m. length m.pending) c.self.view_is) in
    free_says f.stubs.items f.pending.items f.asked f.count c.self.invariant c.args.number low c.index_mut-stub.result.now c.index_mut-stub.ensures.value
    (ap (λ m. get_or m.pending c.args.number None) c.self.view_is ∙ c.requires.idle)

pub invariant_of-self : goal.invariant_of-self
invariant_of-self c =
    let f = c.self.inside in
    let low : c.args.number < length f.pending.items = omega (arith, c.requires.number, ap (λ m. length m.pending) c.self.view_is) in
    let asked : c.ask-2.new.self ≡ set (set f.asked c.args.from true) c.args.to true = c.ask-2.ensures ∙ ap (λ (a : List Bool). set a c.args.to true) c.ask.ensures in
    subst (λ (a : List Bool). AreTracked (set f.stubs.items c.args.number c.issue.new.self)
    (set f.pending.items c.args.number (Some (record { from = c.args.from; to = c.args.to })))
    a (f.count + 1)) (sym asked)
    (begun f.stubs.items f.pending.items f.asked f.count c.self.invariant c.args.number low c.issue.new.self c.args.from c.args.to
    (ap (λ m. get_or m.pending c.args.number None) c.self.view_is ∙ c.requires.idle)
    (omega (arith, c.requires.buffers.0, ap (λ m. length m.asked) c.self.view_is))
    (omega (arith, c.requires.buffers.1, ap (λ m. length m.asked) c.self.view_is))
    (ap (λ s. s.issued) c.issue.ensures.stub)
    (ap (λ s. s.facts) c.issue.ensures.stub ∙ rw (c.from-2.ensures, c.from-3.ensures, c.from-4.ensures) refl))

pub returns-clause-moves : goal.returns-clause-moves
returns-clause-moves c =
    let f = c.self.inside in
    let m : PendingMove = record { from = c.args.from; to = c.args.to } in
    let asked : c.ask-2.new.self ≡ set (set f.asked c.args.from true) c.args.to true = c.ask-2.ensures ∙ ap (λ (a : List Bool). set a c.args.to true) c.ask.ensures in
    ap₂ (λ (a : List Bool) (homes : List TableId). record { asked = a; pending = set f.pending.items c.args.number (Some m); stubs = homes })
    asked
    (map-set_same (λ (s : StubState). s.home) f.stubs.items c.args.number c.issue.new.self c.index_mut-stub.result.now
    (ap (λ s. s.home) c.issue.ensures.stub ∙ ap (λ s. s.home) c.index_mut-stub.ensures.value))
    ∙ ap (λ (s : MovesState). record s { asked = set (set s.asked c.args.from true) c.args.to true; pending = set s.pending c.args.number (Some m) }) c.self.view_is

pub returns-clause-home : goal.returns-clause-home
returns-clause-home c =
    let f = c.self.inside in
    let n = c.args.number in
    let stub = c.index_mut-stub.result.now in
    let low : n < length f.stubs.items = omega (arith, c.requires.number, ap (λ m. length m.pending) c.self.view_is, c.self.invariant.size) in
    rw (← c.self.view_is)
    (slice_get-get_or (stub_homes f.stubs.items) n stub.home (omega (arith, low, length-map f.stubs.items (λ (s : StubState). s.home)))
    ∙ ap Some
    (get_or-map (λ (s : StubState). s.home) f.stubs.items n stub stub.home low
    ∙ (ap (λ (s : StubState). s.home) (sym c.index_mut-stub.ensures.value) ∙ sym (ap (λ s. s.home) c.issue.ensures.slip))))
