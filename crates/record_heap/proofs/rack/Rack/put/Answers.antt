use Rattle.std.proofs.Common.{ℕ, ◌≡◌, ◌<◌, Option, Some, None, List, length, get_or, set, option_map, arith, sym, ap, ap₂, subst, ◌∙◌}
use Rattle.std.proofs.lemmas.Option.{slice_get_within}
use Rattle.std.proofs.lemmas.List.{get_or_read, length-map, set-set}
use Rattle.kmem_buf.specs.Buffers.{BufState}
use Rattle.kmem_buf.specs.Homes.{IsBufferOf}
use Rattle.kmem_model.specs.Heap.{Object}
use Rattle.record_heap.specs.Shelves.{ShelfState, AreShelved, objects_of}
use Rattle.record_heap.proofs.Shelved.{shelved_put, objects_set, one_home}
use Rattle.record_heap.proofs.rack.Rack.put.Goals as goal
use Rattle.record_heap.proofs.rack.Rack.put.Goals.{in-Some-1, in-None-1}

pub invariant_of-self-in-None-2 : goal.invariant_of-self-in-None-2
invariant_of-self-in-None-2 c =
    let f = c.self.inside in
    let n = c.number-number.result in
    let of : IsBufferOf f.home.cells c.args.buf = subst (λ (s : ShelfState). IsBufferOf s.home.cells c.args.buf) (sym c.self.view_is) c.requires in
    subst (AreShelved f.home.cells) (sym (set-set f.bufs.items n c.take.new.self (Some c.args.buf)))
    (shelved_put f.home.cells f.bufs.items n c.args.buf c.self.invariant (sym c.number-number.ensures) of)

pub clash-requires : goal.clash-requires
clash-requires c =
    let f = c.self.inside in
    let n = c.number-number.result in
    let of : IsBufferOf f.home.cells c.args.buf = subst (λ (s : ShelfState). IsBufferOf s.home.cells c.args.buf) (sym c.self.view_is) c.requires in
    let low : n < length f.bufs.items = omega (arith, slice_get_within f.home.cells c.args.buf.number c.args.buf.home of, c.number-number.ensures, c.self.invariant.size) in
    let is : get_or f.bufs.items n None ≡ Some c.in-Some.other =
    sym (get_or_read f.bufs.items n c.index_mut.result.now low c.index_mut.ensures.value None) ∙ (sym c.take.ensures.value ∙ c.in-Some.is) in
    let placed = c.self.invariant.placed n c.in-Some.other is in
    one_home f.home.cells c.args.buf c.in-Some.other of placed.1 (sym c.number-number.ensures ∙ sym placed.0)

pub returns-in-None-clause-range : goal.returns-in-None-clause-range
returns-in-None-clause-range c =
    let f = c.self.inside in
    omega (arith, slice_get_within c.args.self.now.home.cells c.args.buf.number c.args.buf.home c.requires, c.self.invariant.size, ap (λ (s : ShelfState). length s.objects) c.self.view_is, ap (λ (s : ShelfState). length s.home.cells) c.self.view_is, length-map f.bufs.items (option_map (λ (x : BufState Object). x.object)))

pub returns-in-None-clause-shelf : goal.returns-in-None-clause-shelf
returns-in-None-clause-shelf c =
    let f = c.self.inside in
    let n = c.number-number.result in
    let last =
    ap (λ (objects : List (Option Object)). record { objects = objects; home = f.home })
    (ap objects_of (set-set f.bufs.items n c.take.new.self (Some c.args.buf)) ∙ objects_set f.bufs.items n (Some c.args.buf))
    ∙ ap₂ (λ (s : ShelfState) (i : ℕ). record s { objects = set s.objects i (Some c.args.buf.object) }) c.self.view_is c.number-number.ensures in
    elim c.match-index_mut.branch [ in-Some-1 w ↦ w.self-is ∙ last | in-None-1 w ↦ w.self-is ∙ last ]
