use Rattle.std.proofs.Common.{◌≡◌, ◌<◌, Option, Some, None, List, length, get_or, set, option_map, arith, sym, ap, subst, ◌∙◌}
use Rattle.std.proofs.lemmas.List.{get_or_read, length-map}
use Rattle.kmem_buf.specs.Buffers.{BufState}
use Rattle.kmem_model.specs.Heap.{Object}
use Rattle.record_heap.specs.Shelves.{ShelfState, AreShelved, objects_of}
use Rattle.kmem_model.proofs.RecordsValid.{some_within}
use Rattle.record_heap.proofs.Shelved.{shelved_take, objects_set}
use Rattle.record_heap.proofs.rack.Rack.take.Goals as goal

pub invariant_of-self : goal.invariant_of-self
invariant_of-self c =
    let f = c.self.inside in
    let b = c.args.b in
    let low : b < length f.bufs.items = omega (arith, some_within c.args.self.now.objects b c.requires, ap (λ (s : ShelfState). length s.objects) c.self.view_is, length-map f.bufs.items (option_map (λ (x : BufState Object). x.object))) in
    subst (λ (o : Option (BufState Object)). AreShelved f.home.cells (set f.bufs.items b o)) (sym c.take.ensures.after) (shelved_take f.home.cells f.bufs.items b low c.self.invariant)

pub returns-clause-number : goal.returns-clause-number
returns-clause-number c =
    let f = c.self.inside in
    let b = c.args.b in
    let low : b < length f.bufs.items = omega (arith, some_within c.args.self.now.objects b c.requires, ap (λ (s : ShelfState). length s.objects) c.self.view_is, length-map f.bufs.items (option_map (λ (x : BufState Object). x.object))) in
    let is : get_or f.bufs.items b None ≡ Some c.in-Some.buf =
    sym (get_or_read f.bufs.items b c.index_mut.result.now low c.index_mut.ensures.value None) ∙ (sym c.take.ensures.value ∙ c.in-Some.is) in
    (c.self.invariant.placed b c.in-Some.buf is).0

pub returns-clause-shelf : goal.returns-clause-shelf
returns-clause-shelf c =
    let f = c.self.inside in
    let b = c.args.b in
    ap (λ (objects : List (Option Object)). record { objects = objects; home = f.home })
    (ap (λ (o : Option (BufState Object)). objects_of (set f.bufs.items b o)) c.take.ensures.after ∙ objects_set f.bufs.items b None)
    ∙ ap (λ (s : ShelfState). record s { objects = set s.objects b None }) c.self.view_is
