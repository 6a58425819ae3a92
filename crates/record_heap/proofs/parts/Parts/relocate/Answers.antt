use Rattle.std.proofs.Common.{ℕ, ◌≡◌, ◌==◌, true, Option, Some, None, List, [], length, get_or, set, map, cond, sym, ap, ap₂, ◌∙◌, arith}
use Rattle.std.specs.List.{list_any}
use Rattle.std.specs.Option.{option_map_or}
use Rattle.kmem_buf.specs.Buffers.{BufState}
use Rattle.kmem_model.specs.CacheOrder.{is_the}
use Rattle.kmem_model.specs.Heap.{Object, address_of, object_at}
use Rattle.kmem_model.specs.Says.{moved_name, relocated}
use Rattle.record_heap.specs.Shelves.{ShelfState}
use Rattle.record_heap.specs.View.{HeapView}
use Rattle.record_heap.specs.Changes.{names_in}
use Rattle.kmem_model.proofs.RecordsValid.{read_within, is_the_some}
use Rattle.record_heap.proofs.Moved.{renamed_is}
use Rattle.record_heap.proofs.Shelved.{view_of, moved_in}
use Rattle.record_heap.proofs.parts.Parts.relocate.Goals as goal

pub rename-requires : goal.rename-requires
rename-requires c = λ name any.
    let f = c.self.inside in
    let from = c.args.from in
    let now_is = c.self.view_is ∙ c.show_empty-to.ensures.parts in
    let object : c.object.result.now ≡ c.take-old.result.object = c.object.ensures ∙ (c.swap.ensures.y_after ∙ c.object_mut.ensures.value) in
    let names : c.names.result.now ≡ names_in c.args.self.now.heap from =
    c.names.ensures
    ∙ (ap (λ (o : Object). o.names) object
    ∙ (sym (ap (λ (y : Option Object). option_map_or (λ (q : Object). q.names) y []) c.take-old.ensures.object) ∙ ap (λ (v : HeapView). names_in v.heap from) now_is)) in
    let leads : is_the (address_of c.args.self.now.heap name) from ≡ true =
    sym (ap (λ (xs : List ℕ). list_any (λ other. other == name) xs) names ∙ c.requires.names name) ∙ any in
    omega (arith, read_within c.args.self.now.heap.names name from (is_the_some (address_of c.args.self.now.heap name) from leads), ap (λ (v : HeapView). length v.heap.names) now_is)

pub returns-clause-parts : goal.returns-clause-parts
returns-clause-parts c =
    let f = c.self.inside in
    let from = c.args.from in
    let to = c.args.to.number in
    let now_is = c.self.view_is ∙ c.show_empty-to.ensures.parts in
    let object : c.object.result.now ≡ c.take-old.result.object = c.object.ensures ∙ (c.swap.ensures.y_after ∙ c.object_mut.ensures.value) in
    let number : c.show_empty-to.result.number ≡ to = ap (λ (b : BufState Object). b.number) c.show_empty-to.ensures.buf in
    let names : c.names.result.now ≡ names_in c.args.self.now.heap from =
    c.names.ensures
    ∙ (ap (λ (o : Object). o.names) object
    ∙ (sym (ap (λ (y : Option Object). option_map_or (λ (q : Object). q.names) y []) c.take-old.ensures.object) ∙ ap (λ (v : HeapView). names_in v.heap from) now_is)) in
    let renamed : c.rename.new.names ≡ map (moved_name from to) f.names =
    renamed_is f.names c.rename.new.names c.names.result.now from to c.rename.ensures.size
    (λ name.
    c.rename.ensures.names name
    ∙ ap (λ (n : ℕ). cond (list_any (λ other. other == name) c.names.result.now) (Some n) (get_or f.names name None)) (c.number.ensures ∙ number))
    (λ name.
    ap (λ (xs : List ℕ). list_any (λ other. other == name) xs) names
    ∙ (c.requires.names name ∙ ap (λ (v : HeapView). is_the (address_of v.heap name) from) (sym now_is))) in
    let shelf : c.put.new.self ≡ record f.shelf { objects = set (set f.shelf.objects to (get_or f.shelf.objects from None)) from None } =
    moved_in f.shelf c.take-old.new.self c.put.new.self from to c.take-old.result.object c.take-old.ensures.object (ap (λ (v : HeapView). object_at v.heap to) now_is ∙ c.show_empty-to.ensures.empty) c.take-old.ensures.shelf
    (c.put.ensures.shelf
    ∙ ap₂ (λ (o : Object) (n : ℕ). record c.take-old.new.self { objects = set c.take-old.new.self.objects n (Some o) }) (c.swap.ensures.y_after ∙ c.object_mut.ensures.value) number) in
    ap₂ (λ (xs : List (Option ℕ)) (s : ShelfState). view_of xs f.tags s) renamed shelf ∙ ap (λ (v : HeapView). record v { heap = relocated v.heap from to }) now_is
