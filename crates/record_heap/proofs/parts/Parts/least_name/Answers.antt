use Rattle.std.proofs.Common.{◌≡◌, ◌<◌, ◌&&◌, nat_le, true, is_some, IfSome, length, ap, ◌∙◌, subst}
use Rattle.kmem_model.specs.CacheOrder.{least_below}
use Rattle.kmem_model.specs.Heap.{address_of}
use Rattle.record_heap.specs.View.{HeapView}
use Rattle.record_heap.proofs.Present.{found_from, found_there}
use Rattle.record_heap.proofs.parts.Parts.least_name.Goals as goal

pub returns-clause-least : goal.returns-clause-least
returns-clause-least c =
    found_from c.law_order.ensures.least c.law_order.ensures.no_least c.self.inside.names 0 c.least.result c.least.ensures.least
    ∙ ap (λ (v : HeapView). least_below (length v.heap.names) (λ name. nat_le 0 name && is_some (address_of v.heap name))) c.self.view_is

pub returns-clause-found : goal.returns-clause-found
returns-clause-found c =
    subst (λ (v : HeapView). IfSome c.least.result (λ name. (name < length v.heap.names) × (is_some (address_of v.heap name) ≡ true))) c.self.view_is
    (found_there c.self.inside.names 0 c.least.result c.least.ensures.least)
