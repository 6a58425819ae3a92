use Rattle.std.proofs.Common.{◌≡◌, true, None, IfSome, length, get_or, ap, ◌∙◌, subst}
use Rattle.kmem_model.specs.CacheOrder.{least_below}
use Rattle.kmem_model.specs.Heap.{is_leftover}
use Rattle.record_heap.specs.Shelves.{ShelfState}
use Rattle.record_heap.proofs.Present.{least_left, left_there}
use Rattle.record_heap.proofs.shelf.Shelf.first_leftover.Goals as goal

pub returns-clause-least : goal.returns-clause-least
returns-clause-least c =
    least_left c.law_order.ensures.least c.law_order.ensures.no_least c.self.inside.rack.objects c.self.inside.leftovers c.self.invariant c.least.result c.least.ensures.least
    ∙ ap (λ (s : ShelfState). least_below (length s.objects) (λ b. is_leftover (get_or s.objects b None))) c.self.view_is

pub returns-clause-found : goal.returns-clause-found
returns-clause-found c =
    subst (λ (s : ShelfState). IfSome c.least.result (λ b. is_leftover (get_or s.objects b None) ≡ true)) c.self.view_is
    (left_there c.self.inside.rack.objects c.self.inside.leftovers c.self.invariant c.least.result c.least.ensures.least)
