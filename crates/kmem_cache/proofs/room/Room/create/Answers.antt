use Rattle.std.proofs.Common.{◌++◌, ◌∷◌, [], ap, ◌∙◌}
use mathlib.Core.List.{map}
use mathlib.Core.Option.{some}
use Rattle.kmem_cache.proofs.room.Room.create.Goals as goal

pub new-requires : goal.new-requires
new-requires g c =
    let values = c.in_ok-values.ensures in let slots = c.in_ok-slots.ensures in
    let alone = c.push_reserved.ensures.items ∙ ap (λ l. l ++ c.in_ok-values.values ∷ []) slots.items in
    (c.in_ok-values.values, ap (λ l. map some l) alone, values.items, values.capacity)
