use Rattle.std.proofs.Common.{◌+◌, ◌*◌, false, option_map, option_and_then, slice_index_or, ap, ◌∙◌}
use Rattle.kmem_model.specs.CacheOrder.{least_to_move}
use Rattle.slab_list.specs.Slabs.{mode_of}
use Rattle.slab_list.proofs.list.SlabList.last_reclaimable.Goals as goal

pub returns-clause-choice : goal.returns-clause-choice
returns-clause-choice g c =
    let s = c.args.self.now in
    (rw c.last_to_ask.ensures.list at c.least_to_move.ensures.least)
    ∙ ap (option_and_then (λ i. option_map (λ k. i * s.chunks + k)
    (least_to_move s.chunks c.args.numer (mode_of c.args.desperate) (λ b. slice_index_or s.skip b false) s.slabs i))) c.in_ok-slab.ensures.last
