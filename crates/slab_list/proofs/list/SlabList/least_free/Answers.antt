use Rattle.std.proofs.Common.{◌+◌, ◌*◌, not, Some, length, arith, sym, ap, ap₂, ◌∙◌, option_map}
use Rattle.kmem_model.specs.CacheState.{slab_at, is_out_on}
use Rattle.slab_list.proofs.Choices.{slab_size}
use Rattle.slab_list.proofs.list.SlabList.least_free.Goals as goal

pub returns-then-not-is_out_at-clause-least : goal.returns-then-not-is_out_at-clause-least
returns-then-not-is_out_at-clause-least g c =
    let s = c.args.self.now in
    let slab = slab_at s.slabs c.args.slab in
    ap Some c.number.ensures.number
    ∙ sym (ap (option_map (λ k. c.args.slab * s.chunks + k))
    ((c.law_order.ensures.least (length slab.out) c.loop-index.index (λ k. not (is_out_on slab k))).1
    (record {
      below = omega (arith, c.loop-index-test.true, c.chunks-index-end.ensures.chunks, slab_size s c.chunks-index-end.ensures.whole c.args.slab c.requires);
      passes = ap not (sym c.is_out_at.ensures ∙ c.if-not-is_out_at.true);
      least = c.loop-index.invariant;
    })))

pub returns-then-not-is_out_at-clause-room : goal.returns-then-not-is_out_at-clause-room
returns-then-not-is_out_at-clause-room g c =
    let slabs = c.args.self.now.slabs in
    let place = c.number.ensures.place in (
      ap (slab_at slabs) place.0,
      ap₂ (λ i k. is_out_on (slab_at slabs i) k) place.0 place.1 ∙ (sym c.is_out_at.ensures ∙ c.if-not-is_out_at.true),
    )
