use Rattle.std.proofs.Common.{◌≡◌, true, length, List, Bool, arith, sym, ap, ◌∙◌}
use Rattle.std.specs.Prelude.{replicate}
use lib.ListN.{length-replicate}
use Rattle.slab_source.specs.Source.{count_of, bit_at}
use Rattle.slab_source.proofs.Places.{contains-places, count_of-replicate, bit_at-replicate}
use Rattle.slab_source.proofs.supply.Supply.create.Goals as goal

pub invariant_of-result : goal.invariant_of-result
invariant_of-result c =
    let items = c.in_ok-from_elem.field-0.items in
    let is : items ≡ replicate c.args.slabs true = c.in_ok-from_elem.ensures.items_if_clones_equal (λ y e. e) in
    let size : length items ≡ c.args.slabs = ap (λ (bits : List Bool). length bits) is ∙ length-replicate c.args.slabs true in
    (omega (arith, size, c.ranges.slabs.fits), omega arith, (λ k h. absurd (omega arith)), sym (ap count_of is ∙ count_of-replicate c.args.slabs))

pub returns-clause-held : goal.returns-clause-held
returns-clause-held c = λ n.
    let items = c.in_ok-from_elem.field-0.items in
    let is : items ≡ replicate c.args.slabs true = c.in_ok-from_elem.ensures.items_if_clones_equal (λ y e. e) in
    contains-places items n ∙ ap (λ (bits : List Bool). bit_at bits n) is ∙ bit_at-replicate c.args.slabs n
