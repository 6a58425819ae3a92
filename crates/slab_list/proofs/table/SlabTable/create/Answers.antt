use Rattle.std.proofs.Common.{◌≡◌, replicate, sym, ap, ◌∙◌, subst}
use Rattle.slab_list.specs.Lines.{IsListKept, slabs_of, line_in_source}
use Rattle.slab_list.proofs.Whole.{slabs_start, kept_start}
use Rattle.slab_list.proofs.table.SlabTable.create.Goals as goal

pub invariant_of-result : goal.invariant_of-result
invariant_of-result g c =
    let cells = c.in_ok-free_cells.field-0.items in
    let lines = c.in_ok-from_elem.field-0.items in
    let is : lines ≡ replicate c.args.slabs line_in_source = c.in_ok-from_elem.ensures.items_if_clones_equal (λ y e. e) ∙ ap (replicate c.args.slabs) c.in_source.ensures in
    subst (IsListKept c.args.chunks cells) (sym is)
    (kept_start c.args.chunks c.args.slabs cells c.requires.chunks.0 c.requires.buffers c.in_ok-free_cells.ensures.count c.in_ok-free_cells.ensures.free)

pub returns-clause-slabs : goal.returns-clause-slabs
returns-clause-slabs g c =
    let cells = c.in_ok-free_cells.field-0.items in
    let lines = c.in_ok-from_elem.field-0.items in
    let is : lines ≡ replicate c.args.slabs line_in_source = c.in_ok-from_elem.ensures.items_if_clones_equal (λ y e. e) ∙ ap (replicate c.args.slabs) c.in_source.ensures in
    ap (slabs_of c.args.chunks cells) is
    ∙ slabs_start c.args.chunks c.args.slabs cells c.requires.chunks.0 c.requires.buffers c.in_ok-free_cells.ensures.count c.in_ok-free_cells.ensures.free
