use Rattle.std.proofs.Common.{◌<◌, ◌+◌, ◌*◌, Some, length, arith, sym, ap, ◌∙◌}
use Rattle.std.specs.Prelude.{option_map}
use Rattle.kmem_model.specs.CacheState.{SlabState, slab_at}
use Rattle.slab_list.proofs.Rows.{row_within, length-slabs_of}
use Rattle.slab_list.proofs.Steps.{line_kept, slab_read}
use Rattle.slab_list.specs.Lines.{IsLine, row_at}
use Rattle.slab_list.proofs.table.SlabTable.stuck.Goals as goal

pub index-requires : goal.index-requires
index-requires g c =
    let f = c.self.inside in
    omega (arith, c.requires, f.lines.ok.0, length-slabs_of f.chunks f.cells.items f.lines.items, ap (λ s. length s.slabs) c.self.view_is)

pub returns-in_err-index : goal.returns-in_err-index
returns-in_err-index g c =
    let f = c.self.inside in
    let i = c.args.slab in
    let below : i < length f.lines.items = omega (arith, c.requires, length-slabs_of f.chunks f.cells.items f.lines.items, ap (λ s. length s.slabs) c.self.view_is) in
    let is = ap (λ s. (slab_at s.slabs i).stuck) (sym c.self.view_is) ∙ (ap (λ (s : SlabState). s.stuck) (slab_read f.chunks f.cells.items f.lines.items c.self.invariant i c.index.result.now c.index.ensures below) ∙ c.in_err-index.was) in
    c.from_residual.ensures ∙ sym (ap (option_map (λ k. i * c.args.self.now.chunks + k)) is)

pub overflow_mul-result : goal.overflow_mul-result
overflow_mul-result g c =
    let f = c.self.inside in
    let i = c.args.slab in
    let below : i < length f.lines.items = omega (arith, c.requires, length-slabs_of f.chunks f.cells.items f.lines.items, ap (λ s. length s.slabs) c.self.view_is) in
    omega (arith, row_within f.chunks i (length f.lines.items) f.cells.items c.self.invariant.whole below, c.self.invariant.few)

pub overflow_add-result : goal.overflow_add-result
overflow_add-result g c =
    let f = c.self.inside in
    let i = c.args.slab in
    let below : i < length f.lines.items = omega (arith, c.requires, length-slabs_of f.chunks f.cells.items f.lines.items, ap (λ s. length s.slabs) c.self.view_is) in
    let line : IsLine f.chunks c.index.result.now (row_at f.chunks f.cells.items i) = line_kept f.chunks f.cells.items f.lines.items c.self.invariant i c.index.result.now c.index.ensures below in
    omega (arith, line.stuck c.in_ok-index.index (c.in_ok-index.was), row_within f.chunks i (length f.lines.items) f.cells.items c.self.invariant.whole below, c.self.invariant.few)

pub returns : goal.returns
returns g c =
    let f = c.self.inside in
    let i = c.args.slab in
    let below : i < length f.lines.items = omega (arith, c.requires, length-slabs_of f.chunks f.cells.items f.lines.items, ap (λ s. length s.slabs) c.self.view_is) in
    let is = ap (λ s. (slab_at s.slabs i).stuck) (sym c.self.view_is) ∙ (ap (λ (s : SlabState). s.stuck) (slab_read f.chunks f.cells.items f.lines.items c.self.invariant i c.index.result.now c.index.ensures below) ∙ c.in_ok-index.was) in
    ap (λ n. Some (i * n + c.in_ok-index.index)) (ap (λ s. s.chunks) c.self.view_is) ∙ sym (ap (option_map (λ k. i * c.args.self.now.chunks + k)) is)
