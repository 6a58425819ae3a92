use Rattle.std.proofs.Common.{◌<◌, ◌/◌, ◌%◌, length, arith, ap, ◌∙◌}
use Rattle.kmem_model.specs.CacheEnter.{slab_never}
use Rattle.slab_list.proofs.Rows.{length-slabs_of, kept_line, at, IsAt}
use Rattle.slab_list.proofs.Steps.{out_within, buffer_within, listed_of_out, line_step, never_line}
use Rattle.slab_list.specs.Lines.{slabs_of}
use Rattle.slab_list.specs.Slabs.{on_buffer, is_out_in}
use Rattle.slab_list.proofs.table.SlabTable.never.Goals as goal

pub index_mut-line-requires : goal.index_mut-line-requires
index_mut-line-requires g c =
    let f = c.self.inside in
    let b = c.args.number in
    let kept = c.self.invariant in
    let out = ap (λ s. is_out_in s b) c.self.view_is ∙ c.requires in
    let low : b / f.chunks < length f.lines.items = omega (arith, out_within (slabs_of f.chunks f.cells.items f.lines.items) (b / f.chunks) (b % f.chunks) out, length-slabs_of f.chunks f.cells.items f.lines.items) in
    omega (arith, low, f.lines.ok.0)

pub invariant_of-self : goal.invariant_of-self
invariant_of-self g c =
    let f = c.self.inside in
    let b = c.args.number in
    let kept = c.self.invariant in
    let out = ap (λ s. is_out_in s b) c.self.view_is ∙ c.requires in
    let low : b / f.chunks < length f.lines.items = omega (arith, out_within (slabs_of f.chunks f.cells.items f.lines.items) (b / f.chunks) (b % f.chunks) out, length-slabs_of f.chunks f.cells.items f.lines.items) in
    let below : b < length f.cells.items = omega (arith, buffer_within f.chunks (length f.lines.items) b kept.some low, kept.whole) in
    let x = c.index_mut-line.result.now in
    let read = c.index_mut-line.ensures.value in
    let place : IsAt f.chunks (length f.lines.items) b = at f.chunks f.cells.items f.lines.items kept b below in
    kept_line f.chunks f.cells.items f.lines.items kept (b / f.chunks) c.fix.new.self low
    (never_line f.chunks f.cells.items f.lines.items kept (b / f.chunks) x read low c.fix.new.self (b % f.chunks) (c.fix.ensures.slab _) c.fix.ensures.used place.index
    (listed_of_out f.chunks f.cells.items f.lines.items kept b x read below out))

pub returns : goal.returns
returns g c =
    let f = c.self.inside in
    let b = c.args.number in
    let kept = c.self.invariant in
    let out = ap (λ s. is_out_in s b) c.self.view_is ∙ c.requires in
    let low : b / f.chunks < length f.lines.items = omega (arith, out_within (slabs_of f.chunks f.cells.items f.lines.items) (b / f.chunks) (b % f.chunks) out, length-slabs_of f.chunks f.cells.items f.lines.items) in
    let x = c.index_mut-line.result.now in
    line_step f.chunks f.cells.items f.lines.items kept (b / f.chunks) x c.index_mut-line.ensures.value low c.fix.new.self (λ s. slab_never s (b % f.chunks)) (c.fix.ensures.slab _)
    ∙ ap (λ s. on_buffer s b slab_never) c.self.view_is
