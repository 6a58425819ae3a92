use Rattle.std.proofs.Common.{◌<◌, length, arith, ap, ◌∙◌}
use Rattle.std.proofs.lemmas.Option.{slice_get_within}
use Rattle.std.proofs.lemmas.List.{length-map}
use Rattle.kmem_buf.specs.Buffers.{CellState}
use Rattle.kmem_model.specs.CacheState.{is_listed}
use Rattle.kmem_model.specs.CacheEnter.{slab_freed}
use Rattle.kmem_model.specs.declared.cache_state.Standing.TheVariants.{Listed}
use Rattle.slab_list.proofs.Rows.{kept_cell}
use Rattle.slab_list.proofs.Steps.{out_count, out_listed, out_read, buffer_slab, cell_step, give_line, give_slab, number_read}
use Rattle.slab_list.specs.Slabs.{on_buffer}
use Rattle.slab_list.proofs.table.SlabTable.give.Goals as goal

pub free-requires : goal.free-requires
free-requires g c =
    let f = c.self.inside in
    let b = c.number-number.result in
    let kept = c.self.invariant in
    let x = c.index_mut-line.result.now in
    let read = c.index_mut-line.ensures.value in
    let cell = c.index_mut-cell.result.now in
    let found = c.index_mut-cell.ensures.value in
    let below : b < length f.cells.items =
    omega (arith, slice_get_within c.args.self.now.cells c.args.buf.number c.args.buf.home c.requires, c.number-number.ensures, length-map f.cells.items (λ (e : CellState). e.home), ap (λ s. length s.cells) c.self.view_is) in
    let out = ap (λ (e : CellState). e.out) c.give-object.ensures.was in
    out_count f.chunks f.cells.items f.lines.items kept b x cell read found below out

pub invariant_of-self : goal.invariant_of-self
invariant_of-self g c =
    let f = c.self.inside in
    let b = c.number-number.result in
    let kept = c.self.invariant in
    let x = c.index_mut-line.result.now in
    let read = c.index_mut-line.ensures.value in
    let cell = c.index_mut-cell.result.now in
    let found = c.index_mut-cell.ensures.value in
    let below : b < length f.cells.items =
    omega (arith, slice_get_within c.args.self.now.cells c.args.buf.number c.args.buf.home c.requires, c.number-number.ensures, length-map f.cells.items (λ (e : CellState). e.home), ap (λ s. length s.cells) c.self.view_is) in
    let out = ap (λ (e : CellState). e.out) c.give-object.ensures.was in
    rw c.free.ensures
    (kept_cell f.chunks f.cells.items f.lines.items kept b c.give-object.new.self _ below
    (ap (λ (e : CellState). e.number) c.give-object.ensures.cell ∙ number_read f.chunks f.cells.items f.lines.items kept b x cell read found below)
    (give_line f.chunks f.cells.items f.lines.items kept b x cell read found below c.give-object.new.self (ap (λ (e : CellState). e.out) c.give-object.ensures.cell) out))

pub returns-clause-was : goal.returns-clause-was
returns-clause-was g c =
    let f = c.self.inside in
    let b = c.number-number.result in
    let kept = c.self.invariant in
    let x = c.index_mut-line.result.now in
    let read = c.index_mut-line.ensures.value in
    let cell = c.index_mut-cell.result.now in
    let found = c.index_mut-cell.ensures.value in
    let below : b < length f.cells.items =
    omega (arith, slice_get_within c.args.self.now.cells c.args.buf.number c.args.buf.home c.requires, c.number-number.ensures, length-map f.cells.items (λ (e : CellState). e.home), ap (λ s. length s.cells) c.self.view_is) in
    let out = ap (λ (e : CellState). e.out) c.give-object.ensures.was in
    rw (← c.number-number.ensures, ← c.self.view_is) (
      ap is_listed (buffer_slab f.chunks f.cells.items f.lines.items kept b x cell read found below) ∙ out_listed f.chunks f.cells.items f.lines.items kept b x cell read found below out,
      out_read f.chunks f.cells.items f.lines.items kept b x cell read found below ∙ out,
    )

pub returns-clause-list : goal.returns-clause-list
returns-clause-list g c =
    let f = c.self.inside in
    let b = c.number-number.result in
    let kept = c.self.invariant in
    let x = c.index_mut-line.result.now in
    let read = c.index_mut-line.ensures.value in
    let cell = c.index_mut-cell.result.now in
    let found = c.index_mut-cell.ensures.value in
    let below : b < length f.cells.items =
    omega (arith, slice_get_within c.args.self.now.cells c.args.buf.number c.args.buf.home c.requires, c.number-number.ensures, length-map f.cells.items (λ (e : CellState). e.home), ap (λ s. length s.cells) c.self.view_is) in
    let out = ap (λ (e : CellState). e.out) c.give-object.ensures.was in
    rw (c.free.ensures, ← c.number-number.ensures)
    (cell_step f.chunks f.cells.items f.lines.items kept b x cell read found below _ c.give-object.new.self (slab_freed Listed)
    (ap (λ (e : CellState). e.home) c.give-object.ensures.cell)
    (give_slab f.chunks f.cells.items f.lines.items kept b x cell read found below c.give-object.new.self (ap (λ (e : CellState). e.out) c.give-object.ensures.cell) out)
    ∙ ap (λ s. on_buffer s b (slab_freed Listed)) c.self.view_is)
