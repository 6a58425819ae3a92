use Rattle.std.proofs.Common.{◌<◌, ◌/◌, length, arith, sym, ap, ◌∙◌}
use Rattle.kmem_buf.specs.Buffers.{CellState}
use Rattle.kmem_model.specs.CacheState.{is_listed}
use Rattle.kmem_model.specs.CacheEnter.{slab_taken}
use Rattle.slab_list.proofs.Rows.{length-slabs_of, kept_cell}
use Rattle.slab_list.proofs.Steps.{listed_within, buffer_within, few_used, out_read, buffer_slab, cell_step, take_line, take_slab, is_of, number_read}
use Rattle.slab_list.specs.Lines.{slabs_of}
use Rattle.slab_list.specs.Slabs.{on_buffer, is_out_in, slab_with}
use Rattle.slab_list.proofs.table.SlabTable.take.Goals as goal

pub index_mut-line-requires : goal.index_mut-line-requires
index_mut-line-requires g c =
    let f = c.self.inside in
    let b = c.args.number in
    let kept = c.self.invariant in
    let listed = ap (λ s. is_listed (slab_with s b)) c.self.view_is ∙ c.requires.0 in
    let low : b / f.chunks < length f.lines.items = omega (arith, listed_within (slabs_of f.chunks f.cells.items f.lines.items) (b / f.chunks) listed, length-slabs_of f.chunks f.cells.items f.lines.items) in
    let below : b < length f.cells.items = omega (arith, buffer_within f.chunks (length f.lines.items) b kept.some low, kept.whole) in
    omega (arith, low, f.lines.ok.0)

pub overflow_add-line : goal.overflow_add-line
overflow_add-line g c =
    let f = c.self.inside in
    let b = c.args.number in
    let kept = c.self.invariant in
    let listed = ap (λ s. is_listed (slab_with s b)) c.self.view_is ∙ c.requires.0 in
    let low : b / f.chunks < length f.lines.items = omega (arith, listed_within (slabs_of f.chunks f.cells.items f.lines.items) (b / f.chunks) listed, length-slabs_of f.chunks f.cells.items f.lines.items) in
    let below : b < length f.cells.items = omega (arith, buffer_within f.chunks (length f.lines.items) b kept.some low, kept.whole) in
    let x = c.index_mut-line.result.now in
    let read = c.index_mut-line.ensures.value in
    omega (arith, few_used f.chunks f.cells.items f.lines.items kept (b / f.chunks) x read low)

pub index_mut-cell-requires : goal.index_mut-cell-requires
index_mut-cell-requires g c =
    let f = c.self.inside in
    let b = c.args.number in
    let kept = c.self.invariant in
    let listed = ap (λ s. is_listed (slab_with s b)) c.self.view_is ∙ c.requires.0 in
    let low : b / f.chunks < length f.lines.items = omega (arith, listed_within (slabs_of f.chunks f.cells.items f.lines.items) (b / f.chunks) listed, length-slabs_of f.chunks f.cells.items f.lines.items) in
    let below : b < length f.cells.items = omega (arith, buffer_within f.chunks (length f.lines.items) b kept.some low, kept.whole) in
    omega (arith, below, f.cells.ok.0)

pub take-requires : goal.take-requires
take-requires g c =
    let f = c.self.inside in
    let b = c.args.number in
    let kept = c.self.invariant in
    let listed = ap (λ s. is_listed (slab_with s b)) c.self.view_is ∙ c.requires.0 in
    let low : b / f.chunks < length f.lines.items = omega (arith, listed_within (slabs_of f.chunks f.cells.items f.lines.items) (b / f.chunks) listed, length-slabs_of f.chunks f.cells.items f.lines.items) in
    let below : b < length f.cells.items = omega (arith, buffer_within f.chunks (length f.lines.items) b kept.some low, kept.whole) in
    let x = c.index_mut-line.result.now in
    let read = c.index_mut-line.ensures.value in
    let cell = c.index_mut-cell.result.now in
    let found = c.index_mut-cell.ensures.value in
    sym (out_read f.chunks f.cells.items f.lines.items kept b x cell read found below) ∙ (ap (λ s. is_out_in s b) c.self.view_is ∙ c.requires.1)

pub invariant_of-self : goal.invariant_of-self
invariant_of-self g c =
    let f = c.self.inside in
    let b = c.args.number in
    let kept = c.self.invariant in
    let listed = ap (λ s. is_listed (slab_with s b)) c.self.view_is ∙ c.requires.0 in
    let low : b / f.chunks < length f.lines.items = omega (arith, listed_within (slabs_of f.chunks f.cells.items f.lines.items) (b / f.chunks) listed, length-slabs_of f.chunks f.cells.items f.lines.items) in
    let below : b < length f.cells.items = omega (arith, buffer_within f.chunks (length f.lines.items) b kept.some low, kept.whole) in
    let x = c.index_mut-line.result.now in
    let read = c.index_mut-line.ensures.value in
    let cell = c.index_mut-cell.result.now in
    let found = c.index_mut-cell.ensures.value in
    let free = sym (out_read f.chunks f.cells.items f.lines.items kept b x cell read found below) ∙ (ap (λ s. is_out_in s b) c.self.view_is ∙ c.requires.1) in
    kept_cell f.chunks f.cells.items f.lines.items kept b c.take.new.self _ below
    (ap (λ (e : CellState). e.number) c.take.ensures.cell ∙ number_read f.chunks f.cells.items f.lines.items kept b x cell read found below)
    (take_line f.chunks f.cells.items f.lines.items kept b x cell read found below c.take.new.self (ap (λ (e : CellState). e.out) c.take.ensures.cell) free
    (ap is_listed (sym (buffer_slab f.chunks f.cells.items f.lines.items kept b x cell read found below)) ∙ listed))

pub returns-clause-list : goal.returns-clause-list
returns-clause-list g c =
    let f = c.self.inside in
    let b = c.args.number in
    let kept = c.self.invariant in
    let listed = ap (λ s. is_listed (slab_with s b)) c.self.view_is ∙ c.requires.0 in
    let low : b / f.chunks < length f.lines.items = omega (arith, listed_within (slabs_of f.chunks f.cells.items f.lines.items) (b / f.chunks) listed, length-slabs_of f.chunks f.cells.items f.lines.items) in
    let below : b < length f.cells.items = omega (arith, buffer_within f.chunks (length f.lines.items) b kept.some low, kept.whole) in
    let x = c.index_mut-line.result.now in
    let read = c.index_mut-line.ensures.value in
    let cell = c.index_mut-cell.result.now in
    let found = c.index_mut-cell.ensures.value in
    cell_step f.chunks f.cells.items f.lines.items kept b x cell read found below _ c.take.new.self slab_taken
    (ap (λ (e : CellState). e.home) c.take.ensures.cell)
    (take_slab f.chunks f.cells.items f.lines.items kept b x cell read found below c.take.new.self (ap (λ (e : CellState). e.out) c.take.ensures.cell)
    (ap is_listed (sym (buffer_slab f.chunks f.cells.items f.lines.items kept b x cell read found below)) ∙ listed))
    ∙ ap (λ s. on_buffer s b slab_taken) c.self.view_is

pub returns-clause-buf : goal.returns-clause-buf
returns-clause-buf g c =
    let f = c.self.inside in
    let b = c.args.number in
    let kept = c.self.invariant in
    let listed = ap (λ s. is_listed (slab_with s b)) c.self.view_is ∙ c.requires.0 in
    let low : b / f.chunks < length f.lines.items = omega (arith, listed_within (slabs_of f.chunks f.cells.items f.lines.items) (b / f.chunks) listed, length-slabs_of f.chunks f.cells.items f.lines.items) in
    let below : b < length f.cells.items = omega (arith, buffer_within f.chunks (length f.lines.items) b kept.some low, kept.whole) in
    let x = c.index_mut-line.result.now in
    let read = c.index_mut-line.ensures.value in
    let cell = c.index_mut-cell.result.now in
    let found = c.index_mut-cell.ensures.value in
    (ap (λ r. r.number) c.take.ensures.buf ∙ number_read f.chunks f.cells.items f.lines.items kept b x cell read found below, ap (λ r. r.object) c.take.ensures.buf)

pub returns-clause-home : goal.returns-clause-home
returns-clause-home g c =
    let f = c.self.inside in
    let b = c.args.number in
    let kept = c.self.invariant in
    let listed = ap (λ s. is_listed (slab_with s b)) c.self.view_is ∙ c.requires.0 in
    let low : b / f.chunks < length f.lines.items = omega (arith, listed_within (slabs_of f.chunks f.cells.items f.lines.items) (b / f.chunks) listed, length-slabs_of f.chunks f.cells.items f.lines.items) in
    let below : b < length f.cells.items = omega (arith, buffer_within f.chunks (length f.lines.items) b kept.some low, kept.whole) in
    let x = c.index_mut-line.result.now in
    let read = c.index_mut-line.ensures.value in
    let cell = c.index_mut-cell.result.now in
    let found = c.index_mut-cell.ensures.value in
    rw c.take.ensures.buf
    (rw (number_read f.chunks f.cells.items f.lines.items kept b x cell read found below, ← c.self.view_is) (is_of f.chunks f.cells.items f.lines.items kept b x cell read found below))
