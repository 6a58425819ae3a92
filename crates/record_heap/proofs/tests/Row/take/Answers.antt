use Rattle.std.proofs.Common.{ℕ, ◌≡◌, ◌<◌, List, Some, length, slice_get, arith, sym, ap, ap₂, ◌∙◌}
use Rattle.std.proofs.Math.Seq.{map-set_same}
use Rattle.std.proofs.lemmas.Option.{slice_get-get_or}
use Rattle.std.proofs.lemmas.List.{length-map, get_or-map}
use Rattle.kmem_buf.specs.Buffers.{BufState, CellState}
use Rattle.kmem_buf.specs.Homes.{cell_homes}
use Rattle.kmem_model.specs.Heap.{Object}
use Rattle.record_heap.proofs.tests.Row.take.Goals as goal

pub returns-clause-homes : goal.returns-clause-homes
returns-clause-homes c =
    map-set_same (λ (x : CellState). x.home) c.self.inside.cells.items c.args.number c.take-buf.new.self c.index_mut-cell.result.now
    (ap (λ (x : CellState). x.home) c.take-buf.ensures.cell ∙ ap (λ (x : CellState). x.home) c.index_mut-cell.ensures.value)
    ∙ ap cell_homes c.self.view_is

pub returns-clause-ready : goal.returns-clause-ready
returns-clause-ready c =
    let cells = c.self.inside.cells.items in
    let n = c.args.number in
    let cell = c.index_mut-cell.result.now in
    let low : n < length cells = omega (arith, c.requires, ap (λ (xs : List CellState). length xs) c.self.view_is) in
    let at : slice_get (cell_homes cells) n ≡ Some cell.home =
    slice_get-get_or (cell_homes cells) n cell.home (omega (arith, low, length-map cells (λ (x : CellState). x.home)))
    ∙ ap Some (get_or-map (λ (x : CellState). x.home) cells n cell cell.home low ∙ ap (λ (x : CellState). x.home) (sym c.index_mut-cell.ensures.value)) in
    record {
      of =
          ap₂ (λ (xs : List CellState) (i : ℕ). slice_get (cell_homes xs) i) (sym c.self.view_is) (sym c.number.ensures ∙ c.if-number.false)
          ∙ (at ∙ ap (λ (b : BufState Object). Some b.home) (sym c.take-buf.ensures.buf));
      blank = ap (λ (b : BufState Object). b.object) c.take-buf.ensures.buf ∙ c.blank.ensures;
    }

pub returns-then-number-clause-homes : goal.returns-then-number-clause-homes
returns-then-number-clause-homes c =
    map-set_same (λ (x : CellState). x.home) c.self.inside.cells.items c.args.number c.take-buf.new.self c.index_mut-cell.result.now
    (ap (λ (x : CellState). x.home) c.take-buf.ensures.cell ∙ ap (λ (x : CellState). x.home) c.index_mut-cell.ensures.value)
    ∙ ap cell_homes c.self.view_is
