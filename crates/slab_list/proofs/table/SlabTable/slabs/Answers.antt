use Rattle.std.proofs.Common.{length, arith, ap, subst}
use Rattle.slab_list.proofs.Rows.{length-slabs_of, whole}
use Rattle.slab_list.specs.Slabs.{IsListWhole}
use Rattle.slab_list.proofs.table.SlabTable.slabs.Goals as goal

pub returns-clause-slabs : goal.returns-clause-slabs
returns-clause-slabs g c =
    let f = c.self.inside in
    omega (arith, c.len.ensures, f.lines.ok.0, length-slabs_of f.chunks f.cells.items f.lines.items, ap (λ s. length s.slabs) c.self.view_is)

pub returns-clause-whole : goal.returns-clause-whole
returns-clause-whole g c =
    let f = c.self.inside in
    subst IsListWhole c.self.view_is (whole f.chunks f.cells.items f.lines.items c.self.invariant f.skip.items)
