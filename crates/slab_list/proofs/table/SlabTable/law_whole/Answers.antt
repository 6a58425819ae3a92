use Rattle.std.proofs.Common.{subst}
use Rattle.slab_list.proofs.Rows.{whole}
use Rattle.slab_list.specs.Slabs.{IsListWhole}
use Rattle.slab_list.proofs.table.SlabTable.law_whole.Goals as goal

pub returns : goal.returns
returns g c =
    let f = c.self.inside in
    subst IsListWhole c.self.view_is (whole f.chunks f.cells.items f.lines.items c.self.invariant f.skip.items)
