use Rattle.std.proofs.Common.{◌%◌, sym, subst}
use Rattle.slab_list.specs.Slabs.{ListState}
use Rattle.slab_list.specs.Bins.{IsSpent}
use Rattle.slab_list.proofs.Indexed.{spends}
use Rattle.slab_list.proofs.list.SlabList.mark_spent.Goals as goal

pub invariant_of-self : goal.invariant_of-self
invariant_of-self g c =
    let s = c.self.inside.table in
    rw c.remove.ensures
    (spends s.chunks s.slabs s.skip c.self.inside.index c.args.place c.self.invariant c.requires.range
    (subst (λ (t : ListState). IsSpent t.chunks t.slabs t.skip (c.args.place % 4096)) (sym c.self.view_is) c.requires.spent))
