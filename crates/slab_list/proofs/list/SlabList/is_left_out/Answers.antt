use Rattle.std.proofs.Common.{length, arith, ap}
use Rattle.slab_list.specs.Slabs.{ListState}
use Rattle.slab_list.proofs.list.SlabList.is_left_out.Goals as goal

pub is_left_out-requires : goal.is_left_out-requires
is_left_out-requires g c =
    omega (arith, c.requires, c.law_whole.ensures.cells, c.self.invariant.as_many, ap (λ (s : ListState). length s.cells) c.self.view_is)
