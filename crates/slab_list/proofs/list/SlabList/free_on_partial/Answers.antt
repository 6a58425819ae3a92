use Rattle.std.proofs.Common.{sum_by, arith, ap}
use Rattle.slab_list.proofs.Counted.{free_left, free_partial, unused_few}
use Rattle.slab_list.proofs.list.SlabList.free_on_partial.Goals as goal

pub overflow_sub-result : goal.overflow_sub-result
overflow_sub-result g c =
    let k = c.self.invariant in
    omega (arith, k.listed, k.unused, unused_few c.self.inside.table.slabs)

pub overflow_sub-result-2 : goal.overflow_sub-result-2
overflow_sub-result-2 g c =
    let s = c.self.inside.table in
    let k = c.self.invariant in
    let w = c.chunks.ensures.whole in
    omega (arith, k.out, free_left s.chunks c.chunks.result c.self.inside.index.listed c.self.inside.index.unused s.slabs w.some c.chunks.ensures.chunks w.slabs k.listed k.unused)

pub returns : goal.returns
returns g c =
    let s = c.self.inside.table in
    let k = c.self.invariant in
    let w = c.chunks.ensures.whole in
    omega (
      arith,
      k.out,
      free_left s.chunks c.chunks.result c.self.inside.index.listed c.self.inside.index.unused s.slabs w.some c.chunks.ensures.chunks w.slabs k.listed k.unused,
      ap (λ t. sum_by free_partial t.slabs) c.self.view_is,
    )
