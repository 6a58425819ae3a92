use Rattle.std.proofs.Common.{◌*◌, sum_by, count_by, arith, ap}
use Rattle.kmem_model.specs.CacheState.{is_listed}
use Rattle.slab_list.proofs.Counted.{count_free, free_listed}
use Rattle.slab_list.proofs.list.SlabList.free_count.Goals as goal

pub overflow_sub-result : goal.overflow_sub-result
overflow_sub-result g c =
    let s = c.self.inside.table in
    let k = c.self.invariant in
    omega (
      arith,
      k.out,
      ap (λ n. n * c.chunks.result) k.listed,
      ap (λ n. count_by is_listed s.slabs * n) c.chunks.ensures.chunks,
      count_free s.chunks s.slabs c.chunks.ensures.whole.slabs,
    )

pub returns : goal.returns
returns g c =
    let s = c.self.inside.table in
    let k = c.self.invariant in
    omega (
      arith,
      k.out,
      ap (λ n. n * c.chunks.result) k.listed,
      ap (λ n. count_by is_listed s.slabs * n) c.chunks.ensures.chunks,
      count_free s.chunks s.slabs c.chunks.ensures.whole.slabs,
      ap (λ t. sum_by free_listed t.slabs) c.self.view_is,
    )
