use Rattle.std.proofs.Common.{length}
use Rattle.kmem_model.specs.CacheState.{slab_at, is_dead, used}
use Rattle.kmem_model.specs.CacheOrder.{is_the, is_marked}
use Rattle.slab_list.specs.Bins.{bin_of}
use Rattle.slab_list.proofs.Orders.{dead_by, found_by}
use Rattle.slab_list.proofs.list.SlabList.first_dead.Goals as goal

pub returns : goal.returns
returns g c =
    let s = c.args.self.now in
    found_by c.law_order.ensures.least c.law_order.ensures.no_least (length s.slabs)
    (λ i. is_the (bin_of s.chunks (slab_at s.slabs i)) 129) (λ i. is_dead (slab_at s.slabs i))
    (λ i. dead_by s.chunks (slab_at s.slabs i).standing (used (slab_at s.slabs i)) (is_marked (slab_at s.slabs i)) c.law_whole.ensures.whole.some)
    c.first_in.result c.first_in.ensures
