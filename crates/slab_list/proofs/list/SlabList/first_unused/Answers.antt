use Rattle.std.proofs.Common.{◌≡◌, ◌*◌, length, Some, arith, sym, ap, ◌∙◌, option_map}
use Rattle.kmem_model.specs.CacheState.{slab_at, used}
use Rattle.kmem_model.specs.CacheOrder.{is_the, is_marked}
use Rattle.slab_list.specs.Slabs.{is_unused}
use Rattle.slab_list.specs.Bins.{bin_of}
use Rattle.slab_list.proofs.Orders.{unused_by, found_by}
use Rattle.slab_list.proofs.list.SlabList.first_unused.Goals as goal

pub returns-in_err-slab-clause-first : goal.returns-in_err-slab-clause-first
returns-in_err-slab-clause-first g c =
    let s = c.args.self.now in
    c.from_residual.ensures
    ∙ ap (option_map (λ i. i * s.chunks))
    (sym c.in_err-slab.was ∙ found_by c.law_order.ensures.least c.law_order.ensures.no_least (length s.slabs)
    (λ i. is_the (bin_of s.chunks (slab_at s.slabs i)) 128) (λ i. is_unused (slab_at s.slabs i))
    (λ i. unused_by s.chunks (slab_at s.slabs i).standing (used (slab_at s.slabs i)) (is_marked (slab_at s.slabs i)) c.law_whole.ensures.whole.some)
    c.first_in.result c.first_in.ensures)

pub returns-clause-first : goal.returns-clause-first
returns-clause-first g c =
    let s = c.args.self.now in
    let number : c.number.result ≡ c.in_ok-slab.slab * s.chunks = omega (arith, c.number.ensures.number) in
    ap Some number
    ∙ ap (option_map (λ i. i * s.chunks))
    (sym c.in_ok-slab.was ∙ found_by c.law_order.ensures.least c.law_order.ensures.no_least (length s.slabs)
    (λ i. is_the (bin_of s.chunks (slab_at s.slabs i)) 128) (λ i. is_unused (slab_at s.slabs i))
    (λ i. unused_by s.chunks (slab_at s.slabs i).standing (used (slab_at s.slabs i)) (is_marked (slab_at s.slabs i)) c.law_whole.ensures.whole.some)
    c.first_in.result c.first_in.ensures)
