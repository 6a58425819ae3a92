use Rattle.std.proofs.Common.{◌<◌, false, ap, ap₂, ◌∙◌}
use Rattle.std.proofs.lemmas.List.{get_or-replicate}
use Rattle.kmem_model.specs.CacheState.{slab_at, is_listed, is_out_on}
use Rattle.object_cache.proofs.Lists.{place_of}
use Rattle.object_cache.proofs.stock.list_slab.Goals as goal

pub returns-clause-place : goal.returns-clause-place
returns-clause-place g c =
    let same = ap (λ s. s.chunks) c.add.ensures.list in
    let some : 0 < c.args.list.now.chunks = rw same at c.chunks.ensures.whole.some in
    place_of c.args.slab c.args.list.now.chunks c.chunks.result some (c.chunks.ensures.chunks ∙ same)

pub returns-clause-free : goal.returns-clause-free
returns-clause-free g c =
    let new = c.add.new.self in
    let place = place_of c.args.slab new.chunks c.chunks.result c.chunks.ensures.whole.some c.chunks.ensures.chunks in
    let same = ap (λ s. s.chunks) c.add.ensures.list in
    let some : 0 < c.args.list.now.chunks = rw same at c.chunks.ensures.whole.some in (
      ap (λ i. is_listed (slab_at new.slabs i)) place.0 ∙ ap is_listed c.add.ensures.fresh,
      ap₂ (λ i k. is_out_on (slab_at new.slabs i) k) place.0 place.1
          ∙ (ap (λ s. is_out_on s 0) c.add.ensures.fresh ∙ get_or-replicate c.args.list.now.chunks 0 false false some),
    )
