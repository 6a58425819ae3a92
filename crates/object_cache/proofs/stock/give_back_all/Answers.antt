use Rattle.std.proofs.Common.{◌<◌, List, length, count_by, sym, ap, ap₂, ◌∙◌, subst}
use Rattle.atomic_table.specs.Seated.{TableId}
use Rattle.kmem_model.specs.CacheState.{SlabState, slab_at, is_dead}
use Rattle.kmem_model.specs.CacheOrder.{IsLeastBelow}
use Rattle.slab_list.specs.Slabs.{ListState}
use Rattle.object_cache.proofs.Stocked.{WentBack, went_more, back_all, fewer_dead}
use Rattle.object_cache.proofs.stock.give_back_all.Goals as goal

pub give_back_one-requires-clause-range : goal.give_back_one-requires-clause-range
give_back_one-requires-clause-range g c =
    let slabs = c.loop-slab.list.slabs in
    let f : IsLeastBelow (length slabs) (λ i. is_dead (slab_at slabs i)) c.in-Some.slab =
    (c.law_order.ensures.least (length slabs) c.in-Some.slab (λ i. is_dead (slab_at slabs i))).0 (sym c.in-Some.ensures) in
    f.below

pub loop-slab-preserved : goal.loop-slab-preserved
loop-slab-preserved g c =
    let slabs = c.loop-slab.list.slabs in
    let i = c.in-Some.slab in
    let k = c.loop-slab.invariant in
    let e = c.give_back_one.ensures.list in
    let f : IsLeastBelow (length slabs) (λ j. is_dead (slab_at slabs j)) i =
    (c.law_order.ensures.least (length slabs) i (λ j. is_dead (slab_at slabs j))).0 (sym c.in-Some.ensures) in
    record {
      chunks = ap (λ (s : ListState). s.chunks) e ∙ k.chunks;
      cells = ap (λ (s : ListState). s.cells) e ∙ k.cells;
      skip = ap (λ (s : ListState). s.skip) e ∙ k.skip;
      went = subst (λ (s : ListState). WentBack c.args.list.now.slabs s.slabs) (sym e) (went_more c.args.list.now.slabs slabs i f.below k.went);
      stocked = c.give_back_one.ensures.stocked;
    }

pub loop-slab-smaller : goal.loop-slab-smaller
loop-slab-smaller g c =
    let slabs = c.loop-slab.list.slabs in
    let i = c.in-Some.slab in
    let e = c.give_back_one.ensures.list in
    let f : IsLeastBelow (length slabs) (λ j. is_dead (slab_at slabs j)) i =
    (c.law_order.ensures.least (length slabs) i (λ j. is_dead (slab_at slabs j))).0 (sym c.in-Some.ensures) in
    subst (λ (s : ListState). count_by is_dead s.slabs < count_by is_dead slabs) (sym e) (fewer_dead slabs i f.below f.passes)

pub returns-clause-list : goal.returns-clause-list
returns-clause-list g c =
    let old = c.args.list.now in
    let l = c.loop-slab.list in
    let none = (c.law_order.ensures.no_least (length l.slabs) (λ j. is_dead (slab_at l.slabs j))).0 (sym c.in_default.ensures) in
    let is = back_all old.slabs l.slabs c.loop-slab.invariant.went none in
    ap₂ (λ n skip. record { chunks = n; slabs = l.slabs; cells = l.cells; skip = skip }) c.loop-slab.invariant.chunks c.loop-slab.invariant.skip
    ∙ ap₂ (λ (slabs : List SlabState) (cells : List TableId). record { chunks = old.chunks; slabs = slabs; cells = cells; skip = old.skip }) is
    c.loop-slab.invariant.cells
