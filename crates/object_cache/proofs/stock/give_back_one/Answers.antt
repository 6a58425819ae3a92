use Rattle.std.proofs.Common.{sym, ◌∙◌}
use Rattle.kmem_model.specs.CacheState.{slab_at}
use Rattle.kmem_model.specs.CacheEnter.{slab_given_back}
use Rattle.object_cache.proofs.Stocked.{held-given, used-set, back_source, back_used}
use Rattle.object_cache.proofs.stock.give_back_one.Goals as goal

pub returns-then-is_dead-clause-stocked : goal.returns-then-is_dead-clause-stocked
returns-then-is_dead-clause-stocked g c =
    let slabs = c.args.list.now.slabs in
    let i = c.args.slab in
    let slab = slab_at slabs i in
    let dead = sym c.is_dead.ensures ∙ c.if-is_dead.true in
    rw (c.give_back.ensures, c.give.ensures)
    (record {
      held = held-given slabs c.args.supply.now i (slab_given_back slab) c.requires.range c.requires.stocked.held (back_source slab dead);
      used = used-set slabs i (slab_given_back slab) c.requires.range (back_used slab dead) (λ j apart. c.requires.stocked.used j);
    })
