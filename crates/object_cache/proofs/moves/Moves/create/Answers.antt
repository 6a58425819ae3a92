use Rattle.std.proofs.Common.{rules, ◌≡◌, None, replicate}
use Rattle.object_cache.proofs.Tracked.{start}
use Rattle.object_cache.proofs.moves.Moves.create.Goals as goal

pub invariant_of-result : goal.invariant_of-result
invariant_of-result c =
    let pending = c.in_ok-from_elem.field-0.items in
    let p : pending ≡ replicate c.args.limit None = search rules in
    rw (p, c.in_ok-create.ensures) (start c.in_ok-create_all.field-0.items c.args.limit c.args.buffers c.in_ok-create_all.ensures.count c.in_ok-create_all.ensures.free c.ranges.limit.fits)
