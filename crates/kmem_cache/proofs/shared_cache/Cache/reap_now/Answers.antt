use Rattle.std.proofs.Common.{◌≡◌, ◌∷◌, ◌++◌, [], refl, ap, ◌∙◌, arith, length-append}
use Rattle.kmem_cache.proofs.Reapings.{rounds_long, reaped_chain}
use Rattle.kmem_cache.proofs.shared_cache.Cache.reap_now.Goals as goal

pub reap_one-requires-clause-left : goal.reap_one-requires-clause-left
reap_one-requires-clause-left g c =
    let reaped = c.loop-i.invariant.reaped in
    let places : c.self.inside.places ≡ c.args.self.now.depot.places = c.self.invariant.places_is ∙ ap (λ s. s.depot.places) c.self.view_is in
    omega (arith, reaped.2.freed.left, rounds_long reaped.0 reaped.2.full, reaped.1, c.loop-i-test.true, places, c.requires.left)

pub loop-i-preserved : goal.loop-i-preserved
loop-i-preserved g c =
    let reaped = c.loop-i.invariant.reaped in let one = c.if-not-reap_one.ensures.one refl in
    record {
      of = c.reap_one.ensures.of;
      reaped = (
        reaped.0 ++ one.0 ∷ [],
        omega (arith, reaped.1, length-append reaped.0 (one.0 ∷ [])),
        reaped_chain c.args.seat.now c.loop-i.seat c.reap_one.new.seat reaped.0 (one.0 ∷ []) reaped.2 one.1,
      );
    }
