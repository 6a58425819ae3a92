use Rattle.std.proofs.Common.{◌++◌, ◌∷◌, [], length, ap, sym, ◌∙◌, arith}
use Rattle.std.proofs.lemmas.List.Sums.{sum_by-drop_more}
use Rattle.hist_lock.specs.Rule.{bounds_of}
use Rattle.hist_lock.specs.Seats.{site_of}
use Rattle.hist_lock.proofs.Passes.{length-fresh_passes_take, fresh_passes_more}
use Rattle.hist_lock.proofs.deal.deal_all.Goals as goal

pub push_reserved-requires : goal.push_reserved-requires
push_reserved-requires g c =
    let inv = c.loop-i.invariant in let passes = c.loop-i.passes in let below = c.loop-i-test.true in
    let so_far = length-fresh_passes_take g.row.O-Entry.Denot (site_of c.args.line.now.table_id (bounds_of g.O.Told.home c.args.terms.now)) 0 c.args.quotas.now c.loop-i.i (omega arith) in
    omega (arith, inv.room, ap length inv.passes, so_far, passes.ok)

pub loop-i-preserved : goal.loop-i-preserved
loop-i-preserved g c =
    let inv = c.loop-i.invariant in let below = c.loop-i-test.true in let one = c.deal_one-pass.ensures in let d = one.dealer in
    let quotas = c.args.quotas.now in let site = site_of c.args.line.now.table_id (bounds_of g.O.Told.home c.args.terms.now) in
    let room = inv.room in let old = inv.deals.left_is in let left = one.left in
    record {
      table = one.same.0 ∙ inv.table;
      deals = record {
        idle = d.idle;
        no_claims = d.no_claims;
        dealt_is = d.dealt_is;
        bounds_is = d.bounds_is;
        left_is = omega (arith, sum_by-drop_more (λ x. x) quotas c.loop-i.i 0 below);
      };
      passes = c.push_reserved.ensures.items ∙ ((λ k. inv.passes k ++ one.pass k ∷ []) ∙ sym (fresh_passes_more site quotas c.loop-i.i below));
      room = omega (arith, c.push_reserved.ensures.capacity);
    }
