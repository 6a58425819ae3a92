use Rattle.std.proofs.Common.{◌∙◌, ◌<◌, sym, length, arith, below_more}
use Rattle.run_check.proofs.ShareLists.{left_at, left_within}
use Rattle.run_check.proofs.history.find_share.Goals as goal

pub loop-pass-preserved : goal.loop-pass-preserved
loop-pass-preserved c =
    below_more _ _ c.loop-pass.invariant
    (λ e rest left. c.is_next.ensures.no c.if-is_next.false e rest (sym (left_at c.args.shares.now c.loop-pass.pass c.index-shares-pass.result (omega arith) c.index-shares-pass.is) ∙ left))

pub returns-then-is_next-clause-some : goal.returns-then-is_next-clause-some
returns-then-is_next-clause-some c =
    let yes = c.is_next.ensures.yes c.if-is_next.true in
    (yes.0, yes.1, left_at c.args.shares.now c.loop-pass.pass c.index-shares-pass.result (omega arith) c.index-shares-pass.is ∙ yes.2, yes.3)

pub returns-clause-none : goal.returns-clause-none
returns-clause-none c = λ pass e rest left.
    let within : pass < length c.args.shares.now = left_within c.args.shares.now pass e rest left in
    c.loop-pass.invariant pass (omega arith) e rest left
