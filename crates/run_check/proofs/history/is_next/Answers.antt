use Rattle.std.proofs.Common.{◌≡◌, ◌<◌, ◌∙◌, sym, length, arith}
use Rattle.run_check.proofs.ShareLists.{is_next, is_not_next}
use Rattle.run_check.proofs.history.is_next.Goals as goal

pub returns-clause-yes : goal.returns-clause-yes
returns-clause-yes c = λ yes.
    let share = c.args.share.now in
    let small : share.next < length share.told.items = omega arith in
    is_next c.args.line.now share.told.items share.next c.args.pass c.index.result.now small c.index.ensures (sym c.is_place.ensures ∙ yes)

pub returns-clause-no : goal.returns-clause-no
returns-clause-no c = λ no.
    let share = c.args.share.now in
    let small : share.next < length share.told.items = omega arith in
    is_not_next c.args.line.now share.told.items share.next c.args.pass c.index.result.now small c.index.ensures (sym c.is_place.ensures ∙ no)
