use Rattle.std.proofs.Common.{refl}
use Rattle.using_lock.proofs.Counting.{counted}
use Rattle.using_lock.proofs.DrawTurnNumbers.run.Goals as goal

pub returns-clause-told : goal.returns-clause-told
returns-clause-told c h stands can = (counted c.args.numbers.now.first c.args.numbers.now.next c.args._who h stands, (stands.0, refl))
