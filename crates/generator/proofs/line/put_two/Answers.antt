use Rattle.std.proofs.Common.{◌∙◌, arith}
use Rattle.generator.proofs.Pieces.{later}
use Rattle.generator.proofs.line.put_two.Goals as goal

pub returns-clause-rest : goal.returns-clause-rest
returns-clause-rest c = c.put_one.ensures.rest ∙ later c.put_one-at.result c.put_one.result _ _ (omega (arith, c.put_one.ensures.end)) c.put_one-at.ensures.rest
