use Rattle.std.proofs.Common.{◌∙◌, arith}
use Rattle.generator.proofs.Pieces.{later}
use Rattle.generator.proofs.line.put_one.Goals as goal

pub returns-clause-rest : goal.returns-clause-rest
returns-clause-rest c = c.put.ensures.rest ∙ later c.put-at.result c.put.result _ _ (omega (arith, c.put.ensures.end)) c.put-at.ensures.rest
