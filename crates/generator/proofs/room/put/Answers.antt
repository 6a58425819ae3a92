use Rattle.std.proofs.Common.{◌+◌, length, arith, rules}
use Rattle.std.proofs.lemmas.Slice.{drop-put_mid}
use Rattle.generator.proofs.room.put.Goals as goal

pub returns-clause-rest : goal.returns-clause-rest
returns-clause-rest c = drop-put_mid c.args.at _ c.args.out.now _ (c.args.at + length c.args.piece.now) (omega arith) (omega (arith, c.requires)) (search rules)
