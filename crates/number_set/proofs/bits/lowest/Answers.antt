use Rattle.std.proofs.Common.{eqb, ap, w64}
use Rattle.std.proofs.lemmas.Nat.Bits.{bit_at-trailing_zeros}
use Rattle.number_set.proofs.bits.lowest.Goals as goal

pub returns-clause-there : goal.returns-clause-there
returns-clause-there c =
    let t = bit_at-trailing_zeros w64 c.args.word c.requires c.ranges.word.fits in
    ap (λ b. eqb b 1) t.1

pub returns-clause-least : goal.returns-clause-least
returns-clause-least c =
    let t = bit_at-trailing_zeros w64 c.args.word c.requires c.ranges.word.fits in
    λ i low. ap (λ b. eqb b 1) (t.2 i low)
