use Rattle.std.proofs.Common.{eqb, sym, ap, ◌∙◌, w64}
use Rattle.std.proofs.lemmas.Nat.Bits.{bit_at_set_same, bit_at_set_other, bit_at_clear_same, bit_at_clear_other}
use Rattle.std.proofs.lemmas.Nat.{and_le_l}
use Rattle.std.proofs.lemmas.Bool.{both_ways}
use Rattle.number_set.proofs.bits.with_place.Goals as goal

pub returns-then-there-clause-here : goal.returns-then-there-clause-here
returns-then-there-clause-here c = ap (λ b. eqb b 1) (bit_at_set_same w64 c.args.word c.args.place c.requires) ∙ sym c.if-there.true

pub returns-then-there-clause-others : goal.returns-then-there-clause-others
returns-then-there-clause-others c = λ i within other. ap (λ b. eqb b 1) (bit_at_set_other w64 c.args.word c.args.place c.requires i other)

pub returns-else-there-clause-here : goal.returns-else-there-clause-here
returns-else-there-clause-here c = ap (λ b. eqb b 1) (bit_at_clear_same w64 c.args.word c.args.place c.requires) ∙ sym c.if-there.false

pub returns-else-there-clause-others : goal.returns-else-there-clause-others
returns-else-there-clause-others c = λ i within other. ap (λ b. eqb b 1) (bit_at_clear_other w64 c.args.word c.args.place c.requires i within other)

pub returns-then-there-clause-less : goal.returns-then-there-clause-less
returns-then-there-clause-less c = λ missing. absurd (both_ways c.args.there missing c.if-there.true)

pub returns-else-there-clause-less : goal.returns-else-there-clause-less
returns-else-there-clause-less c = λ missing. and_le_l c.args.word _
