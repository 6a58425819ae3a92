use Rattle.std.proofs.Common.{◌∷◌, ◌∙◌, sym, ap, subst, refl, unwrap_or}
use Rattle.std.specs.Prelude.{IsSome}
use Rattle.std.specs.Fmt.{decimal}
use Rattle.generator.proofs.Making.{value_read}
use Rattle.generator.proofs.made.made_value.Goals as goal

pub unwrap-requires : goal.unwrap-requires
unwrap-requires c =
    let digits = c.as_bytes-digits.ensures.value ∙ c.format.ensures.text in
    let same = c.put-len.ensures.text ∙ ap (λ ds. c.args.letter ∷ ds) digits in
    subst IsSome (sym (value_read c.args.letter c.args.number _ c.from_bytes.result c.requires.letter.0 c.requires.letter.1 c.requires.number same c.from_bytes.ensures)) refl

pub returns : goal.returns
returns c =
    let digits = c.as_bytes-digits.ensures.value ∙ c.format.ensures.text in
    let same = c.put-len.ensures.text ∙ ap (λ ds. c.args.letter ∷ ds) digits in
    ap (λ o. unwrap_or o (c.args.letter ∷ decimal c.args.number)) (sym c.unwrap.ensures
    ∙ value_read c.args.letter c.args.number _ c.from_bytes.result c.requires.letter.0 c.requires.letter.1 c.requires.number same c.from_bytes.ensures)
