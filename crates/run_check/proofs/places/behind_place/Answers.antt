use Rattle.std.proofs.Common.{◌≡◌, ◌++◌, ◌∷◌, [], ◌∙◌, ap, take}
use Rattle.std.specs.Fmt.{decimal}
use Rattle.run_check.proofs.Fronts.{behind_front}
use Rattle.run_check.proofs.places.behind_place.Goals as goal

pub returns : goal.returns
returns c =
    behind_front c.args.line.now _ (decimal c.args.worker ++ 32 ∷ decimal c.args.number) c.strip_prefix.result
    (c.fill-end.ensures.text ∙ ap (λ xs. xs ++ 32 ∷ []) c.put_place-end.ensures.text) c.strip_prefix.ensures.cases
