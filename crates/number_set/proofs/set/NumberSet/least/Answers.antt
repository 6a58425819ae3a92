use Rattle.std.proofs.Common.{Some, None, sym, ap, ◌∙◌, subst}
use Rattle.number_set.specs.Places.{is_marked, IsLeastFrom}
use Rattle.number_set.specs.Levels.{level_of}
use Rattle.number_set.specs.Sets.{has}
use Rattle.number_set.proofs.Flags.{flag_is, least_same}
use Rattle.number_set.proofs.set.NumberSet.least.Goals as goal

pub returns-in_err-least_at-clause-least : goal.returns-in_err-least_at-clause-least
returns-in_err-least_at-clause-least c =
    let ws = level_of c.deref.result.now 0 in
    subst (IsLeastFrom (has c.args.self.now) 0) (sym c.from_residual.ensures)
    (least_same (has c.args.self.now) (is_marked ws)
    (λ k. ap (λ s. has s k) (sym c.self.view_is) ∙ (flag_is (level_of c.self.inside.levels.items 0) k ∙ ap (λ ls. is_marked (level_of ls 0) k) (sym c.deref.ensures.value)))
    0 None c.in_err-least_at.ensures.least)

pub returns-clause-least : goal.returns-clause-least
returns-clause-least c =
    let ws = level_of c.deref.result.now 0 in
    least_same (has c.args.self.now) (is_marked ws)
    (λ k. ap (λ s. has s k) (sym c.self.view_is) ∙ (flag_is (level_of c.self.inside.levels.items 0) k ∙ ap (λ ls. is_marked (level_of ls 0) k) (sym c.deref.ensures.value)))
    0 (Some c.in_ok-least_at.field-0) c.in_ok-least_at.ensures.least
