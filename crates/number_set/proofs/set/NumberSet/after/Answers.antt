use Rattle.std.proofs.Common.{◌+◌, ℕ, List, length, Some, None, arith, sym, ap, ◌∙◌, subst}
use Rattle.number_set.specs.Places.{is_marked, IsLeastFrom}
use Rattle.number_set.specs.Levels.{level_of}
use Rattle.number_set.specs.Sets.{has}
use Rattle.number_set.proofs.Flags.{flag_is, length-flags, least_same}
use Rattle.number_set.proofs.set.NumberSet.after.Goals as goal

pub returns-in_err-after_at-clause-least : goal.returns-in_err-after_at-clause-least
returns-in_err-after_at-clause-least c =
    let ws = level_of c.deref.result.now 0 in
    subst (IsLeastFrom (has c.args.self.now) (c.args.number + 1)) (sym c.from_residual.ensures)
    (least_same (has c.args.self.now) (is_marked ws)
    (λ k. ap (λ s. has s k) (sym c.self.view_is) ∙ (flag_is (level_of c.self.inside.levels.items 0) k ∙ ap (λ ls. is_marked (level_of ls 0) k) (sym c.deref.ensures.value)))
    (c.args.number + 1) None c.in_err-after_at.ensures.least)

pub returns-clause-least : goal.returns-clause-least
returns-clause-least c =
    let ws = level_of c.deref.result.now 0 in
    least_same (has c.args.self.now) (is_marked ws)
    (λ k. ap (λ s. has s k) (sym c.self.view_is) ∙ (flag_is (level_of c.self.inside.levels.items 0) k ∙ ap (λ ls. is_marked (level_of ls 0) k) (sym c.deref.ensures.value)))
    (c.args.number + 1) (Some c.in_ok-after_at.field-0) c.in_ok-after_at.ensures.least

pub after_at-requires-clause-place : goal.after_at-requires-clause-place
after_at-requires-clause-place c =
    let ws = level_of c.self.inside.levels.items 0 in
    omega (arith, c.requires.number, ap (λ s. length s.flags) c.self.view_is, length-flags ws, ap {A = List (List ℕ)} {B = ℕ} (λ ls. length (level_of ls 0)) c.deref.ensures.value)
