use Rattle.std.proofs.Common.{ℕ, List, length, Some, None, arith, sym, ap, ◌∙◌, subst}
use Rattle.number_set.specs.Places.{is_marked, IsLastBelow}
use Rattle.number_set.specs.Levels.{level_of}
use Rattle.number_set.specs.Sets.{has}
use Rattle.number_set.proofs.Flags.{flag_is, length-flags, last_same}
use Rattle.number_set.proofs.set.NumberSet.before.Goals as goal

pub returns-in_err-before_at-clause-last : goal.returns-in_err-before_at-clause-last
returns-in_err-before_at-clause-last c =
    let ws = level_of c.deref.result.now 0 in
    subst (IsLastBelow (has c.args.self.now) c.args.number) (sym c.from_residual.ensures)
    (last_same (has c.args.self.now) (is_marked ws)
    (λ k. ap (λ s. has s k) (sym c.self.view_is) ∙ (flag_is (level_of c.self.inside.levels.items 0) k ∙ ap (λ ls. is_marked (level_of ls 0) k) (sym c.deref.ensures.value)))
    c.args.number None c.in_err-before_at.ensures.last)

pub returns-clause-last : goal.returns-clause-last
returns-clause-last c =
    let ws = level_of c.deref.result.now 0 in
    last_same (has c.args.self.now) (is_marked ws)
    (λ k. ap (λ s. has s k) (sym c.self.view_is) ∙ (flag_is (level_of c.self.inside.levels.items 0) k ∙ ap (λ ls. is_marked (level_of ls 0) k) (sym c.deref.ensures.value)))
    c.args.number (Some c.in_ok-before_at.field-0) c.in_ok-before_at.ensures.last

pub before_at-requires-clause-place : goal.before_at-requires-clause-place
before_at-requires-clause-place c =
    let ws = level_of c.self.inside.levels.items 0 in
    omega (arith, c.requires.number, ap (λ s. length s.flags) c.self.view_is, length-flags ws, ap {A = List (List ℕ)} {B = ℕ} (λ ls. length (level_of ls 0)) c.deref.ensures.value)
