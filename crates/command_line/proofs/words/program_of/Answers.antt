use Rattle.std.proofs.Common.{◌≡◌, ◌∙◌, [], sym, ap, subst, inl, inr, map}
use Rattle.clap.specs.Words.{App, fault_of, is_simple, is_simple_and_free, subcommand_of, kind_of, IsAmong}
use Rattle.command_line.specs.CommandLine.{program_found}
use Rattle.command_line.proofs.Reading.{taken_program, refused_program, free, simple}
use Rattle.command_line.proofs.Refused.{dashed_none}
use Rattle.command_line.proofs.words.program_of.Goals as goal

pub returns-then-not-are_plain-clause-program : goal.returns-then-not-are_plain-clause-program
returns-then-not-are_plain-clause-program c = sym (dashed_none (map (λ word. word.now) c.args.words.now) (sym c.are_plain.ensures ∙ c.if-not-are_plain.true))

pub returns-in-Ok-clause-program : goal.returns-in-Ok-clause-program
returns-in-Ok-clause-program c =
    let words = map (λ word. word.now) c.args.words.now in
    let whole = c.in_ok-whole_command.ensures in
    let none = subst (λ (a : App). fault_of a words ≡ []) whole (c.in-Ok.ensures.kinds (ap is_simple_and_free whole ∙ free)) in
    let rows = (c.in-Ok.ensures.matches (ap is_simple whole ∙ simple)).1 in
    c.program_found.ensures.program
    ∙ (ap program_found (rows ∙ ap (λ (a : App). subcommand_of a words) whole)
    ∙ taken_program words (sym c.are_plain.ensures ∙ c.if-not-are_plain.false) none)

pub returns-clause-program : goal.returns-clause-program
returns-clause-program c =
    let words = map (λ word. word.now) c.args.words.now in
    let whole = c.in_ok-whole_command.ensures in
    elim (c.in-Err.ensures.kinds (ap is_simple_and_free whole ∙ free)) [
      | inl memory ↦ absurd (c.in_default.not-OutOfMemory (c.kind.ensures ∙ memory))
      | inr among ↦ sym (refused_program words (sym c.are_plain.ensures ∙ c.if-not-are_plain.false) _ (subst (λ (a : App). IsAmong (kind_of c.in-Err.error) (fault_of a words)) whole among))
    ]
