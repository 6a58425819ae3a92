use Rattle.std.proofs.Common.{sym, ap, ◌∙◌}
use Rattle.kmem_text.specs.Grammar.{placed}
use Rattle.kmem_text.specs.declared.command.Command.TheVariants.{Link, Hold}
use Rattle.kmem_text.proofs.build.placed.Goals as goal

pub returns-in-Link-clause-command : goal.returns-in-Link-clause-command
returns-in-Link-clause-command c = (λ i. Link (c.place_of-in-Link.ensures.place i) (c.place_of-in-Link-2.ensures.place i)) ∙ ap (placed c.args.names.now) (sym c.in-Link.is)

pub returns-in-Hold-clause-command : goal.returns-in-Hold-clause-command
returns-in-Hold-clause-command c = (λ i. Hold c.in-Hold.tag (c.place_of-in-Hold.ensures.place i)) ∙ ap (placed c.args.names.now) (sym c.in-Hold.is)
