use Rattle.command_line.proofs.Building.{joins}
use Rattle.command_line.proofs.commands.whole_command.Goals as goal

pub returns : goal.returns
returns c =
    joins c.in_ok-whole.ensures c.in_ok-made.ensures.local
    (joins c.in_ok-subcommand-3.ensures c.in_ok-run.ensures.local
    (joins c.in_ok-subcommand-2.ensures c.in_ok-check.ensures.local
    (joins c.in_ok-subcommand.ensures c.in_ok-one.ensures.local c.bare_command.ensures c.in_ok-one.ensures.app)
    c.in_ok-check.ensures.app) c.in_ok-run.ensures.app) c.in_ok-made.ensures.app
