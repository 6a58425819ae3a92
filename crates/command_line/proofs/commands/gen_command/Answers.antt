use Rattle.command_line.proofs.Building.{takes}
use Rattle.command_line.proofs.commands.gen_command.Goals as goal

pub returns-clause-app : goal.returns-clause-app
returns-clause-app c =
    takes c.in_ok-made.ensures c.needed-3.ensures.local
    (takes c.in_ok-arg-2.ensures c.needed-2.ensures.local
    (takes c.in_ok-arg.ensures c.needed.ensures.local c.new.ensures.app c.needed.ensures.rule)
    c.needed-2.ensures.rule) c.needed-3.ensures.rule
