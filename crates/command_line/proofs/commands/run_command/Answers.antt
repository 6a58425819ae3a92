use Rattle.command_line.proofs.Building.{takes}
use Rattle.command_line.proofs.commands.run_command.Goals as goal

pub returns-clause-app : goal.returns-clause-app
returns-clause-app c =
    takes c.in_ok-run.ensures c.new-2.ensures.optional.1
    (takes c.in_ok-arg-4.ensures c.needed-4.ensures.local
    (takes c.in_ok-arg-3.ensures c.needed-3.ensures.local
    (takes c.in_ok-arg-2.ensures c.needed-2.ensures.local
    (takes c.in_ok-arg.ensures c.needed.ensures.local c.new.ensures.app c.needed.ensures.rule)
    c.needed-2.ensures.rule) c.needed-3.ensures.rule) c.needed-4.ensures.rule) c.new-2.ensures.rule
