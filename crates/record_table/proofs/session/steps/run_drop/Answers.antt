use Rattle.kmem_text.specs.declared.command.Command.TheVariants.{Drop}
use Rattle.record_table.specs.Turns.{entry_of}
use Rattle.record_table.proofs.Sessions.{met}
use Rattle.record_table.proofs.session.steps.run_drop.Goals as goal

pub returns-clause-met : goal.returns-clause-met
returns-clause-met g c =
    let turn = c.act.ensures.2 in
    met _ c.args.pass.now c.act.new.pass c.act.result c.act.ensures.0 c.act.ensures.1 (entry_of c.args.number (Drop c.args.hold.tag) c.act.result) turn.answered.0 turn c.args.hold turn.answered.2
