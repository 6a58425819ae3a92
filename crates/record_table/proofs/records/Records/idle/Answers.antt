use Rattle.record_table.proofs.Idle.{idled}
use Rattle.record_table.proofs.records.Records.idle.Goals as goal

pub returns-clause-entered : goal.returns-clause-entered
returns-clause-entered c = λ number. idled c.args.self.now c.args.who number c.args.command.now c.requires.ask.0 c.requires.ask.1 c.requires.ask.2
