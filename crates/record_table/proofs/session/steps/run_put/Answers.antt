use Rattle.record_table.proofs.Sessions.{put_added}
use Rattle.record_table.proofs.session.steps.run_put.Goals as goal

pub returns-clause-put : goal.returns-clause-put
returns-clause-put g c =
    put_added c.args.pass.now c.act.new.pass c.args.number c.args.name c.args.value c.args.offer c.args.share c.act.result c.act.ensures.0 c.act.ensures.1 c.act.ensures.2
