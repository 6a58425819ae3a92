use Rattle.std.proofs.Common.{◌∙◌, ℕ, refl, subst}
use Rattle.std.specs.Io.KnownBytes.{Appends}
use Rattle.kmem_io.specs.Streams.{AppendsFront}
use Rattle.generator.specs.Made.{made}
use Rattle.run_engine.specs.Ran.{IsRan}
use Rattle.run_made.specs.Making.{made_plan}
use Rattle.run_made.proofs.Summing.{ran_is, text_is, many_so, roomy_so, alone_made}
use Rattle.run_made.proofs.making.made.Goals as goal

pub returns-in-Ok-clause-text : goal.returns-in-Ok-clause-text
returns-in-Ok-clause-text g c =
    subst (Appends (g.W.Sink.written c.args.out.now) (g.W.Sink.written c.write_summary.new.out))
    (text_is c.args.workers c.carry_out-over.result.plan c.carry_out-over.result.script (made c.args.seed c.args.workers c.args.commands) c.carry_out-over.result.ran c.into_ran.result
    c.entries.result.now c.live.result (c.carry_out-over.ensures.plan ∙ c.in_ok-run.ensures.plan) (c.carry_out-over.ensures.script ∙ c.in_ok-run.ensures.script)
    c.into_ran.ensures c.entries.ensures c.live.ensures)
    c.in-Ok.ensures.whole

pub returns-in-Ok-clause-many : goal.returns-in-Ok-clause-many
returns-in-Ok-clause-many g c = many_so c.args.seed c.args.workers c.args.commands c.into_ran.result c.in_ok-run.ensures.whole
    (ran_is c.in_ok-run.run'.plan (made_plan c.args.workers) c.in_ok-run.run'.script (made c.args.seed c.args.workers c.args.commands)
    c.carry_out-over.result.ran c.into_ran.result c.in_ok-run.ensures.plan c.in_ok-run.ensures.script c.into_ran.ensures c.carry_out-over.ensures.ran)

pub returns-in-Ok-clause-roomy : goal.returns-in-Ok-clause-roomy
returns-in-Ok-clause-roomy g c = roomy_so c.args.seed c.args.workers c.args.commands c.into_ran.result c.requires.commands
    (ran_is c.in_ok-run.run'.plan (made_plan c.args.workers) c.in_ok-run.run'.script (made c.args.seed c.args.workers c.args.commands)
    c.carry_out-over.result.ran c.into_ran.result c.in_ok-run.ensures.plan c.in_ok-run.ensures.script c.into_ran.ensures c.carry_out-over.ensures.ran)

pub returns-in-Ok-clause-alone : goal.returns-in-Ok-clause-alone
returns-in-Ok-clause-alone g c = λ one.
    alone_made c.args.seed c.args.commands c.into_ran.result c.requires.commands
    (subst (λ (w : ℕ). IsRan (made_plan w) (made c.args.seed w c.args.commands) c.into_ran.result) one
    (ran_is c.in_ok-run.run'.plan (made_plan c.args.workers) c.in_ok-run.run'.script (made c.args.seed c.args.workers c.args.commands)
    c.carry_out-over.result.ran c.into_ran.result c.in_ok-run.ensures.plan c.in_ok-run.ensures.script c.into_ran.ensures c.carry_out-over.ensures.ran))

pub returns-in-Err-clause-front : goal.returns-in-Err-clause-front
returns-in-Err-clause-front g c = λ failed.
    let is = ran_is c.in_ok-run.run'.plan (made_plan c.args.workers) c.in_ok-run.run'.script (made c.args.seed c.args.workers c.args.commands)
    c.carry_out-over.result.ran c.carry_out-over.result.ran c.in_ok-run.ensures.plan c.in_ok-run.ensures.script refl c.carry_out-over.ensures.ran in
    record {
      records = c.carry_out-over.result.ran.records.entries;
      of = is.records;
      front =
          subst (AppendsFront (g.W.Sink.written c.args.out.now) (g.W.Sink.written c.write_summary.new.out))
          (text_is c.args.workers c.carry_out-over.result.plan c.carry_out-over.result.script (made c.args.seed c.args.workers c.args.commands) c.carry_out-over.result.ran c.carry_out-over.result.ran
          c.entries.result.now c.live.result (c.carry_out-over.ensures.plan ∙ c.in_ok-run.ensures.plan) (c.carry_out-over.ensures.script ∙ c.in_ok-run.ensures.script)
          refl c.entries.ensures c.live.ensures)
          c.write_summary.ensures.front;
    }
