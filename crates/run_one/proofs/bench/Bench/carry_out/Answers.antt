use Rattle.std.proofs.Common.{sym, subst}
use Rattle.kmem_text.specs.declared.command.Command.{Command}
use Rattle.kmem_text.specs.declared.command.Command.TheVariants.{Link, Fix, Loose}
use Rattle.run_one.specs.Bench.{CarriesOut}
use Rattle.run_one.proofs.Benches.{reply_within}
use Rattle.run_one.proofs.bench.Bench.carry_out.Goals as goal

pub returns-in-Link-clause-carried_out : goal.returns-in-Link-clause-carried_out
returns-in-Link-clause-carried_out c =
    subst (λ (command : Command). CarriesOut c.args.self.now c.args.worker command c.link.result c.link.new.self) (sym c.in-Link.is) (c.link.ensures.carried_out c.args.worker)

pub returns-in-Link-clause-within : goal.returns-in-Link-clause-within
returns-in-Link-clause-within c =
    reply_within c.args.self.now c.link.new.self c.args.worker (Link c.in-Link.name c.in-Link.other) c.link.result c.requires.stands (c.link.ensures.carried_out c.args.worker)
    (λ s. c.law_one_step.ensures.within s c.args.worker (Link c.in-Link.name c.in-Link.other))

pub returns-in-Fix-clause-carried_out : goal.returns-in-Fix-clause-carried_out
returns-in-Fix-clause-carried_out c =
    subst (λ (command : Command). CarriesOut c.args.self.now c.args.worker command c.fix.result c.fix.new.self) (sym c.in-Fix.is) (c.fix.ensures.carried_out c.args.worker)

pub returns-in-Fix-clause-within : goal.returns-in-Fix-clause-within
returns-in-Fix-clause-within c =
    reply_within c.args.self.now c.fix.new.self c.args.worker (Fix c.in-Fix.name) c.fix.result c.requires.stands (c.fix.ensures.carried_out c.args.worker)
    (λ s. c.law_one_step.ensures.within s c.args.worker (Fix c.in-Fix.name))

pub returns-in-Loose-clause-carried_out : goal.returns-in-Loose-clause-carried_out
returns-in-Loose-clause-carried_out c =
    subst (λ (command : Command). CarriesOut c.args.self.now c.args.worker command c.loose.result c.loose.new.self) (sym c.in-Loose.is) (c.loose.ensures.carried_out c.args.worker)

pub returns-in-Loose-clause-within : goal.returns-in-Loose-clause-within
returns-in-Loose-clause-within c =
    reply_within c.args.self.now c.loose.new.self c.args.worker (Loose c.in-Loose.name) c.loose.result c.requires.stands (c.loose.ensures.carried_out c.args.worker)
    (λ s. c.law_one_step.ensures.within s c.args.worker (Loose c.in-Loose.name))

pub returns-in-Get-clause-carried_out : goal.returns-in-Get-clause-carried_out
returns-in-Get-clause-carried_out c = c.look.ensures c.args.worker

pub returns-in-Get-clause-within : goal.returns-in-Get-clause-within
returns-in-Get-clause-within c =
    reply_within c.args.self.now c.args.self.now c.args.worker c.args.command.now c.look.result c.requires.stands (c.look.ensures c.args.worker)
    (λ s. c.law_one_step.ensures.within s c.args.worker c.args.command.now)
