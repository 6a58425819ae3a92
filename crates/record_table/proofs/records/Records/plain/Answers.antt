use Rattle.std.proofs.Common.{refl, subst}
use Rattle.kmem_text.specs.declared.command.Command.TheVariants.{Get, First, Next, Count, Link, Fix, Loose}
use Rattle.kmem_model.specs.RecordStep.{step}
use Rattle.kmem_model.specs.History.{worker_of}
use Rattle.record_heap.specs.View.{IsReplyBy}
use Rattle.record_table.specs.Tables.{TableView}
use Rattle.record_table.proofs.Entered.{Enters, changed, looked}
use Rattle.record_table.proofs.Lives.{link_lives, fix_lives, loose_lives}
use Rattle.record_table.proofs.records.Records.plain.Goals as goal

pub returns-in-Get-clause-entered : goal.returns-in-Get-clause-entered
returns-in-Get-clause-entered c = λ number.
    looked c.args.self.now c.args.who number c.args.command.now (Get c.in-Get.name) c.get.result c.in-Get.is tt refl (subst (λ (v : TableView). IsReplyBy v.heap.heap (λ m. (step m (worker_of c.args.who) (Get c.in-Get.name)).reply) c.get.result) c.self.view_is c.get.ensures.reply) c.requires.worker c.requires.names

pub returns-in-First-clause-entered : goal.returns-in-First-clause-entered
returns-in-First-clause-entered c = λ number.
    looked c.args.self.now c.args.who number c.args.command.now First c.first.result c.in-First.is tt refl (subst (λ (v : TableView). IsReplyBy v.heap.heap (λ m. (step m (worker_of c.args.who) First).reply) c.first.result) c.self.view_is c.first.ensures.reply) c.requires.worker c.requires.names

pub returns-in-Next-clause-entered : goal.returns-in-Next-clause-entered
returns-in-Next-clause-entered c = λ number.
    looked c.args.self.now c.args.who number c.args.command.now (Next c.in-Next.name) c.next.result c.in-Next.is tt refl (subst (λ (v : TableView). IsReplyBy v.heap.heap (λ m. (step m (worker_of c.args.who) (Next c.in-Next.name)).reply) c.next.result) c.self.view_is c.next.ensures.reply) c.requires.worker c.requires.names

pub returns-in-Count-clause-entered : goal.returns-in-Count-clause-entered
returns-in-Count-clause-entered c = λ number.
    looked c.args.self.now c.args.who number c.args.command.now Count c.count.result c.in-Count.is tt refl (subst (λ (v : TableView). IsReplyBy v.heap.heap (λ m. (step m (worker_of c.args.who) Count).reply) c.count.result) c.self.view_is c.count.ensures.reply) c.requires.worker c.requires.names

pub returns-in-Link-clause-entered : goal.returns-in-Link-clause-entered
returns-in-Link-clause-entered c = λ number.
    let f = c.self.inside in
    let t : TableView = record { heap = f.heap; pen = f.pen; shares = f.shares; names = f.names; workers = f.workers } in
    subst (λ (v : TableView). Enters v (record t { heap = c.link.new.self }) c.args.who number c.args.command.now c.link.result) c.self.view_is
    (changed t c.link.new.self c.args.who number c.args.command.now (Link c.in-Link.name c.in-Link.other) c.link.result c.in-Link.is tt c.link.ensures.reply c.link.ensures.stands c.link.ensures.places
    (λ m. link_lives m (worker_of c.args.who) c.in-Link.name c.in-Link.other))
    c.requires.worker c.requires.names

pub returns-in-Fix-clause-entered : goal.returns-in-Fix-clause-entered
returns-in-Fix-clause-entered c = λ number.
    let f = c.self.inside in
    let t : TableView = record { heap = f.heap; pen = f.pen; shares = f.shares; names = f.names; workers = f.workers } in
    subst (λ (v : TableView). Enters v (record t { heap = c.fix.new.self }) c.args.who number c.args.command.now c.fix.result) c.self.view_is
    (changed t c.fix.new.self c.args.who number c.args.command.now (Fix c.in-Fix.name) c.fix.result c.in-Fix.is tt c.fix.ensures.reply c.fix.ensures.stands c.fix.ensures.places
    (λ m. fix_lives m (worker_of c.args.who) c.in-Fix.name))
    c.requires.worker c.requires.names

pub returns-in-Loose-clause-entered : goal.returns-in-Loose-clause-entered
returns-in-Loose-clause-entered c = λ number.
    let f = c.self.inside in
    let t : TableView = record { heap = f.heap; pen = f.pen; shares = f.shares; names = f.names; workers = f.workers } in
    subst (λ (v : TableView). Enters v (record t { heap = c.loose.new.self }) c.args.who number c.args.command.now c.loose.result) c.self.view_is
    (changed t c.loose.new.self c.args.who number c.args.command.now (Loose c.in-Loose.name) c.loose.result c.in-Loose.is tt c.loose.ensures.reply c.loose.ensures.stands c.loose.ensures.places
    (λ m. loose_lives m (worker_of c.args.who) c.in-Loose.name))
    c.requires.worker c.requires.names
