use Rattle.std.proofs.Common.{◌≡◌, ◌++◌, ◌∷◌, [], Some, sym, ap, ◌∙◌, subst}
use Rattle.kmem_text.specs.declared.command.Command.TheVariants.{Drop}
use Rattle.kmem_model.specs.declared.record_entry.RecordEntry.{RecordEntry}
use Rattle.record_table.specs.Tables.{IsStandingFor}
use Rattle.record_table.specs.Turns.{entry_of}
use Rattle.record_table.proofs.turns.DropTurnTurnRecords.run.Goals as goal

pub returns-clause-told : goal.returns-clause-told
returns-clause-told c = λ h stands can.
    let is : c.entry_of-entry.result ≡ entry_of c.args.self.number (Drop c.args.self.hold.tag) c.release-reply.result =
    c.entry_of-entry.ensures ∙ ap (λ t. entry_of c.args.self.number (Drop t) c.release-reply.result) c.tag-tag.ensures in (
      subst (λ (e : RecordEntry). IsStandingFor c.release-reply.new.self (h ++ (c.args.who, e) ∷ [])) (sym is) (c.release-reply.ensures.entered c.args.self.number h stands),
      (ap Some is, c.release-reply.ensures.done h stands, c.release-reply.ensures.there),
    )
