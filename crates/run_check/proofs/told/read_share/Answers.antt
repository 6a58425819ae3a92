use Rattle.std.proofs.Common.{◌+◌, ◌∙◌, arith, ap, sym, subst, length}
use Rattle.std.specs.Prelude.{All}
use Rattle.kmem_text.specs.declared.command.Line.{Line}
use Rattle.run_check.specs.Told.{IsWithin}
use Rattle.run_check.proofs.Asked.{few_commands, commands_within}
use Rattle.run_check.proofs.told.read_share.Goals as goal

pub read_each-requires-clause-lines : goal.read_each-requires-clause-lines
read_each-requires-clause-lines c =
    omega (arith, few_commands (c.args.pass + 1) c.deref.result.now, ap length c.deref.ensures.value, ap length c.deref-2.ensures.value, ap length c.in_ok-commands.ensures)

pub read_each-requires-clause-within : goal.read_each-requires-clause-within
read_each-requires-clause-within c =
    subst (All (IsWithin (length c.args.script.now.names.items))) (sym (c.deref-2.ensures.value ∙ c.in_ok-commands.ensures))
    (commands_within (length c.args.script.now.names.items) (c.args.pass + 1) c.deref.result.now
    (subst (All (λ (l : Line). IsWithin (length c.args.script.now.names.items) l.command)) (sym c.deref.ensures.value) c.requires.within))
