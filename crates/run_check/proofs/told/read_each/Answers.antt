use Rattle.std.proofs.Common.{◌≡◌, ◌+◌, ◌++◌, ◌∷◌, [], Err, rules, arith, length, ap, sym, refl}
use Rattle.kmem_text.specs.ReplyRows.{IsReplyTo}
use Rattle.kmem_model.specs.RunLines.{reply_line}
use Rattle.run_check.specs.Cursor.{lines_in}
use Rattle.run_check.specs.Told.{asked_by_pass, StopsReading}
use Rattle.run_check.specs.declared.fault.Fault.TheVariants.{Illegal}
use Rattle.run_check.specs.declared.told.Told.{Told}
use Rattle.run_check.proofs.Asked.{reads_next, stops_here, reads_all, illegal_is, within_more}
use Rattle.run_check.proofs.told.read_each.Goals as goal

pub loop-index-preserved : goal.loop-index-preserved
loop-index-preserved c =
    let names = c.args.script.now.names.items in
    let t : Told = record { number = c.in_ok-number.number; command = c.in_ok-number.command; reply = c.in_ok-number.reply } in
    let number : c.in_ok-number.number ≡ c.loop-index.index + 1 = search rules in
    let command : c.in_ok-number.command ≡ c.index-commands-index.result = search rules in
    let may : IsReplyTo (length names) c.in_ok-number.command c.in_ok-number.reply = search rules in
    let line : lines_in c.loop-index.lines.rest.now ≡ reply_line names (record { worker = c.args.pass + 1; number = c.loop-index.index + 1; reply = c.in_ok-number.reply }) ∷ lines_in c.read_told.new.lines.rest.now = search rules in
    let put : c.push.new.self.items ≡ c.loop-index.entries.items ++ t ∷ [] = search rules in
    record {
      read = reads_next names c.args.pass c.loop-index.index c.args.commands.now c.index-commands-index.result t c.loop-index.entries.items c.push.new.self.items _ _ _ (omega arith) c.index-commands-index.is number command may line put c.loop-index.invariant.read;
      within = within_more names c.args.commands.now c.loop-index.index c.index-commands-index.result t c.loop-index.entries.items c.push.new.self.items (omega arith) c.index-commands-index.is command put c.requires.within c.loop-index.invariant.within;
      count = search rules;
      taken = search rules;
    }

pub returns-in_err-number-clause-stops : goal.returns-in_err-number-clause-stops
returns-in_err-number-clause-stops c =
    let names = c.args.script.now.names.items in
    let refused = c.in_err-number.ensures.refused in
    let is : c.from_residual-in_err-number.result ≡ Err (Illegal (c.loop-index.lines.taken + 1)) = search rules in
    illegal_is c.from_residual-in_err-number.result _ (c.loop-index.lines.taken + 1) is (
      c.loop-index.index,
      omega (arith, c.loop-index.invariant.taken),
      stops_here names c.args.pass c.loop-index.index c.args.commands.now c.index-commands-index.result c.loop-index.entries.items _ _ (omega arith) c.index-commands-index.is c.loop-index.invariant.count refused.1 c.loop-index.invariant.read,
    )

pub returns-clause-read : goal.returns-clause-read
returns-clause-read c = reads_all c.args.script.now.names.items c.args.pass c.loop-index.index c.args.commands.now _ _ _ (omega arith) c.loop-index.invariant.read
