use Rattle.std.proofs.Common.{◌≡◌, ◌++◌, ◌∷◌, None, sym, rules}
use Rattle.std.specs.Fmt.{decimal}
use Rattle.run_check.proofs.Fronts.{told_again, told_none}
use Rattle.run_check.proofs.told.reply_told.Goals as goal

pub returns-in_err-text : goal.returns-in_err-text
returns-in_err-text c =
    let none : c.from_residual.result ≡ None = search rules in
    told_none c.args.line.now (decimal c.args.worker ++ 32 ∷ decimal c.args.number) c.from_residual.result c.args.script.now.names.items c.args.command.now none c.in_err-text.ensures

pub returns : goal.returns
returns c =
    told_again c.args.line.now (decimal c.args.worker ++ 32 ∷ decimal c.args.number) c.in_ok-text.text.now c.read_reply.result c.args.script.now.names.items c.args.command.now c.in_ok-text.ensures c.read_reply.ensures
