use Rattle.std.proofs.Common.{◌≡◌, true, false, Some, None, rules, sym, ◌∙◌, ap}
use Rattle.kmem_text.specs.ReplyRows.{reply_in, may_reply}
use Rattle.kmem_text.proofs.Reread.{none_reads, some_reads, other_reads}
use Rattle.kmem_text.proofs.reading.read_reply.Goals as goal

pub returns-in_err-reply : goal.returns-in_err-reply
returns-in_err-reply c = λ reply.
    let names = c.args.script.now.names.items in
    let none : reply_in names c.args.text.now ≡ None = search rules in
    let out : c.from_residual.result ≡ None = search rules in
    none_reads names c.args.text.now c.args.command.now _ reply c.requires.sorted none out

pub returns-then-may_reply : goal.returns-then-may_reply
returns-then-may_reply c = λ reply.
    let names = c.args.script.now.names.items in
    let is : reply_in names c.args.text.now ≡ Some c.in_ok-reply.reply = search rules in
    let may : may_reply c.args.command.now c.in_ok-reply.reply ≡ true = search rules in
    some_reads names c.args.text.now c.args.command.now c.in_ok-reply.reply reply c.requires.sorted is may

pub returns-else-may_reply : goal.returns-else-may_reply
returns-else-may_reply c = λ reply.
    let names = c.args.script.now.names.items in
    let is : reply_in names c.args.text.now ≡ Some c.in_ok-reply.reply = search rules in
    let may : may_reply c.args.command.now c.in_ok-reply.reply ≡ false = search rules in
    other_reads names c.args.text.now c.args.command.now c.in_ok-reply.reply reply c.requires.sorted is may
