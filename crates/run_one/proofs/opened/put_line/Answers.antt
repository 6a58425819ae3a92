use Rattle.std.proofs.Common.{◌≡◌, ◌≤◌, ◌+◌, ◌++◌, ℕ, List, length, take, ap, ◌∙◌, arith}
use Rattle.std.proofs.Common.{◌-◌}
use Rattle.std.proofs.lemmas.Slice.{take-put_mid}
use Rattle.kmem_text.specs.Replies.{reply_text}
use Rattle.run_one.proofs.Pages.{line_at, no_longer}
use Rattle.run_one.proofs.opened.put_line.Goals as goal

pub returns-clause-text : goal.returns-clause-text
returns-clause-text c =
    let at = c.args.at in
    let page = c.args.page.now in
    let put = c.write_reply-len.new.out in
    let text = reply_text c.args.script.now.names.items c.args.reply.now in
    let same : length put ≡ 640 = omega arith in
    let short : length text ≤ 640 = no_longer put text _ 640 c.write_reply-len.ensures.text same in
    let fits : c.write_reply-len.result ≤ 640 = omega (arith, c.write_reply-len.ensures.len, short) in
    let front = take-put_mid at (at + 640 - at) page put (at + 640) (omega (arith, same)) (omega arith) ∙ ap (λ (xs : List ℕ). take at page ++ xs) c.write_reply-len.ensures.text in
    line_at page _ _ _ at c.write_reply-len.result 640 10 front (omega arith) c.write_reply-len.ensures.len fits (omega (arith, fits))
