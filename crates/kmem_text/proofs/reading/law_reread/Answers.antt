use Rattle.std.proofs.Common.{sym, ap, ◌∙◌}
use Rattle.std.proofs.lemmas.Option.{same_Some}
use Rattle.kmem_text.specs.ReplyRows.{reply_in}
use Rattle.kmem_text.proofs.Reread.{reply_back}
use Rattle.kmem_text.proofs.reading.law_reread.Goals as goal

pub returns : goal.returns
returns c = λ names command reply other sorted h k same.
    same_Some reply other (sym (reply_back names reply sorted h.whole) ∙ ap (reply_in names) same ∙ reply_back names other sorted k.whole)
