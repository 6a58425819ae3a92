use Rattle.std.proofs.Common.{◌∙◌, arith}
use Rattle.kmem_text.proofs.Parts.{kept_with_room, kept_full}
use Rattle.kmem_text.proofs.lines.keep.Goals as goal

pub returns-in_ok-push : goal.returns-in_ok-push
returns-in_ok-push c = c.in_ok-push.ensures.items ∙ kept_with_room c.args.lines.now.items c.args.line (omega arith)

pub returns-else-len-le-MAX_COMMANDS : goal.returns-else-len-le-MAX_COMMANDS
returns-else-len-le-MAX_COMMANDS c = kept_full c.args.lines.now.items c.args.line c.requires (omega arith)
