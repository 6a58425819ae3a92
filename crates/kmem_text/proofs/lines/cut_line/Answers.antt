use Rattle.std.proofs.Common.{sym, refl}
use Rattle.kmem_text.proofs.Parts.{line_at, last_line}
use Rattle.kmem_text.proofs.Cut.{behind_is, whole_line}
use Rattle.kmem_text.proofs.lines.cut_line.Goals as goal

pub returns-in-Some-clause-lines : goal.returns-in-Some-clause-lines
returns-in-Some-clause-lines c = (line_at c.args.bytes.now _ c.in-Some.end (sym c.in-Some.ensures) refl).0

pub returns-in-None-clause-lines : goal.returns-in-None-clause-lines
returns-in-None-clause-lines c = last_line c.args.bytes.now (sym c.in-None.ensures) c.requires

pub returns-in-Some-clause-behind : goal.returns-in-Some-clause-behind
returns-in-Some-clause-behind c = behind_is c.args.bytes.now _ c.in-Some.end (sym c.in-Some.ensures) refl

pub returns-in-Some-clause-whole : goal.returns-in-Some-clause-whole
returns-in-Some-clause-whole c = λ some more. whole_line c.args.bytes.now _ more c.in-Some.end (sym c.in-Some.ensures) refl
