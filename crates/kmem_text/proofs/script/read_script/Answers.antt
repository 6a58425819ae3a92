use Rattle.kmem_text.specs.Grammar.{lines_of}
use Rattle.kmem_text.proofs.Workers.{workers_read}
use Rattle.kmem_text.proofs.script.read_script.Goals as goal

pub returns-clause-whole : goal.returns-clause-whole
returns-clause-whole c = c.in_ok-script.ensures.whole c.args.workers (rw (c.deref.ensures.value, c.in_ok-lines.ensures.lines) (workers_read c.args.workers (lines_of c.args.bytes.now)))
