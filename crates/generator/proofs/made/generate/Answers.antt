use Rattle.std.proofs.Common.{◌∙◌, length, sym, ap, subst, arith}
use Rattle.std.specs.List.{All}
use Rattle.std.proofs.lemmas.List.FromFn.{length-map-range_with_len}
use Rattle.kmem_text.specs.Grammar.{first_bad_of, script_of_lines}
use Rattle.kmem_text.specs.Scripts.{plain, IsWorker}
use Rattle.kmem_text.specs.declared.spelling.SpelledLine.{SpelledLine}
use Rattle.generator.specs.Made.{made_line, made_lines}
use Rattle.generator.proofs.Making.{lines_good, made_workers}
use Rattle.generator.proofs.Reading.{script_again, read_again}
use Rattle.generator.proofs.made.generate.Goals as goal

pub from_lines-requires : goal.from_lines-requires
from_lines-requires c =
    omega (
      arith,
      ap length (c.deref.ensures.value ∙ c.in_ok-lines.ensures.lines),
      length-map-range_with_len (made_line c.args.seed c.args.workers) 0 c.args.commands,
      c.requires.commands,
    )

pub returns-clause-whole : goal.returns-clause-whole
returns-clause-whole c =
    c.in_ok-script.ensures.whole c.args.workers
    (subst (All (λ (line : SpelledLine). IsWorker c.args.workers line.worker)) (sym (c.deref.ensures.value ∙ c.in_ok-lines.ensures.lines))
    (made_workers c.args.seed c.args.workers c.args.commands c.requires.workers.0))

pub returns-clause-good : goal.returns-clause-good
returns-clause-good c =
    let made = ap script_of_lines (sym (c.deref.ensures.value ∙ c.in_ok-lines.ensures.lines)) ∙ c.in_ok-script.ensures.script in
    let lines = made_lines c.args.seed c.args.workers c.args.commands in
    ap (first_bad_of c.args.workers) (script_again c.args.workers lines (plain c.in_ok-script.script) made (returns-clause-whole c))
    ∙ c.law_written.ensures.good c.args.workers lines (omega (arith, c.requires.workers.1)) (lines_good c.args.seed c.args.workers c.args.commands c.requires.workers.0)

pub returns-clause-read : goal.returns-clause-read
returns-clause-read c =
    let made = ap script_of_lines (sym (c.deref.ensures.value ∙ c.in_ok-lines.ensures.lines)) ∙ c.in_ok-script.ensures.script in
    let lines = made_lines c.args.seed c.args.workers c.args.commands in
    read_again c.args.workers lines (plain c.in_ok-script.script) made (returns-clause-whole c)
    (c.law_written.ensures.script c.args.workers lines (omega (arith, c.requires.workers.1)) (lines_good c.args.seed c.args.workers c.args.commands c.requires.workers.0))
