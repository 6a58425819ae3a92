use Rattle.std.proofs.Common.{subst}
use Rattle.std.specs.List.{All}
use Rattle.std.proofs.lemmas.List.{take_all}
use Rattle.std.proofs.lemmas.List.Elements.{All-more}
use Rattle.kmem_text.specs.Layout.{IsGoodCommand}
use Rattle.kmem_text.specs.declared.spelling.SpelledLine.{SpelledLine}
use Rattle.kmem_text.proofs.build.law_good_lines.Goals as goal

pub loop-line-preserved : goal.loop-line-preserved
loop-line-preserved c =
    All-more (λ (line : SpelledLine). IsGoodCommand line.command) c.args.lines.now c.loop-line.line-index c.line-item.result c.loop-line-test.true
    c.loop-line.invariant (subst (λ (line : SpelledLine). IsGoodCommand line.command) c.line-item.is c.law_good.ensures)

pub returns : goal.returns
returns c = subst (All (λ (line : SpelledLine). IsGoodCommand line.command)) (take_all c.loop-line.line-index c.args.lines.now c.loop-line-test.false) c.loop-line.invariant
