use Rattle.std.proofs.Common.{take}
use Rattle.std.specs.List.{All}
use Rattle.kmem_text.specs.Layout.{IsGoodCommand}
use Rattle.kmem_text.proofs.build.law_good_lines.Given as goal

-- the lines so far
abbrev pub invariant-loop-line : goal.invariant-loop-line
invariant-loop-line l = All (λ line. IsGoodCommand line.command) (take l.line-index l.lines)
