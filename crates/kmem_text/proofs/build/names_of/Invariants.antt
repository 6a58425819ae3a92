use Rattle.std.proofs.Common.{◌≡◌, take}
use Rattle.std.specs.List.{flat_map}
use Rattle.kmem_text.specs.Grammar.{in_order, named}
use Rattle.kmem_text.proofs.build.names_of.Given as goal

-- the names of the lines so far
abbrev pub invariant-loop-line : goal.invariant-loop-line
invariant-loop-line l = l.names.keys ≡ in_order (flat_map (λ line. named line.command) (take l.line-index l.lines))
