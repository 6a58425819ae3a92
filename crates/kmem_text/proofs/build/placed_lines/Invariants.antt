use Rattle.std.proofs.Common.{◌≡◌, length, map, take}
use Rattle.std.specs.List.{All}
use Rattle.kmem_text.specs.Grammar.{placed, IsWithinNames, IsWithinTags}
use Rattle.kmem_text.specs.Scripts.{IsWithValue}
use Rattle.kmem_text.proofs.build.placed_lines.Given as goal

-- the lines so far, placed
abbrev pub invariant-loop-line : goal.invariant-loop-line
invariant-loop-line l = record {
  lines : l.placed_lines.items ≡ map (λ line. record { worker = line.worker; command = placed l.names line.command }) (take l.line-index l.lines);
  within : All (λ line. IsWithinNames (length l.names) line.command) l.placed_lines.items;
  tags : All (λ line. IsWithinTags line.command) l.placed_lines.items;
  values : All (λ line. IsWithValue line.command) l.placed_lines.items;
}
