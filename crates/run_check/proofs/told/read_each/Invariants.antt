use Rattle.std.proofs.Common.{◌≡◌, ◌+◌, take, length}
use Rattle.run_check.specs.Cursor.{lines_in}
use Rattle.run_check.specs.Told.{IsWithin, of_pass, asked_by_pass, HasRead}
use Rattle.std.specs.Prelude.{All}
use Rattle.run_check.specs.declared.told.Told.{Told}
use Rattle.run_check.proofs.told.read_each.Given as goal

-- the lines so far tell the replies to the commands so far
abbrev pub invariant-loop-index : goal.invariant-loop-index
invariant-loop-index l = record {
  read : HasRead l.script.names.items (take l.index (asked_by_pass l.pass l.commands)) (of_pass l.pass l.entries.items) (lines_in l.initial.lines.rest.now) (lines_in l.lines.rest.now);
  within : All (λ (t : Told). IsWithin (length l.script.names.items) t.command) l.entries.items;
  count : length l.entries.items ≡ l.index;
  taken : l.lines.taken ≡ l.initial.lines.taken + l.index;
}
