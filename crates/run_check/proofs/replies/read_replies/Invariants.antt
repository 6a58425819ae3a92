use Rattle.std.proofs.Common.{◌≡◌, ◌+◌, length}
use Rattle.std.specs.Prelude.{All}
use Rattle.kmem_model.specs.Checked.{asked_in_turn}
use Rattle.run_check.specs.Cursor.{lines_in}
use Rattle.run_check.specs.Told.{HasRead}
use Rattle.run_check.specs.Shares.{told_in, IsShareWithin}
use Rattle.run_check.specs.declared.share.Share.{Share}
use Rattle.run_check.proofs.replies.read_replies.Given as goal

-- the passes so far are read
abbrev pub invariant-loop-pass : goal.invariant-loop-pass
invariant-loop-pass l = record {
  within : All (IsShareWithin (length l.script.names.items)) l.shares.items;
  fresh : All (λ (share : Share). share.next ≡ 0) l.shares.items;
  count : length l.shares.items ≡ l.pass;
  read : HasRead l.script.names.items (asked_in_turn l.pass l.script.lines.items) (told_in 0 l.shares.items) (lines_in l.initial.lines.rest.now) (lines_in l.lines.rest.now);
  taken : l.lines.taken ≡ l.initial.lines.taken + length (told_in 0 l.shares.items);
}
