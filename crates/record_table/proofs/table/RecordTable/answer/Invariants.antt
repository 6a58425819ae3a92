use Rattle.std.proofs.Common.{◌≡◌}
use Rattle.record_table.specs.Asks.{IsAsking}
use Rattle.record_table.proofs.table.RecordTable.answer.Given as goal

-- nothing was answered so far, and the buffer and the share are those that were given
abbrev pub invariant-loop : goal.invariant-loop
invariant-loop g l = record {
  next : (goal.iterator-loop g).can_next l.iterator' × (goal.iterator-loop g).is_finite l.iterator';
  asking : IsAsking l.fn.pass l.pass l.fn.seat l.seat;
  same : l.to ≡ l.fn.to;
  share : l.share ≡ l.fn.share;
}
