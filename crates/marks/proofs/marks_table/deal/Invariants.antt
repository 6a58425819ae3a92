use Rattle.std.proofs.Common.{◌≡◌, ◌≤◌, replicate, vec_capacity}
use Rattle.marks.specs.Words.{fresh_mark_seat}
use Rattle.marks.proofs.marks_table.deal.Given as goal

abbrev pub invariant-loop : goal.invariant-loop
invariant-loop l = record {
  table : l.pen.table_id ≡ l.fn.pen.table_id;
  pen : l.pen.me ≡ l.fn.pen.me;
  dealt : l.dealt.items ≡ replicate l.counter (fresh_mark_seat l.fn.pen.table_id);
  room : l.seats ≤ vec_capacity l.dealt;
}
