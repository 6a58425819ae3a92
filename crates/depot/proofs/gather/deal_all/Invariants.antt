use Rattle.std.proofs.Common.{◌≡◌, ◌-◌, ◌≤◌, replicate, vec_capacity}
use Rattle.depot.specs.Rule.{opener}
use Rattle.depot.specs.Steps.{state_of}
use Rattle.depot.proofs.gather.deal_all.Given as goal

-- the seats so far, and a dealer with the rest
abbrev pub invariant-loop : goal.invariant-loop
invariant-loop g l = record {
  table : l.dealer.table_id ≡ l.fn.dealer.table_id;
  dealer : l.dealer.me.0 ≡ opener l.fn.dealer.me.0.home (l.count - l.counter);
  seats : l.seats.items ≡ replicate l.counter (state_of l.line.table_id (opener l.fn.dealer.me.0.home 1));
  room : l.count ≤ vec_capacity l.seats;
}
