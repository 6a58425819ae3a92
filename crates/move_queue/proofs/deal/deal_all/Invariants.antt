use Rattle.std.proofs.Common.{◌≡◌, ◌-◌, ◌≤◌, length, map, sum, take, drop, vec_capacity}
use Rattle.crossbeam_queue.specs.Passes.{IsPassOf}
use Rattle.move_queue.specs.Rule.{unused}
use Rattle.move_queue.specs.Count.{count_opener}
use Rattle.move_queue.specs.Seats.{known_by, fresh_seat}
use Rattle.move_queue.proofs.deal.deal_all.Given as goal

-- the seats so far, and a dealer with the rest
abbrev pub invariant-loop-quota : goal.invariant-loop-quota
invariant-loop-quota g l = record {
  pass : IsPassOf l.ring l.pass;
  mark : l.mark.table_id ≡ l.fn.mark.table_id;
  dealer : known_by l.pass ≡ unused (known_by l.fn.pass).terms (length l.quotas - l.quota-index) (sum (drop l.quota-index l.quotas));
  counter : l.mark.me.0 ≡ count_opener (sum (drop l.quota-index l.quotas)) (length l.quotas - l.quota-index);
  seats : l.seats.items ≡ map (fresh_seat l.fn.pass.table_id l.fn.mark.table_id (known_by l.fn.pass).terms) (take l.quota-index l.quotas);
  room : length l.quotas ≤ vec_capacity l.seats;
}
