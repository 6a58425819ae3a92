use Rattle.std.proofs.Common.{◌≡◌, ℕ, ◌<◌, ◌≤◌, false, get_or, take, vec_capacity}
use Rattle.std.specs.Slots.{slots_items, slots_filled, slots_len}
use Rattle.std.specs.Slots.Ownership.{Filled}
use Rattle.depot.proofs.drain.drain.Given as goal

-- the values so far, and the others in their slots
abbrev pub invariant-loop-i : goal.invariant-loop-i
invariant-loop-i g l = record {
  items : slots_items l.closed.slots ≡ slots_items l.fn.closed.slots;
  len : slots_len l.closed.slots ≡ l.count;
  values : l.values.items ≡ take l.i (slots_items l.fn.closed.slots);
  rest : Filled (slots_filled l.closed.slots) l.i (slots_len l.closed.slots);
  done : (k : ℕ) → k < l.i → get_or (slots_filled l.closed.slots) k false ≡ false;
  room : l.count ≤ vec_capacity l.values;
}
