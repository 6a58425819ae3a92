-- What a refused push shows.
use Rattle.std.proofs.Common.{◌≡◌, length, sym, ap, ◌∙◌, arith}
use Rattle.crossbeam_queue.specs.Fifo.{Held}
use Rattle.move_queue.specs.declared.rule.Terms.{Terms}
use Rattle.move_queue.specs.declared.rule.View.{View}
use Rattle.move_queue.specs.Queue.{QueueState, QueueSeatState, WasFull}
use Rattle.move_queue.specs.Rule.{IsNumbered}

-- the queue was full, by what the seat knows
pub was_full : {X : Type 0} (queue : QueueState) (seat : QueueSeatState X) (v : View X) → seat.terms ≡ queue.terms → seat.left ≡ v.left → seat.terms ≡ v.terms → length seat.pushed ≡ length v.pushed → length seat.popped ≡ length v.popped
    → Held queue.capacity (IsNumbered v) → WasFull queue seat
was_full queue seat v terms left same pushed popped held =
    let n = held.2 in let quotas : v.terms.quotas ≡ queue.terms.quotas = ap (λ (t : Terms). t.quotas) (sym same ∙ terms) in
    record {
      pushes = n.pushes;
      pops = n.pops;
      full = omega (arith, held.1, n.stand);
      mine = omega (arith, n.mine, pushed);
      popped = omega (arith, n.popped, popped);
      within = omega (arith, n.within, quotas, left);
    }
