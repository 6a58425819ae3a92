use Rattle.std.proofs.Common.{◌≡◌, ◌+◌, ◌≤◌, ◌++◌, List, map, reverse, length, All, vec_len, vec_capacity}
use Rattle.hist_lock.specs.Passes.{PassState}
use Rattle.kmem_model.specs.declared.record_entry.RecordEntry.{RecordEntry}
use Rattle.record_table.specs.Tables.{TableHome}
use Rattle.record_table.specs.Asks.{IsMoverOf, IsFreshMover}
use Rattle.record_table.specs.Openings.{IsFreshPass, IsFreshShare}
use Rattle.record_table.proofs.opening.all_movers.Given as goal

-- the passes are those that are left, and then those that have a mover
abbrev pub invariant-loop-seat : goal.invariant-loop-seat
invariant-loop-seat l = record {
  fresh : All (IsFreshPass l.lock l.lock.count) l.passes.items;
  shares : All (IsFreshShare l.lock.home.shares) l.shares.items;
  seats : All (λ s. s.home ≡ l.lock.home.words) l.seats.items;
  count : (vec_len l.shares ≡ vec_len l.passes) × (vec_len l.seats ≤ vec_len l.passes);
  dealt : (done : List (PassState RecordEntry TableHome)) × (l.fn.passes.items ≡ l.passes.items ++ done) × (map (λ m. m.pass) l.movers.items ≡ reverse done)
      × (length done + vec_len l.seats ≡ vec_len l.fn.seats);
  of : All (IsMoverOf l.lock) l.movers.items;
  new : All IsFreshMover l.movers.items;
  room : vec_len l.seats + vec_len l.movers ≤ vec_capacity l.movers;
}

abbrev pub decreases-loop-seat : goal.decreases-loop-seat
decreases-loop-seat l = vec_len l.seats
