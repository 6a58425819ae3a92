-- A mover before it begins, and once it has made its scans and carried its jobs (this project's own).
use Rattle.std.specs.Prelude.{◌≡◌, ℕ, ◌+◌, ◌*◌, ◌/◌, min, ◌<◌, ◌≤◌, ◌^◌, true, [], All, length, filter, replicate}
use Rattle.kmem_model.specs.CacheCounts.{moves_begun, moves_ended, total}
use Rattle.kmem_model.specs.CacheScans.{is_begin, is_scan, scanning, has_rounds}
use Rattle.kmem_model.specs.Heap.{Object}
use Rattle.kmem_model.specs.Report.{counted_in, ends_in}
use Rattle.kmem_model.specs.declared.cache_entry.CacheEntry.TheVariants.{Scan}
use Rattle.hist_lock.specs.Passes.{Site}
use Rattle.object_cache.specs.declared.tally.Tally.{Tally}
use Rattle.kmem_cache.specs.Seats.{CacheSite, CacheSeatState, IsCacheSeat}
use Rattle.move_queue.specs.Queue.{QueueState, IsQueueSeat}
use Rattle.record_table.specs.Tables.{TableHome}
use Rattle.record_table.specs.Asks.{MoverState, IsMoverOf, IsFreshMover}
use Rattle.consolidator.specs.Drives.{reap_room, ArePaced, HasDriven}
use Rattle.consolidator.specs.Notes.{Notes, notes_by}
use Rattle.consolidator.specs.Rounds.{IsOfMover}
use Rattle.consolidator.specs.Tallies.{tally_of, ends_of}
use Rattle.consolidator.specs.Works.{Work, CountsGiven}
use Rattle.run_movers.specs.declared.mover.MoverTask.{MoverTask}
use Rattle.run_movers.specs.declared.shares.Shares.{Shares}

-- nothing was done with its seats and its mover, and there is room for all its scans, and for the jobs of all pushes
pub record IsReadyMover (table : Site TableHome) (cache : CacheSite) (queue : QueueState) (t : MoverTask) : Type 0 where
  pub of : IsMoverOf table t.mover
  pub fresh : IsFreshMover t.mover
  pub seat_of : IsCacheSeat cache t.seat
  pub seat_none : (t.seat.pass.mine ≡ []) × (t.seat.lent ≡ 0) × (t.seat.returned ≡ 0)
  pub place_of : IsQueueSeat queue t.place
  pub place_none : (t.place.pushed ≡ []) × (t.place.popped ≡ []) × (t.place.refused ≡ 0)
  pub tally_none : t.tally ≡ tally_of []
  pub entries : 129 * t.plan.scans + queue.terms.quotas + 1 + reap_room t.plan.reaps cache.depot.places ≤ t.seat.pass.left
  pub pushes : 64 * t.plan.scans ≤ t.place.left
  pub small : queue.terms.quotas + 64 * t.plan.scans ≤ 2 ^ 61
  pub numbers : t.plan.first + 2 * t.plan.scans < 2 ^ 32

-- its work, as the words of scans and jobs see it
abbrev pub work_of : MoverTask → Work Object
work_of t =
    record {
      seat = t.seat;
      place = t.place;
      notes = record {
        lent = t.seat.lent;
        returned = t.seat.returned;
        tally = t.tally;
        flags = t.mover.flags;
        last = t.mover.last;
        answered = t.mover.answered;
        brought = t.mover.share.brought;
        fetched = t.mover.share.fetched;
      };
    }

-- how many commands are carried out before this scan begins: its share of them, and no more than there are
abbrev pub share_of : Shares → ℕ → ℕ
share_of shares scan = min (scan * shares.commands / (shares.scans + 1)) shares.commands

-- what is noted of a mover with this cache seat and tally
abbrev pub notes_of : CacheSeatState → Tally → MoverState → Notes
notes_of seat tally mover =
    notes_by (λ (m : MoverState). m.flags) (λ m. m.last) (λ m. m.answered) (λ m. m.share.brought) (λ m. m.share.fetched) seat tally mover

-- just before each of its scans it had seen the scan's share of the commands carried out
abbrev pub IsPaced : Shares → MoverTask → Type 0
IsPaced shares t =
    ArePaced notes_of (λ m. length m.pass.seen) (λ i. share_of shares (t.plan.first + 2 * i)) t.plan.desperate t.plan.scans (work_of t)

-- what its scans and jobs have come to
pub record HasMoved (table : Site TableHome) (cache : CacheSite) (queue : QueueState) (old new : MoverTask) : Type 0 where
  -- it went by its plan: scans and jobs, the reap where there is one, and the last scan
  pub driven : HasDriven old.plan.reaps cache.depot.places old.plan.desperate old.plan.scans (work_of old) (work_of new)
  -- its entries are a mover's, with so many scans, each followed by a round
  pub kinds : All IsOfMover new.seat.pass.mine
  pub scans : filter is_scan new.seat.pass.mine ≡ replicate old.plan.scans (Scan old.plan.desperate)
  pub rounds : has_rounds (scanning new.seat.pass.mine) ≡ true
  -- each move that it began was pushed or came back, each that it ended came back or was popped, and at last no job came
  pub begun : length new.place.pushed + new.place.refused ≡ total moves_begun new.seat.pass.mine
  pub ended : length new.place.popped + new.place.refused ≡ total moves_ended new.seat.pass.mine
  pub done : new.place.done ≡ true
  -- its tally counts its entries, and no answer that it never gave
  pub tally : new.tally.begun ≡ counted_in new.seat.pass.mine is_begin
  pub ends : ends_of new.tally ≡ ends_in new.seat.pass.mine
  pub given : CountsGiven new.mover.flags old.tally new.tally
  -- what the cache lent it, less what it gave back, is what it put into the heap, less what it took out, and the jobs that it has pushed, less
  -- those that it has popped
  pub balance : new.seat.lent + new.mover.share.fetched + length new.place.popped ≡ new.seat.returned + new.mover.share.brought + length new.place.pushed
  pub of : IsMoverOf table new.mover
  pub seat_of : IsCacheSeat cache new.seat
  pub place_of : IsQueueSeat queue new.place
  pub same : (new.plan ≡ old.plan) × (new.seat.pass.number ≡ old.seat.pass.number) × (new.mover.pass.number ≡ old.mover.pass.number)
