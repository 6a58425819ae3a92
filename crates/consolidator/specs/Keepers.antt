-- The client and the bench of the movers' tests.
use Rattle.std.specs.Prelude.{◌≡◌, ℕ, ◌≤◌, Bool, false, length, Option}
use Rattle.kmem_buf.specs.Homes.{Homes}
use Rattle.kmem_buf.specs.Answers.{Flags}
use Rattle.kmem_buf.specs.declared.client.Verdict.{Verdict}
use Rattle.kmem_cache.specs.Seats.{CacheSite, CacheSeatState, buffers_at, IsCacheSeat}
use Rattle.move_queue.specs.Queue.{QueueState, QueueSeatState, IsQueueSeat}

-- a client that says yes to what it has, and else that it doesn't know it
pub record KeeperState : Type 0 where
  pub home : Homes
  pub yes : Bool
  pub dont_know : Bool
  pub last : Option Verdict
  pub answered : ℕ
  pub moved : ℕ

abbrev pub flags_of : KeeperState → Flags
flags_of k = record { yes = k.yes; no = false; later = false; dont_need = false; dont_know = k.dont_know }

-- all parts are of one cache
pub record IsShop {X : Type 0} (cache : CacheSite) (worker seat : CacheSeatState) (queue : QueueState) (place : QueueSeatState X)
    (keeper : KeeperState) : Type 0 where
  pub seats : IsCacheSeat cache worker × IsCacheSeat cache seat
  pub place_of : IsQueueSeat queue place
  pub homes : (queue.terms.home ≡ buffers_at cache) × (keeper.home ≡ buffers_at cache)
  pub quotas : queue.terms.quotas ≡ 192
  pub few : length place.popped ≤ 192
  pub places : cache.depot.places ≤ 2
  pub count : cache.lock.count ≡ 2
