-- What is dealt to the workers and movers of a run (this project's own).
use Rattle.std.specs.Prelude.{◌≡◌, ℕ, List, [], ◌∷◌, All, map}
use Rattle.hist_lock.specs.Passes.{fresh_passes}
use Rattle.kmem_cache.specs.Seats.{CacheSeatState, IsCacheSeat, fresh_cache_seat}
use Rattle.record_table.specs.Sessions.{SessionState, IsFreshSession}
use Rattle.record_table.specs.Asks.{IsMoverOf, IsFreshMover}
use Rattle.move_queue.specs.Queue.{fresh_queue_seat}
use Rattle.run_engine.specs.declared.plan.RunPlan.{RunPlan}
use Rattle.run_engine.specs.declared.shared.Shared.{Shared}
use Rattle.run_engine.specs.declared.opening.Dealt.{Dealt}
use Rattle.run_engine.specs.Quotas.{worker_entries, cache_quotas, queue_quotas}

-- a session and a seat for each number of commands
pub record AreDealt (shared : Shared) (counts : List ℕ) (sessions : List SessionState) (seats : List CacheSeatState) : Type 0 where
  pub passes : map (λ s. s.pass) sessions ≡ fresh_passes shared.table 0 counts
  pub fresh : All IsFreshSession sessions
  pub of : All (λ s. s.pass.site ≡ shared.table) sessions
  pub seats_are : seats ≡ map (fresh_cache_seat shared.cache.depot) (fresh_passes shared.cache.lock 0 (worker_entries counts))
  pub seats_of : All (IsCacheSeat shared.cache) seats

-- and what the two movers have
pub record HasDealt (plan : RunPlan) (counts : List ℕ) (dealt : Dealt) : Type 0 where
  pub passes : map (λ s. s.pass) dealt.sessions.items ≡ fresh_passes dealt.shared.table 0 counts
  pub fresh : All IsFreshSession dealt.sessions.items
  pub of : All (λ s. s.pass.site ≡ dealt.shared.table) dealt.sessions.items
  pub movers : map (λ m. m.pass) dealt.movers.items ≡ fresh_passes dealt.shared.table plan.workers (0 ∷ 0 ∷ [])
  pub movers_fresh : All IsFreshMover dealt.movers.items
  pub movers_of : All (IsMoverOf dealt.shared.table) dealt.movers.items
  pub seats_are : dealt.seats.items ≡
      map (fresh_cache_seat dealt.shared.cache.depot) (fresh_passes dealt.shared.cache.lock 0 (cache_quotas plan counts))
  pub seats_of : All (IsCacheSeat dealt.shared.cache) dealt.seats.items
  pub places : dealt.places.items ≡ map (fresh_queue_seat dealt.shared.queue) (queue_quotas plan)
