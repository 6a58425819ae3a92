-- What the tests keep between two calls.
use Rattle.std.specs.Prelude.{◌≡◌, ℕ, ◌≤◌, List, All}
use Rattle.hist_lock.specs.Passes.{Site}
use Rattle.kmem_cache.specs.Seats.{CacheSite, CacheSeatState, IsCacheSeat, buffers_at}
use Rattle.record_table.specs.Tables.{TableHome}
use Rattle.record_table.specs.Sessions.{SessionState, IsFreshSession}
use Rattle.record_table.specs.Asks.{MoverState, IsMoverOf, IsFreshMover}

-- the table has 64 names and three passes, and its buffers are those of the cache
pub record IsSetUp (table : Site TableHome) (cache : CacheSite) : Type 0 where
  pub names : table.home.names ≡ 64
  pub home : buffers_at cache ≡ table.home.cache
  pub count : table.count ≡ 3

-- the sessions, the movers and the seats are theirs, and nothing was done with the first two
pub record IsBench (table : Site TableHome) (cache : CacheSite) (sessions : List SessionState) (movers : List MoverState) (seats : List CacheSeatState) : Type 0 where
  pub set_up : IsSetUp table cache
  pub sessions_of : All (λ s. s.pass.site ≡ table) sessions
  pub sessions_fresh : All IsFreshSession sessions
  pub movers_of : All (IsMoverOf table) movers
  pub movers_fresh : All IsFreshMover movers
  pub seats_of : All (IsCacheSeat cache) seats

-- the session and the seat are theirs, and it has brought and fetched at most one buffer for each command
pub record IsAtWork (table : Site TableHome) (cache : CacheSite) (session : SessionState) (seat : CacheSeatState) : Type 0 where
  pub set_up : IsSetUp table cache
  pub of : session.pass.site ≡ table
  pub seat_of : IsCacheSeat cache seat
  pub counts : (session.share.brought ≤ session.made) × (session.share.fetched ≤ session.made)

-- the mover and the seat are theirs, and it has brought and fetched at most one buffer for each of so many questions
pub record IsAsking (table : Site TableHome) (cache : CacheSite) (mover : MoverState) (seat : CacheSeatState) (asked : ℕ) : Type 0 where
  pub set_up : IsSetUp table cache
  pub of : IsMoverOf table mover
  pub seat_of : IsCacheSeat cache seat
  pub counts : (mover.share.brought ≤ asked) × (mover.share.fetched ≤ asked)
