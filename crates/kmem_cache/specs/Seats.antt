-- What contracts see of a shared cache and of its seats (this project's own; magazines are of Bonwick and Adams 2001).
use Rattle.std.specs.Prelude.{◌≡◌, ◌⊎◌, ℕ, ◌+◌, ◌*◌, ◌<◌, List, [], ◌∷◌, ◌++◌, length, drop, take, Option}
use Rattle.kmem_buf.specs.Homes.{Homes}
use Rattle.kmem_model.specs.CacheCounts.{made_out, made_free, total}
use Rattle.kmem_model.specs.declared.cache_entry.CacheEntry.{CacheEntry}
use Rattle.hist_lock.specs.History.{IsFront, entries_of, listed, told}
use Rattle.hist_lock.specs.Passes.{Site, PassState}
use Rattle.depot.specs.Depot.{DepotState, DepotSeatState, IsDepotSeat, HasSwapped, fresh_depot_seat}
use Rattle.kmem_cache.specs.declared.locked.CacheHome.{CacheHome}
use Rattle.kmem_cache.specs.Locked.{IsLegalAt}

-- a shared cache: its lock, with the home of the cache and its sizes, and its depot
pub record CacheSite : Type 0 where
  pub lock : Site CacheHome
  pub depot : DepotState

-- the homes of the cache's buffers and moves
abbrev pub buffers_at : CacheSite → Homes
buffers_at site = site.lock.home.buffers

-- the lock and the depot are of one cache, and there is room for what its seats have
pub record IsSite (lock : Site CacheHome) (depot : DepotState) (places passes stores cpus : ℕ) : Type 0 where
  pub home : depot.home ≡ lock.home.buffers
  pub seats : depot.seats ≡ lock.count
  pub places_is : places ≡ depot.places
  pub room : (passes ≡ lock.count) × (stores ≡ lock.count) × (cpus ≡ lock.count)
  pub chunks : 0 < lock.home.chunks

-- a seat: its pass, the numbers of its rounds in the order in which they come out, its depot's seat, and how many buffers its calls
-- have handed out and taken in
pub record CacheSeatState : Type 0 where
  pub pass : PassState CacheEntry CacheHome
  pub rounds : List ℕ
  pub depot : DepotSeatState
  pub lent : ℕ
  pub returned : ℕ

-- the seat is one of this cache
abbrev pub IsCacheSeat : CacheSite → CacheSeatState → Type 0
IsCacheSeat site seat = (seat.pass.site ≡ site.lock) × IsDepotSeat site.depot seat.depot

-- a seat with this pass that nothing was done with
abbrev pub fresh_cache_seat : DepotState → PassState CacheEntry CacheHome → CacheSeatState
fresh_cache_seat depot pass = record { pass = pass; rounds = []; depot = fresh_depot_seat depot; lent = 0; returned = 0 }

-- How many buffers the seat's entries made out, less those that they freed; the full magazines that it took out of the depot, less
-- those that it put in; and the rounds that it has: together they are what its calls lent, less what they took back
abbrev pub AddsUp : CacheSeatState → Type 0
AddsUp seat =
    total made_out seat.pass.mine + 8 * length seat.depot.taken + seat.returned
    ≡ total made_free seat.pass.mine + seat.lent + length seat.rounds + 8 * length seat.depot.put

-- One call of a pass, in one turn or in none. It found this history, which begins with all that the pass had seen, and made this
-- entry at its end, or none; the pass has then seen that history, which is legal, and in which its own entries are exactly these
pub record HasActed (old new : PassState CacheEntry CacheHome) (entry : Option CacheEntry) : Type 0 where
  pub history : List (ℕ × CacheEntry)
  pub front : IsFront old.seen history
  pub seen : new.seen ≡ told history old.number entry
  pub mine : new.mine ≡ old.mine ++ listed entry
  pub exact : entries_of new.number new.seen ≡ new.mine
  pub legal : IsLegalAt new.site.home new.seen
  pub left : new.left + length (listed entry) ≡ old.left
  pub site : new.site ≡ old.site
  pub number : new.number ≡ old.number

-- the numbers of the rounds and the depot's seat, before and after a take: a round came out of the magazines, or of a full one of the
-- depot where both were empty
abbrev pub HasTaken : ℕ → ℕ → List ℕ → List ℕ → DepotSeatState → DepotSeatState → Type 0
HasTaken places number old new seat seat' =
    ((old ≡ number ∷ new) × (seat' ≡ seat)) ⊎ ((old ≡ []) × (length new ≡ 7) × HasSwapped places 1 (number ∷ new) [] seat seat')

-- the same of a put: a round went into the magazines, or the one behind went to the depot where both were full
abbrev pub HasPut : ℕ → ℕ → List ℕ → List ℕ → DepotSeatState → DepotSeatState → Type 0
HasPut places number old new seat seat' =
    ((length old < 16) × (new ≡ number ∷ old) × (seat' ≡ seat))
    ⊎ ((length old ≡ 16) × (new ≡ number ∷ take 8 old) × HasSwapped places 0 [] (drop 8 old) seat seat')
