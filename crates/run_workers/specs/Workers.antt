-- A worker before it begins, and once it has carried out its commands (this project's own).
use Rattle.std.specs.Prelude.{◌≡◌, ℕ, ◌+◌, ◌*◌, ◌<◌, ◌≤◌, ◌^◌, ◌||◌, Bool, true, false, List, [], All, length, map, count_by}
use Rattle.kmem_text.specs.Grammar.{IsWithinNames}
use Rattle.kmem_text.specs.declared.command.Command.{Command}
use Rattle.kmem_model.specs.declared.record_entry.RecordEntry.{RecordEntry}
use Rattle.kmem_model.specs.declared.cache_entry.CacheEntry.{CacheEntry}
use Rattle.kmem_model.specs.declared.cache_entry.CacheEntry.TheVariants.{Full}
use Rattle.kmem_model.specs.History.{numbered, is_refusal}
use Rattle.hist_lock.specs.Passes.{Site}
use Rattle.kmem_cache.specs.Seats.{CacheSite, IsCacheSeat}
use Rattle.record_table.specs.Tables.{TableHome}
use Rattle.record_table.specs.Runs.{is_put, asks_slabs, frees_slab}
use Rattle.record_table.specs.Sessions.{IsFreshSession}
use Rattle.run_workers.specs.declared.worker.Worker.{Worker}

-- the numbers and commands of these entries, in their order
abbrev pub asked_of : List RecordEntry → List (ℕ × Command)
asked_of entries = map (λ e. (e.number, e.command)) entries

-- the reply is `full`
abbrev pub is_refused : RecordEntry → Bool
is_refused e = is_refusal e.reply

-- every buffer was found out
abbrev pub is_full_entry : CacheEntry → Bool
is_full_entry Full = true
is_full_entry _ = false

-- the entry is one that a worker makes
abbrev pub is_of_worker : CacheEntry → Bool
is_of_worker e = asks_slabs e || frees_slab e

-- nothing was done with its session and seat, which may make the entries of all its commands
pub record IsReady (table : Site TableHome) (cache : CacheSite) (w : Worker) : Type 0 where
  pub of : w.session.pass.site ≡ table
  pub seat_of : IsCacheSeat cache w.seat
  pub names : All (IsWithinNames table.home.names) w.commands.items
  pub few : length w.commands.items < 2 ^ 32
  pub fresh : IsFreshSession w.session
  pub none : w.session.pass.mine ≡ []
  pub left : length w.commands.items ≤ w.session.pass.left
  pub seat_none : w.seat.pass.mine ≡ []
  pub seat_left : 2 * length w.commands.items ≤ w.seat.pass.left
  pub counts : (w.seat.lent ≡ 0) × (w.seat.returned ≡ 0)

-- what some of a worker's commands have come to
pub record HasDone (cache : CacheSite) (commands : List Command) (old new : Worker) : Type 0 where
  -- its entries are these commands, numbered from 1, each once
  pub asked : asked_of new.session.pass.mine ≡ numbered 1 commands
  pub site : new.session.pass.site ≡ old.session.pass.site
  pub number : new.session.pass.number ≡ old.session.pass.number
  -- its entries of the cache ask for buffers, at most one for each put, and free them; there is a Full for each `full`
  pub kinds : All (λ e. is_of_worker e ≡ true) new.seat.pass.mine
  pub asks : count_by asks_slabs new.seat.pass.mine ≤ count_by is_put commands
  pub refusals : count_by is_refused new.session.pass.mine ≤ count_by is_full_entry new.seat.pass.mine
  pub seat_of : IsCacheSeat cache new.seat
  pub seat_number : new.seat.pass.number ≡ old.seat.pass.number
  -- what the cache lent it, less what it gave back, is what it put into the heap, less what it took out
  pub balance : new.seat.lent + new.session.share.fetched ≡ new.seat.returned + new.session.share.brought
  pub same : (new.commands.items ≡ old.commands.items) × (new.number ≡ old.number)

-- it has carried out all its commands
abbrev pub HasWorked : CacheSite → Worker → Worker → Type 0
HasWorked cache old new = HasDone cache old.commands.items old new
