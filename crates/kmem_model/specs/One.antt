-- What `one` keeps, and its step: a command in the order of the file on one thread (this project's own rule).
use Rattle.std.specs.Prelude.{ℕ, Bool, ◌==◌, ◌&&◌, List, [], ◌∷◌, ◌++◌, length, Option, Some, None, is_none, is_some, if◌then◌else◌}
use Rattle.std.specs.Option.{option_map_or}
use Rattle.kmem_text.specs.declared.command.Command.{Command}
use Rattle.kmem_text.specs.declared.command.Command.TheVariants.{Put, Del}
use Rattle.kmem_text.specs.declared.command.Reply.{Reply}
use Rattle.kmem_text.specs.declared.command.Reply.TheVariants.{Full}
use Rattle.kmem_model.specs.CacheState.{CacheState, sizes_of, is_out, opening}
use Rattle.kmem_model.specs.CacheOrder.{least_below, wanted}
use Rattle.kmem_model.specs.CacheEnter.{is_full, enter}
use Rattle.kmem_model.specs.declared.cache_entry.CacheEntry.{CacheEntry}
use Rattle.kmem_model.specs.declared.cache_entry.CacheEntry.TheVariants as entry
use Rattle.kmem_model.specs.Records.{RecordMap, id_of, is_live, no_records}
use Rattle.kmem_model.specs.RecordStep.{Step, step}
use Rattle.kmem_model.specs.Heap.{address_in}
use Rattle.kmem_model.specs.History.{is_put_of_absent}

-- what `one` keeps: the record map, the state of the cache, and the address of each id that was ever given
pub record OneState : Type 0 where
  pub map : RecordMap
  pub cache : CacheState
  pub addresses : List ℕ

-- how many buffers there are
abbrev pub buffers_of : CacheState → ℕ
buffers_of cache = length cache.asked

-- the id of the record that lives at an address
abbrev pub id_at : RecordMap → List ℕ → ℕ → Option ℕ
id_at map addresses b = least_below (length addresses) (λ id. is_live map id && address_in addresses id == b)

-- the least leftover: the buffer is out, and no record lives there
abbrev pub least_leftover : OneState → Option ℕ
least_leftover s = least_below (buffers_of s.cache) (λ b. is_out s.cache b && is_none (id_at s.map s.addresses b))

-- the state after an entry that is legal
abbrev pub entered_by : CacheState → CacheEntry → CacheState
entered_by cache made = option_map_or (λ next. next) (enter cache made) cache

-- where the object of a further record goes: to the buffer that is allocated next, and where every buffer is out to the least leftover
abbrev pub address_for : OneState → ℕ
address_for s = option_map_or (λ b. b) (if is_full s.cache then least_leftover s else wanted s.cache) 0

-- the cache with an object there
abbrev pub cache_with : OneState → CacheState
cache_with s = if is_full s.cache then s.cache else entered_by s.cache (entry.Alloc (address_for s))

-- the cache after a command has ended the record with this id, by a del: its buffer is freed at once
abbrev pub cache_without : OneState → RecordMap → Option ℕ → CacheState
cache_without s next None = s.cache
cache_without s next (Some id) = if is_live next id then s.cache else entered_by s.cache (entry.Free (address_in s.addresses id))

-- what a command replies, and the state that it leaves
pub record OneStep : Type 0 where
  pub reply : Reply
  pub state : OneState

-- where the objects are after a command that has a step of the map
abbrev pub placed_step : OneState → Command → Step → OneStep
placed_step s (Put name value) next =
    if is_some (id_of s.map name.0) then record { reply = next.reply; state = record s { map = next.map } }
    else
    record { reply = next.reply; state = record { map = next.map; cache = cache_with s; addresses = s.addresses ++ address_for s ∷ [] } }
placed_step s (Del name) next =
    record {
      reply = next.reply;
      state = record { map = next.map; cache = cache_without s next.map (id_of s.map name.0); addresses = s.addresses };
    }
placed_step s _ next = record { reply = next.reply; state = record s { map = next.map } }

-- there is no room for a further record: every buffer is out, and none of them has a leftover
abbrev pub has_no_room : OneState → Bool
has_no_room s = is_full s.cache && is_none (least_leftover s)

-- a put that finds no room
abbrev pub is_refused : OneState → Command → Bool
is_refused s command = is_put_of_absent s.map command && has_no_room s

-- a command of `one`: a put that finds no room is refused, and each other command is the map's step
abbrev pub one_step : OneState → ℕ → Command → OneStep
one_step s worker command =
    if is_refused s command then record { reply = Full; state = s } else placed_step s command (step s.map worker command)

-- how many workers `one` knows, and how many moves may be pending
abbrev pub one_workers : ℕ
one_workers = 16

abbrev pub one_limit : ℕ
one_limit = 64

-- before the first command, over so many slabs of so many buffers, with so many names
abbrev pub one_start : ℕ → ℕ → ℕ → OneState
one_start slabs chunks names =
    record {
      map = no_records names one_workers;
      cache = opening (sizes_of slabs chunks one_limit);
      addresses = [];
    }
