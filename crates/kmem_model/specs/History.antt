-- A record history: the entries of all workers in one order, and when it is legal for a script (this project's own rule).
use Rattle.std.specs.Prelude.{◌≡◌, ◌⊎◌, ◌↔◌, ◌+◌, ◌++◌, ◌<◌, All, ℕ, Bool, true, false, ◌==◌, ◌&&◌, List, [], ◌∷◌, map, filter, is_none, if◌then◌else◌}
use Rattle.kmem_text.specs.declared.command.Command.{Command}
use Rattle.std.specs.List.{list_any}
use Rattle.kmem_text.specs.Grammar.{IsWithinNames, IsWithinTags}
use Rattle.kmem_text.specs.declared.command.Command.TheVariants.{Put, Hold, Drop, Fix}
use Rattle.kmem_text.specs.declared.command.Line.{Line}
use Rattle.kmem_text.specs.declared.command.Reply.{Reply}
use Rattle.kmem_text.specs.declared.command.Reply.TheVariants.{Full, Done}
use Rattle.kmem_model.specs.declared.record_entry.RecordEntry.{RecordEntry}
use Rattle.kmem_model.specs.Records.{RecordMap, id_of, live_count}
use Rattle.kmem_model.specs.RecordStep.{step}

-- The map along a history. Each entry stands beside the number of its pass

-- the worker of a pass: workers count from 1, passes from 0
abbrev pub worker_of : ℕ → ℕ
worker_of pass = pass + 1

-- the entry is a refusal
abbrev pub is_refusal : Reply → Bool
is_refusal Full = true
is_refusal _ = false

-- the map after an entry: a refusal leaves it, and every other entry is the step
abbrev pub map_next : RecordMap → ℕ × RecordEntry → RecordMap
map_next m e = if is_refusal e.1.reply then m else (step m (worker_of e.0) e.1.command).map

-- the map after a history
abbrev pub map_after : RecordMap → List (ℕ × RecordEntry) → RecordMap
map_after m [] = m
map_after m (e ∷ h) = map_after (map_next m e) h

-- Legal histories

-- a put of a name that is absent, which alone may be refused
abbrev pub is_put_of_absent : RecordMap → Command → Bool
is_put_of_absent map (Put name value) = is_none (id_of map name.0)
is_put_of_absent map _ = false

-- an entry is right: it refuses a put of an absent name, or its reply is the step's
abbrev pub IsRight : RecordMap → ℕ × RecordEntry → Type 0
IsRight m e =
    ((e.1.reply ≡ Full) × (is_put_of_absent m e.1.command ≡ true)) ⊎ (e.1.reply ≡ (step m (worker_of e.0) e.1.command).reply)

-- each entry is right in turn
abbrev pub IsLegalHistory : RecordMap → List (ℕ × RecordEntry) → Type 0
IsLegalHistory m [] = Unit {0}
IsLegalHistory m (e ∷ h) = IsRight m e × IsLegalHistory (map_next m e) h

-- Each worker's share

-- the commands of a worker in these lines, in their order
abbrev pub commands_of : ℕ → List Line → List Command
commands_of worker lines = map (λ line. line.command) (filter (λ line. line.worker == worker) lines)

-- these commands with their numbers, where the first has this one
abbrev pub numbered : ℕ → List Command → List (ℕ × Command)
numbered number [] = []
numbered number (command ∷ commands) = (number, command) ∷ numbered (number + 1) commands

-- the numbers and commands of a pass's entries, in their order
abbrev pub asked_by : ℕ → List (ℕ × RecordEntry) → List (ℕ × Command)
asked_by pass h = map (λ e. (e.1.number, e.1.command)) (filter (λ e. e.0 == pass) h)

-- the entries of each worker are its commands in the script's order, numbered from 1, each once and no others
abbrev pub IsShared : List (ℕ × RecordEntry) → List Line → Type 0
IsShared h lines = (pass : ℕ) → asked_by pass h ≡ numbered 1 (commands_of (worker_of pass) lines)

-- the replies of a history, in its order
abbrev pub replies_of : List (ℕ × RecordEntry) → List Reply
replies_of h = map (λ e. e.1.reply) h

-- Where so many records can live

-- a put that finds no room: the name is absent, and so many records live as there can be
abbrev pub is_full_due : ℕ → RecordMap → Command → Bool
is_full_due capacity m command = is_put_of_absent m command && live_count m == capacity

-- `full` is replied exactly where there is no room
abbrev pub IsFullExactly : ℕ → RecordMap → List (ℕ × RecordEntry) → Type 0
IsFullExactly capacity m [] = Unit {0}
IsFullExactly capacity m (e ∷ h) =
    ((e.1.reply ≡ Full) ↔ (is_full_due capacity m e.1.command ≡ true)) × IsFullExactly capacity (map_next m e) h

-- Tags and fixed records along a history

-- the entry's names, tags and pass are among so many
pub record IsEntryWithin (names workers : ℕ) (e : ℕ × RecordEntry) : Type 0 where
  pub named : IsWithinNames names e.1.command
  pub tagged : IsWithinTags e.1.command
  pub pass : e.0 < workers

-- the reply is `ok`
abbrev pub is_done : Reply → Bool
is_done Done = true
is_done _ = false

-- a `hold`, and a `drop`, of this tag
abbrev pub is_hold_of : ℕ → Command → Bool
is_hold_of tag (Hold t name) = t == tag
is_hold_of tag _ = false

abbrev pub is_drop_of : ℕ → Command → Bool
is_drop_of tag (Drop t) = t == tag
is_drop_of tag _ = false

-- a worker's entry takes its tag, by a `hold` with `ok`, and gives it up, by a `drop` with `ok`
abbrev pub takes_tag : ℕ → RecordEntry → Bool
takes_tag tag e = is_done e.reply && is_hold_of tag e.command

abbrev pub drops_tag : ℕ → RecordEntry → Bool
drops_tag tag e = is_done e.reply && is_drop_of tag e.command

-- whether a worker's tag is in use after these entries of it, by whether it was before them
abbrev pub in_use : ℕ → Bool → List RecordEntry → Bool
in_use tag before [] = before
in_use tag before (e ∷ es) = in_use tag (if takes_tag tag e then true else (if drops_tag tag e then false else before)) es

-- the entries of a pass, in their order
abbrev pub own_entries : ℕ → List (ℕ × RecordEntry) → List RecordEntry
own_entries pass h = map (λ e. e.1) (filter (λ e. e.0 == pass) h)

-- one of these entries of a worker takes the tag, and none behind it gives it up
pub record IsTaken (tag : ℕ) (es : List RecordEntry) : Type 0 where
  pub front : List RecordEntry
  pub taking : RecordEntry
  pub rest : List RecordEntry
  pub whole : es ≡ front ++ taking ∷ rest
  pub takes : takes_tag tag taking ≡ true
  pub kept : All (λ e. drops_tag tag e ≡ false) rest

-- some `hold`, and some `fix`, with `ok`
abbrev pub is_hold : Command → Bool
is_hold (Hold t name) = true
is_hold _ = false

abbrev pub is_fix : Command → Bool
is_fix (Fix name) = true
is_fix _ = false

abbrev pub has_held : List (ℕ × RecordEntry) → Bool
has_held h = list_any (λ e. is_done e.1.reply && is_hold e.1.command) h

abbrev pub has_fixed : List (ℕ × RecordEntry) → Bool
has_fixed h = list_any (λ e. is_done e.1.reply && is_fix e.1.command) h
