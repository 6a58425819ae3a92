-- The step of the record map: what each command replies, and the map that it leaves (this project's own rule).
use Rattle.std.specs.Prelude.{ℕ, ◌≡◌, ◌<◌, ◌≤◌, ◌+◌, ◌*◌, ◌==◌, Bool, true, false, List, [], Option, Some, None, is_some, length, if◌then◌else◌}
use Rattle.kmem_text.specs.Grammar.{IsWithinNames, IsWithinTags}
use Rattle.kmem_text.specs.declared.command.Command.{Command}
use Rattle.kmem_text.specs.declared.command.Command.TheVariants.{Put, Get, Del, First, Next, Count, Link, Hold, Read, Write, Drop, Fix, Loose}
use Rattle.kmem_text.specs.declared.command.Reply.{Reply}
use Rattle.kmem_text.specs.declared.command.Reply.TheVariants.{New, Was, Gone, Val, Absent, At, Number, Done, Taken, Many, Used, Idle}
use Rattle.kmem_model.specs.Records.{RecordMap, IsValid, tag_place, id_of, held_at, value_at, name_count, present_count, least_name, with_record, with_value, with_fixed, with_name, with_tag, without_unused}

-- what a command replies, and the map that it leaves
pub record Step : Type 0 where
  pub reply : Reply
  pub map : RecordMap

-- the map stays
abbrev pub stays : RecordMap → Reply → Step
stays map reply = record { reply = reply; map = map }

-- put, where the name leads to this id or to none
abbrev pub put_step : RecordMap → ℕ → List ℕ → Option ℕ → Step
put_step map name value None = record { reply = New; map = with_name (with_record map value) name (Some (length map.records)) }
put_step map name value (Some id) = record { reply = Was (value_at map id); map = with_value map id value }

-- get, where the name leads to this id or to none
abbrev pub get_step : RecordMap → Option ℕ → Step
get_step map None = stays map Absent
get_step map (Some id) = stays map (Val (value_at map id))

-- del, where the name leads to this id or to none
abbrev pub del_step : RecordMap → ℕ → Option ℕ → Step
del_step map name None = stays map Absent
del_step map name (Some id) = record { reply = Gone (value_at map id); map = without_unused (with_name map name None) id }

-- the value of the record of a name that leads to this id
abbrev pub named_value : RecordMap → Option ℕ → List ℕ
named_value map None = []
named_value map (Some id) = value_at map id

-- first and next, where this is the name to tell, if there is one
abbrev pub at_step : RecordMap → Option ℕ → Step
at_step map None = stays map Absent
at_step map (Some name) = stays map (At (record { 0 = name }) (named_value map (id_of map name)))

-- link, where the name leads to this id or to none
abbrev pub link_step : RecordMap → ℕ → Option ℕ → Step
link_step map other None = stays map Absent
link_step map other (Some id) =
    if is_some (id_of map other) then stays map Taken
    else (if name_count map id == 8 then stays map Many else record { reply = Done; map = with_name map other (Some id) })

-- hold, where the tag at this place holds this id or none, and the name leads to this id or to none
abbrev pub hold_step : RecordMap → ℕ → Option ℕ → Option ℕ → Step
hold_step map place (Some held) named = stays map Used
hold_step map place None None = stays map Absent
hold_step map place None (Some id) = record { reply = Done; map = with_tag map place (Some id) }

-- read, where the tag holds this id or none
abbrev pub read_step : RecordMap → Option ℕ → Step
read_step map None = stays map Idle
read_step map (Some id) = stays map (Val (value_at map id))

-- write, where the tag holds this id or none
abbrev pub write_step : RecordMap → List ℕ → Option ℕ → Step
write_step map value None = stays map Idle
write_step map value (Some id) = record { reply = Was (value_at map id); map = with_value map id value }

-- drop, where the tag at this place holds this id or none
abbrev pub drop_step : RecordMap → ℕ → Option ℕ → Step
drop_step map place None = stays map Idle
drop_step map place (Some id) = record { reply = Done; map = without_unused (with_tag map place None) id }

-- fix and loose, where the name leads to this id or to none
abbrev pub fix_step : RecordMap → Bool → Option ℕ → Step
fix_step map fixed None = stays map Absent
fix_step map fixed (Some id) = record { reply = Done; map = with_fixed map id fixed }

-- the step of a worker's command
abbrev pub step : RecordMap → ℕ → Command → Step
step map worker (Put name value) = put_step map name.0 value (id_of map name.0)
step map worker (Get name) = get_step map (id_of map name.0)
step map worker (Del name) = del_step map name.0 (id_of map name.0)
step map worker First = at_step map (least_name map 0)
step map worker (Next name) = at_step map (least_name map (name.0 + 1))
step map worker Count = stays map (Number (present_count map))
step map worker (Link name other) = link_step map other.0 (id_of map name.0)
step map worker (Hold tag name) = let place = tag_place worker tag in hold_step map place (held_at map place) (id_of map name.0)
step map worker (Read tag) = read_step map (held_at map (tag_place worker tag))
step map worker (Write tag value) = write_step map value (held_at map (tag_place worker tag))
step map worker (Drop tag) = let place = tag_place worker tag in drop_step map place (held_at map place)
step map worker (Fix name) = fix_step map true (id_of map name.0)
step map worker (Loose name) = fix_step map false (id_of map name.0)

-- the command's names and tags are among those of the map, and so is its worker
pub record IsInRange (map : RecordMap) (worker : ℕ) (command : Command) : Type 0 where
  pub names : IsWithinNames (length map.names) command
  pub tags : IsWithinTags command
  pub first : 0 < worker
  pub last : 8 * worker ≤ length map.tags

-- a valid map, with as many names and tags as another
pub record IsValidAs (old new : RecordMap) : Type 0 where
  pub valid : IsValid new
  pub names : length new.names ≡ length old.names
  pub tags : length new.tags ≡ length old.tags

-- a command that leaves the map
abbrev pub only_looks : Command → Bool
only_looks (Get name) = true
only_looks First = true
only_looks (Next name) = true
only_looks Count = true
only_looks (Read tag) = true
only_looks _ = false

-- a command that leaves which tags are in use
abbrev pub leaves_tags : Command → Bool
leaves_tags (Hold tag name) = false
leaves_tags (Drop tag) = false
leaves_tags _ = true
