-- Records that ended by a `drop` (this project's own).
use Rattle.std.specs.Prelude.{ℕ, ◌&&◌, ◌||◌, Bool, true, false, nat_lt, List, [], ◌∷◌}
use Rattle.std.specs.List.{list_any}
use Rattle.kmem_text.specs.declared.command.Command.{Command}
use Rattle.kmem_text.specs.declared.command.Command.TheVariants.{Drop}
use Rattle.kmem_model.specs.Records.{RecordMap, live_count}
use Rattle.kmem_model.specs.History.{map_next, is_done}
use Rattle.kmem_model.specs.declared.record_entry.RecordEntry.{RecordEntry}

abbrev pub is_drop : Command → Bool
is_drop (Drop t) = true
is_drop _ = false

-- the entry is a `drop` with `ok`
abbrev pub drops : ℕ × RecordEntry → Bool
drops e = is_done e.1.reply && is_drop e.1.command

-- some entry is
abbrev pub has_dropped : List (ℕ × RecordEntry) → Bool
has_dropped h = list_any drops h

-- the entry, after this map, is a `drop` with `ok` that ended a record: fewer live afterwards
abbrev pub ends_record : RecordMap → ℕ × RecordEntry → Bool
ends_record m e = drops e && nat_lt (live_count (map_next m e)) (live_count m)

-- some entry, from this map on, is
abbrev pub has_ended : RecordMap → List (ℕ × RecordEntry) → Bool
has_ended m [] = false
has_ended m (e ∷ h) = ends_record m e || has_ended (map_next m e) h
