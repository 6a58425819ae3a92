-- The map that a history is replayed on. A record stays in it when it is out of use, and whether records are fixed isn't kept: no reply
-- tells either.
use Rattle.std.specs.Prelude.{◌≡◌, ◌+◌, ◌<◌, ℕ, Bool, true, false, List, [], ◌∷◌, map, length, slice_index, slice_index_or, Option, Some, None, is_some, count_by}
use Rattle.kmem_text.specs.declared.command.Command.{Command}
use Rattle.kmem_text.specs.declared.command.Command.TheVariants.{Put, Get, Del, First, Next, Count, Link, Hold, Read, Write, Drop, Fix, Loose}
use Rattle.kmem_text.specs.declared.command.Reply.TheVariants.{Gone, Absent, Number, Done, Idle}
use Rattle.kmem_model.specs.CacheOrder.{is_the}
use Rattle.kmem_model.specs.Records.{Record, RecordMap, tag_place, id_of, held_at, value_at, present_count, least_name, with_name, with_tag}
use Rattle.kmem_model.specs.RecordStep.{Step, stays, put_step, get_step, at_step, link_step, hold_step, read_step, write_step}

-- the record map with these values, where all records live and none is fixed
abbrev pub map_of : List (Option ℕ) → List (List ℕ) → List (Option ℕ) → RecordMap
map_of names values tags = record { names = names; records = map (λ v. Some (record { value = v; fixed = false })) values; tags = tags }

-- del, where the name leads to this id or to none
abbrev pub del_kept : RecordMap → ℕ → Option ℕ → Step
del_kept m name None = stays m Absent
del_kept m name (Some id) = record { reply = Gone (value_at m id); map = with_name m name None }

-- drop, where the tag at this place holds this id or none
abbrev pub drop_kept : RecordMap → ℕ → Option ℕ → Step
drop_kept m place None = stays m Idle
drop_kept m place (Some id) = record { reply = Done; map = with_tag m place None }

-- fix and loose, where the name leads to this id or to none
abbrev pub fix_kept : RecordMap → Option ℕ → Step
fix_kept m None = stays m Absent
fix_kept m (Some id) = stays m Done

-- the step of a worker's command
abbrev pub step_kept : RecordMap → ℕ → Command → Step
step_kept m worker (Put name value) = put_step m name.0 value (id_of m name.0)
step_kept m worker (Get name) = get_step m (id_of m name.0)
step_kept m worker (Del name) = del_kept m name.0 (id_of m name.0)
step_kept m worker First = at_step m (least_name m 0)
step_kept m worker (Next name) = at_step m (least_name m (name.0 + 1))
step_kept m worker Count = stays m (Number (present_count m))
step_kept m worker (Link name other) = link_step m other.0 (id_of m name.0)
step_kept m worker (Hold tag name) = let place = tag_place worker tag in hold_step m place (held_at m place) (id_of m name.0)
step_kept m worker (Read tag) = read_step m (held_at m (tag_place worker tag))
step_kept m worker (Write tag value) = write_step m value (held_at m (tag_place worker tag))
step_kept m worker (Drop tag) = let place = tag_place worker tag in drop_kept m place (held_at m place)
step_kept m worker (Fix name) = fix_kept m (id_of m name.0)
step_kept m worker (Loose name) = fix_kept m (id_of m name.0)

-- what is kept beside the names, the values and the tags: which names are present and how many, and how many names each record has.
-- What names and tags lead to is there
pub record AreKept (names : List (Option ℕ)) (tags : List (Option ℕ)) (values : List (List ℕ)) (counts : List ℕ) (has : ℕ → Bool) (count : ℕ) : Type 0 where
  pub present : (name : ℕ) → has name ≡ is_some (slice_index_or names name None)
  pub number : count ≡ count_by is_some names
  pub named : (name id : ℕ) → slice_index_or names name None ≡ Some id → id < length values
  pub held : (place id : ℕ) → slice_index_or tags place None ≡ Some id → id < length values
  pub counted : (id : ℕ) → id < length values → slice_index counts id ≡ count_by (λ other. is_the other id) names
  pub counts_len : length counts ≡ length values
