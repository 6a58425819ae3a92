-- The record map: which names and tags lead to which records (this project's own rule).
use Rattle.std.specs.Prelude.{ℕ, ◌≡◌, ◌+◌, ◌*◌, ◌-◌, ◌≤◌, Bool, true, false, ◌&&◌, nat_lt, nat_le, List, [], ◌∷◌, ◌++◌, Option, Some, None, is_some, option_map, count_by, length, replicate, slice_index_or, slice_set, if◌then◌else◌}
use Rattle.std.specs.Option.{option_map_or}
use Rattle.kmem_model.specs.CacheOrder.{is_the, least_below}

-- a record: its value, and whether it is fixed
pub record Record : Type 0 where
  pub value : List ℕ
  pub fixed : Bool

-- the record map
pub record RecordMap : Type 0 where
  -- for each name of a script, by its place, the id of its record
  pub names : List (Option ℕ)
  -- for each id that was ever given, its record while that lives. The next fresh id is the length
  pub records : List (Option Record)
  -- for each tag of each worker, by its place, the id of the record that it holds
  pub tags : List (Option ℕ)

-- the place of a worker's tag. Workers count from 1, and each has eight tags
abbrev pub tag_place : ℕ → ℕ → ℕ
tag_place worker tag = 8 * (worker - 1) + tag

-- no name is present, and no tag is in use
abbrev pub no_records : ℕ → ℕ → RecordMap
no_records names workers = record { names = replicate names None; records = []; tags = replicate (8 * workers) None }

-- Look-ups

-- the id of a name's record
abbrev pub id_of : RecordMap → ℕ → Option ℕ
id_of map name = slice_index_or map.names name None

-- the id of the record that the tag at this place holds
abbrev pub held_at : RecordMap → ℕ → Option ℕ
held_at map place = slice_index_or map.tags place None

-- the record with this id, while it lives
abbrev pub record_at : RecordMap → ℕ → Option Record
record_at map id = slice_index_or map.records id None

-- the record with this id lives
abbrev pub is_live : RecordMap → ℕ → Bool
is_live map id = is_some (record_at map id)

-- the value of the record with this id
abbrev pub value_at : RecordMap → ℕ → List ℕ
value_at map id = option_map_or (λ (r : Record). r.value) (record_at map id) []

-- how many names the record with this id has
abbrev pub name_count : RecordMap → ℕ → ℕ
name_count map id = count_by (λ other. is_the other id) map.names

-- how many tags hold the record with this id
abbrev pub tag_count : RecordMap → ℕ → ℕ
tag_count map id = count_by (λ other. is_the other id) map.tags

-- the record with this id has a name or a tag
abbrev pub is_used : RecordMap → ℕ → Bool
is_used map id = nat_lt 0 (name_count map id + tag_count map id)

-- how many names are present
abbrev pub present_count : RecordMap → ℕ
present_count map = count_by is_some map.names

-- how many records live
abbrev pub live_count : RecordMap → ℕ
live_count map = count_by is_some map.records

-- the least name that is present, from this one on. Names are places in their own order
abbrev pub least_name : RecordMap → ℕ → Option ℕ
least_name map from = least_below (length map.names) (λ name. nat_le from name && is_some (id_of map name))

-- Changes

-- a further record with this value
abbrev pub with_record : RecordMap → List ℕ → RecordMap
with_record map value = record map { records = map.records ++ Some (record { value = value; fixed = false }) ∷ [] }

-- the record with this id changed
abbrev pub changed_at : RecordMap → ℕ → (Record → Record) → RecordMap
changed_at map id change = record map { records = slice_set map.records id (option_map change (record_at map id)) }

-- the record with this id has this value
abbrev pub with_value : RecordMap → ℕ → List ℕ → RecordMap
with_value map id value = changed_at map id (λ r. record { value = value; fixed = r.fixed })

-- the record with this id is fixed, or not
abbrev pub with_fixed : RecordMap → ℕ → Bool → RecordMap
with_fixed map id fixed = changed_at map id (λ r. record { value = r.value; fixed = fixed })

-- the name leads to this id, or to none
abbrev pub with_name : RecordMap → ℕ → Option ℕ → RecordMap
with_name map name id = record map { names = slice_set map.names name id }

-- the tag at this place holds the record with this id, or none
abbrev pub with_tag : RecordMap → ℕ → Option ℕ → RecordMap
with_tag map place id = record map { tags = slice_set map.tags place id }

-- a record lives while it has a name or a tag
abbrev pub without_unused : RecordMap → ℕ → RecordMap
without_unused map id = if is_used map id then map else record map { records = slice_set map.records id None }

-- What holds of every map that commands make

-- what names and tags lead to lives, and what lives has a name or a tag, and at most eight names
pub record IsValid (map : RecordMap) : Type 0 where
  pub named : (name id : ℕ) → id_of map name ≡ Some id → is_live map id ≡ true
  pub held : (place id : ℕ) → held_at map place ≡ Some id → is_live map id ≡ true
  pub used : (id : ℕ) → is_live map id ≡ true → is_used map id ≡ true
  pub few : (id : ℕ) → name_count map id ≤ 8
