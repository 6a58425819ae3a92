-- A heap of objects found by address, and when it stands for a record map (this project's own rule).
use Rattle.std.specs.Prelude.{ℕ, ◌≡◌, ◌+◌, ◌==◌, Bool, true, false, List, [], Option, Some, None, is_some, is_none, option_map, option_and_then, map, count_by, length, slice_index_or}
use Rattle.std.specs.List.{list_any}
use Rattle.kmem_model.specs.CacheOrder.{is_the, least_below}
use Rattle.kmem_model.specs.Records.{Record, RecordMap, IsValid, record_at, is_live, live_count}

-- an object of a heap
pub record Object : Type 0 where
  -- the value of its record. A leftover has none
  pub value : Option (List ℕ)
  -- its back references: the names of its record
  pub names : List ℕ
  -- how many tags hold its record
  pub holds : ℕ
  -- whether its record is fixed
  pub fixed : Bool

-- an object of no record: as constructed, and as a leftover
abbrev pub blank : Object
blank = record { value = None; names = []; holds = 0; fixed = false }

-- a heap. Addresses are the numbers of buffers
pub record HeapState : Type 0 where
  -- the address of each name
  pub names : List (Option ℕ)
  -- the address that each tag holds, by the tag's place
  pub tags : List (Option ℕ)
  -- the object at each address
  pub objects : List (Option Object)

-- the address of a name
abbrev pub address_of : HeapState → ℕ → Option ℕ
address_of h name = slice_index_or h.names name None

-- the address that the tag at this place holds
abbrev pub hold_at : HeapState → ℕ → Option ℕ
hold_at h place = slice_index_or h.tags place None

-- the object at an address
abbrev pub object_at : HeapState → ℕ → Option Object
object_at h b = slice_index_or h.objects b None

-- what an object says of its record
abbrev pub record_of : Object → Option Record
record_of o = option_map (λ value. record { value = value; fixed = o.fixed }) o.value

-- the object has a record
abbrev pub has_record : Option Object → Bool
has_record None = false
has_record (Some o) = is_some o.value

-- there is an object, and it is a leftover
abbrev pub is_leftover : Option Object → Bool
is_leftover None = false
is_leftover (Some o) = is_none o.value

-- how many objects have a record
abbrev pub kept_count : HeapState → ℕ
kept_count h = count_by has_record h.objects

-- how many objects are leftovers
abbrev pub leftover_count : HeapState → ℕ
leftover_count h = count_by is_leftover h.objects

-- the least address of a leftover
abbrev pub least_left_in : HeapState → Option ℕ
least_left_in h = least_below (length h.objects) (λ b. is_leftover (object_at h b))

-- for each address, whether there is an object
abbrev pub places_of : List (Option Object) → List Bool
places_of objects = map is_some objects

-- what an object at this address has to do with the names and tags of its heap
pub record IsTiedObject (h : HeapState) (b : ℕ) (o : Object) : Type 0 where
  -- its back references are exactly the names with its address, each once
  pub names : (name : ℕ) → list_any (λ other. other == name) o.names ≡ is_the (address_of h name) b
  pub once : length o.names ≡ count_by (λ a. is_the a b) h.names
  -- its hold count is the number of tags with its address
  pub holds : o.holds ≡ count_by (λ a. is_the a b) h.tags
  -- without a name and a tag it is blank, as a leftover is
  pub blank : length o.names + o.holds ≡ 0 → o ≡ blank

-- each address that a name or a tag has is that of an object, and each object is tied to its names and tags
pub record IsTied (h : HeapState) : Type 0 where
  pub named : (name b : ℕ) → address_of h name ≡ Some b → is_some (object_at h b) ≡ true
  pub held : (place b : ℕ) → hold_at h place ≡ Some b → is_some (object_at h b) ≡ true
  pub objects : (b : ℕ) (o : Object) → object_at h b ≡ Some o → IsTiedObject h b o

-- the address of an id, by a list of the addresses of all ids that were ever given
abbrev pub address_in : List ℕ → ℕ → ℕ
address_in addresses id = slice_index_or addresses id 0

-- the live ids of a record map and the addresses of a heap's records are paired, where the ids have these addresses
pub record IsPaired (m : RecordMap) (addresses : List ℕ) (h : HeapState) : Type 0 where
  pub size : length addresses ≡ length m.records
  -- each name's address is that of its id, and so is each tag's
  pub names : h.names ≡ map (option_map (address_in addresses)) m.names
  pub tags : h.tags ≡ map (option_map (address_in addresses)) m.tags
  -- value and fixed flag at the address of an id are those of the id
  pub records : (id : ℕ) → is_live m id ≡ true → option_and_then record_of (object_at h (address_in addresses id)) ≡ record_at m id
  -- two ids that live have two addresses
  pub apart : (i j : ℕ) → is_live m i ≡ true → is_live m j ≡ true → address_in addresses i ≡ address_in addresses j → i ≡ j
  -- no object has a record but those of the ids that live
  pub count : kept_count h ≡ live_count m
  -- back references, hold counts and leftovers
  pub tied : IsTied h

-- A heap stands for a record map, where the live ids have these addresses: the map is valid, and the two are paired
pub record StandsFor (m : RecordMap) (addresses : List ℕ) (h : HeapState) : Type 0 where
  pub valid : IsValid m
  pub paired : IsPaired m addresses h
