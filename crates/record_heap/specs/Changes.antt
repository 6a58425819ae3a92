-- Changes of a heap, each of one name, one tag or one object (this project's own).
use Rattle.std.specs.Prelude.{ℕ, Bool, false, List, [], ◌∷◌, Option, Some, None, option_map, option_and_then, slice_set}
use Rattle.std.specs.Option.{option_map_or}
use Rattle.kmem_model.specs.Heap.{Object, HeapState, object_at}
use Rattle.record_heap.specs.Objects.{with_value, with_fixed, with_back, without_back, held_more, held_less}

-- the value of the record at this address
abbrev pub value_in : HeapState → ℕ → Option (List ℕ)
value_in h b = option_and_then (λ (o : Object). o.value) (object_at h b)

-- the back references of the object at this address
abbrev pub names_in : HeapState → ℕ → List ℕ
names_in h b = option_map_or (λ (o : Object). o.names) (object_at h b) []

-- how many tags hold the record at this address
abbrev pub holds_in : HeapState → ℕ → ℕ
holds_in h b = option_map_or (λ (o : Object). o.holds) (object_at h b) 0

-- this object, or none, at this address
abbrev pub with_object : HeapState → ℕ → Option Object → HeapState
with_object h b o = record h { objects = slice_set h.objects b o }

-- the object at this address changed
abbrev pub changed_at : HeapState → ℕ → (Object → Object) → HeapState
changed_at h b change = with_object h b (option_map change (object_at h b))

-- the name with this address, or none
abbrev pub with_name : HeapState → ℕ → Option ℕ → HeapState
with_name h name address = record h { names = slice_set h.names name address }

-- the tag at this place with this address, or none
abbrev pub with_tag : HeapState → ℕ → Option ℕ → HeapState
with_tag h place address = record h { tags = slice_set h.tags place address }

-- the record at this address with this value
abbrev pub valued : HeapState → ℕ → List ℕ → HeapState
valued h b value = changed_at h b (with_value value)

-- the record at this address fixed, or not
abbrev pub fixed_at : HeapState → ℕ → Bool → HeapState
fixed_at h b fixed = changed_at h b (with_fixed fixed)

-- the record at this address with one more name
abbrev pub linked : HeapState → ℕ → ℕ → HeapState
linked h name b = changed_at (with_name h name (Some b)) b (with_back name)

-- the record at this address without this name
abbrev pub unlinked : HeapState → ℕ → ℕ → HeapState
unlinked h name b = changed_at (with_name h name None) b (without_back name)

-- the record at this address held by one more tag
abbrev pub tagged : HeapState → ℕ → ℕ → HeapState
tagged h place b = changed_at (with_tag h place (Some b)) b held_more

-- the record at this address without this tag
abbrev pub untagged : HeapState → ℕ → ℕ → HeapState
untagged h place b = changed_at (with_tag h place None) b held_less

-- the object of a new record, with this name and value
abbrev pub first_object : ℕ → List ℕ → Object
first_object name value = record { value = Some value; names = name ∷ []; holds = 0; fixed = false }

-- a new record at this address
abbrev pub made : HeapState → ℕ → ℕ → List ℕ → HeapState
made h name b value = with_object (with_name h name (Some b)) b (Some (first_object name value))
