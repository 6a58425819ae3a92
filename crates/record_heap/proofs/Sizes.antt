-- A heap and the map that it is paired with have as many names and tags.
use Rattle.std.proofs.Common.{◌≡◌, ◌<◌, ℕ, List, length, Some, is_some, option_map, sym, ap, ◌∙◌}
use Rattle.std.proofs.lemmas.List.{length-map}
use Rattle.kmem_model.specs.Records.{RecordMap}
use Rattle.kmem_model.specs.Heap.{HeapState, IsPaired, address_of, address_in}
use Rattle.kmem_model.proofs.RecordsValid.{some_within}

pub names_size : (m : RecordMap) (a : List ℕ) (h : HeapState) → IsPaired m a h → length m.names ≡ length h.names
names_size m a h s = sym (ap length s.names ∙ length-map m.names (option_map (address_in a)))

pub tags_size : (m : RecordMap) (a : List ℕ) (h : HeapState) → IsPaired m a h → length m.tags ≡ length h.tags
tags_size m a h s = sym (ap length s.tags ∙ length-map m.tags (option_map (address_in a)))

-- a name with an address is one of those that there are
pub address_below : (h : HeapState) (name b : ℕ) → address_of h name ≡ Some b → name < length h.names
address_below h name b leads = some_within h.names name (ap is_some leads)
