-- What the map that a history is replayed on stands for.
use Rattle.std.specs.Prelude.{◌≡◌}
use Rattle.std.specs.Ordering.{nat_cmp}
use Rattle.std.specs.BTreeSet.{contains}
use Rattle.kmem_model.specs.Records.{RecordMap}
use Rattle.run_check.specs.PlainMaps.{map_of, AreKept}
use Rattle.run_check.specs.declared.plain_map.PlainMap.{PlainMap}

-- the record map
abbrev pub kept_map : PlainMap → RecordMap
kept_map p = map_of p.names.items p.values.items p.tags.items

-- its parts agree
abbrev pub IsKept : PlainMap → Type 0
IsKept p = AreKept p.names.items p.tags.items p.values.items p.counts.items (λ name. contains nat_cmp p.present name) p.count

-- it is this step's map
abbrev pub StandsAt : PlainMap → RecordMap → Type 0
StandsAt p m = IsKept p × (kept_map p ≡ m)
