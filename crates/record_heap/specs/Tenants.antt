-- A record heap as the owner of the objects in its buffers (this project's own).
use Rattle.std.specs.Prelude.{ℕ, ◌≡◌, ◌+◌, ◌/◌, ◌%◌, Bool, nat_lt, List, [], ◌∷◌, Option, Some, None, is_none, length, map, option_map, IfSome, if◌then◌else◌, refl}
use Rattle.std.specs.List.{range_with_len}
use Rattle.std.specs.Coded.{Coded, code_by, coded×, coded_ℕ, coded_bool, coded_list, coded_option}
use Rattle.atomic_table.specs.Seated.{TableId, table_id_coded}
use Rattle.kmem_buf.specs.declared.owner.Stand.{Stand}
use Rattle.kmem_buf.specs.declared.owner.Stand.TheVariants.{Movable, Spare, Fixed, Busy, Unknown}
use Rattle.kmem_model.specs.CacheOrder.{is_the}
use Rattle.kmem_model.specs.Records.{Record, RecordMap}
use Rattle.kmem_model.specs.Heap.{Object, HeapState, object_at, StandsFor}
use Rattle.record_heap.specs.View.{HeapView}

-- How an object stands

-- a leftover is spare; else what is fixed is fixed, else what a tag holds is busy, and else it can move
abbrev pub stand_of : Option Object → Stand
stand_of None = Unknown
stand_of (Some o) =
    if is_none o.value then Spare
    else (if o.fixed then Fixed
    else (if nat_lt 0 o.holds then Busy else Movable))

-- how the object in each buffer stands
abbrev pub stands_of : HeapView → List Stand
stands_of h = map stand_of h.heap.objects

-- Tenants

-- the tenant of a buffer: the names that lead to its record, and the tags that hold it, each by its worker and its number
pub record TenantState : Type 0 where
  pub names : List ℕ
  pub tags : List (ℕ × ℕ)

-- it is stored as its two parts
abbrev pub tenant_code : Coded TenantState
tenant_code =
    code_by (List ℕ × List (ℕ × ℕ)) (coded× (coded_list coded_ℕ) (coded_list (coded× coded_ℕ coded_ℕ)))
    (λ t. (t.names, t.tags)) (λ p. record { names = p.0; tags = p.1 }) (λ _. refl)

-- the worker and the number of the tag at this place
abbrev pub tag_of : ℕ → ℕ × ℕ
tag_of place = (place / 8 + 1, place % 8)

-- the tags that have this address, where these are the addresses of all tags from this place on
abbrev pub tags_from : ℕ → ℕ → List (Option ℕ) → List (ℕ × ℕ)
tags_from place b [] = []
tags_from place b (address ∷ addresses) =
    if is_the address b then tag_of place ∷ tags_from (place + 1) b addresses else tags_from (place + 1) b addresses

-- the tags that hold the record at this address
abbrev pub tags_at : HeapState → ℕ → List (ℕ × ℕ)
tags_at h b = tags_from 0 b h.tags

-- the tenant of this buffer
abbrev pub tenant_at : HeapState → ℕ → Option TenantState
tenant_at h b = option_map (λ (o : Object). record { names = o.names; tags = tags_at h b }) (object_at h b)

-- the tenant of each buffer
abbrev pub tenants_in : HeapState → List (Option TenantState)
tenants_in h = map (tenant_at h) (range_with_len 0 (length h.objects))

abbrev pub tenants_of : HeapView → List (Option TenantState)
tenants_of h = tenants_in h.heap

-- What the heap stands for

-- a record map, if one is told, with the homes of the stubs of the tags, and how many names, tags and buffers there are
pub record MeaningState : Type 0 where
  pub map : Option RecordMap
  pub holds : List TableId
  pub names : ℕ
  pub tags : ℕ
  pub buffers : ℕ

abbrev pub record_code : Coded Record
record_code =
    code_by (List ℕ × Bool) (coded× (coded_list coded_ℕ) coded_bool) (λ r. (r.value, r.fixed))
    (λ p. record { value = p.0; fixed = p.1 }) (λ _. refl)

abbrev pub map_code : Coded RecordMap
map_code =
    code_by (List (Option ℕ) × (List (Option Record) × List (Option ℕ)))
    (coded× (coded_list (coded_option coded_ℕ)) (coded× (coded_list (coded_option record_code)) (coded_list (coded_option coded_ℕ))))
    (λ m. (m.names, (m.records, m.tags))) (λ p. record { names = p.0; records = p.1.0; tags = p.1.1 }) (λ _. refl)

-- it is stored as its parts
abbrev pub meaning_code : Coded MeaningState
meaning_code =
    code_by (Option RecordMap × (List TableId × (ℕ × (ℕ × ℕ))))
    (coded× (coded_option map_code) (coded× (coded_list table_id_coded) (coded× coded_ℕ (coded× coded_ℕ coded_ℕ))))
    (λ m. (m.map, (m.holds, (m.names, (m.tags, m.buffers)))))
    (λ p. record { map = p.0; holds = p.1.0; names = p.1.1.0; tags = p.1.1.1.0; buffers = p.1.1.1.1 })
    (λ _. refl)

-- the heap stands for this map, wherever its records lie, and has these stubs and sizes
pub record HasMeaning (h : HeapView) (m : MeaningState) : Type 0 where
  pub map : IfSome m.map (λ map. (addresses : List ℕ) × StandsFor map addresses h.heap)
  pub holds : h.holds ≡ m.holds
  pub names : length h.heap.names ≡ m.names
  pub tags : length h.heap.tags ≡ m.tags
  pub buffers : length h.heap.objects ≡ m.buffers
