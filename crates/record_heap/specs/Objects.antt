-- Changes of an object (this project's own).
use Rattle.std.specs.Prelude.{ℕ, ◌+◌, ◌-◌, ◌==◌, Bool, not, List, [], ◌∷◌, ◌++◌, Option, Some, length, refl}
use Rattle.std.specs.List.{filter}
use Rattle.std.specs.Coded.{Coded, code_by, coded×, coded_ℕ, coded_bool, coded_list, coded_option}
use Rattle.kmem_model.specs.Heap.{Object}

-- an object is stored as its parts
abbrev pub object_code : Coded Object
object_code =
    code_by (Option (List ℕ) × (List ℕ × (ℕ × Bool)))
    (coded× (coded_option (coded_list coded_ℕ)) (coded× (coded_list coded_ℕ) (coded× coded_ℕ coded_bool)))
    (λ o. (o.value, (o.names, (o.holds, o.fixed))))
    (λ t. record { value = t.0; names = t.1.0; holds = t.1.1.0; fixed = t.1.1.1 })
    (λ _. refl)

-- the object with this value
abbrev pub with_value : List ℕ → Object → Object
with_value value o = record o { value = Some value }

-- the object fixed, or not
abbrev pub with_fixed : Bool → Object → Object
with_fixed fixed o = record o { fixed = fixed }

-- the object with one more back reference
abbrev pub with_back : ℕ → Object → Object
with_back name o = record o { names = o.names ++ name ∷ [] }

-- the object without this back reference
abbrev pub without_back : ℕ → Object → Object
without_back name o = record o { names = filter (λ other. not (other == name)) o.names }

-- the object held once more
abbrev pub held_more : Object → Object
held_more o = record o { holds = o.holds + 1 }

-- the object held once less
abbrev pub held_less : Object → Object
held_less o = record o { holds = o.holds - 1 }

-- no name and no tag leads to the object
abbrev pub is_unused : Object → Bool
is_unused o = length o.names + o.holds == 0
