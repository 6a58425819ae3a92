-- The plan of the words: what the words after the program's name ask for (this project's own rule).
use Rattle.std.specs.Prelude.{ℕ, ◌*◌, ◌≤◌, nat_le, List, [], ◌∷◌, codes, Option, Some, None, IfSome, option_map, if◌then◌else◌}
use Rattle.std.specs.Str.{bytes_eq}
use Rattle.kmem_text.specs.Numbers.{number_within}
use Rattle.kmem_model.specs.declared.plan.Plan.{Plan}
use Rattle.kmem_model.specs.declared.plan.Plan.TheVariants.{One, Check}

-- so many slabs of so many buffers, at most 65,536 in all
abbrev pub bounded : Option ℕ → Option ℕ → Option ℕ → Option Plan
bounded (Some slabs) (Some chunks) every = if nat_le (slabs * chunks) 65536 then Some (One slabs chunks every) else None
bounded (Some slabs) None every = None
bounded None chunks every = None

-- the same, with a number of commands between settles
abbrev pub settling : Option ℕ → Option ℕ → Option ℕ → Option Plan
settling slabs chunks None = None
settling slabs chunks (Some every) = bounded slabs chunks (Some every)

-- the words after `one`: S and C, and EVERY if it is there
abbrev pub one_of : List (List ℕ) → Option Plan
one_of (slabs ∷ chunks ∷ []) = bounded (number_within 1 4096 slabs) (number_within 1 64 chunks) None
one_of (slabs ∷ chunks ∷ every ∷ []) = settling (number_within 1 4096 slabs) (number_within 1 64 chunks) (number_within 0 100000 every)
one_of _ = None

-- the words after `check`: W
abbrev pub check_of : List (List ℕ) → Option Plan
check_of (workers ∷ []) = option_map Check (number_within 1 16 workers)
check_of _ = None

-- the plan of the words, if they have one
abbrev pub plan_of : List (List ℕ) → Option Plan
plan_of [] = None
plan_of (word ∷ further) =
    if bytes_eq word (codes "one") then one_of further
    else (if bytes_eq word (codes "check") then check_of further else None)

-- the numbers of a plan lie in their ranges
abbrev pub IsInRange : Plan → Type 0
IsInRange (One slabs chunks every) =
    (1 ≤ slabs) × (slabs ≤ 4096) × (1 ≤ chunks) × (chunks ≤ 64) × (slabs * chunks ≤ 65536) × IfSome every (λ n. n ≤ 100000)
IsInRange (Check workers) = (1 ≤ workers) × (workers ≤ 16)
