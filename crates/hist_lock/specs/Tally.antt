-- The object of the crate's own tests: a sum that several threads add to.
use Rattle.std.specs.Prelude.{◌≡◌, ◌==◌, ℕ, ◌+◌, ◌^◌, ◌<◌, ◌≤◌, List, [], ◌∷◌, length, All, if◌then◌else◌}
use Rattle.std.specs.List.{sum_by}
use Rattle.hist_lock.specs.History.{entries_of}
use Rattle.hist_lock.specs.Passes.{Site, PassState}

-- what the entries add up to
abbrev pub sum_of : List (ℕ × ℕ) → ℕ
sum_of history = sum_by (λ x. x.1) history

-- the sum and the count are the history's, and no entry is above the most that may be added
abbrev pub IsTally : ℕ → ℕ → ℕ → List (ℕ × ℕ) → Type 0
IsTally total adds most history = (total ≡ sum_of history) × (adds ≡ length history) × All (λ x. x.1 ≤ most) history × (most < 2 ^ 32)

-- before each entry of this pass, what those before it add up to, and this much more
abbrev pub sums_before : ℕ → ℕ → List (ℕ × ℕ) → List ℕ
sums_before more number [] = []
sums_before more number (x ∷ xs) = if x.0 == number then more ∷ sums_before (more + x.1) number xs else sums_before (more + x.1) number xs

-- the pass may add at the lock, and has seen nothing yet; there is room for what it finds
abbrev pub MayAdd : Site ℕ → PassState ℕ ℕ → List ℕ → ℕ → Type 0
MayAdd site pass found room = (pass.site ≡ site) × (pass.left ≤ 10000) × (pass.seen ≡ []) × (found ≡ []) × (pass.left ≤ room)

-- the pass may add at the lock
abbrev pub IsAdder : Site ℕ → PassState ℕ ℕ → Type 0
IsAdder site pass = (pass.site ≡ site) × (pass.left ≤ 10000)

-- the pass has nothing left, and each of its turns found what the entries before its own add up to
abbrev pub IsDone : Site ℕ → ℕ → PassState ℕ ℕ → List ℕ → Type 0
IsDone site number pass found = (pass.site ≡ site) × (pass.number ≡ number) × (pass.left ≡ 0) ×
    (found ≡ sums_before 0 number pass.seen) × (entries_of number pass.seen ≡ pass.mine)
