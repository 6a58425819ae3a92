-- Numbers that are handed out in order (this project's own).
use Rattle.std.specs.Prelude.{◌≡◌, ℕ, ◌+◌, List, [], ◌∷◌, ◌++◌, length, map}
use Rattle.std.specs.List.{range_with_len}
use Rattle.hist_lock.specs.Passes.{PassState}

-- the numbers of these entries, in order: those from the first on, none left out and none twice
abbrev pub AreInOrder : ℕ → List (ℕ × ℕ) → Type 0
AreInOrder first history = map (λ x. x.1) history ≡ range_with_len first (length history)

-- the numbers of these entries were handed out, and this one comes next
abbrev pub IsCounter : ℕ → ℕ → List (ℕ × ℕ) → Type 0
IsCounter first next history = (next ≡ first + length history) × AreInOrder first history

-- the pass has made one more entry, which is this number
abbrev pub HasGot : {H : Type 0} → PassState ℕ H → PassState ℕ H → ℕ → Type 0
HasGot old new number = (new.site ≡ old.site) × (new.number ≡ old.number) × (new.mine ≡ old.mine ++ number ∷ [])
