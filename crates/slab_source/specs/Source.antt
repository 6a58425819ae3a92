-- A bounded source of slabs, as the set of the numbers that it holds (this project's own).
use Rattle.std.specs.Prelude.{◌≡◌, ℕ, zero, suc, ◌<◌, Bool, true, false, List, [], ◌∷◌, refl}
use Rattle.std.specs.Ordering.{nat_cmp}
use Rattle.std.specs.FinSet as set
use Rattle.std.specs.Coded.{Coded, code_by, coded×, coded_ℕ}

-- a source: its slabs are the numbers below `slabs`, and it holds those of the set
pub record SourceState : Type 0 where
  pub slabs : ℕ
  pub held : set.FinSet nat_cmp

-- a source is stored as the pair of its parts
abbrev pub source_code : Coded SourceState
source_code =
    code_by (ℕ × set.FinSet nat_cmp) (coded× coded_ℕ (set.code coded_ℕ)) (λ s. (
      s.slabs,
      s.held,
    )) (λ p. record { slabs = p.0; held = p.1 }) (λ _. refl)

-- the least number of the set
abbrev pub IsLeast : set.FinSet nat_cmp → ℕ → Type 0
IsLeast held n = (set.contains held n ≡ true) × ((m : ℕ) → m < n → set.contains held m ≡ false)

-- the numbers at which a list says true, counted from k
abbrev pub numbers_from : ℕ → List Bool → List ℕ
numbers_from k [] = []
numbers_from k (true ∷ bits) = k ∷ numbers_from (suc k) bits
numbers_from k (false ∷ bits) = numbers_from (suc k) bits

-- the set of the places at which a list says true
abbrev pub places : List Bool → set.FinSet nat_cmp
places bits = set.from_list (numbers_from 0 bits)

-- what a list says at a place, and false past its end
abbrev pub bit_at : List Bool → ℕ → Bool
bit_at [] n = false
bit_at (b ∷ bits) zero = b
bit_at (b ∷ bits) (suc n) = bit_at bits n

-- the list says false at each place below n
abbrev pub NoneBelow : List Bool → ℕ → Type 0
NoneBelow bits n = (k : ℕ) → k < n → bit_at bits k ≡ false

-- how often a list says true
abbrev pub count_of : List Bool → ℕ
count_of [] = 0
count_of (true ∷ bits) = suc (count_of bits)
count_of (false ∷ bits) = count_of bits
