-- The draws of a seed: splitmix64 (Steele, Lea and Flood 2014). All arithmetic is on 64 bits and wraps.
use Rattle.std.specs.Prelude.{ℕ, ◌+◌, ◌*◌, ◌/◌, ◌%◌, ◌^◌, bit_xor}

-- the state after so many draws; it starts as the seed
abbrev pub state_after : ℕ → ℕ → ℕ
state_after seed draws = (seed + draws * 0x9e3779b97f4a7c15) % 2 ^ 64

-- the bits from this place on are put over those at the bottom
abbrev pub folded : ℕ → ℕ → ℕ
folded place z = bit_xor z (z / 2 ^ place)

-- the draw of a state
abbrev pub mixed : ℕ → ℕ
mixed z = folded 31 (folded 27 (folded 30 z * 0xbf58476d1ce4e5b9 % 2 ^ 64) * 0x94d049bb133111eb % 2 ^ 64)

-- the draw of a seed that so many others come before
abbrev pub draw : ℕ → ℕ → ℕ
draw seed before = mixed (state_after seed (before + 1))
