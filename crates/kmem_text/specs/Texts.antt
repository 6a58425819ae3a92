-- What is a name and what is a value, as lists of bytes (this project's own rule).
use Rattle.std.specs.Prelude.{ℕ, Bool, ◌&&◌, ◌||◌, ◌==◌, nat_le, List, length}
use Rattle.std.specs.List.{list_all}

-- the byte lies in this range, both ends included
abbrev pub is_within : ℕ → ℕ → ℕ → Bool
is_within low high byte = nat_le low byte && nat_le byte high

-- a to z, 0 to 9, _, - or .
abbrev pub is_name_byte : ℕ → Bool
is_name_byte byte = is_within 97 122 byte || (is_within 48 57 byte || (byte == 95 || (byte == 45 || byte == 46)))

-- a byte that shows: 0x21 to 0x7E
abbrev pub is_value_byte : ℕ → Bool
is_value_byte byte = is_within 33 126 byte

-- 1 to 32 bytes of a name
abbrev pub is_name : List ℕ → Bool
is_name bytes = is_within 1 32 (length bytes) && list_all is_name_byte bytes

-- 1 to 64 bytes that show
abbrev pub is_value : List ℕ → Bool
is_value bytes = is_within 1 64 (length bytes) && list_all is_value_byte bytes
