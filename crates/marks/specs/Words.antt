-- What a word says, and what contracts see of the words, of their pen and of a seat.
-- That a client tells a known object by the two low bits of a word is from the theory statement of the kernel's kmem.c; the rest
-- is this project's own.
use Rattle.std.specs.Prelude.{◌≡◌, ◌⊎◌, ◌==◌, ℕ, ◌+◌, ◌*◌, ◌%◌, Bool, List, Option, Some, None, slice_set}
use Rattle.atomic_table.specs.Seated.{TableId}

-- a word is known where its two low bits are clear
abbrev pub is_known_word : ℕ → Bool
is_known_word word = (word % 4) == 0

-- the words that a buffer can have: never known, known, given up
abbrev pub IsWordOf : ℕ → ℕ → Type 0
IsWordOf buffer word = (word ≡ 0xbaddcafe) ⊎ (word ≡ 4 * (buffer + 1)) ⊎ (word ≡ 4 * (buffer + 1) + 1)

-- the words: which table they are, and of how many buffers
pub record MarksState : Type 0 where
  pub home : TableId
  pub buffers : ℕ

-- the pen: the table that it writes, and which of its words are known, by buffer
pub record MarkPenState : Type 0 where
  pub home : TableId
  pub known : List Bool

-- a seat: the table that it reads, how many loads it made, and of the last one the buffer, and whether its word was known
pub record MarkSeatState : Type 0 where
  pub home : TableId
  pub loads : ℕ
  pub last : Option (ℕ × Bool)

-- a seat of this table that has made no load
abbrev pub fresh_mark_seat : TableId → MarkSeatState
fresh_mark_seat home = record { home = home; loads = 0; last = None }

-- the seat after one more load, of this buffer, that found its word known, or not
abbrev pub mark_seat_after : ℕ → Bool → MarkSeatState → MarkSeatState
mark_seat_after buffer found seat = record seat { loads = seat.loads + 1; last = Some (buffer, found) }

-- the pen after the word of this buffer, and no other, became known, or unknown
abbrev pub pen_after : ℕ → Bool → MarkPenState → MarkPenState
pen_after buffer known pen = record pen { known = slice_set pen.known buffer known }
