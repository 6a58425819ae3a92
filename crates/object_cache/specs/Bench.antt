-- The buffers that the tests hold, by number.
use Rattle.std.specs.Prelude.{ℕ, ◌≡◌, ◌<◌, List, Option, IfSome, length, slice_index_or}
use Rattle.kmem_buf.specs.Buffers.{BufState}
use Rattle.kmem_buf.specs.Homes.{Homes, IsBufferOf}

-- the buffer has this number, is of these homes, and holds a constructed object, which is 0
abbrev pub IsOutAt : Homes → ℕ → BufState ℕ → Type 0
IsOutAt home number buf = (buf.number ≡ number) × IsBufferOf home.cells buf × (buf.object ≡ 0)

-- each buffer stands at its number
abbrev pub AreOut : Homes → List (Option (BufState ℕ)) → Type 0
AreOut home out = (n : ℕ) (d : Option (BufState ℕ)) → n < length out → IfSome (slice_index_or out n d) (IsOutAt home n)
