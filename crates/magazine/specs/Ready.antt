-- Which rounds may be handed out (this project's own).
use Rattle.std.specs.Prelude.{List, All}
use Rattle.kmem_buf.specs.Buffers.{BufState}
use Rattle.kmem_buf.specs.Homes.{Homes, IsBufferOf}

-- the buffer is constructed and of these homes
abbrev pub IsReady : {X : Type 0} → (X → Type 0) → Homes → BufState X → Type 0
IsReady constructed home b = constructed b.object × IsBufferOf home.cells b

-- each round is constructed and of these homes
abbrev pub AreReady : {X : Type 0} → (X → Type 0) → Homes → List (BufState X) → Type 0
AreReady constructed home rounds = All (IsReady constructed home) rounds
