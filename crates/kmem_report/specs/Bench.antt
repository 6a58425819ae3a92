-- What the tests hold.
use Rattle.std.specs.Prelude.{ℕ, ◌≡◌, List, All, length}
use Rattle.kmem_buf.specs.Buffers.{BufState}
use Rattle.kmem_buf.specs.Homes.{Homes, IsBufferOf}
use Rattle.kmem_model.specs.CacheState.{CacheState}

-- a cache of so many slabs of so many buffers
pub record HasSizes (n k : ℕ) (s : CacheState) : Type 0 where
  pub slabs : length s.slabs ≡ n
  pub chunks : s.chunks ≡ k

-- each buffer is of these homes, and holds a constructed object, which is 0
abbrev pub AreHeld : Homes → List (BufState ℕ) → Type 0
AreHeld home held = All (λ buf. IsBufferOf home.cells buf × (buf.object ≡ 0)) held
