-- What the tests hold grows by a buffer.
use Rattle.std.proofs.Common.{◌≡◌, ℕ, Bool, true, false, cond, List, [], ◌∷◌, ◌++◌, subst, sym}
use Rattle.std.proofs.lemmas.List.Elements.{All-push}
use Rattle.kmem_buf.specs.Buffers.{BufState}
use Rattle.kmem_buf.specs.Homes.{Homes, IsBufferOf}
use Rattle.kmem_report.specs.Bench.{AreHeld}

-- where it was taken in, and else nothing changed
pub held_more : (home : Homes) (kept : Bool) (held after : List (BufState ℕ)) (buf : BufState ℕ) → after ≡ cond kept (held ++ buf ∷ []) held → AreHeld home held → IsBufferOf home.cells buf → buf.object ≡ 0 → AreHeld home after
held_more home true held after buf is p of zero = subst (AreHeld home) (sym is) (All-push (λ b. IsBufferOf home.cells b × (b.object ≡ 0)) held buf p (of, zero))
held_more home false held after buf is p of zero = subst (AreHeld home) (sym is) p
