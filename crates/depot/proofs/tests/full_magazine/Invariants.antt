use Rattle.std.proofs.Common.{◌≡◌, [], length, vec_len}
use Rattle.kmem_buf.specs.Homes.{cell_homes}
use Rattle.magazine.specs.Ready.{AreReady}
use Rattle.depot.proofs.tests.full_magazine.Given as goal

abbrev pub invariant-loop-number : goal.invariant-loop-number
invariant-loop-number l =
    (length l.magazine ≡ l.number) × (vec_len l.cells ≡ l.number) × AreReady (λ n. n ≡ 0) (record { cells = cell_homes l.cells.items; moves = [] }) l.magazine
