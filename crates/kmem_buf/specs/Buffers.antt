-- What contracts see of a buffer and of its cell.
use Rattle.std.specs.Prelude.{ℕ, Bool, List, [], ◌∷◌, refl}
use Rattle.std.specs.Coded.{Coded, code_by, coded×, coded_ℕ}
use Rattle.atomic_table.specs.Seated.{TableId, table_id_coded}

-- a buffer: its number, the object that it holds, and the home of its cell (this project's own: a buffer has no raw memory)
pub record BufState (X : Type 0) : Type 0 where
  pub number : ℕ
  pub object : X
  pub home : TableId

-- a buffer is stored as its three parts
abbrev pub buf_code : {X : Type 0} → Coded X → Coded (BufState X)
buf_code {X} c =
    code_by (ℕ × (X × TableId)) (coded× coded_ℕ (coded× c table_id_coded)) (λ b. (
      b.number,
      (b.object, b.home),
    )) (λ p. record { number = p.0; object = p.1.0; home = p.1.1 }) (λ _. refl)

-- a cell: the number of its buffer, whether that is out, and the cell's home
pub record CellState : Type 0 where
  pub number : ℕ
  pub out : Bool
  pub home : TableId

-- the facts with which a cell issues the slip of its buffer
abbrev pub facts_at : ℕ → List ℕ
facts_at number = number ∷ 0 ∷ 0 ∷ []
