-- The pending moves of a cache, and the buffers that a scan leaves out (this project's own).
use Rattle.std.specs.Prelude.{ℕ, ◌≡◌, ◌<◌, ◌≤◌, ◌^◌, Bool, true, false, ◌||◌, List, [], ◌∷◌, Option, Some, None, length, count_by, is_some, slice_index_or, slice_get, refl}
use Rattle.std.specs.List.{list_any}
use Rattle.number_set.specs.Sets.{SetState, has}
use Rattle.atomic_table.specs.Seated.{TableId, table_id_coded}
use Rattle.std.specs.Coded.{Coded, code_by, coded×, coded_ℕ}
use Rattle.kmem_buf.specs.Stubs.{StubState}
use Rattle.kmem_buf.specs.Buffers.{BufState, buf_code}
use Rattle.kmem_buf.specs.Homes.{Homes, IsBufferOf}
use Rattle.kmem_model.specs.CacheOrder.{is_of_move}
use Rattle.kmem_model.specs.declared.cache_state.PendingMove.{PendingMove}

-- the parts of a cache state that say which moves are pending, with the homes of the stubs of all moves
pub record MovesState : Type 0 where
  pub asked : List Bool
  pub pending : List (Option PendingMove)
  pub stubs : List TableId

-- a pending move as its holder has it: its number, its buffers, the place of its stub, and the home of its slip (this project's own)
pub record PendingState : Type 0 where
  pub no : ℕ
  pub from : ℕ
  pub to : ℕ
  pub slot : ℕ
  pub home : TableId

-- it is stored as its parts
abbrev pub pending_code : Coded PendingState
pending_code =
    code_by (ℕ × (ℕ × (ℕ × (ℕ × TableId)))) (coded× coded_ℕ (coded× coded_ℕ (coded× coded_ℕ (coded× coded_ℕ table_id_coded))))
    (λ p. (p.no, (p.from, (p.to, (p.slot, p.home)))))
    (λ t. record { no = t.0; from = t.1.0; to = t.1.1.0; slot = t.1.1.1.0; home = t.1.1.1.1 }) (λ _. refl)

-- a move that has begun: what is pending, and the new buffer
pub record JobState (X : Type 0) : Type 0 where
  pub move : PendingState
  pub buf : BufState X

-- it is stored as its two parts
abbrev pub job_code : {X : Type 0} → Coded X → Coded (JobState X)
job_code {X} c =
    code_by (PendingState × BufState X) (coded× pending_code (buf_code c)) (λ j. (
      j.move,
      j.buf,
    )) (λ p. record { move = p.0; buf = p.1 }) (λ _. refl)

-- the move is one of these stubs: its home is the one that stands at its place
abbrev pub IsMoveOf : List TableId → PendingState → Type 0
IsMoveOf stubs p = slice_get stubs p.slot ≡ Some p.home

-- the job is of these homes, and its new buffer holds a constructed object
pub record IsJobOf {X : Type 0} (constructed : X → Type 0) (home : Homes) (job : JobState X) : Type 0 where
  pub move : IsMoveOf home.moves job.move
  pub buf : IsBufferOf home.cells job.buf
  pub to : job.buf.number ≡ job.move.to
  pub ready : constructed job.buf.object

-- the move is the pending one of its number
pub record IsPending (pending : List (Option PendingMove)) (p : PendingState) : Type 0 where
  pub no : p.no ≡ p.slot
  pub move : slice_index_or pending p.slot None ≡ Some (record { from = p.from; to = p.to })

-- the facts with which a move is issued: its number and its two buffers
abbrev pub move_facts : ℕ → PendingMove → List ℕ
move_facts j m = j ∷ m.from ∷ m.to ∷ []

-- the stub of a place, beside the move that is pending there
abbrev pub IsStubOf : ℕ → StubState → Option PendingMove → Type 0
IsStubOf j stub None = stub.issued ≡ false
IsStubOf j stub (Some m) = (stub.issued ≡ true) × (stub.facts ≡ move_facts j m)

-- the move's buffers are among this many
abbrev pub IsWithin : ℕ → Option PendingMove → Type 0
IsWithin buffers None = Unit {0}
IsWithin buffers (Some m) = (m.from < buffers) × (m.to < buffers)

-- the buffers of all pending moves are among this many
abbrev pub AreWithin : ℕ → List (Option PendingMove) → Type 0
AreWithin buffers pending = (j : ℕ) → j < length pending → IsWithin buffers (slice_index_or pending j None)

-- the buffer was asked about, or is the old or the new one of a pending move
abbrev pub is_left_out_of : List Bool → List (Option PendingMove) → ℕ → Bool
is_left_out_of asked pending b = slice_index_or asked b false || list_any (is_of_move b) pending

-- what always holds of the fields
pub record AreTracked (stubs : List StubState) (pending : List (Option PendingMove)) (asked : List Bool) (count : ℕ) : Type 0 where
  pub size : length stubs ≡ length pending
  pub few : length pending < 2 ^ 32
  pub issued : (j : ℕ) (d : StubState) → j < length pending → IsStubOf j (slice_index_or stubs j d) (slice_index_or pending j None)
  pub within : AreWithin (length asked) pending
  pub counted : count ≡ count_by is_some pending

-- the set has exactly the numbers whose flag is set
pub record IsNoted (flags : List Bool) (noted : SetState) : Type 0 where
  pub room : length flags ≤ length noted.flags
  pub same : (b : ℕ) → has noted b ≡ slice_index_or flags b false
