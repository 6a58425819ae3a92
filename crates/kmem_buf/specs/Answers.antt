-- The five answers of a client, with the buffers that each hands back (the answers are those of the theory statement of kmem.c).
use Rattle.std.specs.Prelude.{◌≡◌, ℕ, Bool, true, List, [], ◌∷◌, All}
use Rattle.atomic_table.specs.Seated.{TableId}
use Rattle.kmem_buf.specs.Buffers.{BufState}
use Rattle.kmem_buf.specs.Homes.{IsBufferOf}
use Rattle.kmem_buf.specs.declared.client.Answer.{Answer}
use Rattle.kmem_buf.specs.declared.client.Answer.TheVariants as answer
use Rattle.kmem_buf.specs.declared.client.Verdict.{Verdict}
use Rattle.kmem_buf.specs.declared.client.Verdict.TheVariants as verdict

-- which of the five an answer is
abbrev pub verdict_of : {K X : Type 0} → Answer K X → Verdict
verdict_of (answer.Yes b) = verdict.Yes
verdict_of (answer.No b) = verdict.No
verdict_of (answer.Later b) = verdict.Later
verdict_of (answer.DontNeed b c) = verdict.DontNeed
verdict_of (answer.DontKnow b) = verdict.DontKnow

-- the buffers that an answer hands back
abbrev pub buffers_back : {K X : Type 0} → Answer K X → List (BufState X)
buffers_back (answer.Yes b) = b ∷ []
buffers_back (answer.No b) = b ∷ []
buffers_back (answer.Later b) = b ∷ []
buffers_back (answer.DontNeed b c) = b ∷ c ∷ []
buffers_back (answer.DontKnow b) = b ∷ []

-- the numbers of the buffers that an answer of this kind hands back, where the object was asked to move from one to another
abbrev pub numbers_back : Verdict → ℕ → ℕ → List ℕ
numbers_back verdict.Yes from to = from ∷ []
numbers_back verdict.No from to = to ∷ []
numbers_back verdict.Later from to = to ∷ []
numbers_back verdict.DontNeed from to = from ∷ to ∷ []
numbers_back verdict.DontKnow from to = to ∷ []

-- the numbers of these buffers
abbrev pub numbers_of : {X : Type 0} → List (BufState X) → List ℕ
numbers_of [] = []
numbers_of (b ∷ bs) = b.number ∷ numbers_of bs

-- the answer hands back the buffers of its kind, each constructed and of these cells
abbrev pub IsAnswerTo : {K X : Type 0} → (X → Type 0) → List TableId → ℕ → ℕ → Answer K X → Type 0
IsAnswerTo constructed cells from to a =
    (numbers_of (buffers_back a) ≡ numbers_back (verdict_of a) from to) ×
    All (λ b. constructed b.object × IsBufferOf cells b) (buffers_back a)

-- for each of the five answers, whether it was ever given (this project's own)
pub record Flags : Type 0 where
  pub yes : Bool
  pub no : Bool
  pub later : Bool
  pub dont_need : Bool
  pub dont_know : Bool

-- the flags after one more answer
abbrev pub flagged : Verdict → Flags → Flags
flagged verdict.Yes f = record f { yes = true }
flagged verdict.No f = record f { no = true }
flagged verdict.Later f = record f { later = true }
flagged verdict.DontNeed f = record f { dont_need = true }
flagged verdict.DontKnow f = record f { dont_know = true }

-- how many buffers an answer puts among the client's objects
abbrev pub brought_by : Verdict → ℕ
brought_by verdict.Yes = 1
brought_by verdict.No = 0
brought_by verdict.Later = 0
brought_by verdict.DontNeed = 0
brought_by verdict.DontKnow = 0

-- how many buffers an answer takes from among them
abbrev pub fetched_by : Verdict → ℕ
fetched_by verdict.Yes = 1
fetched_by verdict.No = 0
fetched_by verdict.Later = 0
fetched_by verdict.DontNeed = 1
fetched_by verdict.DontKnow = 0
