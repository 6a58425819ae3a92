-- What is answered about a move (this project's own).
use Rattle.std.specs.Prelude.{◌≡◌, ℕ, ◌<◌, List, true, None, is_some, length}
use Rattle.kmem_buf.specs.Buffers.{BufState}
use Rattle.kmem_buf.specs.Answers.{IsAnswerTo, verdict_of, brought_by, fetched_by}
use Rattle.kmem_buf.specs.declared.client.Answer.{Answer}
use Rattle.kmem_answers.specs.Words.{said_of}
use Rattle.kmem_model.specs.Heap.{Object, blank, object_at}
use Rattle.kmem_model.specs.Says.{says}
use Rattle.kmem_model.specs.declared.record_entry.RecordEntry.{RecordEntry}
use Rattle.marks.specs.Words.{MarksState}
use Rattle.record_heap.specs.View.{IsBlankBuffer}
use Rattle.record_table.specs.Tables.{TableHome, TableView, IsStandingFor}
use Rattle.record_table.specs.Shares.{ShareState, counted_on}
use Rattle.record_table.specs.Turns.{IsWordsOf, IsShareAsk}
use Rattle.record_table.specs.declared.records.moving.Asked.{Asked}
use Rattle.record_table.specs.declared.records.moving.Asked.TheVariants.{Answered, Absent}

-- a move that can be asked about with these words and this share
pub record IsMoveAsk (home : TableHome) (words : MarksState) (from : ℕ) (to : BufState Object) (share : ShareState) : Type 0 where
  pub from_in : from < length home.cache.cells
  pub ready : IsBlankBuffer home.cache.cells to
  pub of : IsWordsOf home words
  pub counts : IsShareAsk home share

-- the answer is the right one about the object there, and brings the buffers that it hands back
pub record IsRightAnswer {K : Type 0} (old : TableView) (from : ℕ) (to : BufState Object) (answer : Answer K Object) : Type 0 where
  pub there : is_some (object_at old.heap.heap from) ≡ true
  pub right : said_of (verdict_of answer) ≡ says old.heap.heap true from
  pub brings : IsAnswerTo (λ o. o ≡ blank) old.heap.home.cells from to.number answer

-- what a turn about a move comes to
abbrev pub IsAsked : TableView → ℕ → BufState Object → Asked → Type 0
IsAsked old from to (Answered answer) = IsRightAnswer old from to answer
IsAsked old from to (Absent buf) = (buf ≡ to) × (object_at old.heap.heap from ≡ None)

-- the share after it
abbrev pub share_asked : Asked → ShareState → ShareState
share_asked (Answered answer) share = counted_on (brought_by (verdict_of answer)) (fetched_by (verdict_of answer)) share
share_asked (Absent buf) share = share

-- whatever history the object stood for, it stands for
abbrev pub StaysStanding : TableView → TableView → Type 0
StaysStanding old new = (h : List (ℕ × RecordEntry)) → IsStandingFor old h → IsStandingFor new h
