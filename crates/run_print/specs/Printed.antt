-- What is printed of an entry of a history (this project's own format).
use Rattle.std.specs.Prelude.{ℕ, ◌<◌, ◌==◌, ◌++◌, List, [], ◌∷◌, All, cond}
use Rattle.kmem_text.specs.Replies.{IsReplyWithinNames}
use Rattle.kmem_model.specs.declared.record_entry.RecordEntry.{RecordEntry}
use Rattle.kmem_model.specs.History.{worker_of}
use Rattle.kmem_model.specs.RunLines.{ReplyAt}

-- the reply of an entry, with its place
abbrev pub reply_at : ℕ × RecordEntry → ReplyAt
reply_at e = record { worker = worker_of e.0; number = e.1.number; reply = e.1.reply }

-- there are at most 16 workers, and each reply names one of so many names, if any
pub record IsPrintable (names : ℕ) (entries : List (ℕ × RecordEntry)) : Type 0 where
  pub passes : All (λ (e : ℕ × RecordEntry). e.0 < 16) entries
  pub named : All (λ (e : ℕ × RecordEntry). IsReplyWithinNames names e.1.reply) entries

-- the line of an entry with a line feed, where it is of that worker
abbrev pub line_to : (ReplyAt → List ℕ) → ℕ → ℕ × RecordEntry → List ℕ
line_to line worker e = cond ((reply_at e).worker == worker) (line (reply_at e) ++ 10 ∷ []) []
