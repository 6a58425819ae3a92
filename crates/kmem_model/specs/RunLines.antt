-- The text that a run on threads prints: its replies by worker, its history, and the report (this project's own format).
use Rattle.std.specs.Prelude.{ℕ, ◌==◌, List, [], ◌∷◌, ◌++◌, length, map, filter, codes}
use Rattle.std.specs.Fmt.{decimal}
use Rattle.std.specs.List.{flat_map, range_with_len}
use Rattle.kmem_text.specs.declared.command.Reply.{Reply}
use Rattle.kmem_text.specs.Grammar.{Plain}
use Rattle.kmem_text.specs.Replies.{reply_text}
use Rattle.kmem_model.specs.declared.record_entry.RecordEntry.{RecordEntry}
use Rattle.kmem_model.specs.History.{worker_of, IsLegalHistory, IsShared}
use Rattle.kmem_model.specs.Records.{no_records}

-- a reply, with the worker whom it was given and the number of the command among that worker's
pub record ReplyAt : Type 0 where
  pub worker : ℕ
  pub number : ℕ
  pub reply : Reply

-- the replies of a history, in its order
abbrev pub replies_at : List (ℕ × RecordEntry) → List ReplyAt
replies_at h = map (λ e. record { worker = worker_of e.0; number = e.1.number; reply = e.1.reply }) h

-- the line of a place in a history: a worker and the number of its command
abbrev pub place_line : ReplyAt → List ℕ
place_line a = decimal a.worker ++ 32 ∷ decimal a.number

-- the line of a reply
abbrev pub reply_line : List (List ℕ) → ReplyAt → List ℕ
reply_line names a = place_line a ++ 32 ∷ reply_text names a.reply

-- the replies to one worker, in their order
abbrev pub replies_to : List ReplyAt → ℕ → List ReplyAt
replies_to given worker = filter (λ a. a.worker == worker) given

-- the replies by worker, of so many, each one's in their order
abbrev pub by_worker : ℕ → List ReplyAt → List ReplyAt
by_worker workers given = flat_map (replies_to given) (range_with_len 1 workers)

-- the lines of a run, but for its report
abbrev pub run_lines : ℕ → List (List ℕ) → List ReplyAt → List (List ℕ)
run_lines workers names given =
    codes "=== replies" ∷ (map (reply_line names) (by_worker workers given) ++ codes "=== history" ∷ map place_line given)

-- each line, and a line feed
abbrev pub as_lines : List (List ℕ) → List ℕ
as_lines lines = flat_map (λ line. line ++ 10 ∷ []) lines

-- what is printed for a history and a report
abbrev pub run_text : ℕ → List (List ℕ) → List (ℕ × RecordEntry) → List ℕ → List ℕ
run_text workers names h report = as_lines (run_lines workers names (replies_at h)) ++ report

-- a history of a script: legal for a plain map of records; and it has each line's command once, and each worker's in their order
pub record IsHistoryOf (workers : ℕ) (script : Plain) (h : List (ℕ × RecordEntry)) : Type 0 where
  pub legal : IsLegalHistory (no_records (length script.names) workers) h
  pub shared : IsShared h script.lines
