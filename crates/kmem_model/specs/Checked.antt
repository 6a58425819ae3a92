-- A script with a printed run behind it: which lines may stand in the run, and the first that may not (this project's own rule).
use Rattle.std.specs.Prelude.{◌≡◌, ◌+◌, ◌<◌, ℕ, zero, suc, Bool, List, [], ◌∷◌, ◌++◌, map, take, drop, length, codes, Option, Some, All, slice_get}
use Rattle.std.specs.List.{flat_map, position_or_len}
use Rattle.std.specs.Str.{bytes_eq}
use Rattle.std.specs.Str.Lines.{strip_carriage_return}
use Rattle.kmem_text.specs.Grammar.{Plain, lines_of, spelled_lines, script_of_lines, first_bad}
use Rattle.kmem_text.specs.ReplyRows.{IsReplyTo}
use Rattle.kmem_text.specs.declared.command.Command.{Command}
use Rattle.kmem_text.specs.declared.command.Line.{Line}
use Rattle.kmem_text.specs.declared.command.Reply.{Reply}
use Rattle.kmem_text.specs.declared.spelling.LineFault.{LineFault}
use Rattle.kmem_model.specs.declared.record_entry.RecordEntry.{RecordEntry}
use Rattle.kmem_model.specs.Records.{no_records}
use Rattle.kmem_model.specs.History.{worker_of, IsLegalHistory, commands_of, numbered, own_entries}
use Rattle.kmem_model.specs.RunLines.{ReplyAt, place_line, reply_line, replies_at, run_lines, IsHistoryOf}

-- The script and the run of an input

abbrev pub run_header : List ℕ
run_header = codes "=== run"

abbrev pub replies_header : List ℕ
replies_header = codes "=== replies"

abbrev pub history_header : List ℕ
history_header = codes "=== history"

abbrev pub report_header : List ℕ
report_header = codes "=== report"

-- the line that is exactly `=== run`, but for a carriage return at its end
abbrev pub is_run_header : List ℕ → Bool
is_run_header line = bytes_eq (strip_carriage_return line) run_header

-- how many lines stand before the first such line
abbrev pub script_len : List (List ℕ) → ℕ
script_len lines = position_or_len is_run_header lines

-- the lines of the script
abbrev pub script_part : List (List ℕ) → List (List ℕ)
script_part lines = take (script_len lines) lines

-- the lines from `=== run` on, without carriage returns at their ends
abbrev pub run_part : List (List ℕ) → List (List ℕ)
run_part lines = map strip_carriage_return (drop (script_len lines) lines)

-- the script of the input, and its first fault
abbrev pub checked_script : ℕ → List ℕ → Plain
checked_script workers bytes = script_of_lines (spelled_lines workers (script_part (lines_of bytes)))

abbrev pub checked_fault : ℕ → List ℕ → Option (ℕ × LineFault)
checked_fault workers bytes = first_bad workers 1 (script_part (lines_of bytes))

-- What the replies part tells

-- the reply of an entry of a history
abbrev pub answered : ℕ × RecordEntry → ReplyAt
answered e = record { worker = worker_of e.0; number = e.1.number; reply = e.1.reply }

-- a command of a pass, and its number among that pass's commands
pub record Asked : Type 0 where
  pub pass : ℕ
  pub number : ℕ
  pub command : Command

-- what an entry of a history asks
abbrev pub asked_by_entry : ℕ × RecordEntry → Asked
asked_by_entry e = record { pass = e.0; number = e.1.number; command = e.1.command }

-- the commands of a pass, numbered from 1
abbrev pub asked_of_pass : List Line → ℕ → List Asked
asked_of_pass lines pass =
    map (λ c. record { pass = pass; number = c.0; command = c.1 }) (numbered 1 (commands_of (worker_of pass) lines))

-- the passes below this one
abbrev pub passes_below : ℕ → List ℕ
passes_below zero = []
passes_below (suc pass) = passes_below pass ++ pass ∷ []

-- all commands in the order in which their replies are printed
abbrev pub asked_in_turn : ℕ → List Line → List Asked
asked_in_turn workers lines = flat_map (asked_of_pass lines) (passes_below workers)

-- the line tells a reply that this command may have
abbrev pub TellsReply : List (List ℕ) → Asked → List ℕ → Type 0
TellsReply names asked line =
    (reply : Reply) × IsReplyTo (length names) asked.command reply
    × (line ≡ reply_line names (answered (asked.pass, record { number = asked.number; command = asked.command; reply = reply })))

-- these entries are what the lines tell: each command in turn, with a reply that it may have
pub record AreTold (names : List (List ℕ)) (asked : List Asked) (lines : List (List ℕ)) (told : List (ℕ × RecordEntry)) : Type 0 where
  pub asks : map asked_by_entry told ≡ asked
  pub may : All (λ e. IsReplyTo (length names) e.1.command e.1.reply) told
  pub tells : map (λ e. reply_line names (answered e)) told ≡ lines

-- The history so far

-- The lines are the places of a history that is legal, in which each pass has its entries in turn, each with the reply that was told
pub record IsReplay (workers names : ℕ) (told : List (ℕ × RecordEntry)) (lines : List (List ℕ)) (h : List (ℕ × RecordEntry)) : Type 0 where
  pub places : map (λ e. place_line (answered e)) h ≡ lines
  pub legal : IsLegalHistory (no_records names workers) h
  pub turns : (pass : ℕ) → (rest : List RecordEntry) × (own_entries pass told ≡ own_entries pass h ++ rest)

-- the first so many lines of the history part are such places
abbrev pub HasReplay : ℕ → Plain → List (List ℕ) → ℕ → Type 0
HasReplay workers script run count =
    let n = length script.lines in
    (told : List (ℕ × RecordEntry)) × (h : List (ℕ × RecordEntry))
    × AreTold script.names (asked_in_turn workers script.lines) (take n (drop 2 run)) told
    × IsReplay workers (length script.names) told (take count (drop (3 + n) run)) h × (length h ≡ count)

-- The first illegal line

-- What may stand on the line i of a run, counted from 0, where these are its lines and n is the number of commands
pub record MayStand (workers : ℕ) (script : Plain) (run : List (List ℕ)) (n i : ℕ) : Type 0 where
  pub opens : i ≡ 0 → slice_get run i ≡ Some run_header
  pub replies : i ≡ 1 → slice_get run i ≡ Some replies_header
  pub reply : (k : ℕ) → k < n → i ≡ 2 + k → (asked : Asked) × (line : List ℕ)
      × (slice_get (asked_in_turn workers script.lines) k ≡ Some asked) × (slice_get run i ≡ Some line) × TellsReply script.names asked line
  pub history : i ≡ 2 + n → slice_get run i ≡ Some history_header
  pub place : (k : ℕ) → k < n → i ≡ 3 + n + k → HasReplay workers script run (k + 1)
  pub report : i ≡ 3 + n + n → slice_get run i ≡ Some report_header

-- so many lines may stand there in turn
abbrev pub StandUpTo : ℕ → Plain → List (List ℕ) → ℕ → Type 0
StandUpTo workers script run count = (i : ℕ) → i < count → MayStand workers script run (length script.lines) i

-- the first of the run's lines that may not stand there, or is missing, has this number, where so many lines stand before the run
abbrev pub IsFirstRefused : ℕ → Plain → List (List ℕ) → ℕ → ℕ → Type 0
IsFirstRefused workers script run before line =
    let n = length script.lines in
    (i : ℕ) × (line ≡ before + i + 1) × (i < 4 + n + n) × StandUpTo workers script run i × (MayStand workers script run n i → ⊥)

-- the input has no illegal line: each of the run's lines up to its report may stand there
abbrev pub HasNoIllegal : ℕ → List ℕ → Type 0
HasNoIllegal workers bytes =
    let script = checked_script workers bytes in
    StandUpTo workers script (run_part (lines_of bytes)) (4 + length script.lines + length script.lines)

-- the first illegal line, counted from the first line of the input
abbrev pub IsFirstIllegal : ℕ → List ℕ → ℕ → Type 0
IsFirstIllegal workers bytes line =
    IsFirstRefused workers (checked_script workers bytes) (run_part (lines_of bytes)) (script_len (lines_of bytes)) line

-- the lines from `=== run` to `=== report` are those that are printed for a history of the script
pub record TellsHistory (workers : ℕ) (script : Plain) (run : List (List ℕ)) : Type 0 where
  pub history : List (ℕ × RecordEntry)
  pub rest : List (List ℕ)
  pub is : IsHistoryOf workers script history
  pub lines : run ≡ run_header ∷ (run_lines workers script.names (replies_at history) ++ report_header ∷ rest)
