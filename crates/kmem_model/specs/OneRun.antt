-- The output of `one`: all lines of a script in the order of the file on one thread, with settles between them (this project's own rule).
use Rattle.std.specs.Prelude.{ℕ, zero, suc, ◌+◌, ◌-◌, ◌%◌, ◌==◌, ◌&&◌, Bool, false, nat_lt, List, [], ◌∷◌, ◌++◌, length, map, Option, Some, None, if◌then◌else◌}
use Rattle.std.specs.List.{flat_map, range_with_len}
use Rattle.std.specs.Option.{option_map_or}
use Rattle.kmem_text.specs.declared.command.Line.{Line}
use Rattle.kmem_text.specs.declared.command.Reply.{Reply}
use Rattle.kmem_text.specs.Grammar.{Plain}
use Rattle.kmem_text.specs.Replies.{reply_text}
use Rattle.kmem_model.specs.CacheState.{is_out}
use Rattle.kmem_model.specs.declared.cache_entry.CacheEntry.TheVariants.{Free}
use Rattle.kmem_model.specs.declared.cache_entry.Said.{Said}
use Rattle.kmem_model.specs.declared.cache_entry.Said.TheVariants.{Yes, No, Later, DontNeed, DontKnow}
use Rattle.kmem_model.specs.Records.{RecordMap, Record, record_at, tag_count, live_count}
use Rattle.kmem_model.specs.Says.{addresses_after}
use Rattle.kmem_model.specs.Settle.{Stage, EndedMove, Course}
use Rattle.kmem_model.specs.SettleMeasure.{settled}
use Rattle.kmem_model.specs.SettleEntries.{moves_entries}
use Rattle.kmem_model.specs.Report.{MoveCounts, Report, ends_in, report_on, report_text}
use Rattle.kmem_model.specs.declared.record_entry.RecordEntry.{RecordEntry}
use Rattle.kmem_model.specs.History.{commands_of}
use Rattle.kmem_model.specs.One.{OneState, buffers_of, id_at, least_leftover, entered_by, one_step, one_start}

-- A settle

-- the record with this id is fixed
abbrev pub is_fixed : RecordMap → ℕ → Bool
is_fixed m id = option_map_or (λ (r : Record). r.fixed) (record_at m id) false

-- the right answer about an object of this record, or of none
abbrev pub answer_by : RecordMap → Option ℕ → Said
answer_by m None = DontNeed
answer_by m (Some id) = if is_fixed m id then No else (if nat_lt 0 (tag_count m id) then Later else Yes)

-- the right answer about a buffer
abbrev pub answer_at : OneState → ℕ → Said
answer_at s b = if is_out s.cache b then answer_by s.map (id_at s.map s.addresses b) else DontKnow

-- what a settle works on
abbrev pub stage_of : OneState → Stage
stage_of s = record { cache = s.cache; says = map (answer_at s) (range_with_len 0 (buffers_of s.cache)) }

-- the addresses after these moves, one after another
abbrev pub addresses_moved : List ℕ → List EndedMove → List ℕ
addresses_moved addresses [] = addresses
addresses_moved addresses (move ∷ moves) = addresses_moved (addresses_after addresses move.from move.to move.said) moves

-- what `one` keeps, with the moves of all settles so far
pub record OneRun : Type 0 where
  pub state : OneState
  pub moves : List EndedMove

-- after the settle that takes this course
abbrev pub run_after : OneRun → Course → OneRun
run_after run course =
    record {
      state = record { map = run.state.map; cache = course.stage.cache; addresses = addresses_moved run.state.addresses course.moves };
      moves = run.moves ++ course.moves;
    }

-- after a settle
abbrev pub settled_run : OneRun → OneRun
settled_run run = option_map_or (run_after run) (settled (stage_of run.state)) run

-- The lines

-- a settle is due after the command with this number, counted from 1
abbrev pub is_settle_due : Option ℕ → ℕ → Bool
is_settle_due None number = false
is_settle_due (Some every) number = nat_lt 0 every && number % every == 0

-- after the command with this number
abbrev pub line_run : Option ℕ → ℕ → OneRun → Line → OneRun
line_run every number run line =
    let next = record run { state = (one_step run.state line.worker line.command).state } in
    if is_settle_due every number then settled_run next else next

-- the reply to each line, where the first of them has this number
abbrev pub replies : Option ℕ → ℕ → OneRun → List Line → List Reply
replies every number run [] = []
replies every number run (line ∷ lines) =
    (one_step run.state line.worker line.command).reply ∷ replies every (number + 1) (line_run every number run line) lines

-- after these lines
abbrev pub lines_run : Option ℕ → ℕ → OneRun → List Line → OneRun
lines_run every number run [] = run
lines_run every number run (line ∷ lines) = lines_run every (number + 1) (line_run every number run line) lines

-- the history of these commands and their replies, behind those of earlier lines: each worker's commands are numbered from 1
abbrev pub history_of : Option ℕ → ℕ → OneRun → List Line → List Line → List (ℕ × RecordEntry)
history_of every number run before [] = []
history_of every number run before (line ∷ lines) = (
  line.worker - 1,
  record {
    number = length (commands_of line.worker before) + 1;
    command = line.command;
    reply = (one_step run.state line.worker line.command).reply;
  },
)
    ∷ history_of every (number + 1) (line_run every number run line) (before ++ line ∷ []) lines

-- The end

-- without the leftover at this address
abbrev pub without_leftover : OneState → ℕ → OneState
without_leftover s b = record s { cache = entered_by s.cache (Free b) }

-- without the leftovers with the least addresses, at most so many
abbrev pub without_leftovers : ℕ → OneState → OneState
without_leftovers zero s = s
without_leftovers (suc n) s = option_map_or (λ b. without_leftovers n (without_leftover s b)) (least_leftover s) s

-- after all leftovers are freed, least address first, and a last settle
abbrev pub run_ended : OneRun → OneRun
run_ended run = settled_run (record run { state = without_leftovers (buffers_of run.state.cache) run.state })

-- The report

-- no move
abbrev pub no_moves : MoveCounts
no_moves = ends_in []

-- the report at the end: no mover was at work
abbrev pub report_of : OneRun → Report
report_of run = report_on run.state.cache (live_count run.state.map) 0 0 no_moves (ends_in (moves_entries run.moves))

-- The output

-- the text of each reply, and a line feed
abbrev pub reply_lines : List (List ℕ) → List Reply → List ℕ
reply_lines names given = flat_map (λ reply. reply_text names reply ++ 10 ∷ []) given

-- before the first command
abbrev pub run_start : ℕ → ℕ → ℕ → OneRun
run_start slabs chunks names = record { state = one_start slabs chunks names; moves = [] }

-- what follows the replies: the report, where a number of commands between settles is given
abbrev pub report_after : Option ℕ → OneRun → List ℕ
report_after None run = []
report_after (Some every) run = report_text (report_of (run_ended run))

-- what is written for these lines from such a moment on: the replies, and then the report
abbrev pub one_text : Option ℕ → List (List ℕ) → OneRun → List Line → List ℕ
one_text every names start lines = reply_lines names (replies every 1 start lines) ++ report_after every (lines_run every 1 start lines)

-- the output of `one` for a script
abbrev pub one_output : ℕ → ℕ → Option ℕ → Plain → List ℕ
one_output slabs chunks every script = one_text every script.names (run_start slabs chunks (length script.names)) script.lines
