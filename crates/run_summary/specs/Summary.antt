-- The summary of a run: how many commands there were, how often each kind of reply came, and how many records live (this project's own
-- format).
use Rattle.std.specs.Prelude.{ℕ, List, [], ◌∷◌, ◌++◌, codes, count_by}
use Rattle.std.specs.List.{flat_map}
use Rattle.std.specs.Str.{bytes_eq}
use Rattle.kmem_text.specs.declared.command.Reply.{Reply}
use Rattle.kmem_text.specs.declared.command.Reply.TheVariants.{New, Was, Full, Gone, Val, Absent, At, Number, Done, Taken, Many, Used, Idle}
use Rattle.kmem_model.specs.declared.record_entry.RecordEntry.{RecordEntry}
use Rattle.kmem_model.specs.Report.{number_line}

-- the first word of a reply's text, which is its kind
abbrev pub first_word : Reply → List ℕ
first_word New = codes "new"
first_word (Was value) = codes "was"
first_word Full = codes "full"
first_word (Gone value) = codes "del"
first_word (Val value) = codes "val"
first_word Absent = codes "none"
first_word (At name value) = codes "at"
first_word (Number count) = codes "n"
first_word Done = codes "ok"
first_word Taken = codes "taken"
first_word Many = codes "many"
first_word Used = codes "used"
first_word Idle = codes "idle"

-- the kinds, in their order
abbrev pub kinds : List (List ℕ)
kinds =
    codes "new" ∷ codes "was" ∷ codes "full" ∷ codes "del" ∷ codes "val" ∷ codes "none" ∷ codes "at" ∷ codes "n" ∷ codes "ok" ∷ codes "taken"
    ∷ codes "many" ∷ codes "used" ∷ codes "idle" ∷ []

-- how often a kind of reply came
abbrev pub count_of : List ℕ → List (ℕ × RecordEntry) → ℕ
count_of kind history = count_by (λ e. bytes_eq (first_word e.1.reply) kind) history

-- the text: a line for the commands, one for each kind, and one for the records that live
abbrev pub summary_text : ℕ → List (ℕ × RecordEntry) → ℕ → List ℕ
summary_text commands history live =
    number_line (codes "commands") commands
    ++ flat_map (λ kind. number_line kind (count_of kind history)) kinds
    ++ number_line (codes "live") live
