-- How often each kind of reply came, as numbers side by side (this project's own).
use Rattle.std.specs.Prelude.{ℕ, ◌+◌, List, ◌++◌, codes}
use Rattle.kmem_text.specs.declared.command.Reply.{Reply}
use Rattle.kmem_text.specs.declared.command.Reply.TheVariants.{New, Was, Full, Gone, Val, Absent, At, Number, Done, Taken, Many, Used, Idle}
use Rattle.kmem_model.specs.declared.record_entry.RecordEntry.{RecordEntry}
use Rattle.kmem_model.specs.Report.{number_line}
use Rattle.run_summary.specs.declared.counts.Counts.{Counts}
use Rattle.run_summary.specs.Summary.{count_of}

-- the counts, where each kind came so often
abbrev pub counts_by : (List ℕ → ℕ) → Counts
counts_by often =
    record {
      created = often (codes "new");
      was = often (codes "was");
      full = often (codes "full");
      gone = often (codes "del");
      val = often (codes "val");
      absent = often (codes "none");
      found = often (codes "at");
      numbers = often (codes "n");
      done = often (codes "ok");
      taken = often (codes "taken");
      many = often (codes "many");
      used = often (codes "used");
      idle = often (codes "idle");
    }

-- those of a history
abbrev pub counts_in : List (ℕ × RecordEntry) → Counts
counts_in history = counts_by (λ kind. count_of kind history)

-- the count of a reply's kind
abbrev pub count_at : Counts → Reply → ℕ
count_at c New = c.created
count_at c (Was value) = c.was
count_at c Full = c.full
count_at c (Gone value) = c.gone
count_at c (Val value) = c.val
count_at c Absent = c.absent
count_at c (At name value) = c.found
count_at c (Number count) = c.numbers
count_at c Done = c.done
count_at c Taken = c.taken
count_at c Many = c.many
count_at c Used = c.used
count_at c Idle = c.idle

-- the counts with one reply more
abbrev pub counted : Counts → Reply → Counts
counted c New = record c { created = c.created + 1 }
counted c (Was value) = record c { was = c.was + 1 }
counted c Full = record c { full = c.full + 1 }
counted c (Gone value) = record c { gone = c.gone + 1 }
counted c (Val value) = record c { val = c.val + 1 }
counted c Absent = record c { absent = c.absent + 1 }
counted c (At name value) = record c { found = c.found + 1 }
counted c (Number count) = record c { numbers = c.numbers + 1 }
counted c Done = record c { done = c.done + 1 }
counted c Taken = record c { taken = c.taken + 1 }
counted c Many = record c { many = c.many + 1 }
counted c Used = record c { used = c.used + 1 }
counted c Idle = record c { idle = c.idle + 1 }

-- the lines of the counts
abbrev pub counts_text : Counts → List ℕ
counts_text c =
    number_line (codes "new") c.created
    ++ number_line (codes "was") c.was
    ++ number_line (codes "full") c.full
    ++ number_line (codes "del") c.gone
    ++ number_line (codes "val") c.val
    ++ number_line (codes "none") c.absent
    ++ number_line (codes "at") c.found
    ++ number_line (codes "n") c.numbers
    ++ number_line (codes "ok") c.done
    ++ number_line (codes "taken") c.taken
    ++ number_line (codes "many") c.many
    ++ number_line (codes "used") c.used
    ++ number_line (codes "idle") c.idle
