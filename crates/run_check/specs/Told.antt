-- What the replies part of a run tells, line by line.
use Rattle.std.specs.Prelude.{◌≡◌, ℕ, List, [], ◌∷◌, ◌++◌, map, length, Some, All, slice_get}
use Rattle.kmem_text.specs.Grammar.{IsWithinNames, IsWithinTags}
use Rattle.kmem_text.specs.ReplyRows.{IsReplyTo}
use Rattle.kmem_model.specs.declared.record_entry.RecordEntry.{RecordEntry}
use Rattle.kmem_text.specs.declared.command.Command.{Command}
use Rattle.kmem_model.specs.History.{numbered}
use Rattle.kmem_model.specs.RunLines.{reply_line}
use Rattle.kmem_model.specs.Checked.{answered}
use Rattle.kmem_model.specs.Checked.{Asked, asked_by_entry, TellsReply}
use Rattle.run_check.specs.declared.told.Told.{Told}

-- the command's names and tags are those of a script
abbrev pub IsWithin : ℕ → Command → Type 0
IsWithin names command = IsWithinNames names command × IsWithinTags command

-- the entry of a history
abbrev pub entry_of : Told → RecordEntry
entry_of t = record { number = t.number; command = t.command; reply = t.reply }

-- the entries of a pass, each beside the number of the pass
abbrev pub of_pass : ℕ → List Told → List (ℕ × RecordEntry)
of_pass pass told = map (λ t. (pass, entry_of t)) told

-- these commands of a pass, numbered from 1
abbrev pub asked_by_pass : ℕ → List Command → List Asked
asked_by_pass pass commands = map (λ c. record { pass = pass; number = c.0; command = c.1 }) (numbered 1 commands)

-- the lines before are those that tell these entries, one for each command that is asked, and the lines after
pub record HasRead (names : List (List ℕ)) (asked : List Asked) (told : List (ℕ × RecordEntry)) (before after : List (List ℕ)) : Type 0 where
  pub asks : map asked_by_entry told ≡ asked
  pub may : All (λ e. IsReplyTo (length names) e.1.command e.1.reply) told
  pub lines : before ≡ map (λ e. reply_line names (answered e)) told ++ after

-- so many lines are read, and the next, if there is one, tells no reply of the next command
pub record StopsReading (names : List (List ℕ)) (asked : List Asked) (before : List (List ℕ)) (count : ℕ) : Type 0 where
  pub told : List (ℕ × RecordEntry)
  pub front : List Asked
  pub next : Asked
  pub more : List Asked
  pub after : List (List ℕ)
  pub whole : asked ≡ front ++ next ∷ more
  pub read : HasRead names front told before after
  pub counted : count ≡ length told
  pub refused : (line : List ℕ) → slice_get after 0 ≡ Some line → TellsReply names next line → ⊥
