-- The script grammar: how an input is cut into lines and tokens, what a line spells or its first fault, and the script of an input.
use Rattle.std.specs.Prelude.{◌≡◌, ◌==◌, ◌||◌, ◌+◌, ◌<◌, ℕ, Bool, true, false, not, nat_lt, slice_index, filter, List, [], ◌∷◌, length, map, Option, Some, None, Result, Ok, Err, if◌then◌else◌}
use Rattle.std.specs.Str.Lines.{strip_carriage_return}
use Rattle.std.specs.List.{slice_split, flat_map, fold, list_any, position_or_len}
use Rattle.std.specs.Cmp.Lexicographic.{slice_cmp}
use Rattle.std.specs.Ordering.{nat_cmp}
use Rattle.std.specs.BTreeSet.{insert_key}
use Rattle.std.specs.BTreeMap.{is_at}
use Rattle.kmem_text.specs.Numbers.{number_within}
use Rattle.kmem_text.specs.Words.{◌>>=◌, or_fault, command_of}
use Rattle.kmem_text.specs.declared.bytes.TheConstants.{TAB, LINE_FEED, SPACE, COMMENT_SIGN}
use Rattle.kmem_text.specs.declared.command.NameId.{NameId}
use Rattle.kmem_text.specs.declared.command.Command.{Command}
use Rattle.kmem_text.specs.declared.command.Command.TheVariants as command
use Rattle.kmem_text.specs.declared.command.Line.{Line}
use Rattle.kmem_text.specs.declared.spelling.LineFault.{LineFault}
use Rattle.kmem_text.specs.declared.spelling.LineFault.TheVariants as fault
use Rattle.kmem_text.specs.declared.spelling.Spelled.{Spelled}
use Rattle.kmem_text.specs.declared.spelling.Spelled.TheVariants as spelled
use Rattle.kmem_text.specs.declared.spelling.SpelledLine.{SpelledLine}

-- a space or a tab
abbrev pub is_blank : ℕ → Bool
is_blank byte = byte == SPACE || byte == TAB

-- the parts of a line between blanks, but for empty ones
abbrev pub tokens_in : List ℕ → List (List ℕ)
tokens_in line = filter (λ token. nat_lt 0 (length token)) (slice_split is_blank line)

-- the tokens of a line, without one carriage return at its end
abbrev pub tokens_of : List ℕ → List (List ℕ)
tokens_of line = tokens_in (strip_carriage_return line)

-- the worker and the command that these tokens spell, or the first check that fails
abbrev pub line_of : ℕ → List (List ℕ) → Result SpelledLine LineFault
line_of workers [] = Err fault.Worker
line_of workers (worker ∷ tokens) = do
  w ← or_fault fault.Worker (number_within 1 workers worker)
  c ← command_of tokens
  Ok (record { worker = w; command = c })

-- a line whose first token begins with # is a comment, and one without tokens is blank: they hold no command
abbrev pub holds_command : List (List ℕ) → Bool
holds_command [] = false
holds_command (token ∷ tokens) = not (slice_index token 0 == COMMENT_SIGN)

-- what the tokens of a line spell, if they hold a command
abbrev pub spelled_of : ℕ → List (List ℕ) → Result (Option SpelledLine) LineFault
spelled_of workers tokens = if holds_command tokens then (line_of workers tokens >>= λ line. Ok (Some line)) else Ok None

-- the parts between line feeds, where an empty one behind the last line feed is no line
abbrev pub without_empty_last : List (List ℕ) → List (List ℕ)
without_empty_last [] = []
without_empty_last (rest ∷ []) = if length rest == 0 then [] else rest ∷ []
without_empty_last (line ∷ next ∷ more) = line ∷ without_empty_last (next ∷ more)

-- the lines of an input
abbrev pub lines_of : List ℕ → List (List ℕ)
lines_of bytes = without_empty_last (slice_split (λ byte. byte == LINE_FEED) bytes)

-- this line's fault, or the first of the others
abbrev pub fault_or : ℕ → Result (Option SpelledLine) LineFault → Option (ℕ × LineFault) → Option (ℕ × LineFault)
fault_or number (Err f) others = Some (number, f)
fault_or number (Ok found) others = others

-- the number and the fault of the first line that has one; the first of these lines has this number
abbrev pub first_bad : ℕ → ℕ → List (List ℕ) → Option (ℕ × LineFault)
first_bad workers number [] = None
first_bad workers number (line ∷ lines) = fault_or number (spelled_of workers (tokens_of line)) (first_bad workers (number + 1) lines)

-- the command that was found, if there is one
abbrev pub found_in : Result (Option SpelledLine) LineFault → List SpelledLine
found_in (Ok (Some line)) = line ∷ []
found_in (Ok None) = []
found_in (Err f) = []

-- the commands that these lines spell
abbrev pub spelled_lines : ℕ → List (List ℕ) → List SpelledLine
spelled_lines workers lines = flat_map (λ line. found_in (spelled_of workers (tokens_of line))) lines

-- the names that a command names, in their order
abbrev pub named : Spelled → List (List ℕ)
named (spelled.Put n v) = n ∷ []
named (spelled.Get n) = n ∷ []
named (spelled.Del n) = n ∷ []
named (spelled.Next n) = n ∷ []
named (spelled.Link n m) = n ∷ m ∷ []
named (spelled.Hold t n) = n ∷ []
named (spelled.Fix n) = n ∷ []
named (spelled.Loose n) = n ∷ []
named _ = []

-- names in the order of their bytes, each once
abbrev pub in_order : List (List ℕ) → List (List ℕ)
in_order names = fold (insert_key (slice_cmp nat_cmp)) [] names

-- the name stands in the list
abbrev pub IsAmongNames : List (List ℕ) → List ℕ → Type 0
IsAmongNames names name = list_any (is_at (slice_cmp nat_cmp name)) names ≡ true

-- the place of a name in such a list
abbrev pub place_of : List (List ℕ) → List ℕ → NameId
place_of names name = record { 0 = position_or_len (is_at (slice_cmp nat_cmp name)) names }

-- the command with each name as its place
abbrev pub placed : List (List ℕ) → Spelled → Command
placed names (spelled.Put n v) = command.Put (place_of names n) v
placed names (spelled.Get n) = command.Get (place_of names n)
placed names (spelled.Del n) = command.Del (place_of names n)
placed names spelled.First = command.First
placed names (spelled.Next n) = command.Next (place_of names n)
placed names spelled.Count = command.Count
placed names (spelled.Link n m) = command.Link (place_of names n) (place_of names m)
placed names (spelled.Hold t n) = command.Hold t (place_of names n)
placed names (spelled.Read t) = command.Read t
placed names (spelled.Write t v) = command.Write t v
placed names (spelled.Drop t) = command.Drop t
placed names (spelled.Fix n) = command.Fix (place_of names n)
placed names (spelled.Loose n) = command.Loose (place_of names n)

-- a script without where it lies in memory: its names, ascending by bytes, each once, and its lines
pub record Plain : Type 0 where
  pub names : List (List ℕ)
  pub lines : List Line

-- the script that these lines are
abbrev pub script_of_lines : List SpelledLine → Plain
script_of_lines spelled =
    let names = in_order (flat_map (λ line. named line.command) spelled) in
    record { names = names; lines = map (λ line. record { worker = line.worker; command = placed names line.command }) spelled }

-- the script that an input spells
abbrev pub script_of : ℕ → List ℕ → Plain
script_of workers bytes = script_of_lines (spelled_lines workers (lines_of bytes))

-- the first fault of an input
abbrev pub first_bad_of : ℕ → List ℕ → Option (ℕ × LineFault)
first_bad_of workers bytes = first_bad workers 1 (lines_of bytes)

-- each name of the command is one of so many
abbrev pub IsWithinNames : ℕ → Command → Type 0
IsWithinNames names (command.Put n v) = n.0 < names
IsWithinNames names (command.Get n) = n.0 < names
IsWithinNames names (command.Del n) = n.0 < names
IsWithinNames names (command.Next n) = n.0 < names
IsWithinNames names (command.Link n m) = (n.0 < names) × (m.0 < names)
IsWithinNames names (command.Hold t n) = n.0 < names
IsWithinNames names (command.Fix n) = n.0 < names
IsWithinNames names (command.Loose n) = n.0 < names
IsWithinNames names _ = Unit {0}

-- the tag of the command is one of 0 to 7
abbrev pub IsWithinTags : Command → Type 0
IsWithinTags (command.Hold t n) = t < 8
IsWithinTags (command.Read t) = t < 8
IsWithinTags (command.Write t v) = t < 8
IsWithinTags (command.Drop t) = t < 8
IsWithinTags _ = Unit {0}
