-- The text of a line and of a script, with one space between the tokens (this project's own format).
use Rattle.std.specs.Prelude.{ℕ, List, [], ◌∷◌, get_or}
use Rattle.std.specs.List.{flat_map}
use Rattle.kmem_text.specs.Grammar.{Plain}
use Rattle.kmem_text.specs.Layout.{written}
use Rattle.kmem_text.specs.declared.bytes.TheConstants.{SPACE}
use Rattle.kmem_text.specs.declared.command.NameId.{NameId}
use Rattle.kmem_text.specs.declared.command.Command.{Command}
use Rattle.kmem_text.specs.declared.command.Command.TheVariants as command
use Rattle.kmem_text.specs.declared.command.Line.{Line}
use Rattle.kmem_text.specs.declared.spelling.Spelled.{Spelled}
use Rattle.kmem_text.specs.declared.spelling.Spelled.TheVariants as spelled
use Rattle.kmem_text.specs.declared.spelling.SpelledLine.{SpelledLine}

-- the name at a place
abbrev pub name_at : List (List ℕ) → NameId → List ℕ
name_at names place = get_or names place.0 []

-- the command with its names spelled out
abbrev pub spelled_command : List (List ℕ) → Command → Spelled
spelled_command names (command.Put n v) = spelled.Put (name_at names n) v
spelled_command names (command.Get n) = spelled.Get (name_at names n)
spelled_command names (command.Del n) = spelled.Del (name_at names n)
spelled_command names command.First = spelled.First
spelled_command names (command.Next n) = spelled.Next (name_at names n)
spelled_command names command.Count = spelled.Count
spelled_command names (command.Link n m) = spelled.Link (name_at names n) (name_at names m)
spelled_command names (command.Hold t n) = spelled.Hold t (name_at names n)
spelled_command names (command.Read t) = spelled.Read t
spelled_command names (command.Write t v) = spelled.Write t v
spelled_command names (command.Drop t) = spelled.Drop t
spelled_command names (command.Fix n) = spelled.Fix (name_at names n)
spelled_command names (command.Loose n) = spelled.Loose (name_at names n)

-- the line with its names spelled out
abbrev pub spelled_line : List (List ℕ) → Line → SpelledLine
spelled_line names line = record { worker = line.worker; command = spelled_command names line.command }

-- its text, with a line feed at the end
abbrev pub line_text : List (List ℕ) → Line → List ℕ
line_text names line = written (spelled_line names line ∷ [])

-- the texts of a script's lines, one behind the other
abbrev pub script_text : Plain → List ℕ
script_text script = flat_map (line_text script.names) script.lines

-- tokens, each with a space before it
abbrev pub spaced : List (List ℕ) → List ℕ
spaced tokens = flat_map (λ token. SPACE ∷ token) tokens
