-- A script's lines, spelled again and read back.
use Rattle.std.proofs.Common.{◌≡◌, ℕ, ◌<◌, true, List, [], ◌∷◌, ◌++◌, Ordering, length, map, refl, sym, ap, subst, ◌∙◌, append-nil}
use Rattle.std.specs.declared.cmp.Ordering.TheVariants.{Less, Equal, Greater}
use Rattle.std.specs.List.{flat_map, AllByRecursion}
use Rattle.std.specs.Ordering.{nat_cmp, is_eq}
use Rattle.std.specs.Cmp.Lexicographic.{slice_cmp}
use Rattle.std.specs.FinMap.{slice_cmp-IsAntisymmetric, nat_cmp-IsAntisymmetric}
use Rattle.std.specs.BTreeMap.{is_at}
use Rattle.std.proofs.lemmas.Bool.{false≢true}
use Rattle.std.proofs.lemmas.List.Sums.{passes_at_first}
use Rattle.std.proofs.lemmas.List.Elements.{recursion_from_All}
use Rattle.kmem_text.specs.Scripts.{IsScript}
use Rattle.kmem_text.specs.Grammar.{Plain, script_of, script_of_lines, place_of, placed, IsWithinNames}
use Rattle.kmem_text.specs.Layout.{written}
use Rattle.kmem_text.specs.declared.command.Line.{Line}
use Rattle.kmem_text.specs.declared.spelling.Spelled.{Spelled}
use Rattle.kmem_text.specs.declared.spelling.Spelled.TheVariants as spelled
use Rattle.kmem_text.specs.declared.spelling.SpelledLine.{SpelledLine}
use Rattle.generator.specs.Lines.{name_at, spelled_command, spelled_line, line_text, script_text}

tie : (o : Ordering) → is_eq o ≡ true → o ≡ Equal
tie Equal h = refl
tie Less h = absurd (false≢true h)
tie Greater h = absurd (false≢true h)

-- the name at the place of a name that is there
name_again : (names : List (List ℕ)) (name : List ℕ) → (place_of names name).0 < length names → name_at names (place_of names name) ≡ name
name_again names name there =
    let ties = passes_at_first (is_at (slice_cmp nat_cmp name)) names [] there in
    sym (slice_cmp-IsAntisymmetric nat_cmp-IsAntisymmetric name (name_at names (place_of names name)) (tie _ ties))

-- a command whose names are there, placed and spelled again
command_again : (names : List (List ℕ)) (command : Spelled) → IsWithinNames (length names) (placed names command) → spelled_command names (placed names command) ≡ command
command_again names (spelled.Put n v) h = ap (λ x. spelled.Put x v) (name_again names n h)
command_again names (spelled.Get n) h = ap spelled.Get (name_again names n h)
command_again names (spelled.Del n) h = ap spelled.Del (name_again names n h)
command_again names spelled.First h = refl
command_again names (spelled.Next n) h = ap spelled.Next (name_again names n h)
command_again names spelled.Count h = refl
command_again names (spelled.Link n m) h = λ i. spelled.Link (name_again names n h.0 i) (name_again names m h.1 i)
command_again names (spelled.Hold t n) h = ap (spelled.Hold t) (name_again names n h)
command_again names (spelled.Read t) h = refl
command_again names (spelled.Write t v) h = refl
command_again names (spelled.Drop t) h = refl
command_again names (spelled.Fix n) h = ap spelled.Fix (name_again names n h)
command_again names (spelled.Loose n) h = ap spelled.Loose (name_again names n h)

-- the line with its names as places
abbrev placed_line : List (List ℕ) → SpelledLine → Line
placed_line names line = record { worker = line.worker; command = placed names line.command }

line_again : (names : List (List ℕ)) (line : SpelledLine) → IsWithinNames (length names) (placed names line.command) → spelled_line names (placed_line names line) ≡ line
line_again names line h i = record { worker = line.worker; command = command_again names line.command h i }

-- lines whose names are there, placed and written, are written as they were
pub written_again : (names : List (List ℕ)) (lines : List SpelledLine) → AllByRecursion (λ (line : Line). IsWithinNames (length names) line.command) (map (placed_line names) lines) →
    flat_map (line_text names) (map (placed_line names) lines) ≡ written lines
written_again names [] h = refl
written_again names (line ∷ lines) h =
    (λ i. written (line_again names line h.0 i ∷ []) ++ written_again names lines h.1 i)
    ∙ ap (λ xs. xs ++ written lines) (append-nil _)

-- so the text of a script that was made of lines is that of the lines
pub script_again : (workers : ℕ) (lines : List SpelledLine) (script : Plain) → script_of_lines lines ≡ script → IsScript workers script → script_text script ≡ written lines
script_again workers lines script made whole =
    let again : IsScript workers (script_of_lines lines) = subst (IsScript workers) (sym made) whole in
    ap script_text (sym made) ∙ written_again (script_of_lines lines).names lines (recursion_from_All _ _ again.places)

-- and it is read as the script
pub read_again : (workers : ℕ) (lines : List SpelledLine) (script : Plain) → script_of_lines lines ≡ script → IsScript workers script → script_of workers (written lines) ≡ script_of_lines lines →
    script_of workers (script_text script) ≡ script
read_again workers lines script made whole read = ap (script_of workers) (script_again workers lines script made whole) ∙ read ∙ made
