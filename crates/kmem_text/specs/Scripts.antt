-- What a script is: names in order, each of them used, and lines within them (this project's own format).
use Rattle.std.specs.Prelude.{◌≡◌, ◌<◌, ◌≤◌, ℕ, true, List, [], ◌∷◌, length, All, Any, Contains}
use Rattle.std.specs.List.Sorted.{IsStrictlySortedBy}
use Rattle.std.specs.Cmp.Lexicographic.{slice_cmp}
use Rattle.std.specs.Ordering.{nat_cmp}
use Rattle.kmem_text.specs.Grammar.{Plain, IsWithinNames, IsWithinTags}
use Rattle.kmem_text.specs.Texts.{is_name, is_value}
use Rattle.kmem_text.specs.declared.command.Command.{Command}
use Rattle.kmem_text.specs.declared.command.Command.TheVariants as command
use Rattle.kmem_text.specs.declared.command.Line.{Line}
use Rattle.kmem_text.specs.declared.command.Script.{Script}

-- the script without where it lies in memory
abbrev pub plain : Script → Plain
plain script = record { names = script.names.items; lines = script.lines.items }

-- the places of the names that a command names
abbrev pub places_in : Command → List ℕ
places_in (command.Put n v) = n.0 ∷ []
places_in (command.Get n) = n.0 ∷ []
places_in (command.Del n) = n.0 ∷ []
places_in (command.Next n) = n.0 ∷ []
places_in (command.Link n m) = n.0 ∷ m.0 ∷ []
places_in (command.Hold t n) = n.0 ∷ []
places_in (command.Fix n) = n.0 ∷ []
places_in (command.Loose n) = n.0 ∷ []
places_in _ = []

-- some line names the name at this place
abbrev pub IsUsed : List Line → ℕ → Type 0
IsUsed lines place = Any (λ (line : Line). Contains (places_in line.command) place) lines

-- workers are counted from 1
abbrev pub IsWorker : ℕ → ℕ → Type 0
IsWorker most worker = (0 < worker) × (worker ≤ most)

-- the value of the command, if it has one, is a value
abbrev pub IsWithValue : Command → Type 0
IsWithValue (command.Put n v) = is_value v ≡ true
IsWithValue (command.Write t v) = is_value v ≡ true
IsWithValue _ = Unit {0}

-- a script for workers 1 to `most`
pub record IsScript (most : ℕ) (script : Plain) : Type 0 where
  -- names ascend by their bytes, so each stands once
  pub sorted : IsStrictlySortedBy (slice_cmp nat_cmp) script.names
  pub named : All (λ name. is_name name ≡ true) script.names
  pub used : (place : ℕ) → place < length script.names → IsUsed script.lines place
  pub places : All (λ (line : Line). IsWithinNames (length script.names) line.command) script.lines
  pub tags : All (λ (line : Line). IsWithinTags line.command) script.lines
  pub values : All (λ (line : Line). IsWithValue line.command) script.lines
  pub workers : All (λ (line : Line). IsWorker most line.worker) script.lines
  pub few : length script.lines ≤ 100000
  -- a command names two names at the most
  pub few_names : length script.names ≤ 200000
