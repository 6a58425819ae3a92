-- How a script can be laid out: its lines one behind the other, the blanks between the tokens of a line, and the tokens of a
-- command (this project's own format).
use Rattle.std.specs.Prelude.{◌≡◌, ◌==◌, ◌+◌, ◌≤◌, ◌<◌, ℕ, Bool, true, false, nat_lt, List, [], ◌∷◌, ◌++◌, length, map, codes, if◌then◌else◌}
use Rattle.std.specs.List.{flat_map, AllByRecursion}
use Rattle.std.specs.Fmt.{decimal}
use Rattle.kmem_text.specs.Texts.{is_name, is_value}
use Rattle.kmem_text.specs.Grammar.{is_blank}
use Rattle.kmem_text.specs.declared.bytes.TheConstants.{LINE_FEED, CARRIAGE_RETURN, SPACE}
use Rattle.kmem_text.specs.declared.command.Tag.{Tag}
use Rattle.kmem_text.specs.declared.spelling.Spelled.{Spelled}
use Rattle.kmem_text.specs.declared.spelling.Spelled.TheVariants as spelled
use Rattle.kmem_text.specs.declared.spelling.SpelledLine.{SpelledLine}

-- no byte of the line is a line feed
abbrev pub HasNoLineFeed : List ℕ → Type 0
HasNoLineFeed line = AllByRecursion (λ byte. (byte == LINE_FEED) ≡ false) line

-- these lines, each with a line feed behind it
abbrev pub as_lines : List (List ℕ) → List ℕ
as_lines lines = flat_map (λ line. line ++ LINE_FEED ∷ []) lines

-- a token with the blanks before it
pub record Spaced : Type 0 where
  pub blanks : List ℕ
  pub token : List ℕ

-- a line with a first token: the blanks before it, the further tokens, the blanks behind them, and whether a carriage return ends it
pub record Laid : Type 0 where
  pub lead : List ℕ
  pub first : List ℕ
  pub further : List Spaced
  pub end : List ℕ
  pub returns : Bool

-- each byte is a space or a tab
abbrev pub AreBlanks : List ℕ → Type 0
AreBlanks bytes = AllByRecursion (λ byte. is_blank byte ≡ true) bytes

-- one byte or more, each above a space, as names, values, words and numbers are
abbrev pub IsToken : List ℕ → Type 0
IsToken bytes = (0 < length bytes) × AllByRecursion (λ byte. nat_lt SPACE byte ≡ true) bytes

-- a token behind one blank or more
abbrev pub IsSpaced : Spaced → Type 0
IsSpaced part = (0 < length part.blanks) × AreBlanks part.blanks × IsToken part.token

-- the blanks are blanks, and the tokens are tokens
pub record IsLaid (line : Laid) : Type 0 where
  pub lead : AreBlanks line.lead
  pub first : IsToken line.first
  pub further : AllByRecursion IsSpaced line.further
  pub end : AreBlanks line.end

-- the bytes of the line
abbrev pub laid_text : Laid → List ℕ
laid_text line = line.lead ++ (line.first ++ (flat_map (λ part. part.blanks ++ part.token) line.further
    ++ (line.end ++ (if line.returns then CARRIAGE_RETURN ∷ [] else []))))

-- its tokens
abbrev pub laid_tokens : Laid → List (List ℕ)
laid_tokens line = line.first ∷ map (λ part. part.token) line.further

-- the digit of a tag
abbrev pub tag_token : Tag → List ℕ
tag_token tag = (48 + tag) ∷ []

-- the tokens of a command
abbrev pub command_tokens : Spelled → List (List ℕ)
command_tokens (spelled.Put name value) = codes "put" ∷ name ∷ value ∷ []
command_tokens (spelled.Get name) = codes "get" ∷ name ∷ []
command_tokens (spelled.Del name) = codes "del" ∷ name ∷ []
command_tokens spelled.First = codes "first" ∷ []
command_tokens (spelled.Next name) = codes "next" ∷ name ∷ []
command_tokens spelled.Count = codes "count" ∷ []
command_tokens (spelled.Link name other) = codes "link" ∷ name ∷ other ∷ []
command_tokens (spelled.Hold tag name) = codes "hold" ∷ tag_token tag ∷ name ∷ []
command_tokens (spelled.Read tag) = codes "read" ∷ tag_token tag ∷ []
command_tokens (spelled.Write tag value) = codes "write" ∷ tag_token tag ∷ value ∷ []
command_tokens (spelled.Drop tag) = codes "drop" ∷ tag_token tag ∷ []
command_tokens (spelled.Fix name) = codes "fix" ∷ name ∷ []
command_tokens (spelled.Loose name) = codes "loose" ∷ name ∷ []

-- the names are names, the values are values, and the tags are 0 to 7
abbrev pub IsGoodCommand : Spelled → Type 0
IsGoodCommand (spelled.Put name value) = (is_name name ≡ true) × (is_value value ≡ true)
IsGoodCommand (spelled.Get name) = is_name name ≡ true
IsGoodCommand (spelled.Del name) = is_name name ≡ true
IsGoodCommand spelled.First = Unit {0}
IsGoodCommand (spelled.Next name) = is_name name ≡ true
IsGoodCommand spelled.Count = Unit {0}
IsGoodCommand (spelled.Link name other) = (is_name name ≡ true) × (is_name other ≡ true)
IsGoodCommand (spelled.Hold tag name) = (tag < 8) × (is_name name ≡ true)
IsGoodCommand (spelled.Read tag) = tag < 8
IsGoodCommand (spelled.Write tag value) = (tag < 8) × (is_value value ≡ true)
IsGoodCommand (spelled.Drop tag) = tag < 8
IsGoodCommand (spelled.Fix name) = is_name name ≡ true
IsGoodCommand (spelled.Loose name) = is_name name ≡ true

-- a command of one of so many workers
pub record IsGoodLine (workers : ℕ) (line : SpelledLine) : Type 0 where
  pub least : 1 ≤ line.worker
  pub most : line.worker ≤ workers
  pub command : IsGoodCommand line.command

-- the line that spells it, with one space between the tokens
abbrev pub laid_line : SpelledLine → Laid
laid_line line = record {
  lead = [];
  first = decimal line.worker;
  further = map (λ token. record { blanks = SPACE ∷ []; token = token }) (command_tokens line.command);
  end = [];
  returns = false;
}

-- the input that spells these lines
abbrev pub written : List SpelledLine → List ℕ
written lines = as_lines (map (λ line. laid_text (laid_line line)) lines)
