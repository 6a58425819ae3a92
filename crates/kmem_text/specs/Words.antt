-- The words of commands, and the tokens that each takes: their number is checked first, and then each of them from left to right
-- (this project's own format).
use Rattle.std.specs.Prelude.{◌-◌, ℕ, List, [], ◌∷◌, codes, Option, Some, None, Result, Ok, Err, if◌then◌else◌}
use Rattle.std.specs.Str.{bytes_eq}
use Rattle.kmem_text.specs.Texts.{is_name, is_value, is_within}
use Rattle.kmem_text.specs.declared.command.Tag.{Tag}
use Rattle.kmem_text.specs.declared.spelling.LineFault.{LineFault}
use Rattle.kmem_text.specs.declared.spelling.LineFault.TheVariants as fault
use Rattle.kmem_text.specs.declared.spelling.Spelled.{Spelled}
use Rattle.kmem_text.specs.declared.spelling.Spelled.TheVariants as spelled
use Rattle.kmem_text.specs.declared.words.CommandWord.{CommandWord}
use Rattle.kmem_text.specs.declared.words.CommandWord.TheVariants as word

infixl 10 ◌>>=◌
abbrev pub ◌>>=◌ : {A B E : Type 0} → Result A E → (A → Result B E) → Result B E
(Ok x) >>= f = f x
(Err e) >>= f = Err e

-- the value, or this fault where there is none
abbrev pub or_fault : {A : Type 0} → LineFault → Option A → Result A LineFault
or_fault f (Some x) = Ok x
or_fault f None = Err f

-- a token that is a name
abbrev pub name_of : List ℕ → Result (List ℕ) LineFault
name_of token = if is_name token then Ok token else Err fault.Name

-- a token that is a value
abbrev pub value_of : List ℕ → Result (List ℕ) LineFault
value_of token = if is_value token then Ok token else Err fault.Value

-- a token that is a tag: one digit from 0 to 7
abbrev pub tag_of : List ℕ → Result Tag LineFault
tag_of (digit ∷ []) = if is_within 48 55 digit then Ok (digit - 48) else Err fault.Tag
tag_of _ = Err fault.Tag

-- no token more
abbrev pub alone : Spelled → List (List ℕ) → Result Spelled LineFault
alone command [] = Ok command
alone command _ = Err fault.Words

-- one token more, and what it reads as
abbrev pub only : {A : Type 0} → (List ℕ → Result A LineFault) → List (List ℕ) → Result A LineFault
only read (token ∷ []) = read token
only read _ = Err fault.Words

-- the command that is made of one token more
abbrev pub one : {A : Type 0} → (List ℕ → Result A LineFault) → (A → Spelled) → List (List ℕ) → Result Spelled LineFault
one read make tokens = only read tokens >>= λ x. Ok (make x)

-- the command that is made of two tokens more
abbrev pub two : {A B : Type 0} → (List ℕ → Result A LineFault) → (List ℕ → Result B LineFault) → (A → B → Spelled) → List (List ℕ) →
    Result Spelled LineFault
two read_first read_second make (first ∷ second ∷ []) = do
  x ← read_first first
  y ← read_second second
  Ok (make x y)
two read_first read_second make _ = Err fault.Words

-- the word that a token is
abbrev pub word_of : List ℕ → Option CommandWord
word_of token =
    if bytes_eq token (codes "put") then Some word.Put else
    (if bytes_eq token (codes "get") then Some word.Get else
    (if bytes_eq token (codes "del") then Some word.Del else
    (if bytes_eq token (codes "first") then Some word.First else
    (if bytes_eq token (codes "next") then Some word.Next else
    (if bytes_eq token (codes "count") then Some word.Count else
    (if bytes_eq token (codes "link") then Some word.Link else
    (if bytes_eq token (codes "hold") then Some word.Hold else
    (if bytes_eq token (codes "read") then Some word.Read else
    (if bytes_eq token (codes "write") then Some word.Write else
    (if bytes_eq token (codes "drop") then Some word.Drop else
    (if bytes_eq token (codes "fix") then Some word.Fix else
    (if bytes_eq token (codes "loose") then Some word.Loose else None))))))))))))

-- the command of a word and the tokens behind it
abbrev pub further_of : CommandWord → List (List ℕ) → Result Spelled LineFault
further_of word.Put tokens = two name_of value_of spelled.Put tokens
further_of word.Get tokens = one name_of spelled.Get tokens
further_of word.Del tokens = one name_of spelled.Del tokens
further_of word.First tokens = alone spelled.First tokens
further_of word.Next tokens = one name_of spelled.Next tokens
further_of word.Count tokens = alone spelled.Count tokens
further_of word.Link tokens = two name_of name_of spelled.Link tokens
further_of word.Hold tokens = two tag_of name_of spelled.Hold tokens
further_of word.Read tokens = one tag_of spelled.Read tokens
further_of word.Write tokens = two tag_of value_of spelled.Write tokens
further_of word.Drop tokens = one tag_of spelled.Drop tokens
further_of word.Fix tokens = one name_of spelled.Fix tokens
further_of word.Loose tokens = one name_of spelled.Loose tokens

-- the command that these tokens spell: the word, the number of further tokens, and each of these
abbrev pub command_of : List (List ℕ) → Result Spelled LineFault
command_of [] = Err fault.Command
command_of (token ∷ further) = or_fault fault.Command (word_of token) >>= λ w. further_of w further
