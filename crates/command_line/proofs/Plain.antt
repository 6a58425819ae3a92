-- What the parser makes of a word that doesn't begin with `-`: it is for the next positional argument, where it names no subcommand.
use Rattle.std.proofs.Common.{◌≡◌, ◌==◌, ℕ, Bool, true, false, not, List, [], ◌∷◌, Some, None, refl, sym, ap, ap₂, ◌∙◌}
use Rattle.std.specs.Prelude.{fold, ◌&&◌, if◌then◌else◌, option_and_then}
use Rattle.std.specs.Option.{option_map_or}
use Rattle.std.specs.Str.{bytes_eq}
use Rattle.clap.specs.Lexer.{long_of, long_of_rest, short_of, short_of_rest, strip_byte}
use Rattle.clap.specs.Words.{Text, Rule, Shape}
use Rattle.clap.specs.Walk.{Held, Walk, walked, walk_from, to_positional, arg_by_index, value, trailing, idle, subcommand_or_other, long_or_other, short_or_plain, after_step}
use Rattle.clap.specs.Kinds.{or_else}
use Rattle.clap.specs.Faults.{other_fault, flag_word_fault, bundle_fault, walk_fault, turn_fault, step_fault}
use Rattle.clap.specs.declared.error.kind.ErrorKind.TheVariants.{UnknownArgument}
use Rattle.command_line.specs.CommandLine.{is_plain_word}

-- between two words: what is held, and the place of the positional argument that comes next
abbrev pub at : Held → ℕ → Walk
at h i = record (walk_from h) { position = i }

not_true : (b : Bool) → not b ≡ true → b ≡ false
not_true true e = sym e
not_true false e = refl

no_dash : (x : ℕ) → not (x == 45) ≡ true → (x == 45) ≡ false
no_dash x e = not_true (x == 45) e

no_escape : (word : Text) → is_plain_word word ≡ true → bytes_eq word (45 ∷ 45 ∷ []) ≡ false
no_escape [] e = refl
no_escape (x ∷ xs) e = ap (λ b. b && bytes_eq xs (45 ∷ [])) (no_dash x e)

no_long : (word : Text) → is_plain_word word ≡ true → long_of word ≡ None
no_long [] e = refl
no_long (x ∷ xs) e = ap (λ (b : Bool). option_and_then long_of_rest (option_and_then (strip_byte 45) (if b then Some xs else None))) (no_dash x e)

no_short : (word : Text) → is_plain_word word ≡ true → short_of word ≡ None
no_short [] e = refl
no_short (x ∷ xs) e = ap (λ (b : Bool). option_and_then short_of_rest (if b then Some xs else None)) (no_dash x e)

pub plain_met : (c : List Rule) (word : Text) → is_plain_word word ≡ true → (h : Held) (i : ℕ) → subcommand_or_other c None idle i word h ≡ (h, value)
plain_met c word e h i =
    ap (λ (b : Bool). if b then (h, trailing i) else long_or_other c idle word (long_of word) h) (no_escape word e)
    ∙ (ap (λ l. long_or_other c idle word l h) (no_long word e)
    ∙ ap (λ l. short_or_plain c idle word l h) (no_short word e))

pub plain_other : (s : Shape) (word : Text) → is_plain_word word ≡ true → (h : Held) → other_fault s None word h ≡ []
plain_other s word e h =
    ap (λ (b : Bool). if b then [] else flag_word_fault s.rules s.args_override_self (long_of word) word h) (no_escape word e)
    ∙ (ap (λ l. flag_word_fault s.rules s.args_override_self l word h) (no_long word e)
    ∙ ap (λ l. option_map_or (λ flags. bundle_fault s.rules s.args_override_self flags h) l []) (no_short word e))

-- one word further, where no subcommand is left to be named
plain_walked : (c : List Rule) (word : Text) → is_plain_word word ≡ true → (h : Held) (i : ℕ) → walked c [] (at h i) word ≡ to_positional c (arg_by_index c i) word (at h i) h
unfolding walked
plain_walked c word e h i = ap (λ met. after_step c word (at h i) met.0 met.1) (plain_met c word e h i)

plain_turn : (s : Shape) (word : Text) → is_plain_word word ≡ true → (h : Held) (i : ℕ) → turn_fault s [] (at h i) word ≡ step_fault s i h value
plain_turn s word e h i = ap₂ or_else (plain_other s word e h) (ap (λ met. step_fault s i met.0 met.1) (plain_met s.rules word e h i))

fault_step : (s : Shape) (w next : Walk) (word : Text) (rest : List Text) → turn_fault s [] w word ≡ [] → walked s.rules [] w word ≡ next → walk_fault s [] w (word ∷ rest) ≡ walk_fault s [] next rest
unfolding walk_fault
fault_step s w next word rest none is = ap₂ or_else none (ap (λ v. walk_fault s [] v rest) is)

-- a word that a positional argument takes
pub takes_word : (s : Shape) (h next : Held) (i j : ℕ) (word : Text) (rest : List Text) → is_plain_word word ≡ true → step_fault s i h value ≡ [] → to_positional s.rules (arg_by_index s.rules i) word (at h i) h ≡ at next j → walk_fault s [] (at h i) (word ∷ rest) ≡ walk_fault s [] (at next j) rest
takes_word s h next i j word rest e none is = fault_step s (at h i) (at next j) word rest (plain_turn s word e h i ∙ none) (plain_walked s.rules word e h i ∙ is)

pub walks_word : (s : Shape) (h next : Held) (i j : ℕ) (word : Text) (rest : List Text) → is_plain_word word ≡ true → to_positional s.rules (arg_by_index s.rules i) word (at h i) h ≡ at next j → fold (walked s.rules []) (at h i) (word ∷ rest) ≡ fold (walked s.rules []) (at next j) rest
walks_word s h next i j word rest e is = ap (λ v. fold (walked s.rules []) v rest) (plain_walked s.rules word e h i ∙ is)

-- a word that none takes
pub stray_word : (s : Shape) (h : Held) (i : ℕ) (word : Text) (rest : List Text) → is_plain_word word ≡ true → step_fault s i h value ≡ UnknownArgument ∷ [] → walk_fault s [] (at h i) (word ∷ rest) ≡ UnknownArgument ∷ []
unfolding walk_fault
stray_word s h i word rest e found = ap (λ t. or_else t (walk_fault s [] (walked s.rules [] (at h i) word) rest)) (plain_turn s word e h i ∙ found)
