-- Lines and tokens as they are laid out, read back.
use Rattle.std.proofs.Common.{◌≡◌, ◌↔◌, ◌==◌, ◌||◌, ◌&&◌, ℕ, ◌+◌, ◌-◌, ◌^◌, ◌<◌, ◌≤◌, suc, Bool, true, false, cond, nat_lt, List, [], ◌∷◌, ◌++◌, Option, Some, None, filter, length, take, refl, sym, ap, ◌∙◌, subst, arith, Result, Ok, Err, append_assoc, append-nil, length-append, map, slice_index, codes}
use Rattle.std.specs.List.{slice_split, onto_first, flat_map, AllByRecursion, list_all}
use Rattle.std.specs.Str.Lines.{strip_carriage_return}
use Rattle.std.specs.Fmt.{decimal}
use Rattle.std.specs.Str.Parse.{digits_value, AllDigits}
use Rattle.std.proofs.Math.Seq.{get_or-append_seam, take-append_seam}
use Rattle.std.proofs.lemmas.Bool.{false≢true}
use Rattle.std.proofs.lemmas.Bool.Decides.{nat_tests}
use Rattle.std.proofs.lemmas.List.Splits.{slice_split-cons_yes, slice_split-cons_no, length-slice_split}
use Rattle.std.proofs.lemmas.Option.{none-some}
use Rattle.std.proofs.lemmas.Str.Parse.{digit_from_value}
use Rattle.std.proofs.lemmas.Fmt.{decimal_is_IsNumeral, first_decimal}
use Rattle.kmem_text.specs.declared.spelling.LineFault.TheVariants.{Worker, Name, Value}
use Rattle.kmem_text.specs.declared.spelling.LineFault.TheVariants as fault
use Rattle.kmem_text.specs.declared.command.Tag.{Tag}
use Rattle.kmem_text.specs.Texts.{is_within, is_name, is_value, is_name_byte, is_value_byte}
use Rattle.kmem_text.specs.Numbers.{number_within, is_numeral}
use Rattle.kmem_text.proofs.Workers.{both}
use Rattle.kmem_text.specs.Words.{◌>>=◌, or_fault, name_of, value_of, tag_of, one, two, command_of}
use Rattle.kmem_text.specs.Grammar.{is_blank, tokens_in, tokens_of, lines_of, without_empty_last, holds_command, spelled_of, line_of, fault_or, first_bad, first_bad_of, found_in, spelled_lines, script_of, script_of_lines}
use Rattle.kmem_text.specs.Layout.{HasNoLineFeed, as_lines, Spaced, Laid, AreBlanks, IsToken, IsSpaced, IsLaid, laid_text, laid_tokens, tag_token, command_tokens, IsGoodCommand, IsGoodLine, laid_line, written}
use Rattle.kmem_text.specs.declared.spelling.Spelled.{Spelled}
use Rattle.kmem_text.specs.declared.spelling.Spelled.TheVariants as spelled
use Rattle.kmem_text.specs.declared.spelling.SpelledLine.{SpelledLine}
use Rattle.kmem_text.specs.declared.spelling.LineFault.{LineFault}

-- what follows from what holds of each element
weaker : {X : Type 0} (P Q : X → Type 0) → ((x : X) → P x → Q x) → (xs : List X) → AllByRecursion P xs → AllByRecursion Q xs
weaker P Q f [] h = tt
weaker P Q f (x ∷ xs) h = (f x h.0, weaker P Q f xs h.1)

-- the part before the first element that passes
split_behind : (p : ℕ → Bool) (front : List ℕ) (y : ℕ) (rest : List ℕ) → AllByRecursion (λ x. p x ≡ false) front → p y ≡ true → slice_split p (front ++ y ∷ rest) ≡ front ∷ slice_split p rest
split_behind p [] y rest h e = slice_split-cons_yes p y rest e
split_behind p (x ∷ front) y rest h e = slice_split-cons_no p x (front ++ y ∷ rest) h.0 ∙ ap (onto_first x) (split_behind p front y rest h.1 e)

split_none : (p : ℕ → Bool) (xs : List ℕ) → AllByRecursion (λ x. p x ≡ false) xs → slice_split p xs ≡ xs ∷ []
split_none p [] h = refl
split_none p (x ∷ xs) h = slice_split-cons_no p x xs h.0 ∙ ap (onto_first x) (split_none p xs h.1)

-- Lines

before_parts : (line : List ℕ) (bytes : List ℕ) (parts : List (List ℕ)) → slice_split (λ byte. byte == 10) bytes ≡ parts → without_empty_last (line ∷ parts) ≡ line ∷ without_empty_last parts
before_parts line bytes [] h = absurd (omega (arith, ap length h, length-slice_split (λ byte. byte == 10) bytes))
before_parts line bytes (next ∷ more) h = refl

one_line_more : (line rest : List ℕ) → HasNoLineFeed line → lines_of (line ++ 10 ∷ rest) ≡ line ∷ lines_of rest
one_line_more line rest h = ap without_empty_last (split_behind (λ byte. byte == 10) line 10 rest h refl) ∙ before_parts line rest _ refl

pub lines_read : (lines : List (List ℕ)) (rest : List ℕ) → AllByRecursion HasNoLineFeed lines → lines_of (as_lines lines ++ rest) ≡ lines ++ lines_of rest
lines_read [] rest h = refl
lines_read (line ∷ lines) rest h =
    ap lines_of (append_assoc (line ++ 10 ∷ []) (as_lines lines) rest ∙ append_assoc line (10 ∷ []) (as_lines lines ++ rest))
    ∙ one_line_more line (as_lines lines ++ rest) h.0
    ∙ ap (λ ls. line ∷ ls) (lines_read lines rest h.1)

-- Tokens

blanks_skipped : (blanks bytes : List ℕ) → AreBlanks blanks → tokens_in (blanks ++ bytes) ≡ tokens_in bytes
blanks_skipped [] bytes h = refl
blanks_skipped (b ∷ blanks) bytes h = ap (filter (λ token. nat_lt 0 (length token))) (slice_split-cons_yes is_blank b (blanks ++ bytes) h.0) ∙ blanks_skipped blanks bytes h.1

above_is_no_blank : (byte : ℕ) → nat_lt 32 byte ≡ true → is_blank byte ≡ false
above_is_no_blank byte h = grind (arith, nat_tests)

no_blanks : (token : List ℕ) → IsToken token → AllByRecursion (λ byte. is_blank byte ≡ false) token
no_blanks token h = weaker (λ byte. nat_lt 32 byte ≡ true) (λ byte. is_blank byte ≡ false) above_is_no_blank token h.1

kept : (token : List ℕ) (more : List (List ℕ)) → 0 < length token → filter (λ t. nat_lt 0 (length t)) (token ∷ more) ≡ token ∷ filter (λ t. nat_lt 0 (length t)) more
kept [] more h = absurd (omega (arith, h))
kept (b ∷ token) more h = let is : nat_lt 0 (length (b ∷ token)) ≡ true = grind (arith, nat_tests) in ap (λ t. cond t ((b ∷ token) ∷ filter (λ t. nat_lt 0 (length t)) more) (filter (λ t. nat_lt 0 (length t)) more)) is

token_first : (token : List ℕ) (blank : ℕ) (rest : List ℕ) → IsToken token → is_blank blank ≡ true → tokens_in (token ++ blank ∷ rest) ≡ token ∷ tokens_in rest
token_first token blank rest h e = ap (filter (λ t. nat_lt 0 (length t))) (split_behind is_blank token blank rest (no_blanks token h) e) ∙ kept token (slice_split is_blank rest) h.0

token_last : (token blanks : List ℕ) → IsToken token → AreBlanks blanks → tokens_in (token ++ blanks) ≡ token ∷ []
token_last token [] h e = ap tokens_in (append-nil token) ∙ ap (filter (λ t. nat_lt 0 (length t))) (split_none is_blank token (no_blanks token h)) ∙ kept token [] h.0
token_last token (b ∷ blanks) h e = token_first token b blanks h e.0 ∙ ap (λ ts. token ∷ ts) (ap tokens_in (sym (append-nil blanks)) ∙ blanks_skipped blanks [] e.1)

-- a token with blanks before it, behind another token
token_next : (token blanks rest : List ℕ) → IsToken token → 0 < length blanks → AreBlanks blanks → tokens_in (token ++ (blanks ++ rest)) ≡ token ∷ tokens_in rest
token_next token [] rest h some e = absurd (omega (arith, some))
token_next token (b ∷ blanks) rest h some e = token_first token b (blanks ++ rest) h e.0 ∙ ap (λ ts. token ∷ ts) (blanks_skipped blanks rest e.1)

tokens_laid : (token : List ℕ) (further : List Spaced) (end : List ℕ) → IsToken token → AllByRecursion IsSpaced further → AreBlanks end → tokens_in (token ++ (flat_map (λ part. part.blanks ++ part.token) further ++ end)) ≡ token ∷ map (λ part. part.token) further
tokens_laid token [] end h hs e = token_last token end h e
tokens_laid token (part ∷ further) end h hs e =
    let rest = flat_map (λ (p : Spaced). p.blanks ++ p.token) further in
    ap (λ xs. tokens_in (token ++ xs)) (append_assoc (part.blanks ++ part.token) rest end ∙ append_assoc part.blanks part.token (rest ++ end))
    ∙ token_next token part.blanks (part.token ++ (rest ++ end)) h hs.0.0 hs.0.1
    ∙ ap (λ ts. token ∷ ts) (tokens_laid part.token further end hs.0.2 hs.1 e)

-- Carriage returns

ends_otherwise : (bytes : List ℕ) → AllByRecursion (λ byte. (byte == 13) ≡ false) bytes → (slice_index bytes (length bytes - 1) == 13) ≡ false
ends_otherwise [] h = refl
ends_otherwise (b ∷ []) h = h.0
ends_otherwise (b ∷ c ∷ bytes) h =
    let here : length (b ∷ c ∷ bytes) - 1 ≡ suc (length bytes) = omega arith in
    let there : length (c ∷ bytes) - 1 ≡ length bytes = omega arith in
    ap (λ n. slice_index (b ∷ c ∷ bytes) n == 13) here ∙ ap (λ n. slice_index (c ∷ bytes) n == 13) (sym there) ∙ ends_otherwise (c ∷ bytes) h.1

pub none_stripped : (bytes : List ℕ) → AllByRecursion (λ byte. (byte == 13) ≡ false) bytes → strip_carriage_return bytes ≡ bytes
none_stripped bytes h = ap (λ b. cond b (take (length bytes - 1) bytes) bytes) (ends_otherwise bytes h)

pub one_stripped : (bytes : List ℕ) → strip_carriage_return (bytes ++ 13 ∷ []) ≡ bytes
one_stripped bytes =
    let all = bytes ++ 13 ∷ [] in
    let at : length all - 1 ≡ length bytes = omega (arith, length-append bytes (13 ∷ [])) in
    let is : (slice_index all (length all - 1) == 13) ≡ true = ap (λ n. slice_index all n == 13) at ∙ ap (λ b. b == 13) (get_or-append_seam bytes 13 [] 0) in
    ap (λ b. cond b (take (length all - 1) all) all) is ∙ ap (λ n. take n all) at ∙ take-append_seam bytes (13 ∷ [])

-- Laid lines

-- a blank, or a byte above it
abbrev IsLaidByte : ℕ → Type 0
IsLaidByte byte = (is_blank byte || nat_lt 32 byte) ≡ true

of_blank : (byte : ℕ) → is_blank byte ≡ true → IsLaidByte byte
of_blank byte h = ap (λ b. b || nat_lt 32 byte) h

of_token : (byte : ℕ) → nat_lt 32 byte ≡ true → IsLaidByte byte
of_token byte h = grind (arith, nat_tests)

blank_bytes : (bytes : List ℕ) → AreBlanks bytes → AllByRecursion IsLaidByte bytes
blank_bytes bytes h = weaker (λ byte. is_blank byte ≡ true) IsLaidByte of_blank bytes h

token_bytes : (bytes : List ℕ) → IsToken bytes → AllByRecursion IsLaidByte bytes
token_bytes bytes h = weaker (λ byte. nat_lt 32 byte ≡ true) IsLaidByte of_token bytes h.1

spaced_bytes : (further : List Spaced) → AllByRecursion IsSpaced further → AllByRecursion IsLaidByte (flat_map (λ part. part.blanks ++ part.token) further)
spaced_bytes [] h = tt
spaced_bytes (part ∷ further) h = both IsLaidByte (part.blanks ++ part.token) _ (both IsLaidByte part.blanks part.token (blank_bytes part.blanks h.0.1) (token_bytes part.token h.0.2)) (spaced_bytes further h.1)

-- the line without its carriage return
abbrev plain_text : Laid → List ℕ
plain_text line = line.lead ++ (line.first ++ (flat_map (λ part. part.blanks ++ part.token) line.further ++ line.end))

plain_bytes : (line : Laid) → IsLaid line → AllByRecursion IsLaidByte (plain_text line)
plain_bytes line h =
    both IsLaidByte line.lead _ (blank_bytes line.lead h.lead)
    (both IsLaidByte line.first _ (token_bytes line.first h.first)
    (both IsLaidByte (flat_map (λ (part : Spaced). part.blanks ++ part.token) line.further) line.end (spaced_bytes line.further h.further) (blank_bytes line.end h.end)))

no_return : (byte : ℕ) → IsLaidByte byte → (byte == 13) ≡ false
no_return byte h = grind (arith, nat_tests)

no_line_feed : (byte : ℕ) → IsLaidByte byte → (byte == 10) ≡ false
no_line_feed byte h = grind (arith, nat_tests)

text_ends : (line : Laid) (returned : List ℕ) → line.lead ++ (line.first ++ (flat_map (λ part. part.blanks ++ part.token) line.further ++ (line.end ++ returned))) ≡ plain_text line ++ returned
text_ends line returned =
    let f = flat_map (λ (part : Spaced). part.blanks ++ part.token) line.further in
    sym (append_assoc line.lead (line.first ++ (f ++ line.end)) returned
    ∙ ap (λ xs. line.lead ++ xs) (append_assoc line.first (f ++ line.end) returned ∙ ap (λ xs. line.first ++ xs) (append_assoc f line.end returned)))

-- what a line ends with: a carriage return, or nothing
abbrev returned : Bool → List ℕ
returned returns = cond returns (13 ∷ []) []

plain_again : (line : Laid) (returns : Bool) → IsLaid line → strip_carriage_return (plain_text line ++ returned returns) ≡ plain_text line
plain_again line true h = one_stripped (plain_text line)
plain_again line false h = ap strip_carriage_return (append-nil (plain_text line)) ∙ none_stripped (plain_text line) (weaker IsLaidByte (λ byte. (byte == 13) ≡ false) no_return (plain_text line) (plain_bytes line h))

pub tokens_read : (line : Laid) → IsLaid line → tokens_of (laid_text line) ≡ laid_tokens line
tokens_read line h =
    ap tokens_of (text_ends line (returned line.returns))
    ∙ ap tokens_in (plain_again line line.returns h)
    ∙ blanks_skipped line.lead _ h.lead
    ∙ tokens_laid line.first line.further line.end h.first h.further h.end

returned_feeds : (returns : Bool) → HasNoLineFeed (returned returns)
returned_feeds true = (refl, tt)
returned_feeds false = tt

pub laid_feeds : (line : Laid) → IsLaid line → HasNoLineFeed (laid_text line)
laid_feeds line h =
    subst HasNoLineFeed (sym (text_ends line (returned line.returns)))
    (both (λ byte. (byte == 10) ≡ false) (plain_text line) (returned line.returns)
    (weaker IsLaidByte (λ byte. (byte == 10) ≡ false) no_line_feed (plain_text line) (plain_bytes line h)) (returned_feeds line.returns))

-- Lines without a command

none_spelled : (workers : ℕ) (tokens : List (List ℕ)) → holds_command tokens ≡ false → spelled_of workers tokens ≡ Ok None
none_spelled workers tokens h = ap (λ b. cond b (line_of workers tokens >>= λ line. Ok (Some line)) (Ok None)) h

pub commands_stay : (workers : ℕ) (before after : List (List ℕ)) (line : List ℕ) → holds_command (tokens_of line) ≡ false → spelled_lines workers (before ++ line ∷ after) ≡ spelled_lines workers (before ++ after)
commands_stay workers [] after line h = ap (λ r. found_in r ++ spelled_lines workers after) (none_spelled workers (tokens_of line) h)
commands_stay workers (first ∷ before) after line h = ap (λ ls. found_in (spelled_of workers (tokens_of first)) ++ ls) (commands_stay workers before after line h)

fault_or_moved : (n m : ℕ) (r : Result (Option SpelledLine) LineFault) (others others' : Option (ℕ × LineFault)) → (others ≡ None → others' ≡ None) → fault_or n r others ≡ None → fault_or m r others' ≡ None
fault_or_moved n m (Ok found) others others' f k = f k
fault_or_moved n m (Err fault) others others' f k = absurd (none-some (n, fault) (sym k))

-- faults are there or not, whatever the number of the first line
faults_moved : (workers n m : ℕ) (lines : List (List ℕ)) → first_bad workers n lines ≡ None → first_bad workers m lines ≡ None
faults_moved workers n m [] h = refl
faults_moved workers n m (line ∷ lines) h = fault_or_moved n m (spelled_of workers (tokens_of line)) _ _ (faults_moved workers (n + 1) (m + 1) lines) h

faults_left : (workers n m : ℕ) (before after : List (List ℕ)) (line : List ℕ) → holds_command (tokens_of line) ≡ false → first_bad workers n (before ++ line ∷ after) ≡ None → first_bad workers m (before ++ after) ≡ None
faults_left workers n m [] after line e h = faults_moved workers (n + 1) m after (sym (ap (λ r. fault_or n r (first_bad workers (n + 1) after)) (none_spelled workers (tokens_of line) e)) ∙ h)
faults_left workers n m (first ∷ before) after line e h = fault_or_moved n m (spelled_of workers (tokens_of first)) _ _ (faults_left workers (n + 1) (m + 1) before after line e) h

faults_put : (workers n m : ℕ) (before after : List (List ℕ)) (line : List ℕ) → holds_command (tokens_of line) ≡ false → first_bad workers m (before ++ after) ≡ None → first_bad workers n (before ++ line ∷ after) ≡ None
faults_put workers n m [] after line e h = ap (λ r. fault_or n r (first_bad workers (n + 1) after)) (none_spelled workers (tokens_of line) e) ∙ faults_moved workers m (n + 1) after h
faults_put workers n m (first ∷ before) after line e h = fault_or_moved m n (spelled_of workers (tokens_of first)) _ _ (faults_put workers (n + 1) (m + 1) before after line e) h

pub faults_stay : (workers number : ℕ) (before after : List (List ℕ)) (line : List ℕ) → holds_command (tokens_of line) ≡ false → (first_bad workers number (before ++ line ∷ after) ≡ None) ↔ (first_bad workers number (before ++ after) ≡ None)
faults_stay workers number before after line e = (faults_left workers number number before after line e, faults_put workers number number before after line e)

-- Written lines

and_left : (a b : Bool) → (a && b) ≡ true → a ≡ true
and_left true b h = refl
and_left false b h = h

and_right : (a b : Bool) → (a && b) ≡ true → b ≡ true
and_right true b h = h
and_right false b h = absurd (false≢true h)

all_digits : (digits : List ℕ) → AllDigits 10 digits → list_all (is_within 48 57) digits ≡ true
all_digits [] h = refl
all_digits (d ∷ digits) h =
    let digit = digit_from_value d h.0 in
    let first : is_within 48 57 d ≡ true = grind (arith, nat_tests, digit) in
    ap (λ b. b && list_all (is_within 48 57) digits) first ∙ all_digits digits h.1

digits_above : (digits : List ℕ) → AllDigits 10 digits → AllByRecursion (λ byte. nat_lt 32 byte ≡ true) digits
digits_above [] h = tt
digits_above (d ∷ digits) h =
    let digit = digit_from_value d h.0 in
    let above : nat_lt 32 d ≡ true = grind (arith, nat_tests, digit) in
    (above, digits_above digits h.1)

-- the number of a worker is a token, and reads as itself
worker_token : (w : ℕ) → w < 2 ^ 32 → IsToken (decimal w)
worker_token w small = let is = decimal_is_IsNumeral w (omega (arith, small)) in (is.0.0, digits_above (decimal w) is.0.1)

worker_read : (workers w : ℕ) → 1 ≤ w → w ≤ workers → workers < 2 ^ 32 → number_within 1 workers (decimal w) ≡ Some w
worker_read workers w least most small =
    let is = decimal_is_IsNumeral w (omega (arith, small, most)) in
    let first : 48 < slice_index (decimal w) 0 = first_decimal w (omega (arith, least)) (omega (arith, small, most)) in
    let digits : list_all (is_within 48 57) (decimal w) ≡ true = all_digits (decimal w) is.0.1 in
    let numeral : is_numeral (decimal w) ≡ true = grind (arith, nat_tests, first, digits, is.0.0) in
    let ranged : is_within 1 workers w ≡ true = grind (arith, nat_tests, least, most) in
    let within : is_within 1 workers (digits_value 10 (decimal w)) ≡ true = ap (is_within 1 workers) is.1 ∙ ranged in
    ap (λ b. cond (b && is_within 1 workers (digits_value 10 (decimal w))) (Some (digits_value 10 (decimal w))) None) numeral
    ∙ ap (λ b. cond b (Some (digits_value 10 (decimal w))) None) within
    ∙ ap Some is.1

no_comment : (w : ℕ) (further : List (List ℕ)) → 1 ≤ w → w < 2 ^ 32 → holds_command (decimal w ∷ further) ≡ true
no_comment w further least small =
    let first : 48 < slice_index (decimal w) 0 = first_decimal w (omega (arith, least)) (omega (arith, small)) in
    grind (arith, nat_tests, first)

name_read : (name : List ℕ) → is_name name ≡ true → name_of name ≡ Ok name
name_read name h = ap (λ b. cond b (Ok name) (Err Name)) h

value_read : (value : List ℕ) → is_value value ≡ true → value_of value ≡ Ok value
value_read value h = ap (λ b. cond b (Ok value) (Err Value)) h

tag_read : (tag : Tag) → tag < 8 → tag_of (tag_token tag) ≡ Ok tag
tag_read tag small =
    let digit : is_within 48 55 (48 + tag) ≡ true = grind (arith, nat_tests, small) in
    let back : 48 + tag - 48 ≡ tag = omega arith in
    ap (λ b. cond b (Ok (48 + tag - 48)) (Err fault.Tag)) digit ∙ ap Ok back

only_read : {A : Type 0} (read : List ℕ → Result A LineFault) (make : A → Spelled) (token : List ℕ) (x : A) → read token ≡ Ok x → one read make (token ∷ []) ≡ Ok (make x)
only_read read make token x is = ap (λ r. r >>= λ x. Ok (make x)) is

two_read : {A B : Type 0} (read_first : List ℕ → Result A LineFault) (read_second : List ℕ → Result B LineFault) (make : A → B → Spelled) (first second : List ℕ) (x : A) (y : B) → read_first first ≡ Ok x → read_second second ≡ Ok y → two read_first read_second make (first ∷ second ∷ []) ≡ Ok (make x y)
two_read read_first read_second make first second x y is and = ap (λ r. r >>= λ x. (read_second second >>= λ y. Ok (make x y))) is ∙ ap (λ r. r >>= λ y. Ok (make x y)) and

command_read : (command : Spelled) → IsGoodCommand command → command_of (command_tokens command) ≡ Ok command
command_read (spelled.Put name value) h = two_read name_of value_of spelled.Put name value name value (name_read name h.0) (value_read value h.1)
command_read (spelled.Get name) h = only_read name_of spelled.Get name name (name_read name h)
command_read (spelled.Del name) h = only_read name_of spelled.Del name name (name_read name h)
command_read spelled.First h = refl
command_read (spelled.Next name) h = only_read name_of spelled.Next name name (name_read name h)
command_read spelled.Count h = refl
command_read (spelled.Link name other) h = two_read name_of name_of spelled.Link name other name other (name_read name h.0) (name_read other h.1)
command_read (spelled.Hold tag name) h = two_read tag_of name_of spelled.Hold (tag_token tag) name tag name (tag_read tag h.0) (name_read name h.1)
command_read (spelled.Read tag) h = only_read tag_of spelled.Read (tag_token tag) tag (tag_read tag h)
command_read (spelled.Write tag value) h = two_read tag_of value_of spelled.Write (tag_token tag) value tag value (tag_read tag h.0) (value_read value h.1)
command_read (spelled.Drop tag) h = only_read tag_of spelled.Drop (tag_token tag) tag (tag_read tag h)
command_read (spelled.Fix name) h = only_read name_of spelled.Fix name name (name_read name h)
command_read (spelled.Loose name) h = only_read name_of spelled.Loose name name (name_read name h)

line_read : (workers : ℕ) (line : SpelledLine) → workers < 2 ^ 32 → IsGoodLine workers line → spelled_of workers (decimal line.worker ∷ command_tokens line.command) ≡ Ok (Some line)
line_read workers line small h =
    let tokens = command_tokens line.command in
    let all = decimal line.worker ∷ tokens in
    ap (λ b. cond b (line_of workers all >>= λ l. Ok (Some l)) (Ok None)) (no_comment line.worker tokens h.least (omega (arith, h.most, small)))
    ∙ ap (λ w. (or_fault Worker w >>= λ w. (command_of tokens >>= λ c. Ok (record { worker = w; command = c }))) >>= λ l. Ok (Some l)) (worker_read workers line.worker h.least h.most small)
    ∙ ap (λ c. (c >>= λ c. Ok (record { worker = line.worker; command = c })) >>= λ l. Ok (Some l)) (command_read line.command h.command)

name_byte_above : (byte : ℕ) → is_name_byte byte ≡ true → nat_lt 32 byte ≡ true
name_byte_above byte h = grind (arith, nat_tests)

value_byte_above : (byte : ℕ) → is_value_byte byte ≡ true → nat_lt 32 byte ≡ true
value_byte_above byte h = grind (arith, nat_tests)

above_each : (test : ℕ → Bool) → ((byte : ℕ) → test byte ≡ true → nat_lt 32 byte ≡ true) → (bytes : List ℕ) → list_all test bytes ≡ true → AllByRecursion (λ byte. nat_lt 32 byte ≡ true) bytes
above_each test f [] h = tt
above_each test f (b ∷ bytes) h = (f b (and_left (test b) (list_all test bytes) h), above_each test f bytes (and_right (test b) (list_all test bytes) h))

some_bytes : (most : ℕ) (bytes : List ℕ) (b : Bool) → (is_within 1 most (length bytes) && b) ≡ true → 0 < length bytes
some_bytes most bytes b h = grind (arith, nat_tests)

name_token : (name : List ℕ) → is_name name ≡ true → IsToken name
name_token name h = (some_bytes 32 name _ h, above_each is_name_byte name_byte_above name (and_right (is_within 1 32 (length name)) (list_all is_name_byte name) h))

value_token : (value : List ℕ) → is_value value ≡ true → IsToken value
value_token value h = (some_bytes 64 value _ h, above_each is_value_byte value_byte_above value (and_right (is_within 1 64 (length value)) (list_all is_value_byte value) h))

spaced_read : (tokens : List (List ℕ)) → AllByRecursion IsToken tokens → AllByRecursion IsSpaced (map (λ token. record { blanks = 32 ∷ []; token = token }) tokens)
spaced_read [] h = tt
spaced_read (token ∷ tokens) h = ((omega arith, (refl, tt), h.0), spaced_read tokens h.1)

word_token : (word : List ℕ) → list_all is_name_byte word ≡ true → nat_lt 0 (length word) ≡ true → IsToken word
word_token word h some =
    let nonempty : 0 < length word = grind (arith, nat_tests, some) in
    (nonempty, above_each is_name_byte name_byte_above word h)

tag_laid : (tag : Tag) → IsToken (tag_token tag)
tag_laid tag =
    let above : nat_lt 32 (48 + tag) ≡ true = grind (arith, nat_tests) in
    (omega arith, (above, tt))

command_laid : (command : Spelled) → IsGoodCommand command → AllByRecursion IsToken (command_tokens command)
command_laid (spelled.Put name value) h = (word_token (codes "put") refl refl, (name_token name h.0, (value_token value h.1, tt)))
command_laid (spelled.Get name) h = (word_token (codes "get") refl refl, (name_token name h, tt))
command_laid (spelled.Del name) h = (word_token (codes "del") refl refl, (name_token name h, tt))
command_laid spelled.First h = (word_token (codes "first") refl refl, tt)
command_laid (spelled.Next name) h = (word_token (codes "next") refl refl, (name_token name h, tt))
command_laid spelled.Count h = (word_token (codes "count") refl refl, tt)
command_laid (spelled.Link name other) h = (word_token (codes "link") refl refl, (name_token name h.0, (name_token other h.1, tt)))
command_laid (spelled.Hold tag name) h = (word_token (codes "hold") refl refl, (tag_laid tag, (name_token name h.1, tt)))
command_laid (spelled.Read tag) h = (word_token (codes "read") refl refl, (tag_laid tag, tt))
command_laid (spelled.Write tag value) h = (word_token (codes "write") refl refl, (tag_laid tag, (value_token value h.1, tt)))
command_laid (spelled.Drop tag) h = (word_token (codes "drop") refl refl, (tag_laid tag, tt))
command_laid (spelled.Fix name) h = (word_token (codes "fix") refl refl, (name_token name h, tt))
command_laid (spelled.Loose name) h = (word_token (codes "loose") refl refl, (name_token name h, tt))

line_laid : (workers : ℕ) (line : SpelledLine) → workers < 2 ^ 32 → IsGoodLine workers line → IsLaid (laid_line line)
line_laid workers line small h = record {
  lead = tt;
  first = worker_token line.worker (omega (arith, h.most, small));
  further = spaced_read (command_tokens line.command) (command_laid line.command h.command);
  end = tt;
}

tokens_again : (tokens : List (List ℕ)) → map (λ (part : Spaced). part.token) (map (λ token. record { blanks = 32 ∷ []; token = token }) tokens) ≡ tokens
tokens_again [] = refl
tokens_again (token ∷ tokens) = ap (λ ts. token ∷ ts) (tokens_again tokens)

written_read : (workers : ℕ) (line : SpelledLine) → workers < 2 ^ 32 → IsGoodLine workers line → spelled_of workers (tokens_of (laid_text (laid_line line))) ≡ Ok (Some line)
written_read workers line small h =
    ap (spelled_of workers) (tokens_read (laid_line line) (line_laid workers line small h) ∙ ap (λ ts. decimal line.worker ∷ ts) (tokens_again (command_tokens line.command)))
    ∙ line_read workers line small h

-- the lines that spell some commands
abbrev texts : List SpelledLine → List (List ℕ)
texts lines = map (λ line. laid_text (laid_line line)) lines

written_feeds : (workers : ℕ) (lines : List SpelledLine) → workers < 2 ^ 32 → AllByRecursion (IsGoodLine workers) lines → AllByRecursion HasNoLineFeed (texts lines)
written_feeds workers [] small h = tt
written_feeds workers (line ∷ lines) small h = (laid_feeds (laid_line line) (line_laid workers line small h.0), written_feeds workers lines small h.1)

written_lines : (workers : ℕ) (lines : List SpelledLine) → workers < 2 ^ 32 → AllByRecursion (IsGoodLine workers) lines → lines_of (written lines) ≡ texts lines
written_lines workers lines small h = ap lines_of (sym (append-nil (written lines))) ∙ lines_read (texts lines) [] (written_feeds workers lines small h) ∙ append-nil (texts lines)

commands_read : (workers : ℕ) (lines : List SpelledLine) → workers < 2 ^ 32 → AllByRecursion (IsGoodLine workers) lines → spelled_lines workers (texts lines) ≡ lines
commands_read workers [] small h = refl
commands_read workers (line ∷ lines) small h = ap (λ r. found_in r ++ spelled_lines workers (texts lines)) (written_read workers line small h.0) ∙ ap (λ ls. line ∷ ls) (commands_read workers lines small h.1)

none_bad : (workers number : ℕ) (lines : List SpelledLine) → workers < 2 ^ 32 → AllByRecursion (IsGoodLine workers) lines → first_bad workers number (texts lines) ≡ None
none_bad workers number [] small h = refl
none_bad workers number (line ∷ lines) small h = ap (λ r. fault_or number r (first_bad workers (number + 1) (texts lines))) (written_read workers line small h.0) ∙ none_bad workers (number + 1) lines small h.1

pub written_good : (workers : ℕ) (lines : List SpelledLine) → workers < 2 ^ 32 → AllByRecursion (IsGoodLine workers) lines → first_bad_of workers (written lines) ≡ None
written_good workers lines small h = ap (first_bad workers 1) (written_lines workers lines small h) ∙ none_bad workers 1 lines small h

pub written_script : (workers : ℕ) (lines : List SpelledLine) → workers < 2 ^ 32 → AllByRecursion (IsGoodLine workers) lines → script_of workers (written lines) ≡ script_of_lines lines
written_script workers lines small h = ap script_of_lines (ap (spelled_lines workers) (written_lines workers lines small h) ∙ commands_read workers lines small h)
