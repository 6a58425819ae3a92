-- Lines cut off an input, and tokens off a line.
use Rattle.std.proofs.Common.{◌≡◌, ◌==◌, ℕ, ◌+◌, ◌-◌, ◌<◌, ◌≤◌, suc, Bool, true, false, cond, not, List, [], ◌∷◌, ◌++◌, Option, Some, None, unwrap_or, filter, nat_lt, if◌then◌else◌, length, take, drop, refl, sym, ap, ◌∙◌, subst, arith, length-drop, min, Ok, Err, append_assoc, append-nil, length-take-le, length-append, map, Bor, inl, inr}
use Rattle.std.specs.List.{slice_split, onto_first, position, position_or_len}
use Rattle.std.proofs.lemmas.Option.{cond_some}
use Rattle.std.proofs.lemmas.List.{map-append}
use Rattle.std.proofs.lemmas.List.{take_rest, take_at, take_all, take-append-le, length-take}
use Rattle.std.proofs.lemmas.Bool.{false≢true, cases_lt}
use Rattle.std.proofs.lemmas.List.Splits.{slice_split_first, slice_split_none, slice_split-cons_yes, slice_split-cons_no, length-slice_split}
use Rattle.std.proofs.lemmas.List.Sums.{fails_before_first, prefix_len-le-length}
use Rattle.std.proofs.lemmas.Bool.Decides.{nat_tests}
use Rattle.kmem_text.specs.Numbers.{number_within}
use Rattle.kmem_text.specs.Words.{◌>>=◌, or_fault, word_of, further_of}
use Rattle.kmem_text.specs.Grammar.{is_blank, tokens_in, tokens_of, lines_of, without_empty_last, holds_command, spelled_of, fault_or, first_bad, found_in, spelled_lines}
use Rattle.kmem_text.specs.Tokens.{Cuts}
use Rattle.kmem_text.specs.declared.words.CommandWord.{CommandWord}
use Rattle.kmem_text.specs.declared.words.CommandWord.TheVariants.{Put}
use Rattle.kmem_text.specs.declared.spelling.LineFault.{LineFault}
use Rattle.kmem_text.specs.declared.spelling.LineFault.TheVariants.{Worker, Command, Words}
use Rattle.kmem_text.specs.declared.spelling.SpelledLine.{SpelledLine}

-- an input has at least one part, so a part before others is a line
lines_of_parts : (line : List ℕ) (bytes : List ℕ) (parts : List (List ℕ)) → slice_split (λ byte. byte == 10) bytes ≡ parts → without_empty_last (line ∷ parts) ≡ line ∷ without_empty_last parts
lines_of_parts line bytes [] h = absurd (omega (arith, ap length h, length-slice_split (λ byte. byte == 10) bytes))
lines_of_parts line bytes (next ∷ more) h = refl

-- where the first line feed stands, the input is a line and what stands behind it
pub line_at : (bytes rest : List ℕ) (end : ℕ) → position (λ byte. byte == 10) bytes ≡ Some end → rest ≡ take (length bytes - (end + 1)) (drop (end + 1) bytes) → (lines_of bytes ≡ take end bytes ∷ lines_of rest) × (end < length bytes) × (length rest < length bytes)
line_at bytes rest end h behind =
    let found = cond_some _ _ _ h in
    let first = position_or_len (λ byte. byte == 10) bytes in
    let below : first < length bytes = grind (arith, nat_tests, found.0) in
    let here : first ≡ end = found.1 in
    let cut : slice_split (λ byte. byte == 10) bytes ≡ take end bytes ∷ slice_split (λ byte. byte == 10) (drop (end + 1) bytes) = slice_split_first (λ byte. byte == 10) bytes 0 below ∙ ap (λ n. take n bytes ∷ slice_split (λ byte. byte == 10) (drop (n + 1) bytes)) here in
    let same : rest ≡ drop (end + 1) bytes = behind ∙ take_rest bytes (end + 1) in
    (ap without_empty_last cut ∙ lines_of_parts (take end bytes) (drop (end + 1) bytes) _ refl ∙ ap (λ xs. take end bytes ∷ lines_of xs) (sym same), omega (arith, here, below), omega (arith, ap length same, length-drop (end + 1) bytes, here, below))

-- where there is none, it is one line
pub last_line : (bytes : List ℕ) → position (λ byte. byte == 10) bytes ≡ None → 0 < length bytes → lines_of bytes ≡ bytes ∷ []
last_line bytes h some =
    let first = position_or_len (λ byte. byte == 10) bytes in
    let past : length bytes ≤ first = grind (arith, nat_tests) in
    let full : (length bytes == 0) ≡ false = grind (arith, nat_tests) in
    ap without_empty_last (slice_split_none (λ byte. byte == 10) bytes (λ k d small. fails_before_first (λ byte. byte == 10) bytes k d (omega arith))) ∙ ap (λ b. cond b [] (bytes ∷ [])) full

either_way : (first len : ℕ) → first ≤ len → unwrap_or (cond (nat_lt first len) (Some first) None) len ≡ first
either_way first len below = grind (arith, nat_tests)

-- the place of the first that passes, or the length
pub position_or : (p : ℕ → Bool) (xs : List ℕ) → unwrap_or (position p xs) (length xs) ≡ position_or_len p xs
position_or p xs = either_way (position_or_len p xs) (length xs) (prefix_len-le-length (λ x. not (p x)) xs)

-- tokens that aren't empty
abbrev is_token : List ℕ → Bool
is_token token = nat_lt 0 (length token)

token_with : (b : ℕ) (bs : List ℕ) → is_token (b ∷ bs) ≡ true
token_with b bs = grind (arith, nat_tests)

-- where a first blank or a first byte of a token stands, behind one byte more
first_here : (p : ℕ → Bool) (y : ℕ) (ys : List ℕ) → p y ≡ true → position_or_len p (y ∷ ys) ≡ 0
first_here p y ys e = ap (λ b. cond (not b) (1 + position_or_len p ys) 0) e

first_behind : (p : ℕ → Bool) (y : ℕ) (ys : List ℕ) → p y ≡ false → position_or_len p (y ∷ ys) ≡ suc (position_or_len p ys)
first_behind p y ys e = ap (λ b. cond (not b) (1 + position_or_len p ys) 0) e ∙ omega arith

-- what stands before the first blank, and the parts behind it
split_at_blank : (ys : List ℕ) → (more : List (List ℕ)) × (slice_split is_blank ys ≡ take (position_or_len is_blank ys) ys ∷ more) × (filter is_token more ≡ tokens_in (drop (position_or_len is_blank ys) ys))
split_at_blank [] = ([], refl, refl)
split_at_blank (y ∷ ys) =
    elim (is_blank y) as (λ b. is_blank y ≡ b → (more : List (List ℕ)) × (slice_split is_blank (y ∷ ys) ≡ take (position_or_len is_blank (y ∷ ys)) (y ∷ ys) ∷ more) × (filter is_token more ≡ tokens_in (drop (position_or_len is_blank (y ∷ ys)) (y ∷ ys)))) [
      | true ↦ λ e. (
        slice_split is_blank ys,
        slice_split-cons_yes is_blank y ys e ∙ ap (λ n. take n (y ∷ ys) ∷ slice_split is_blank ys) (sym (first_here is_blank y ys e)),
        sym (ap (filter is_token) (slice_split-cons_yes is_blank y ys e)) ∙ ap (λ n. tokens_in (drop n (y ∷ ys))) (sym (first_here is_blank y ys e)),
      )
      | false ↦ λ e. let rest = split_at_blank ys in (
        rest.0,
        slice_split-cons_no is_blank y ys e ∙ ap (onto_first y) rest.1 ∙ ap (λ n. take n (y ∷ ys) ∷ rest.0) (sym (first_behind is_blank y ys e)),
        rest.2 ∙ ap (λ n. tokens_in (drop n (y ∷ ys))) (sym (first_behind is_blank y ys e)),
      )
    ] refl

-- blanks before the first token change no token
skip_blanks : (line : List ℕ) → tokens_in line ≡ tokens_in (drop (position_or_len (λ byte. not (is_blank byte)) line) line)
skip_blanks [] = refl
skip_blanks (y ∷ ys) =
    elim (is_blank y) as (λ b. is_blank y ≡ b → tokens_in (y ∷ ys) ≡ tokens_in (drop (position_or_len (λ byte. not (is_blank byte)) (y ∷ ys)) (y ∷ ys))) [
      | true ↦ λ e. ap (filter is_token) (slice_split-cons_yes is_blank y ys e) ∙ skip_blanks ys ∙ ap (λ n. tokens_in (drop n (y ∷ ys))) (sym (first_behind (λ byte. not (is_blank byte)) y ys (ap not e)))
      | false ↦ λ e. ap (λ n. tokens_in (drop n (y ∷ ys))) (sym (first_here (λ byte. not (is_blank byte)) y ys (ap not e)))
    ] refl

-- the bytes are none, or the first is no blank
abbrev BeginsToken : List ℕ → Type 0
BeginsToken [] = Unit {0}
BeginsToken (b ∷ bs) = is_blank b ≡ false

begins_token : (line : List ℕ) → BeginsToken (drop (position_or_len (λ byte. not (is_blank byte)) line) line)
begins_token [] = tt
begins_token (y ∷ ys) =
    elim (is_blank y) as (λ b. is_blank y ≡ b → BeginsToken (drop (position_or_len (λ byte. not (is_blank byte)) (y ∷ ys)) (y ∷ ys))) [
      | true ↦ λ e. subst (λ n. BeginsToken (drop n (y ∷ ys))) (sym (first_behind (λ byte. not (is_blank byte)) y ys (ap not e))) (begins_token ys)
      | false ↦ λ e. subst (λ n. BeginsToken (drop n (y ∷ ys))) (sym (first_here (λ byte. not (is_blank byte)) y ys (ap not e))) e
    ] refl

-- the first token of bytes that begin with one
cuts_front : (line xs : List ℕ) → tokens_in line ≡ tokens_in xs → length xs ≤ length line → BeginsToken xs → Cuts line (take (position_or_len is_blank xs) xs) (drop (position_or_len is_blank xs) xs)
cuts_front line [] same short begins = same
cuts_front line (b ∷ bs) same short begins =
    let rest = split_at_blank bs in
    let m : ℕ = position_or_len is_blank bs in
    let token : filter is_token ((b ∷ take m bs) ∷ rest.0) ≡ (b ∷ take m bs) ∷ filter is_token rest.0 = ap (λ t. cond t ((b ∷ take m bs) ∷ filter is_token rest.0) (filter is_token rest.0)) (token_with b (take m bs)) in
    let tokens : tokens_in line ≡ (b ∷ take m bs) ∷ tokens_in (drop m bs) = same ∙ ap (filter is_token) (slice_split-cons_no is_blank b bs begins ∙ ap (onto_first b) rest.1) ∙ token ∙ ap (λ ts. (b ∷ take m bs) ∷ ts) rest.2 in
    subst (λ n. Cuts line (take n (b ∷ bs)) (drop n (b ∷ bs))) (sym (first_behind is_blank b bs begins)) (tokens, omega (arith, length-drop m bs))

-- the first token of a line, and what stands behind it
pub cuts : (line token : List ℕ) (start end : ℕ) → start ≡ position_or_len (λ byte. not (is_blank byte)) line → token ≡ take (length line - start) (drop start line) → end ≡ position_or_len is_blank token → Cuts line (take end token) (drop end token)
cuts line token start end at is count =
    let same : token ≡ drop (position_or_len (λ byte. not (is_blank byte)) line) line = is ∙ take_rest line start ∙ ap (λ n. drop n line) at in
    subst (λ n. Cuts line (take n token) (drop n token)) (sym count) (cuts_front line token (skip_blanks line ∙ ap tokens_in (sym same)) (omega (arith, ap length same, length-drop (position_or_len (λ byte. not (is_blank byte)) line) line)) (subst BeginsToken (sym same) (begins_token line)))

-- what a token that isn't empty, and an empty one, say
pub cuts_some : (line token rest : List ℕ) → Cuts line token rest → (length token == 0) ≡ false → (tokens_in line ≡ token ∷ tokens_in rest) × (length rest < length line)
cuts_some line [] rest h some = absurd (false≢true (sym some))
cuts_some line (b ∷ bs) rest h some = h

-- one token more is taken
pub token_more : (front : List (List ℕ)) (token : List ℕ) (behind more all : List (List ℕ)) (n : ℕ) → n < 5 → behind ≡ token ∷ more → front ++ take (5 - n) behind ≡ all → (front ++ token ∷ []) ++ take (5 - (n + 1)) more ≡ all
token_more front token behind more all n small is h =
    let one : 5 - n ≡ suc (5 - (n + 1)) = omega arith in
    append_assoc front (token ∷ []) (take (5 - (n + 1)) more) ∙ ap (λ k. front ++ take k (token ∷ more)) (sym one) ∙ ap (λ ts. front ++ take (5 - n) ts) (sym is) ∙ h

-- the same, as the tokens stand in memory
pub more_tokens : (front longer : List (Bor (List ℕ))) (token : Bor (List ℕ)) (behind more all : List (List ℕ)) → longer ≡ front ++ token ∷ [] → length front < 5 → behind ≡ token.now ∷ more → map (λ (t : Bor (List ℕ)). t.now) front ++ take (5 - length front) behind ≡ all → map (λ (t : Bor (List ℕ)). t.now) longer ++ take (5 - length longer) more ≡ all
more_tokens front longer token behind more all put small is h =
    let size : length (front ++ token ∷ []) ≡ length front + 1 = omega (arith, length-append front (token ∷ [])) in
    ap (λ xs. map (λ (t : Bor (List ℕ)). t.now) xs ++ take (5 - length xs) more) put
    ∙ ap (λ xs. xs ++ take (5 - length (front ++ token ∷ [])) more) (map-append (λ (t : Bor (List ℕ)). t.now) front (token ∷ []))
    ∙ ap (λ n. (map (λ (t : Bor (List ℕ)). t.now) front ++ token.now ∷ []) ++ take (5 - n) more) size
    ∙ token_more (map (λ (t : Bor (List ℕ)). t.now) front) token.now behind more all (length front) small is h

-- three tokens behind a word are too many
too_many : (w : CommandWord) (c d e : List ℕ) (more : List (List ℕ)) → further_of w (c ∷ d ∷ e ∷ more) ≡ Err Words
too_many Put c d e more = refl
too_many _ c d e more = refl

too_many_of : (w : Option CommandWord) (c d e : List ℕ) (more : List (List ℕ)) → (or_fault Command w >>= λ w. further_of w (c ∷ d ∷ e ∷ [])) ≡ (or_fault Command w >>= λ w. further_of w (c ∷ d ∷ e ∷ more))
too_many_of None c d e more = refl
too_many_of (Some w) c d e more = too_many w c d e [] ∙ sym (too_many w c d e more)

-- the first five tokens tell what all do
pub few_tokens : (workers : ℕ) (tokens : List (List ℕ)) → spelled_of workers (take 5 tokens) ≡ spelled_of workers tokens
few_tokens workers [] = refl
few_tokens workers (a ∷ []) = refl
few_tokens workers (a ∷ b ∷ []) = refl
few_tokens workers (a ∷ b ∷ c ∷ []) = refl
few_tokens workers (a ∷ b ∷ c ∷ d ∷ []) = refl
few_tokens workers (a ∷ b ∷ c ∷ d ∷ e ∷ more) = ap (λ r. if holds_command (a ∷ []) then ((or_fault Worker (number_within 1 workers a) >>= λ w. (r >>= λ command. Ok (record { worker = w; command = command }))) >>= λ line. Ok (Some line)) else Ok None) (too_many_of (word_of b) c d e more)

-- what five tokens of a line tell
pub spelled_some : (workers : ℕ) (found : Option SpelledLine) (x : SpelledLine) (tokens : List (List ℕ)) (line : List ℕ) → found ≡ Some x → Ok found ≡ spelled_of workers tokens → tokens ≡ take 5 (tokens_of line) → Ok (Some x) ≡ spelled_of workers (tokens_of line)
spelled_some workers found x tokens line is told five = ap Ok (sym is) ∙ told ∙ ap (spelled_of workers) five ∙ few_tokens workers (tokens_of line)

pub spelled_none : (workers : ℕ) (found : Option SpelledLine) (tokens : List (List ℕ)) (line : List ℕ) → found ≡ None → Ok found ≡ spelled_of workers tokens → tokens ≡ take 5 (tokens_of line) → Ok None ≡ spelled_of workers (tokens_of line)
spelled_none workers found tokens line is told five = ap Ok (sym is) ∙ told ∙ ap (spelled_of workers) five ∙ few_tokens workers (tokens_of line)

pub spelled_fault : (workers : ℕ) (fault : LineFault) (tokens : List (List ℕ)) (line : List ℕ) → Err fault ≡ spelled_of workers tokens → tokens ≡ take 5 (tokens_of line) → Err fault ≡ spelled_of workers (tokens_of line)
spelled_fault workers fault tokens line told five = told ∙ ap (spelled_of workers) five ∙ few_tokens workers (tokens_of line)

empty_of : (bytes : List ℕ) → (length bytes == 0) ≡ true → bytes ≡ []
empty_of [] h = refl
empty_of (b ∷ bytes) h = absurd (grind (arith, nat_tests))

-- a good line changes no fault behind it
pub line_good : (workers number : ℕ) (lines behind : List (List ℕ)) (line : List ℕ) (found : Option SpelledLine) (all : Option (ℕ × LineFault)) → lines ≡ line ∷ behind → Ok found ≡ spelled_of workers (tokens_of line) → first_bad workers (number + 1) lines ≡ all → first_bad workers (number + 1 + 1) behind ≡ all
line_good workers number lines behind line found all cut is so_far = ap (λ r. fault_or (number + 1) r (first_bad workers (number + 1 + 1) behind)) is ∙ sym (ap (first_bad workers (number + 1)) cut) ∙ so_far

-- a line with a fault is the first bad one
pub line_bad : (workers number : ℕ) (lines behind : List (List ℕ)) (line : List ℕ) (fault : LineFault) (all : Option (ℕ × LineFault)) → lines ≡ line ∷ behind → Err fault ≡ spelled_of workers (tokens_of line) → first_bad workers (number + 1) lines ≡ all → all ≡ Some (number + 1, fault)
line_bad workers number lines behind line fault all cut is so_far = sym so_far ∙ ap (first_bad workers (number + 1)) cut ∙ sym (ap (λ r. fault_or (number + 1) r (first_bad workers (number + 1 + 1) behind)) is)

-- the lines kept are the first of those so far, and with those that are left these are all
abbrev pub KeepsFirst : List SpelledLine → List SpelledLine → List SpelledLine → Type 0
KeepsFirst kept left all = (front : List SpelledLine) × (kept ≡ take 100001 front) × (front ++ left ≡ all)

take_again : (front : List SpelledLine) (line : SpelledLine) (n : ℕ) → take n (take n front ++ line ∷ []) ≡ take n (front ++ line ∷ [])
take_again front line n =
    elim (cases_lt n (length front)) [
      | inl h ↦ take_at (take n front) (line ∷ []) n (length-take-le n front (omega arith)) ∙ sym (take-append-le n front (line ∷ []) (omega arith))
      | inr h ↦ ap (λ xs. take n (xs ++ line ∷ [])) (take_all n front h)
    ]

-- a line is kept where there is room, and else not
pub kept_with_room : (old : List SpelledLine) (line : SpelledLine) → length old ≤ 100000 → old ++ line ∷ [] ≡ take 100001 (old ++ line ∷ [])
kept_with_room old line few = sym (take_all 100001 (old ++ line ∷ []) (omega (arith, length-append old (line ∷ []))))

pub kept_full : (old : List SpelledLine) (line : SpelledLine) → length old ≤ 100001 → 100000 < length old → old ≡ take 100001 (old ++ line ∷ [])
kept_full old line few many = sym (take_at old (line ∷ []) 100001 (omega arith))

-- a command more was found
pub keeps_more : (workers : ℕ) (lines behind : List (List ℕ)) (line : List ℕ) (kept kept' all : List SpelledLine) (found : SpelledLine) → lines ≡ line ∷ behind → Ok (Some found) ≡ spelled_of workers (tokens_of line) → kept' ≡ take 100001 (kept ++ found ∷ []) → KeepsFirst kept (spelled_lines workers lines) all → KeepsFirst kept' (spelled_lines workers behind) all
keeps_more workers lines behind line kept kept' all found cut is put h = (
  h.0 ++ found ∷ [],
  put ∙ ap (λ xs. take 100001 (xs ++ found ∷ [])) h.1 ∙ take_again h.0 found 100001,
  append_assoc h.0 (found ∷ []) (spelled_lines workers behind) ∙ ap (λ r. h.0 ++ (found_in r ++ spelled_lines workers behind)) is ∙ ap (λ ls. h.0 ++ spelled_lines workers ls) (sym cut) ∙ h.2,
)

-- a line without a command
pub keeps_same : (workers : ℕ) (lines behind : List (List ℕ)) (line : List ℕ) (kept all : List SpelledLine) → lines ≡ line ∷ behind → Ok None ≡ spelled_of workers (tokens_of line) → KeepsFirst kept (spelled_lines workers lines) all → KeepsFirst kept (spelled_lines workers behind) all
keeps_same workers lines behind line kept all cut is h =
    (h.0, h.1, ap (λ r. h.0 ++ (found_in r ++ spelled_lines workers behind)) is ∙ ap (λ ls. h.0 ++ spelled_lines workers ls) (sym cut) ∙ h.2)

-- at the end
pub keeps_all : (kept all : List SpelledLine) → length kept ≤ 100000 → KeepsFirst kept [] all → kept ≡ all
keeps_all kept all few h =
    let size : length kept ≡ min 100001 (length h.0) = ap length h.1 ∙ length-take 100001 h.0 in
    h.1 ∙ take_all 100001 h.0 (omega (arith, size)) ∙ sym (append-nil h.0) ∙ h.2

pub keeps_too_many : (kept all : List SpelledLine) → 100000 < length kept → KeepsFirst kept [] all → 100000 < length all
keeps_too_many kept all many h =
    let size : length kept ≡ min 100001 (length h.0) = ap length h.1 ∙ length-take 100001 h.0 in
    omega (arith, size, ap length (sym (append-nil h.0) ∙ h.2))

pub keeps_at_end : (workers : ℕ) (rest : List ℕ) (kept all : List SpelledLine) → (length rest == 0) ≡ true → KeepsFirst kept (spelled_lines workers (lines_of rest)) all → KeepsFirst kept [] all
keeps_at_end workers rest kept all none h = subst (λ xs. KeepsFirst kept (spelled_lines workers (lines_of xs)) all) (empty_of rest none) h

pub good_at_end : (workers number : ℕ) (rest : List ℕ) (all : Option (ℕ × LineFault)) → (length rest == 0) ≡ true → first_bad workers number (lines_of rest) ≡ all → all ≡ None
good_at_end workers number rest all none h = sym h ∙ ap (λ xs. first_bad workers number (lines_of xs)) (empty_of rest none)
