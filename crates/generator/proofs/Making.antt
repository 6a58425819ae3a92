-- What is made of draws: names that are names, values that are values, lines of workers.
use Rattle.std.proofs.Common.{◌≡◌, ◌&&◌, ◌==◌, ℕ, ◌+◌, ◌*◌, ◌/◌, ◌%◌, ◌<◌, ◌≤◌, zero, suc, Bool, true, false, cond, nat_lt, List, [], ◌∷◌, ◌++◌, length, map, Option, Some, None, if◌then◌else◌, refl, sym, ap, ◌∙◌, arith}
use Rattle.std.specs.List.{list_all, range_with_len, All, AllByRecursion}
use Rattle.std.specs.Fmt.{decimal}
use Rattle.std.specs.Str.Parse.{AllDigits}
use Rattle.std.specs.Char.{digit_value}
use Rattle.std.proofs.lemmas.Bool.Decides.{nat_tests}
use Rattle.std.proofs.lemmas.Fmt.{decimal_is_IsNumeral, length-decimal-le}
use Rattle.std.proofs.lemmas.Str.Parse.{digit_from_value}
use Rattle.std.proofs.lemmas.List.Elements.{All-from_recursion}
use Rattle.kmem_text.specs.Texts.{is_within, is_name, is_value, is_name_byte, is_value_byte}
use Rattle.kmem_text.specs.Layout.{IsGoodCommand, IsGoodLine}
use Rattle.kmem_text.specs.declared.spelling.Spelled.{Spelled}
use Rattle.kmem_text.specs.declared.spelling.Spelled.TheVariants.{Put, Link, Hold, Write}
use Rattle.kmem_text.specs.declared.spelling.SpelledLine.{SpelledLine}
use Rattle.std.proofs.lemmas.List.FromFn.{map-range_with_len_more}
use Rattle.std.proofs.Math.Nat.{mod-lt}
use Rattle.kmem_text.specs.Scripts.{IsWorker}
use Rattle.generator.specs.Draws.{draw}
use Rattle.generator.specs.Made.{made_name, put_value, write_value, rare_command, made_command, made_line, made_lines}

both_true : (a b : Bool) → a ≡ true → b ≡ true → (a && b) ≡ true
both_true a b ha hb = grind arith

-- a made name is a name
digit_named : (d : ℕ) → d < 10 → is_name_byte (48 + d) ≡ true
digit_named d small = grind (arith, nat_tests)

name_good : (d : ℕ) → is_name (made_name d) ≡ true
name_good d =
    both_true _ _ (digit_named (d % 256 / 100) (omega arith)) (both_true _ _ (digit_named (d % 256 / 10 % 10) (omega arith))
    (both_true _ _ (digit_named (d % 256 % 10) (omega arith)) refl))

-- the digits of a number show
digit_shown : (c : ℕ) → digit_value c < 10 → is_value_byte c ≡ true
digit_shown c small = let r = digit_from_value c small in grind (arith, nat_tests)

digits_shown : (ds : List ℕ) → AllDigits 10 ds → list_all is_value_byte ds ≡ true
digits_shown [] h = refl
digits_shown (c ∷ ds) h = both_true (is_value_byte c) (list_all is_value_byte ds) (digit_shown c h.0) (digits_shown ds h.1)

-- a letter and a number are a value
pub value_good : (letter n : ℕ) → 97 ≤ letter → letter ≤ 122 → n < 1000000 → is_value (letter ∷ decimal n) ≡ true
value_good letter n low high small =
    let shown = digits_shown (decimal n) ((decimal_is_IsNumeral n (omega (arith, small))).0.1) in
    let short : length (decimal n) ≤ 6 = length-decimal-le 6 n (omega arith) (omega (arith, small)) (omega (arith, small)) in
    let first : is_value_byte letter ≡ true = grind (arith, nat_tests) in
    let size : is_within 1 64 (suc (length (decimal n))) ≡ true = grind (arith, nat_tests) in
    both_true (is_within 1 64 (suc (length (decimal n)))) (list_all is_value_byte (letter ∷ decimal n)) size
    (both_true (is_value_byte letter) (list_all is_value_byte (decimal n)) first shown)

pick_good : (b : Bool) (x y : Spelled) → IsGoodCommand x → IsGoodCommand y → IsGoodCommand (cond b x y)
pick_good true x y hx hy = hx
pick_good false x y hx hy = hy

put_good : (first second : ℕ) → IsGoodCommand (Put (made_name first) (put_value second))
put_good first second = (name_good first, value_good 118 (second % 1000000) (omega arith) (omega arith) (omega arith))

link_good : (first second : ℕ) → IsGoodCommand (Link (made_name first) (made_name second))
link_good first second = (name_good first, name_good second)

hold_good : (first second : ℕ) → IsGoodCommand (Hold (second % 8) (made_name first))
hold_good first second = (omega arith, name_good first)

write_good : (first second : ℕ) → IsGoodCommand (Write (first % 8) (write_value second))
write_good first second = (omega arith, value_good 119 (second / 4 % 1000) (omega arith) (omega arith) (omega arith))

rare_good : (first second : ℕ) → IsGoodCommand (rare_command first second)
rare_good first second =
    let name = name_good first in
    pick_good (second % 4 == 0) _ _ name (pick_good (second % 4 == 1) _ _ name (pick_good (second % 4 == 2) _ _ tt (write_good first second)))

command_good : (chosen first second : ℕ) → IsGoodCommand (made_command chosen first second)
command_good chosen first second =
    let kind = chosen % 16 in
    let name = name_good first in
    let tag : first % 8 < 8 = omega arith in
    pick_good (nat_lt kind 5) _ _ (put_good first second)
    (pick_good (nat_lt kind 8) _ _ name
    (pick_good (nat_lt kind 10) _ _ name
    (pick_good (kind == 10) _ _ name
    (pick_good (kind == 11) _ _ (link_good first second)
    (pick_good (kind == 12) _ _ (hold_good first second)
    (pick_good (kind == 13) _ _ tag
    (pick_good (kind == 14) _ _ tag (rare_good first second))))))))

line_good : (seed workers i : ℕ) → 1 ≤ workers → IsGoodLine workers (made_line seed workers i)
line_good seed workers i some = record {
  least = omega arith;
  most = let below : i % workers < workers = mod-lt i some in omega (arith, below);
  command = command_good (draw seed (3 * i)) (draw seed (3 * i + 1)) (draw seed (3 * i + 2));
}

range_good : (seed workers a n : ℕ) → 1 ≤ workers → AllByRecursion (IsGoodLine workers) (map (made_line seed workers) (range_with_len a n))
range_good seed workers a zero some = tt
range_good seed workers a (suc n) some = (line_good seed workers a some, range_good seed workers (a + 1) n some)

-- each made line is a command of one of the workers
pub lines_good : (seed workers commands : ℕ) → 1 ≤ workers → AllByRecursion (IsGoodLine workers) (made_lines seed workers commands)
lines_good seed workers commands some = range_good seed workers 0 commands some

workers_of : (workers : ℕ) (lines : List SpelledLine) → AllByRecursion (IsGoodLine workers) lines → AllByRecursion (λ (line : SpelledLine). IsWorker workers line.worker) lines
workers_of workers [] h = tt
workers_of workers (line ∷ lines) h = ((h.0.least, h.0.most), workers_of workers lines h.1)

pub made_workers : (seed workers commands : ℕ) → 1 ≤ workers → All (λ (line : SpelledLine). IsWorker workers line.worker) (made_lines seed workers commands)
made_workers seed workers commands some = All-from_recursion _ _ (workers_of workers (made_lines seed workers commands) (lines_good seed workers commands some))

-- the next line of those made so far
pub one_more : (seed workers i : ℕ) (lines : List SpelledLine) (line : SpelledLine) → lines ≡ map (made_line seed workers) (range_with_len 0 i) → line ≡ made_line seed workers i →
    lines ++ line ∷ [] ≡ map (made_line seed workers) (range_with_len 0 (i + 1))
one_more seed workers i lines line so_far is =
    (λ k. so_far k ++ is k ∷ []) ∙ sym (map-range_with_len_more (made_line seed workers) 0 i i (omega arith))

-- a letter and a number are read as a value
pub value_read : (letter n : ℕ) (bytes : List ℕ) (read : Option (List ℕ)) → 97 ≤ letter → letter ≤ 122 → n < 1000000 → bytes ≡ letter ∷ decimal n →
    read ≡ (if is_value bytes then Some bytes else None) → read ≡ Some (letter ∷ decimal n)
value_read letter n bytes read low high small same is =
    is ∙ ap (λ t. if is_value t then Some t else None) same ∙ ap (λ b. if b then Some (letter ∷ decimal n) else None) (value_good letter n low high small)
