-- Replies put into a page, one behind the other.
use Rattle.std.proofs.Common.{◌≡◌, ℕ, ◌+◌, ◌≤◌, ◌<◌, List, [], ◌∷◌, ◌++◌, length, take, drop, refl, Some, None, sym, ap, ◌∙◌, subst, arith, append_assoc, length-append, length-take-le, set, get_or, Option}
use Rattle.std.proofs.lemmas.List.{append-nil}
use Rattle.std.proofs.lemmas.List.{take-take, take_at, take_more, take_more_set, drop_more}
use Rattle.std.specs.Io.KnownBytes.{Appends}
use Rattle.kmem_io.specs.Streams.{AppendsFront, Appends-then, AppendsFront-behind}
use Rattle.kmem_text.specs.declared.command.Line.{Line}
use Rattle.kmem_text.specs.Replies.{reply_text}
use Rattle.kmem_model.specs.One.{one_step}
use Rattle.kmem_model.specs.OneRun.{OneRun, line_run, replies, lines_run, reply_lines, history_of}
use Rattle.kmem_model.specs.History.{IsFullExactly}
use Rattle.run_one.specs.Pages.{MovesOut}

regroup : (a b c d e : List ℕ) → (a ++ b) ++ ((c ++ d) ++ e) ≡ a ++ ((b ++ c) ++ (d ++ e))
regroup a b c d e = append_assoc a b ((c ++ d) ++ e) ∙ ap (λ xs. a ++ xs) (ap (λ xs. b ++ xs) (append_assoc c d e) ∙ sym (append_assoc b c (d ++ e)))

-- a text of n bytes at the front of what is put at a place
pub text_at : (page put text rest : List ℕ) (at n k : ℕ) → take (at + k) put ≡ take at page ++ (text ++ rest) → at ≤ length page → n ≡ length text → n ≤ k → take (at + n) put ≡ take at page ++ text
text_at page put text rest at n k whole small size fits =
    let start : length (take at page ++ text) ≡ at + n = length-append (take at page) text ∙ omega (arith, length-take-le at page small, size) in
    sym (take-take (at + n) (at + k) put (omega arith)) ∙ ap (take (at + n)) (whole ∙ sym (append_assoc (take at page) text rest)) ∙ take_at (take at page ++ text) rest (at + n) start

-- and a byte behind it
pub line_at : (page put text rest : List ℕ) (at n k : ℕ) (byte : ℕ) → take (at + k) put ≡ take at page ++ (text ++ rest) → at ≤ length page → n ≡ length text → n ≤ k → at + n < length put → take (at + n + 1) (set put (at + n) byte) ≡ take at page ++ (text ++ byte ∷ [])
line_at page put text rest at n k byte whole small size fits room =
    take_more_set put (at + n) byte room ∙ ap (λ xs. xs ++ byte ∷ []) (text_at page put text rest at n k whole small size fits) ∙ append_assoc (take at page) text (byte ∷ [])

-- one reply more stands in the page
pub one_more : (a b c : Option (List ℕ)) (all page kept page' line rest rest' : List ℕ) → MovesOut a b all (page ++ rest) → MovesOut b c page kept → page' ≡ kept ++ line → rest ≡ line ++ rest' → MovesOut a c all (page' ++ rest')
one_more a b c all page kept page' line rest rest' p q put next = (
  p.0 ++ q.0,
  Appends-then a b c p.0 q.0 p.1 q.1,
  ap (λ xs. (p.0 ++ q.0) ++ (xs ++ rest')) put ∙ regroup p.0 q.0 kept line rest' ∙ ap (λ xs. p.0 ++ (xs ++ (line ++ rest'))) q.2 ∙ ap (λ xs. p.0 ++ (page ++ xs)) (sym next) ∙ p.2,
)

-- what was kept is written too
pub last_moved : (a b c : Option (List ℕ)) (all page rest : List ℕ) → MovesOut a b all (page ++ rest) → AppendsFront b c page → AppendsFront a c all
last_moved a b c all page rest p q = AppendsFront-behind a b c p.0 page rest all p.1 p.2 q

-- the replies to the lines from a place on begin with the reply to the line there
pub next_reply : (every : Option ℕ) (names : List (List ℕ)) (run : OneRun) (lines : List Line) (i : ℕ) (line : Line) → i < length lines → line ≡ get_or lines i line →
    reply_lines names (replies every (i + 1) run (drop i lines)) ≡ (reply_text names (one_step run.state line.worker line.command).reply ++ 10 ∷ []) ++ reply_lines names (replies every (i + 1 + 1) (line_run every (i + 1) run line) (drop (i + 1) lines))
next_reply every names run lines i line small is = ap (λ ls. reply_lines names (replies every (i + 1) run ls)) (drop_more lines i line small ∙ ap (λ (l : Line). l ∷ drop (i + 1) lines) (sym is))

-- and so do the runs
pub next_run : (every : Option ℕ) (run : OneRun) (lines : List Line) (i : ℕ) (line : Line) → i < length lines → line ≡ get_or lines i line →
    lines_run every (i + 1) run (drop i lines) ≡ lines_run every (i + 1 + 1) (line_run every (i + 1) run line) (drop (i + 1) lines)
next_run every run lines i line small is = ap (λ ls. lines_run every (i + 1) run ls) (drop_more lines i line small ∙ ap (λ (l : Line). l ∷ drop (i + 1) lines) (sym is))

-- and what holds of the history from a place on, where it goes on by the line there
pub next_full : (every : Option ℕ) (capacity : ℕ) (run : OneRun) (lines : List Line) (i : ℕ) (line : Line) → i < length lines → line ≡ get_or lines i line →
    (IsFullExactly capacity (line_run every (i + 1) run line).state.map (history_of every (i + 1 + 1) (line_run every (i + 1) run line) (take i lines ++ line ∷ []) (drop (i + 1) lines)) →
    IsFullExactly capacity run.state.map (history_of every (i + 1) run (take i lines) (line ∷ drop (i + 1) lines))) →
    IsFullExactly capacity (line_run every (i + 1) run line).state.map (history_of every (i + 1 + 1) (line_run every (i + 1) run line) (take (i + 1) lines) (drop (i + 1) lines)) →
    IsFullExactly capacity run.state.map (history_of every (i + 1) run (take i lines) (drop i lines))
next_full every capacity run lines i line small is on after =
    subst (λ ls. IsFullExactly capacity run.state.map (history_of every (i + 1) run (take i lines) ls)) (sym (drop_more lines i line small ∙ ap (λ (l : Line). l ∷ drop (i + 1) lines) (sym is)))
    (on
    (subst (λ front. IsFullExactly capacity (line_run every (i + 1) run line).state.map (history_of every (i + 1 + 1) (line_run every (i + 1) run line) front (drop (i + 1) lines)))
    (take_more lines i line small ∙ ap (λ (l : Line). take i lines ++ l ∷ []) (sym is)) after))

-- a text that n bytes hold is no longer
pub no_longer : (put text rest : List ℕ) (n : ℕ) → put ≡ text ++ rest → length put ≡ n → length text ≤ n
no_longer put text rest n is size = omega (arith, ap length is, length-append text rest, size)

-- and where all of it is written, all is
pub last_whole : (a b c : Option (List ℕ)) (all page : List ℕ) → MovesOut a b all page → Appends b c page → Appends a c all
last_whole a b c all page p q = subst (Appends a c) p.2 (Appends-then a b c p.0 page p.1 q)

-- nothing is written yet
pub nothing_moved : (a : Option (List ℕ)) (all : List ℕ) → MovesOut a a all all
nothing_moved a all = ([], nothing a, refl)
  where
    nothing : (b : Option (List ℕ)) → Appends b b []
    nothing None = tt
    nothing (Some xs) = sym (append-nil xs)
