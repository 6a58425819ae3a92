-- Names in the order of their bytes: each of them is there, and where.
use Rattle.std.proofs.Common.{◌≡◌, ℕ, ◌+◌, ◌*◌, ◌<◌, ◌≤◌, Bool, true, false, ◌||◌, List, [], ◌∷◌, ◌++◌, Ordering, length, get_or, refl, sym, ap, ◌∙◌, subst, arith, inl, inr, length-append}
use Rattle.std.specs.declared.cmp.Ordering.TheVariants.{Less, Equal, Greater}
use Rattle.std.specs.List.{fold, flat_map, list_any, position_or_len, All, AllByRecursion, HoldsAt}
use Rattle.std.specs.List.Sorted.{IsStrictlySortedBy, IsSortedBy, IsPartitionPoint}
use Rattle.std.specs.Ordering.{nat_cmp, is_eq, is_lt, match_ordering, ordering_reverse}
use Rattle.std.specs.Cmp.{tied_itself}
use Rattle.std.specs.Cmp.Lexicographic.{slice_cmp, nat_list_cmp_total}
use Rattle.std.specs.FinMap.{slice_cmp-IsAntisymmetric, nat_cmp-IsAntisymmetric}
use Rattle.std.specs.BTreeSet.{insert_key}
use Rattle.std.specs.BTreeMap.{is_at}
use Rattle.std.proofs.lemmas.Bool.{true≢false, cases_lt}
use Rattle.std.proofs.Math.Bool.{or-true}
use Rattle.std.proofs.lemmas.List.Folds.{list_any_none}
use Rattle.std.proofs.lemmas.Map.Keys.{Less-from_sorted}
use Rattle.std.proofs.lemmas.List.Sums.{position_or_len_is}
use Rattle.std.proofs.lemmas.List.Elements.{All-from_recursion}
use Rattle.kmem_text.specs.Grammar.{in_order, named, IsAmongNames}
use Rattle.kmem_text.specs.declared.spelling.Spelled.{Spelled}
use Rattle.kmem_text.specs.declared.spelling.Spelled.TheVariants.{Put, Get, Del, Next, Link, Hold, Fix, Loose}
use Rattle.kmem_text.specs.declared.spelling.SpelledLine.{SpelledLine}

-- the order of names
abbrev by_bytes : List ℕ → List ℕ → Ordering
by_bytes = slice_cmp nat_cmp

-- what comes before the name or behind it doesn't tie with it
not_below : (y name : List ℕ) → by_bytes y name ≡ Less → is_at (by_bytes name) y ≡ false
not_below y name h = ap is_eq (nat_list_cmp_total.antisymm name y ∙ ap ordering_reverse h)

not_above : (y name : List ℕ) → by_bytes y name ≡ Greater → is_at (by_bytes name) y ≡ false
not_above y name h = ap is_eq (nat_list_cmp_total.antisymm name y ∙ ap ordering_reverse h)

still_behind : (a b c : Bool) → (a || b) ≡ true → (b ≡ true → c ≡ true) → (a || c) ≡ true
still_behind true b c h f = refl
still_behind false b c h f = f h

-- a name is there once it is put in
there_itself : (names : List (List ℕ)) (name : List ℕ) → list_any (is_at (by_bytes name)) (insert_key by_bytes names name) ≡ true
there_itself [] name = ap (λ o. is_eq o || false) (tied_itself nat_list_cmp_total name)
there_itself (x ∷ names) name =
    elim (by_bytes name x) as (λ o. by_bytes name x ≡ o → list_any (is_at (by_bytes name)) (match_ordering o (name ∷ x ∷ names) (x ∷ names) (x ∷ insert_key by_bytes names name)) ≡ true) [
      | Less ↦ λ e. ap (λ o. is_eq o || (is_eq (by_bytes name x) || list_any (is_at (by_bytes name)) names)) (tied_itself nat_list_cmp_total name)
      | Equal ↦ λ e. ap (λ o. is_eq o || list_any (is_at (by_bytes name)) names) e
      | Greater ↦ λ e. ap (λ b. is_eq (by_bytes name x) || b) (there_itself names name) ∙ or-true _
    ] refl

-- and stays there when another is put in
there_still : (names : List (List ℕ)) (name other : List ℕ) → list_any (is_at (by_bytes name)) names ≡ true → list_any (is_at (by_bytes name)) (insert_key by_bytes names other) ≡ true
there_still [] name other h = absurd (true≢false (sym h))
there_still (x ∷ names) name other h =
    elim (by_bytes other x) as (λ o. list_any (is_at (by_bytes name)) (match_ordering o (other ∷ x ∷ names) (x ∷ names) (x ∷ insert_key by_bytes names other)) ≡ true) [
      | Less ↦ ap (λ b. is_eq (by_bytes name other) || b) h ∙ or-true _
      | Equal ↦ h
      | Greater ↦ still_behind (is_eq (by_bytes name x)) (list_any (is_at (by_bytes name)) names) (list_any (is_at (by_bytes name)) (insert_key by_bytes names other)) h (there_still names name other)
    ]

-- what is in none of the names was not put in first
there_after : (names more : List (List ℕ)) (name : List ℕ) → list_any (is_at (by_bytes name)) names ≡ true → list_any (is_at (by_bytes name)) (fold (insert_key by_bytes) names more) ≡ true
there_after names [] name h = h
there_after names (x ∷ more) name h = there_after (insert_key by_bytes names x) more name (there_still names name x h)

all_there : (names more : List (List ℕ)) → AllByRecursion (λ name. list_any (is_at (by_bytes name)) (fold (insert_key by_bytes) names more) ≡ true) more
all_there names [] = tt
all_there names (x ∷ more) = (there_after (insert_key by_bytes names x) more x (there_itself names x), all_there (insert_key by_bytes names x) more)

split_all : (P : List ℕ → Type 0) (xs ys : List (List ℕ)) → AllByRecursion P (xs ++ ys) → AllByRecursion P xs × AllByRecursion P ys
split_all P [] ys h = (tt, h)
split_all P (x ∷ xs) ys h = let rest = split_all P xs ys h.1 in ((h.0, rest.0), rest.1)

-- each of the names is among them in order
pub all_among : (names : List (List ℕ)) → AllByRecursion (IsAmongNames (in_order names)) names
all_among names = all_there [] names

-- an element that ties with the name, of names in order, stands at the name's place
pub place_found : (names : List (List ℕ)) (name : List ℕ) (i : ℕ) → IsStrictlySortedBy by_bytes names → i < length names → HoldsAt (λ y. by_bytes y name ≡ Equal) names i → i ≡ position_or_len (is_at (by_bytes name)) names
place_found names name i sorted small ties =
    let here : get_or names i [] ≡ name = slice_cmp-IsAntisymmetric nat_cmp-IsAntisymmetric _ _ (ties []) in
    let before : (k : ℕ) → k < i → is_at (by_bytes name) (get_or names k []) ≡ false = λ k below. not_below (get_or names k []) name (subst (λ n. by_bytes (get_or names k []) n ≡ Less) here (Less-from_sorted by_bytes names k i [] sorted below small)) in
    let at : is_at (by_bytes name) (get_or names i []) ≡ true = ap (λ n. is_eq (by_bytes name n)) here ∙ ap is_eq (tied_itself nat_list_cmp_total name) in
    sym (position_or_len_is (is_at (by_bytes name)) names i [] (omega arith) before (λ _. at))

-- where no element ties with it, the name is not among them
pub none_found : (names : List (List ℕ)) (name : List ℕ) (i : ℕ) → i ≤ length names → IsPartitionPoint (λ y. by_bytes y name ≡ Less) (λ y. by_bytes y name ≡ Greater) names i → list_any (is_at (by_bytes name)) names ≡ false
none_found names name i small parts = list_any_none (is_at (by_bytes name)) names (λ k d below.
    elim (cases_lt k i) [
      | inl h ↦ not_below (get_or names k d) name (parts.0 k d (omega arith) h)
      | inr h ↦ not_above (get_or names k d) name (parts.1 k d h below)
    ])

-- names in strict order are in order
pub sorted_by : (names : List (List ℕ)) → IsStrictlySortedBy by_bytes names → IsSortedBy (λ a b. is_lt (by_bytes a b)) names
sorted_by names sorted = λ k d low high. ap is_lt (nat_list_cmp_total.antisymm (get_or names (k + 1) d) (get_or names k d) ∙ ap ordering_reverse (Less-from_sorted by_bytes names k (k + 1) d sorted (omega arith) high))

-- putting a name in adds one at the most
length-insert : (names : List (List ℕ)) (name : List ℕ) → length (insert_key by_bytes names name) ≤ length names + 1
length-insert [] name = omega arith
length-insert (x ∷ names) name =
    elim (by_bytes name x) as (λ o. length (match_ordering o (name ∷ x ∷ names) (x ∷ names) (x ∷ insert_key by_bytes names name)) ≤ length (x ∷ names) + 1) [
      | Less ↦ omega arith
      | Equal ↦ omega arith
      | Greater ↦ omega (arith, length-insert names name)
    ]

length-inserts : (names more : List (List ℕ)) → length (fold (insert_key by_bytes) names more) ≤ length names + length more
length-inserts names [] = omega arith
length-inserts names (x ∷ more) = omega (arith, length-inserts (insert_key by_bytes names x) more, length-insert names x)

length-named : (command : Spelled) → length (named command) ≤ 2
length-named (Put n v) = omega arith
length-named (Get n) = omega arith
length-named (Del n) = omega arith
length-named (Next n) = omega arith
length-named (Link n m) = omega arith
length-named (Hold t n) = omega arith
length-named (Fix n) = omega arith
length-named (Loose n) = omega arith
length-named _ = omega arith

length-all_named : (lines : List SpelledLine) → length (flat_map (λ line. named line.command) lines) ≤ 2 * length lines
length-all_named [] = omega arith
length-all_named (line ∷ lines) = simp length-append (omega (arith, length-named line.command, length-all_named lines))

-- lines name two names each at the most
pub length-in_order : (lines : List SpelledLine) → length (in_order (flat_map (λ line. named line.command) lines)) ≤ 2 * length lines
length-in_order lines = omega (arith, length-inserts [] (flat_map (λ line. named line.command) lines), length-all_named lines)

-- what holds of each name of all lines holds of each name of each line
by_lines : (P : List ℕ → Type 0) (lines : List SpelledLine) → AllByRecursion P (flat_map (λ line. named line.command) lines) → AllByRecursion (λ (line : SpelledLine). AllByRecursion P (named line.command)) lines
by_lines P [] h = tt
by_lines P (line ∷ lines) h = let parts = split_all P (named line.command) (flat_map (λ line. named line.command) lines) h in (parts.0, by_lines P lines parts.1)

-- each name of each line is among them in order
pub lines_among : (lines : List SpelledLine) → All (λ (line : SpelledLine). AllByRecursion (IsAmongNames (in_order (flat_map (λ line. named line.command) lines))) (named line.command)) lines
lines_among lines = All-from_recursion _ lines (by_lines (IsAmongNames (in_order (flat_map (λ line. named line.command) lines))) lines (all_among (flat_map (λ line. named line.command) lines)))
