-- Each name of the script that lines are stands in one of its commands.
use Rattle.std.proofs.Common.{◌≡◌, true, ℕ, ◌<◌, ◌≤◌, suc, List, [], ◌∷◌, Ordering, length, get_or, map, refl, sym, ap, ◌∙◌, subst, arith}
use Rattle.std.specs.declared.cmp.Ordering.TheVariants.{Equal}
use Rattle.std.specs.List.{fold, flat_map, All, AllByRecursion, Any, Contains}
use Rattle.std.specs.List.Sorted.{IsStrictlySortedBy}
use Rattle.std.specs.Ordering.{nat_cmp}
use Rattle.std.specs.Cmp.{tied_itself}
use Rattle.std.specs.Cmp.Lexicographic.{slice_cmp, nat_list_cmp_total}
use Rattle.std.specs.BTreeSet.{insert_key}
use Rattle.std.proofs.lemmas.List.{get_or_default, get_or-map, length-map}
use Rattle.std.proofs.lemmas.List.Elements.{All-nil, All-cons, All-append, All-contains_itself, recursion_from_All}
use Rattle.std.proofs.lemmas.Map.Views.{All-insert_key}
use Rattle.kmem_text.specs.Grammar.{Plain, in_order, named, place_of, placed, IsWithinNames, IsWithinTags}
use Rattle.kmem_text.specs.Texts.{is_name}
use Rattle.kmem_text.specs.Layout.{IsGoodCommand}
use Rattle.kmem_text.specs.Scripts.{places_in, IsUsed, IsScript, IsWithValue}
use Rattle.kmem_text.specs.declared.command.Line.{Line}
use Rattle.kmem_text.specs.declared.spelling.Spelled.{Spelled}
use Rattle.kmem_text.specs.declared.spelling.Spelled.TheVariants.{Put, Get, Del, First, Next, Count, Link, Hold, Read, Write, Drop, Fix, Loose}
use Rattle.kmem_text.specs.declared.spelling.SpelledLine.{SpelledLine}
use Rattle.kmem_text.proofs.Places.{place_found, length-in_order}

-- the order of names
abbrev by_bytes : List ℕ → List ℕ → Ordering
by_bytes = slice_cmp nat_cmp

-- some line names the name
abbrev IsNamed : List SpelledLine → List ℕ → Type 0
IsNamed lines name = Any (λ (line : SpelledLine). Contains (named line.command) name) lines

All-weaker : {X : Type 0} (P Q : X → Type 0) (xs : List X) → ((x : X) → P x → Q x) → All P xs → All Q xs
All-weaker P Q xs f h = λ k d small. f (get_or xs k d) (h k d small)

-- what is put in comes from the names or from those before
All-inserts : (P : List ℕ → Type 0) (names more : List (List ℕ)) → All P names → AllByRecursion P more → All P (fold (insert_key by_bytes) names more)
All-inserts P names [] h k = h
All-inserts P names (x ∷ more) h k = All-inserts P (insert_key by_bytes names x) more (All-insert_key by_bytes x P names h k.0) k.1

no_name : All (λ n. is_name n ≡ true) []
no_name = All-nil (λ n. is_name n ≡ true)

one_name : (n : List ℕ) → is_name n ≡ true → All (λ x. is_name x ≡ true) (n ∷ [])
one_name n h = All-cons (λ x. is_name x ≡ true) n [] h no_name

-- one line more in front
named_still : (line : SpelledLine) (lines : List SpelledLine) (name : List ℕ) → IsNamed lines name → IsNamed (line ∷ lines) name
named_still line lines name h = (suc h.0, h.1, omega (arith, h.2), h.3, h.4)

all_named : (lines : List SpelledLine) → All (IsNamed lines) (flat_map (λ line. named line.command) lines)
all_named [] = All-nil (IsNamed [])
all_named (line ∷ lines) =
    All-append (IsNamed (line ∷ lines)) (named line.command) (flat_map (λ line. named line.command) lines)
    (All-weaker (Contains (named line.command)) (IsNamed (line ∷ lines)) (named line.command) (λ name h. (0, line, omega arith, refl, h)) (All-contains_itself (named line.command)))
    (All-weaker (IsNamed lines) (IsNamed (line ∷ lines)) (flat_map (λ line. named line.command) lines) (named_still line lines) (all_named lines))

-- each of the names in order is named by some line
each_named : (lines : List SpelledLine) → All (IsNamed lines) (in_order (flat_map (λ line. named line.command) lines))
each_named lines =
    let more = flat_map (λ (line : SpelledLine). named line.command) lines in
    All-inserts (IsNamed lines) [] more (All-nil (IsNamed lines)) (recursion_from_All (IsNamed lines) more (all_named lines))

Contains-map : {X Y : Type 0} (f : X → Y) (xs : List X) (x : X) → Contains xs x → Contains (map f xs) (f x)
Contains-map f xs x h = (h.0, simp length-map h.1, get_or-map f xs h.0 x (f x) h.1 ∙ ap f h.2)

places_placed : (names : List (List ℕ)) (command : Spelled) → places_in (placed names command) ≡ map (λ n. (place_of names n).0) (named command)
places_placed names (Put n v) = refl
places_placed names (Get n) = refl
places_placed names (Del n) = refl
places_placed names First = refl
places_placed names (Next n) = refl
places_placed names Count = refl
places_placed names (Link n m) = refl
places_placed names (Hold t n) = refl
places_placed names (Read t) = refl
places_placed names (Write t v) = refl
places_placed names (Drop t) = refl
places_placed names (Fix n) = refl
places_placed names (Loose n) = refl

placed_uses : (names : List (List ℕ)) (command : Spelled) (name : List ℕ) (place : ℕ) → Contains (named command) name → (place_of names name).0 ≡ place → Contains (places_in (placed names command)) place
placed_uses names command name place h is =
    subst (λ (ps : List ℕ). Contains ps place) (sym (places_placed names command))
    (subst (λ (p : ℕ). Contains (map (λ n. (place_of names n).0) (named command)) p) is (Contains-map (λ n. (place_of names n).0) (named command) name h))

-- a name that some line names is used where it stands
pub all_used : (names : List (List ℕ)) (lines : List SpelledLine) → IsStrictlySortedBy by_bytes names → names ≡ in_order (flat_map (λ line. named line.command) lines) → (place : ℕ) → place < length names → IsUsed (map (λ line. record { worker = line.worker; command = placed names line.command }) lines) place
all_used names lines sorted are place small =
    let name : List ℕ = get_or names place [] in
    let found : IsNamed lines name = subst (λ (ns : List (List ℕ)). All (IsNamed lines) ns) (sym are) (each_named lines) place [] small in
    let ties : (d : List ℕ) → by_bytes (get_or names place d) name ≡ Equal = λ d. subst (λ (x : List ℕ). by_bytes x name ≡ Equal) (get_or_default names place [] d small) (tied_itself nat_list_cmp_total name) in
    let at : place ≡ (place_of names name).0 = place_found names name place sorted small ties in
    let line_of : SpelledLine → Line = λ line. record { worker = line.worker; command = placed names line.command } in
    (found.0, line_of found.1, simp length-map found.2, get_or-map line_of lines found.0 found.1 (line_of found.1) found.2 ∙ ap line_of found.3, placed_uses names found.1.command name place found.4 (sym at))

-- the worker of a line stays when its names are placed
workers_placed : (most : ℕ) (names : List (List ℕ)) (lines : List SpelledLine) → All (λ (line : SpelledLine). (0 < line.worker) × (line.worker ≤ most)) lines → All (λ (line : Line). (0 < line.worker) × (line.worker ≤ most)) (map (λ line. record { worker = line.worker; command = placed names line.command }) lines)
workers_placed most names lines h = λ k d small.
    let below : k < length lines = simp length-map at small in
    let line_of : SpelledLine → Line = λ line. record { worker = line.worker; command = placed names line.command } in
    let none : SpelledLine = record { worker = 0; command = First } in
    subst (λ (line : Line). (0 < line.worker) × (line.worker ≤ most)) (sym (get_or-map line_of lines k none d below)) (h k none below)

-- the names of good commands are names
names_good : (command : Spelled) → IsGoodCommand command → All (λ n. is_name n ≡ true) (named command)
names_good (Put n v) h = one_name n h.0
names_good (Get n) h = one_name n h
names_good (Del n) h = one_name n h
names_good First h = no_name
names_good (Next n) h = one_name n h
names_good Count h = no_name
names_good (Link n m) h = All-cons (λ x. is_name x ≡ true) n (m ∷ []) h.0 (one_name m h.1)
names_good (Hold t n) h = one_name n h.1
names_good (Read t) h = no_name
names_good (Write t v) h = no_name
names_good (Drop t) h = no_name
names_good (Fix n) h = one_name n h
names_good (Loose n) h = one_name n h

lines_good : (lines : List SpelledLine) → AllByRecursion (λ (line : SpelledLine). IsGoodCommand line.command) lines → All (λ n. is_name n ≡ true) (flat_map (λ line. named line.command) lines)
lines_good [] h = no_name
lines_good (line ∷ lines) h = All-append (λ n. is_name n ≡ true) (named line.command) (flat_map (λ line. named line.command) lines) (names_good line.command h.0) (lines_good lines h.1)

all_good : (lines : List SpelledLine) → All (λ (line : SpelledLine). IsGoodCommand line.command) lines → All (λ n. is_name n ≡ true) (in_order (flat_map (λ line. named line.command) lines))
all_good lines h =
    let more = flat_map (λ (line : SpelledLine). named line.command) lines in
    All-inserts (λ n. is_name n ≡ true) [] more no_name
    (recursion_from_All (λ n. is_name n ≡ true) more (lines_good lines (recursion_from_All (λ (line : SpelledLine). IsGoodCommand line.command) lines h)))

-- names and lines that were made of these lines are a script
pub made_whole : (most : ℕ) (lines : List SpelledLine) (script : Plain) → length lines ≤ 100000 → All (λ (line : SpelledLine). (0 < line.worker) × (line.worker ≤ most)) lines
    → IsStrictlySortedBy by_bytes script.names → script.names ≡ in_order (flat_map (λ line. named line.command) lines)
    → script.lines ≡ map (λ line. record { worker = line.worker; command = placed script.names line.command }) lines
    → All (λ (line : Line). IsWithinNames (length script.names) line.command) script.lines → All (λ (line : Line). IsWithinTags line.command) script.lines
    → All (λ (line : Line). IsWithValue line.command) script.lines → All (λ (line : SpelledLine). IsGoodCommand line.command) lines → IsScript most script
made_whole most lines script few workers sorted names are places tags values good = record {
  sorted = sorted;
  named = subst (All (λ n. is_name n ≡ true)) (sym names) (all_good lines good);
  used = λ place small. subst (λ (ls : List Line). IsUsed ls place) (sym are) (all_used script.names lines sorted names place small);
  places = places;
  tags = tags;
  values = values;
  workers = subst (All (λ (line : Line). (0 < line.worker) × (line.worker ≤ most))) (sym are) (workers_placed most script.names lines workers);
  few = omega (arith, few, simp length-map at (ap length are));
  few_names = omega (arith, few, ap length names, length-in_order lines);
}
