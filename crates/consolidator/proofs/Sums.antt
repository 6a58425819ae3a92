-- Counts of moves, and sums of them.
use Rattle.std.proofs.Common.{◌≡◌, ℕ, ◌+◌, ◌-◌, ◌^◌, ◌≤◌, min, cond, ◌++◌, List, [], ◌∷◌, length, refl, sym, ◌∙◌, ap, subst, arith}
use Rattle.std.specs.List.{sum_by}
use Rattle.std.proofs.lemmas.List.Sums.{sum_by-cons}
use Rattle.kmem_model.specs.Settle.{EndedMove}
use Rattle.kmem_model.specs.Report.{is_yes, is_no, is_later, is_dont_need, is_dont_know}
use Rattle.kmem_model.specs.declared.cache_entry.Said.{Said}
use Rattle.kmem_model.specs.declared.cache_entry.Said.TheVariants.{Yes, No, Later, DontNeed, DontKnow}
use Rattle.object_cache.specs.declared.tally.Tally.{Tally}
use Rattle.consolidator.specs.Tallies.{counted, counted_all, tally_of}
use Rattle.consolidator.proofs.Turns.{counted_more}

-- a count that grows with each move by what its answer weighs
abbrev pub CountsBy : (Tally → ℕ) → (Said → ℕ) → Type 0
CountsBy f w = (t : Tally) (said : Said) → f t ≤ 2 ^ 64 - 1 → f (counted t said) ≡ min (f t + w said) (2 ^ 64 - 1)

pub begun_by : CountsBy (λ t. t.begun) (λ said. 1)
begun_by t Yes h = refl
begun_by t No h = refl
begun_by t Later h = refl
begun_by t DontNeed h = refl
begun_by t DontKnow h = refl

pub yes_by : CountsBy (λ t. t.yes) (λ said. cond (is_yes said) 1 0)
yes_by t Yes h = refl
yes_by t No h = omega arith
yes_by t Later h = omega arith
yes_by t DontNeed h = omega arith
yes_by t DontKnow h = omega arith

pub no_by : CountsBy (λ t. t.no) (λ said. cond (is_no said) 1 0)
no_by t Yes h = omega arith
no_by t No h = refl
no_by t Later h = omega arith
no_by t DontNeed h = omega arith
no_by t DontKnow h = omega arith

pub later_by : CountsBy (λ t. t.later) (λ said. cond (is_later said) 1 0)
later_by t Yes h = omega arith
later_by t No h = omega arith
later_by t Later h = refl
later_by t DontNeed h = omega arith
later_by t DontKnow h = omega arith

pub dont_need_by : CountsBy (λ t. t.dont_need) (λ said. cond (is_dont_need said) 1 0)
dont_need_by t Yes h = omega arith
dont_need_by t No h = omega arith
dont_need_by t Later h = omega arith
dont_need_by t DontNeed h = refl
dont_need_by t DontKnow h = omega arith

pub dont_know_by : CountsBy (λ t. t.dont_know) (λ said. cond (is_dont_know said) 1 0)
dont_know_by t Yes h = omega arith
dont_know_by t No h = omega arith
dont_know_by t Later h = omega arith
dont_know_by t DontNeed h = omega arith
dont_know_by t DontKnow h = refl

pub gone_by : CountsBy (λ t. t.gone) (λ said. 0)
gone_by t Yes h = omega arith
gone_by t No h = omega arith
gone_by t Later h = omega arith
gone_by t DontNeed h = omega arith
gone_by t DontKnow h = omega arith

-- Numbers

pub capped : (m cap : ℕ) → min m cap ≤ cap
capped m cap = omega arith

pub cap_twice : (a b c cap : ℕ) → min (min (a + b) cap + c) cap ≡ min (a + (b + c)) cap
cap_twice a b c cap = omega arith

pub cap_none : (a cap : ℕ) → a ≤ cap → a ≡ min (a + 0) cap
cap_none a cap h = omega arith

pub cap_part : (a b cap : ℕ) → min (a + b) cap ≡ min (a + min b cap) cap
cap_part a b cap = omega arith

-- All moves

pub all_by : (f : Tally → ℕ) (w : Said → ℕ) → CountsBy f w → (moves : List EndedMove) (t : Tally) → f t ≤ 2 ^ 64 - 1 →
    f (counted_all t moves) ≡ min (f t + sum_by (λ (move : EndedMove). w move.said) moves) (2 ^ 64 - 1)
all_by f w by [] t h = cap_none (f t) (2 ^ 64 - 1) h
all_by f w by (x ∷ xs) t h =
    let rest = sum_by (λ (move : EndedMove). w move.said) xs in
    let one : f (counted t x.said) ≡ min (f t + w x.said) (2 ^ 64 - 1) = by t x.said h in
    let small : f (counted t x.said) ≤ 2 ^ 64 - 1 = subst (λ n. n ≤ 2 ^ 64 - 1) (sym one) (capped (f t + w x.said) (2 ^ 64 - 1)) in
    all_by f w by xs (counted t x.said) small
    ∙ (ap (λ n. min (n + rest) (2 ^ 64 - 1)) one
    ∙ (cap_twice (f t) (w x.said) rest (2 ^ 64 - 1)
    ∙ ap (λ n. min (f t + n) (2 ^ 64 - 1)) (sym (sum_by-cons (λ (move : EndedMove). w move.said) x xs))))

-- no move
abbrev pub none : Tally
none = record { begun = 0; yes = 0; no = 0; later = 0; dont_need = 0; dont_know = 0; gone = 0 }

pub of_by : (f : Tally → ℕ) (w : Said → ℕ) → CountsBy f w → f none ≡ 0 → (moves : List EndedMove) →
    f (tally_of moves) ≡ min (sum_by (λ (move : EndedMove). w move.said) moves) (2 ^ 64 - 1)
of_by f w by zero moves =
    all_by f w by moves none (subst (λ n. n ≤ 2 ^ 64 - 1) (sym zero) (omega arith))
    ∙ ap (λ n. min n (2 ^ 64 - 1)) (ap (λ n. n + sum_by (λ (move : EndedMove). w move.said) moves) zero ∙ omega arith)

pub sum_is : (f : Tally → ℕ) (w : Said → ℕ) → CountsBy f w → f none ≡ 0 → (xs ys : List EndedMove) →
    f (tally_of (xs ++ ys)) ≡ min (f (tally_of xs) + f (tally_of ys)) (2 ^ 64 - 1)
sum_is f w by zero xs ys =
    let small : f (tally_of xs) ≤ 2 ^ 64 - 1 =
    subst (λ n. n ≤ 2 ^ 64 - 1) (sym (of_by f w by zero xs)) (capped (sum_by (λ (move : EndedMove). w move.said) xs) (2 ^ 64 - 1)) in
    ap f (counted_more none xs ys)
    ∙ (all_by f w by ys (tally_of xs) small
    ∙ (cap_part (f (tally_of xs)) (sum_by (λ (move : EndedMove). w move.said) ys) (2 ^ 64 - 1)
    ∙ ap (λ n. min (f (tally_of xs) + n) (2 ^ 64 - 1)) (sym (of_by f w by zero ys))))

pub ones : (moves : List EndedMove) → sum_by (λ (move : EndedMove). 1) moves ≡ length moves
ones [] = refl
ones (x ∷ xs) = sum_by-cons (λ (move : EndedMove). 1) x xs ∙ (ap (λ n. 1 + n) (ones xs) ∙ omega arith)

pub zeros : (moves : List EndedMove) → sum_by (λ (move : EndedMove). 0) moves ≡ 0
zeros [] = refl
zeros (x ∷ xs) = sum_by-cons (λ (move : EndedMove). 0) x xs ∙ ap (λ n. 0 + n) (zeros xs)

abbrev tally : ℕ → ℕ → ℕ → ℕ → ℕ → ℕ → ℕ → Tally
tally a b c d e f g = record { begun = a; yes = b; no = c; later = d; dont_need = e; dont_know = f; gone = g }

same_parts : (a a' b b' c c' d d' e e' f f' g g' : ℕ) → a ≡ a' → b ≡ b' → c ≡ c' → d ≡ d' → e ≡ e' → f ≡ f' → g ≡ g' → tally a b c d e f g ≡ tally a' b' c' d' e' f' g'
same_parts a a' b b' c c' d d' e e' f f' g g' ea eb ec ed ee ef eg = cc

pub same_tally : (s t : Tally) → s.begun ≡ t.begun → s.yes ≡ t.yes → s.no ≡ t.no → s.later ≡ t.later → s.dont_need ≡ t.dont_need →
    s.dont_know ≡ t.dont_know → s.gone ≡ t.gone → s ≡ t
same_tally s t a b c d e f g =
    same_parts s.begun t.begun s.yes t.yes s.no t.no s.later t.later s.dont_need t.dont_need s.dont_know t.dont_know s.gone t.gone a b c d e f g
