-- What contracts see of a lock and of a pass, and what one turn does. All of it is this project's own.
use Rattle.std.specs.Prelude.{◌≡◌, ℕ, ◌+◌, ◌^◌, ◌<◌, ◌≤◌, List, [], ◌∷◌, ◌++◌, length, Option, Some}
use Rattle.atomic_table.specs.Seated.{TableId}
use Rattle.hist_lock.specs.History.{IsFront, entries_of, listed, told}

-- a lock: which one it is, what no turn changes, how many entries its passes may make in all, and how many passes it has
pub record Site (H : Type 0) : Type 0 where
  pub table : TableId
  pub home : H
  pub room : ℕ
  pub count : ℕ

-- a pass: its lock, its number, how many entries it may still make, the history that it has seen, and its own entries there
pub record PassState (E H : Type 0) : Type 0 where
  pub site : Site H
  pub number : ℕ
  pub left : ℕ
  pub seen : List (ℕ × E)
  pub mine : List E

module _ {E H : Type 0} where
  -- a pass with this number and quota that has seen nothing yet
  abbrev pub fresh : Site H → ℕ → ℕ → PassState E H
  fresh site number quota = record { site = site; number = number; left = quota; seen = []; mine = [] }

  -- one fresh pass for each quota, in order, numbered from the given number
  abbrev pub fresh_passes : Site H → ℕ → List ℕ → List (PassState E H)
  fresh_passes site number [] = []
  fresh_passes site number (quota ∷ quotas) = fresh site number quota ∷ fresh_passes site (number + 1) quotas

-- The pass's next turn may find this history: it begins with all that the pass has seen, the pass's entries in it are
-- exactly its own, and there is room for those that it may still make
pub record MayMeet {E H : Type 0} (pass : PassState E H) (history : List (ℕ × E)) : Type 0 where
  pub front : IsFront pass.seen history
  pub exact : entries_of pass.number history ≡ pass.mine
  pub room : length history + pass.left ≤ pass.site.room
  pub bound : pass.site.room < 2 ^ 32

-- the turn's condition holds of each history that the pass's next turn may find, where an object of the lock's home stands for it
abbrev pub MayRun : {O E H : Type 0} → (O → List (ℕ × E) → Type 0) → (O → H) → (ℕ → H → List (ℕ × E) → Type 0) → PassState E H → Type 0
MayRun {O} {E} stands home_of can pass =
    (h : List (ℕ × E)) (object : O) → MayMeet pass h → stands object h → home_of object ≡ pass.site.home → can pass.number pass.site.home h

-- a turn that makes no entry
abbrev pub IsQuiet : {O E Out : Type 0} → (O → O → List (ℕ × E) → Out → Option E → Type 0) → Type 0
IsQuiet {O} {E} {Out} tells = (before after : O) (h : List (ℕ × E)) (out : Out) (x : E) → tells before after h out (Some x) → ⊥

-- an object of this home stands for the history
abbrev pub IsObjectOf : {O E H : Type 0} → (O → List (ℕ × E) → Type 0) → (O → H) → H → List (ℕ × E) → O → Type 0
IsObjectOf stands home_of home history object = stands object history × (home_of object ≡ home)

-- One turn of a pass, which found this history and made this entry, or none: it ran on an object of the lock's home that
-- stood for the history, and left it standing for the history with the entry at its end; of these two, its answer is the
-- turn's; and the pass has then seen that history
pub record IsTurn {O E H Out : Type 0} (stands : O → List (ℕ × E) → Type 0) (home_of : O → H)
    (tells : O → O → List (ℕ × E) → Out → Option E → Type 0) (old new : PassState E H) (out : Out) (history : List (ℕ ×
    E)) (entry : Option E) : Type 0 where
  pub met : MayMeet old history
  pub before : O
  pub after : O
  pub stood : IsObjectOf stands home_of old.site.home history before
  pub stands_now : IsObjectOf stands home_of old.site.home (told history old.number entry) after
  pub answered : tells before after history out entry
  pub seen : new.seen ≡ told history old.number entry
  pub mine : new.mine ≡ old.mine ++ listed entry
  pub left : new.left + length (listed entry) ≡ old.left
  pub exact : entries_of old.number new.seen ≡ new.mine
  pub site : new.site ≡ old.site
  pub number : new.number ≡ old.number

-- the pass has learned of entries of others, and has seen so many entries
pub record HasReached {E H : Type 0} (count : ℕ) (old new : PassState E H) : Type 0 where
  pub front : IsFront old.seen new.seen
  pub long : count ≤ length new.seen
  pub mine : new.mine ≡ old.mine
  pub left : new.left ≡ old.left
  pub site : new.site ≡ old.site
  pub number : new.number ≡ old.number

-- The pass waited until the history had so many entries: it has then seen a history that it might meet and that has so many,
-- for which an object of the lock's home stood
pub record HasAwaited {O E H : Type 0} (stands : O → List (ℕ × E) → Type 0) (home_of : O → H) (count : ℕ) (old new : PassState E H) :
    Type 0 where
  pub met : MayMeet old new.seen
  pub long : count ≤ length new.seen
  pub object : O
  pub stood : IsObjectOf stands home_of old.site.home new.seen object
  pub mine : new.mine ≡ old.mine
  pub left : new.left ≡ old.left
  pub site : new.site ≡ old.site
  pub number : new.number ≡ old.number
