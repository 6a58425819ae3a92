-- The magazine layer of one worker (Bonwick and Adams 2001; magazines of 8 rounds, and that previous is always full or empty, are this
-- project's own).
use Rattle.std.specs.Prelude.{◌≡◌, ◌<◌, ◌≤◌, nat_lt, if◌then◌else◌, List, [], ◌∷◌, ◌++◌, length, Option, Some, None, Result, Ok, Err, refl}
use Rattle.std.specs.Coded.{Coded, code_by, coded×, coded_list}

-- two magazines, each a list of at most 8 rounds. The round that came in last stands first
pub record Layer (A : Type 0) : Type 0 where
  pub loaded : List A
  pub previous : List A

-- a layer is stored as its two lists
abbrev pub layer_code : {A : Type 0} → Coded A → Coded (Layer A)
layer_code {A} c = code_by (List A × List A) (coded× (coded_list c) (coded_list c)) (λ l. (
  l.loaded,
  l.previous,
)) (λ p. record { loaded = p.0; previous = p.1 }) (λ _. refl)

-- a full magazine
abbrev pub IsFull : {A : Type 0} → List A → Type 0
IsFull rounds = length rounds ≡ 8

-- neither has more than 8 rounds, and previous is full or empty
abbrev pub IsLayer : {A : Type 0} → Layer A → Type 0
IsLayer l = (length l.loaded ≤ 8) × (0 < length l.previous → IsFull l.previous)

-- both are empty
abbrev pub empty_layer : {A : Type 0} → Layer A
empty_layer = record { loaded = []; previous = [] }

-- all rounds, in the order in which they come out
abbrev pub layer_rounds : {A : Type 0} → Layer A → List A
layer_rounds l = l.loaded ++ l.previous

-- what a take gives, and the layer after it: loaded is popped, after an exchange where it is empty and previous is full
abbrev pub take_from : {A : Type 0} → List A → List A → Option A × Layer A
take_from (x ∷ loaded) previous = (Some x, record { loaded = loaded; previous = previous })
take_from [] (x ∷ previous) = (Some x, record { loaded = previous; previous = [] })
take_from [] [] = (None, empty_layer)

-- what a put answers where loaded is full, and the layer after it: an exchange where previous is empty, else the round comes back
abbrev pub put_past : {A : Type 0} → A → List A → List A → Result (Unit {0}) A × Layer A
put_past x loaded [] = (Ok tt, record { loaded = x ∷ []; previous = loaded })
put_past x loaded (y ∷ previous) = (Err x, record { loaded = loaded; previous = y ∷ previous })

-- what a put answers, and the layer after it: the round goes on loaded where that isn't full
abbrev pub put_to : {A : Type 0} → A → List A → List A → Result (Unit {0}) A × Layer A
put_to x loaded previous =
    (if nat_lt (length loaded) 8 then (Ok tt, record { loaded = x ∷ loaded; previous = previous }) else put_past x loaded previous)

-- a full layer once an empty magazine came in: the old previous has left
abbrev pub relieved : {A : Type 0} → List A → Layer A → Layer A
relieved empty l = record { loaded = empty; previous = l.loaded }

-- a layer whose loaded is empty, once a full magazine came in behind the other: the empty one has left
abbrev pub restored : {A : Type 0} → List A → Layer A → Layer A
restored full l = record { loaded = l.previous; previous = full }
