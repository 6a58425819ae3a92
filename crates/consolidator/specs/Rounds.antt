-- The rounds of a mover: scans, and the moves that they begin (the rules of scans are this project's own).
use Rattle.std.specs.Prelude.{◌≡◌, ℕ, Bool, true, List, ◌∷◌, length, All}
use Rattle.std.specs.List.{flat_map}
use Rattle.kmem_model.specs.CacheScans.{scanning, is_round}
use Rattle.kmem_model.specs.declared.cache_entry.CacheEntry.{CacheEntry}
use Rattle.kmem_model.specs.declared.cache_entry.CacheEntry.TheVariants.{Free, Scan, Begin, Idle, Gone, End}

-- the entry ends the move of this number, unasked or by an answer
abbrev pub IsEndOf : ℕ → CacheEntry → Type 0
IsEndOf number (Gone j) = j ≡ number
IsEndOf number (End j said) = j ≡ number
IsEndOf number _ = ⊥

-- the entry is one of a scan or ends a move
abbrev pub IsOfMoves : CacheEntry → Type 0
IsOfMoves (Scan desperate) = Unit {0}
IsOfMoves (Begin j from to) = Unit {0}
IsOfMoves Idle = Unit {0}
IsOfMoves (Gone j) = Unit {0}
IsOfMoves (End j said) = Unit {0}
IsOfMoves _ = ⊥

-- the entry is one that a mover makes: it may also free a buffer, but allocates none
abbrev pub IsOfMover : CacheEntry → Type 0
IsOfMover (Free number) = Unit {0}
IsOfMover entry = IsOfMoves entry

-- a scan of this kind, and what one scan begins: moves until there is none to begin, or exactly 64 of them
pub record IsRound (desperate : Bool) (entries : List CacheEntry) : Type 0 where
  pub rest : List CacheEntry
  pub is : entries ≡ Scan desperate ∷ rest
  pub round : is_round rest ≡ true

-- those of these entries that are of scans make so many rounds, one after another
pub record AreRounds (desperate : Bool) (count : ℕ) (entries : List CacheEntry) : Type 0 where
  pub rounds : List (List CacheEntry)
  pub each : All (IsRound desperate) rounds
  pub many : length rounds ≡ count
  pub joined : scanning entries ≡ flat_map (λ round. round) rounds
