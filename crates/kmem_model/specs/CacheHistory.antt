-- Histories of a cache: lists of entries, each with the number of the pass that made it (this project's own).
use Rattle.std.specs.Prelude.{ℕ, List, [], ◌∷◌, Option, Some, option_and_then, IsSome, ◌≡◌, ◌⊎◌}
use Rattle.kmem_model.specs.CacheState.{CacheState, CacheSizes, opening}
use Rattle.kmem_model.specs.CacheEnter.{enter}
use Rattle.kmem_model.specs.declared.cache_entry.CacheEntry.{CacheEntry}
use Rattle.kmem_model.specs.declared.cache_entry.CacheEntry.TheVariants.{Alloc, Begin}

-- the state after these entries, or nothing where one of them isn't legal at its place
abbrev pub state_after : CacheState → List (ℕ × CacheEntry) → Option CacheState
state_after s [] = Some s
state_after s (e ∷ es) = option_and_then (λ next. state_after next es) (enter s e.1)

-- the state after a history of a cache of these sizes
abbrev pub cache_after : CacheSizes → List (ℕ × CacheEntry) → Option CacheState
cache_after sizes history = state_after (opening sizes) history

-- a legal history of such a cache reaches this state
abbrev pub Reaches : CacheSizes → List (ℕ × CacheEntry) → CacheState → Type 0
Reaches sizes history s = cache_after sizes history ≡ Some s

-- Entries without their passes

-- the state after these entries, or nothing where one of them isn't legal at its place
abbrev pub entered_all : CacheState → List CacheEntry → Option CacheState
entered_all s [] = Some s
entered_all s (e ∷ es) = option_and_then (λ next. entered_all next es) (enter s e)

-- these entries lead from one state to another
abbrev pub Follows : CacheState → List CacheEntry → CacheState → Type 0
Follows s es t = entered_all s es ≡ Some t

-- What may come next

-- the entry is legal in this state
abbrev pub MayEnter : CacheState → CacheEntry → Type 0
MayEnter s entry = IsSome (enter s entry)

-- some buffer can be allocated
abbrev pub MayAlloc : CacheState → Type 0
MayAlloc s = (b : ℕ) × MayEnter s (Alloc b)

-- some move can begin
abbrev pub MayBegin : CacheState → Type 0
MayBegin s = (j from to : ℕ) × MayEnter s (Begin j from to)

-- two moves that can begin are one
abbrev pub AtMostOneBegin : CacheState → Type 0
AtMostOneBegin s =
    (j from to i old new : ℕ) → MayEnter s (Begin j from to) → MayEnter s (Begin i old new) → Begin j from to ≡ Begin i old new

-- exactly one of two facts holds
pub record ExactlyOne (P Q : Type 0) : Type 0 where
  pub one : P ⊎ Q
  pub apart : P → Q → ⊥
