-- What a reap leaves (this project's own; reaping full magazines is of Bonwick and Adams 2001).
use Rattle.std.specs.Prelude.{◌≡◌, ◌⊎◌, ℕ, ◌+◌, ◌≤◌, List, [], ◌∷◌, ◌++◌, length, All}
use Rattle.kmem_model.specs.declared.cache_entry.CacheEntry.{CacheEntry}
use Rattle.hist_lock.specs.History.{IsFront, entries_of}
use Rattle.hist_lock.specs.Passes.{PassState}
use Rattle.depot.specs.Depot.{DepotSeatState, WasRefused}
use Rattle.kmem_cache.specs.declared.locked.CacheHome.{CacheHome}
use Rattle.kmem_cache.specs.Locked.{IsLegalAt}
use Rattle.kmem_cache.specs.Seats.{CacheSeatState}
use Rattle.kmem_cache.specs.Closing.{frees_of}

-- what always holds of a seat's pass: what it has seen is legal, and its entries there are exactly its own
pub record IsKnown (pass : PassState CacheEntry CacheHome) : Type 0 where
  pub exact : entries_of pass.number pass.seen ≡ pass.mine
  pub legal : IsLegalAt pass.site.home pass.seen

-- the pass freed these buffers, one after another, and made no other entry
pub record HasFreedAll (old new : PassState CacheEntry CacheHome) (numbers : List ℕ) : Type 0 where
  pub front : IsFront old.seen new.seen
  pub mine : new.mine ≡ old.mine ++ frees_of numbers
  pub left : new.left + length numbers ≡ old.left
  pub known : IsKnown new
  pub site : new.site ≡ old.site
  pub number : new.number ≡ old.number

-- the seat has the rounds and the counts that it had
pub record HasSameRounds (old new : CacheSeatState) : Type 0 where
  pub rounds : new.rounds ≡ old.rounds
  pub lent : new.lent ≡ old.lent
  pub returned : new.returned ≡ old.returned
  pub put : new.depot.put ≡ old.depot.put

-- the numbers of the rounds of these magazines
abbrev pub rounds_in : List (ℕ × List ℕ) → List ℕ
rounds_in [] = []
rounds_in (m ∷ ms) = m.1 ++ rounds_in ms

-- the seat took these full magazines out of the depot and freed their rounds
pub record HasReapedAll (old new : CacheSeatState) (magazines : List (ℕ × List ℕ)) : Type 0 where
  pub full : All (λ m. length m.1 ≡ 8) magazines
  pub taken : new.depot.taken ≡ old.depot.taken ++ magazines
  pub freed : HasFreedAll old.pass new.pass (rounds_in magazines)
  pub same : HasSameRounds old new

-- a whole reap: it stopped where it had taken as many as there are places, or where its last swap was refused
pub record HasReaped (places : ℕ) (old new : CacheSeatState) : Type 0 where
  pub magazines : List (ℕ × List ℕ)
  pub few : length magazines ≤ places
  pub reaped : HasReapedAll old new magazines
  pub stopped : (length magazines ≡ places) ⊎ ((before : DepotSeatState) × WasRefused places 1 before new.depot)
