-- How many buffers the entries of a history make out and free, and how many moves they begin and end (this project's own).
use Rattle.std.specs.Prelude.{ℕ, zero, suc, ◌+◌, ◌==◌, List, [], ◌∷◌, map, filter}
use Rattle.kmem_model.specs.declared.cache_entry.Said.{Said}
use Rattle.kmem_model.specs.declared.cache_entry.Said.TheVariants.{Yes, No, Later, DontNeed, DontKnow}
use Rattle.kmem_model.specs.declared.cache_entry.CacheEntry.{CacheEntry}
use Rattle.kmem_model.specs.declared.cache_entry.CacheEntry.TheVariants.{Alloc, Free, Begin, Gone, End}

-- how many buffers an entry makes out
abbrev pub made_out : CacheEntry → ℕ
made_out (Alloc b) = 1
made_out (Begin j from to) = 1
made_out _ = 0

-- how many buffers an answer hands back
abbrev pub handed_by : Said → ℕ
handed_by Yes = 1
handed_by No = 1
handed_by Later = 1
handed_by DontNeed = 2
handed_by DontKnow = 1

-- how many buffers an entry frees
abbrev pub made_free : CacheEntry → ℕ
made_free (Free b) = 1
made_free (Gone j) = 1
made_free (End j said) = handed_by said
made_free _ = 0

-- an entry begins a move, or ends one
abbrev pub moves_begun : CacheEntry → ℕ
moves_begun (Begin j from to) = 1
moves_begun _ = 0

abbrev pub moves_ended : CacheEntry → ℕ
moves_ended (Gone j) = 1
moves_ended (End j said) = 1
moves_ended _ = 0

-- the sum over these entries
abbrev pub total : (CacheEntry → ℕ) → List CacheEntry → ℕ
total weight [] = 0
total weight (e ∷ es) = weight e + total weight es

-- the entries of a history, and those of one pass, in their order
abbrev pub entries_in : List (ℕ × CacheEntry) → List CacheEntry
entries_in history = map (λ e. e.1) history

abbrev pub entries_by : ℕ → List (ℕ × CacheEntry) → List CacheEntry
entries_by pass history = entries_in (filter (λ e. e.0 == pass) history)

-- the sum over the entries of the passes before this one, pass by pass
abbrev pub total_before : ℕ → (CacheEntry → ℕ) → List (ℕ × CacheEntry) → ℕ
total_before zero weight history = 0
total_before (suc pass) weight history = total_before pass weight history + total weight (entries_by pass history)
