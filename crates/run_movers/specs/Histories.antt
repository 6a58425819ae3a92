-- What the movers of a run leave in the cache's history: workers' passes first, then two movers' (this project's own).
use Rattle.std.specs.Prelude.{◌≡◌, ℕ, ◌<◌, true, ◌||◌, List, All}
use Rattle.kmem_model.specs.CacheCounts.{entries_by}
use Rattle.kmem_model.specs.declared.cache_entry.CacheEntry.{CacheEntry}
use Rattle.record_table.specs.Runs.{asks_slabs, frees_slab}

-- these entries are a worker's: they ask for buffers and free them
abbrev pub AreOfWorker : List CacheEntry → Type 0
AreOfWorker entries = All (λ e. (asks_slabs e || frees_slab e) ≡ true) entries

-- the passes before this one are workers'
abbrev pub AreWorkersBefore : ℕ → List (ℕ × CacheEntry) → Type 0
AreWorkersBefore workers history = (pass : ℕ) → pass < workers → AreOfWorker (entries_by pass history)

-- only movers make entries that weigh
abbrev pub IsOfMoversAlone : (CacheEntry → ℕ) → Type 0
IsOfMoversAlone weight = (e : CacheEntry) → (asks_slabs e || frees_slab e) ≡ true → weight e ≡ 0
