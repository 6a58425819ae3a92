-- What the movers' scans leave in a cache history (this project's own).
use Rattle.std.specs.Prelude.{ℕ, Bool, true, false, ◌&&◌, ◌||◌, not, ◌==◌, List, [], ◌∷◌, filter, map, length, take_while, if◌then◌else◌}
use Rattle.std.specs.List.{list_all}
use Rattle.kmem_model.specs.declared.cache_entry.CacheEntry.{CacheEntry}
use Rattle.kmem_model.specs.declared.cache_entry.CacheEntry.TheVariants.{Scan, Begin, Idle}

-- a scan was started
abbrev pub is_scan : CacheEntry → Bool
is_scan (Scan desperate) = true
is_scan _ = false

-- a move was begun
abbrev pub is_begin : CacheEntry → Bool
is_begin (Begin j from to) = true
is_begin _ = false

-- there was no move to begin
abbrev pub is_idle_entry : CacheEntry → Bool
is_idle_entry Idle = true
is_idle_entry _ = false

-- the Scan, Begin and Idle entries of these, in order
abbrev pub scanning : List CacheEntry → List CacheEntry
scanning entries = filter (λ e. is_scan e || is_begin e || is_idle_entry e) entries

-- those of one pass
abbrev pub scan_entries : ℕ → List (ℕ × CacheEntry) → List CacheEntry
scan_entries pass history = scanning (map (λ e. e.1) (filter (λ e. e.0 == pass) history))

-- Begin entries, and one Idle as the last of all
abbrev pub ends_idle : List CacheEntry → Bool
ends_idle [] = false
ends_idle (e ∷ []) = is_idle_entry e
ends_idle (e ∷ (f ∷ es)) = is_begin e && ends_idle (f ∷ es)

-- what one scan begins: moves until there is none to begin, or exactly 64 of them
abbrev pub is_round : List CacheEntry → Bool
is_round es = ends_idle es || (list_all is_begin es && length es == 64)

-- each Scan is followed by a round, up to the next Scan
abbrev pub has_rounds : List CacheEntry → Bool
has_rounds [] = true
has_rounds (e ∷ es) = (if is_scan e then is_round (take_while (λ x. not (is_scan x)) es) else true) && has_rounds es
