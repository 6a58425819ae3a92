-- The entries that a settle makes in its cache, in their order (this project's own rule).
use Rattle.std.specs.Prelude.{ℕ, zero, suc, ◌≡◌, true, false, List, [], ◌∷◌, ◌++◌, Option, Some, None, option_map, option_and_then}
use Rattle.std.specs.List.{flat_map}
use Rattle.kmem_model.specs.CacheHistory.{Follows}
use Rattle.kmem_model.specs.CacheScans.{scanning, has_rounds}
use Rattle.kmem_model.specs.Settle.{Stage, EndedMove, Course, is_done, scanned, forgotten}
use Rattle.kmem_model.specs.SettleWhole.{enough}
use Rattle.kmem_model.specs.Report.{ends_in}
use Rattle.kmem_model.specs.declared.cache_entry.CacheEntry.{CacheEntry}
use Rattle.kmem_model.specs.declared.cache_entry.CacheEntry.TheVariants.{Scan, Begin, Idle, End, Forget}

-- a move begins with the number 0, since no other is pending, and ends at once
abbrev pub move_entries : EndedMove → List CacheEntry
move_entries move = Begin 0 move.from move.to ∷ End 0 move.said ∷ []

-- moves one after another
abbrev pub moves_entries : List EndedMove → List CacheEntry
moves_entries moves = flat_map move_entries moves

-- a scan starts, makes its moves, and finds none to begin
abbrev pub scan_made : Course → List CacheEntry
scan_made scan = Scan true ∷ (moves_entries scan.moves ++ Idle ∷ [])

-- the scans from this stage on, until one is the last, where at most n are
abbrev pub scans_made : ℕ → Stage → Option (List CacheEntry)
scans_made zero stage = None
scans_made (suc n) stage =
    option_and_then
    (λ scan. elim (is_done scan) [
      | true ↦ Some (scan_made scan)
      | false ↦ option_map (λ es. scan_made scan
          ++ es) (scans_made n scan.stage)
    ])
    (scanned stage)

-- settle: every count and mark is forgotten, and then come the scans
abbrev pub settle_entries : Stage → Option (List CacheEntry)
settle_entries stage = option_and_then (λ course. option_map (λ es. Forget ∷ es) (scans_made (enough stage) course.stage)) (forgotten stage)

-- these are the entries of the settle that takes this course: they lead to where it ends, each scan goes on until there is no move to
-- begin,
-- and they end just its moves
pub record AreEntriesOf (stage : Stage) (course : Course) (entries : List CacheEntry) : Type 0 where
  pub made : settle_entries stage ≡ Some entries
  pub follows : Follows stage.cache entries course.stage.cache
  pub rounds : has_rounds (scanning entries) ≡ true
  pub ends : ends_in entries ≡ ends_in (moves_entries course.moves)
