-- What the report on a run is made of (this project's own).
use Rattle.std.specs.Prelude.{ℕ}
use Rattle.kmem_model.specs.CacheState.{CacheState}
use Rattle.kmem_model.specs.Report.{MoveCounts, Report, report_on}
use Rattle.object_cache.specs.declared.tally.Tally.{Tally}

-- how the moves of a tally ended
abbrev pub counts_of : Tally → MoveCounts
counts_of tally =
    record {
      yes = tally.yes;
      no = tally.no;
      later = tally.later;
      dont_need = tally.dont_need;
      dont_know = tally.dont_know;
      gone = tally.gone;
    }

-- what is reported of so many live records and scans, of these moves and those of all settles, and of a cache
abbrev pub reported : ℕ → ℕ → Tally → Tally → CacheState → Report
reported live scans moves settled s = report_on s live scans moves.begun (counts_of moves) (counts_of settled)
