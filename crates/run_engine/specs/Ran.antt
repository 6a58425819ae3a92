-- What a run hands out, and what it prints (this project's own).
use Rattle.std.specs.Prelude.{◌≡◌, ℕ, ◌+◌, ◌*◌, ◌++◌, ◌∷◌, ◌<◌, ◌≤◌, Bool, true, false, List, All, Some, Option, length, filter, count_by, is_some, replicate}
use Rattle.std.specs.List.{sum_by}
use Rattle.std.specs.Io.KnownBytes.{Appends}
use Rattle.kmem_io.specs.Streams.{AppendsFront}
use Rattle.kmem_text.specs.Grammar.{Plain}
use Rattle.kmem_text.specs.declared.command.Command.{Command}
use Rattle.kmem_text.specs.declared.command.Line.{Line}
use Rattle.kmem_model.specs.declared.record_entry.RecordEntry.{RecordEntry}
use Rattle.kmem_model.specs.declared.cache_entry.CacheEntry.{CacheEntry}
use Rattle.kmem_model.specs.declared.cache_entry.CacheEntry.TheVariants.{Full, Scan}
use Rattle.kmem_model.specs.Records.{RecordMap, no_records, live_count}
use Rattle.kmem_model.specs.History.{worker_of, commands_of, map_after, is_hold, is_fix}
use Rattle.kmem_model.specs.RunLines.{IsHistoryOf, run_text}
use Rattle.kmem_model.specs.CacheState.{CacheState, sizes_of, has_pending, out_count}
use Rattle.kmem_model.specs.CacheEnter.{is_full}
use Rattle.kmem_model.specs.CacheHistory.{Reaches, Follows}
use Rattle.kmem_model.specs.CacheScans.{is_scan, is_begin, scan_entries, has_rounds}
use Rattle.kmem_model.specs.CacheCounts.{entries_in, entries_by, total, moves_begun}
use Rattle.kmem_model.specs.Heap.{Object, HeapState, StandsFor, has_record, object_at}
use Rattle.kmem_model.specs.Says.{stage_in, AreInBuffers}
use Rattle.kmem_model.specs.Settle.{EndedMove}
use Rattle.kmem_model.specs.SettleMeasure.{settled}
use Rattle.kmem_model.specs.SettleEntries.{AreEntriesOf}
use Rattle.kmem_model.specs.SettleWhole.{IsSettled}
use Rattle.kmem_model.specs.Report.{MoveCounts, Report, report_on, report_text, counted_in, ends_in}
use Rattle.hist_lock.specs.History.{entries_of}
use Rattle.kmem_cache.specs.Closing.{frees_of}
use Rattle.record_table.specs.Ended.{is_drop}
use Rattle.record_table.specs.Runs.{is_put, asks_slabs}
use Rattle.consolidator.specs.declared.driving.MoverPlan.{MoverPlan}
use Rattle.run_workers.specs.Workers.{is_refused, is_full_entry}
use Rattle.run_movers.specs.Histories.{AreWorkersBefore}
use Rattle.run_end.specs.Ends.{AreAllFree, IsOnFewest}
use Rattle.run_engine.specs.declared.plan.RunPlan.{RunPlan}
use Rattle.run_engine.specs.declared.ran.Ran.{Ran}
use Rattle.run_engine.specs.Quotas.{first_plan, second_plan}

-- The cache's history

-- this pass made the scans of a mover's plan, and each was followed by a round
pub record HasScansBy (pass : ℕ) (plan : MoverPlan) (history : List (ℕ × CacheEntry)) : Type 0 where
  pub scans : filter is_scan (entries_by pass history) ≡ replicate plan.scans (Scan plan.desperate)
  pub rounds : has_rounds (scan_entries pass history) ≡ true

-- the history is legal for a cache of the plan's sizes, and leads to this state, where no move is pending; workers' passes come first and
-- ask for buffers and free them; and then come two movers', with the plan's scans
pub record IsCacheHistoryOf (plan : RunPlan) (history : List (ℕ × CacheEntry)) (end : CacheState) : Type 0 where
  pub reached : Reaches (sizes_of plan.slabs plan.chunks 64) history end
  pub calm : has_pending end ≡ false
  pub within : All (λ e. e.0 < plan.workers + 2) history
  pub workers : AreWorkersBefore plan.workers history
  pub first : HasScansBy plan.workers (first_plan plan) history
  pub second : HasScansBy (plan.workers + 1) (second_plan plan) history

-- each worker has a Full in the cache's history for each `full` that was replied to it, and asked for a buffer at most once for each put
pub record AreRefusalsDue (plan : RunPlan) (lines : List Line) (records : List (ℕ × RecordEntry)) (history : List (ℕ × CacheEntry)) : Type 0 where
  pub found : (pass : ℕ) → pass < plan.workers → count_by is_refused (entries_of pass records) ≤ count_by is_full_entry (entries_by pass history)
  pub asked : (pass : ℕ) → pass < plan.workers → count_by asks_slabs (entries_by pass history) ≤ count_by is_put (commands_of (worker_of pass) lines)

-- a Full stands only where every buffer is out; and no `full` is replied where there are as many buffers as the script has puts, and 64 more
pub record AreFullsDue (plan : RunPlan) (lines : List Line) (records : List (ℕ × RecordEntry)) (history : List (ℕ × CacheEntry)) : Type 0 where
  pub out : (front rest : List (ℕ × CacheEntry)) (pass : ℕ) → history ≡ front ++ (pass, Full) ∷ rest →
      (s : CacheState) × Reaches (sizes_of plan.slabs plan.chunks 64) front s × (is_full s ≡ true)
  pub room : count_by (λ line. is_put line.command) lines + 64 ≤ plan.slabs * plan.chunks → All (λ e. is_refused e.1 ≡ false) records

-- What a run of this plan over this script hands out

-- the histories of its records and of its cache, of one home, and how many moves its movers pushed and had back
pub record IsRan (plan : RunPlan) (script : Plain) (ran : Ran) : Type 0 where
  pub records : IsHistoryOf plan.workers script ran.records.entries
  pub within : All (λ e. e.0 < plan.workers) ran.records.entries
  pub end : CacheState
  pub cache : IsCacheHistoryOf plan ran.cache.entries end
  pub refusals : AreRefusalsDue plan script.lines ran.records.entries ran.cache.entries
  pub fulls : AreFullsDue plan script.lines ran.records.entries ran.cache.entries
  pub home : ran.records.home ≡ ran.cache.home
  pub moves : sum_by (λ m. m.pushed + m.refused) ran.moves.items ≡ total moves_begun (entries_in ran.cache.entries)

-- the map of records at its end
abbrev pub last_map : RunPlan → Plain → List (ℕ × RecordEntry) → RecordMap
last_map plan script records = map_after (no_records (length script.names) plan.workers) records

-- What follows the join

-- From this state on the rounds of the magazines are freed, then the leftovers, and then comes one settle with these entries. What it asks is
-- answered about the objects of a heap that stands for the map and lies in the buffers that are out; these are its objects at its end
pub record HasWoundUp (m : RecordMap) (s t : CacheState) (objects : List (Option Object)) (settling : List CacheEntry) : Type 0 where
  pub rounds : List ℕ
  pub leftovers : List ℕ
  pub flushed : CacheState
  pub between : CacheState
  pub flush : Follows s (frees_of rounds) flushed
  pub frees : Follows flushed (frees_of leftovers) between
  pub heap : HeapState
  pub addresses : List ℕ
  pub stands : StandsFor m addresses heap
  pub buffers : AreInBuffers between heap.objects
  pub moves : List EndedMove
  pub settle : settled (stage_in between heap.objects) ≡ Some (record { stage = stage_in t objects; moves = moves })
  pub made : AreEntriesOf (stage_in between heap.objects) (record { stage = stage_in t objects; moves = moves }) settling

-- Nothing is lost: the buffers that are out are exactly those of objects that stand for the map, and each has a record that lives. The cache is
-- settled; and where no record has a tag or is fixed, the listed slabs are as few as can hold the records
pub record IsNothingLost (m : RecordMap) (t : CacheState) : Type 0 where
  pub heap : HeapState
  pub addresses : List ℕ
  pub stands : StandsFor m addresses heap
  pub buffers : AreInBuffers t heap.objects
  pub records : (b : ℕ) → is_some (object_at heap b) ≡ true → has_record (object_at heap b) ≡ true
  pub live : out_count t ≡ live_count m
  pub done : IsSettled (stage_in t heap.objects)
  pub fewest : AreAllFree m → IsOnFewest (live_count m) t

-- none of these lines has such a command
abbrev pub HasNone : (Command → Bool) → List Line → Type 0
HasNone is lines = All (λ line. is line.command ≡ false) lines

-- how moves ended is due: none by later where there is no `hold`, none by no where there is no `fix`, none by not needed where there is no `drop`
pub record AreAnswersDue (lines : List Line) (counts : MoveCounts) : Type 0 where
  pub later : HasNone is_hold lines → counts.later ≡ 0
  pub refused : HasNone is_fix lines → counts.no ≡ 0
  pub unneeded : HasNone is_drop lines → counts.dont_need ≡ 0

-- What is reported is read off the cache's history, which ends here, and what follows the join
pub record IsReportOn (plan : RunPlan) (lines : List Line) (m : RecordMap) (history : List (ℕ × CacheEntry)) (report : Report) : Type 0 where
  pub end : CacheState
  pub reached : Reaches (sizes_of plan.slabs plan.chunks 64) history end
  pub last : CacheState
  pub settling : List CacheEntry
  pub kept : IsNothingLost m last
  pub wound_up : HasWoundUp m end last kept.heap.objects settling
  pub is : report ≡
      report_on last (live_count m) plan.scans (counted_in (entries_in history) is_begin) (ends_in (entries_in history)) (ends_in settling)
  pub moves_due : AreAnswersDue lines report.moves
  pub settled_due : AreAnswersDue lines report.settled
  -- the settle is after the leftovers are freed
  pub needed : report.settled.dont_need ≡ 0

-- the text of the history that is handed out, and of a report on it, was appended
abbrev pub IsPrinted : RunPlan → Plain → Ran → Option (List ℕ) → Option (List ℕ) → Type 0
IsPrinted plan script ran written written' =
    (report : Report) × IsReportOn plan script.lines (last_map plan script ran.records.entries) ran.cache.entries report
    × Appends written written' (run_text plan.workers script.names ran.records.entries (report_text report))

-- of such a text some front was appended
pub record IsPrintedFront (plan : RunPlan) (script : Plain) (written written' : Option (List ℕ)) : Type 0 where
  pub records : List (ℕ × RecordEntry)
  pub history : List (ℕ × CacheEntry)
  pub report : Report
  pub of : IsHistoryOf plan.workers script records
  pub on : IsReportOn plan script.lines (last_map plan script records) history report
  pub front : AppendsFront written written' (run_text plan.workers script.names records (report_text report))
