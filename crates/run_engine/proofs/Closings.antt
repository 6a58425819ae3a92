-- Everything that the closes of a run show, put together.
use Rattle.std.proofs.Common.{◌≡◌, ◌+◌, ◌*◌, ◌<◌, ◌≤◌, ℕ, true, false, List, [], ◌∷◌, ◌++◌, map, length, reverse, count_by, is_some, All, refl, sym, ap, ap₂, ◌∙◌, subst, ⊎_elim, arith}
use Rattle.std.specs.List.{sum_by}
use Rattle.std.proofs.lemmas.List.Elements.{All-head, All-tail, All-same, All-weaker, recursion_from_All, All-from_recursion}
use Rattle.std.specs.List.{AllByRecursion}
use Rattle.kmem_text.specs.Grammar.{Plain}
use Rattle.kmem_text.specs.Scripts.{IsScript}
use Rattle.kmem_model.specs.declared.record_entry.RecordEntry.{RecordEntry}
use Rattle.kmem_model.specs.declared.cache_entry.CacheEntry.{CacheEntry}
use Rattle.kmem_model.specs.Records.{IsValid, no_records}
use Rattle.kmem_model.specs.RunLines.{IsHistoryOf}
use Rattle.kmem_model.specs.Heap.{StandsFor}
use Rattle.kmem_model.specs.History.{map_after, IsLegalHistory, IsEntryWithin}
use Rattle.kmem_model.specs.CacheState.{CacheSizes, CacheState, sizes_of, opening, has_pending, pending_count, out_count}
use Rattle.kmem_model.specs.CacheHistory.{Reaches, Follows}
use Rattle.kmem_model.specs.CacheCounts.{total, total_before, entries_in, entries_by, made_out, made_free, moves_begun, moves_ended}
use Rattle.kmem_model.specs.CacheEnter.{is_full}
use Rattle.kmem_model.specs.SettleWhole.{IsWhole}
use Rattle.kmem_model.specs.declared.cache_entry.CacheEntry.TheVariants.{Full}
use Rattle.record_table.specs.Runs.{is_put, asks_slabs}
use Rattle.consolidator.specs.Rounds.{IsOfMover}
use Rattle.run_workers.specs.Workers.{is_refused, is_full_entry}
use Rattle.hist_lock.specs.History.{IsFront, entries_of}
use Rattle.kmem_cache.specs.Locked.{sizes_at}
use Rattle.kmem_cache.specs.Seats.{CacheSeatState, buffers_at}
use Rattle.kmem_cache.specs.Closing.{CacheLogState, frees_of}
use Rattle.record_table.specs.Tables.{object_count}
use Rattle.record_table.specs.Sessions.{SessionState}
use Rattle.record_table.specs.Asks.{MoverState, AreFlagsDue}
use Rattle.record_table.specs.Closing.{RecordLogState, all_brought, all_fetched}
use Rattle.record_heap.specs.View.{HeapView}
use Rattle.object_cache.specs.Cache.{CacheView}
use Rattle.object_cache.specs.declared.tally.Tally.{Tally}
use Rattle.move_queue.specs.Queue.{pushed_by, popped_by}
use Rattle.consolidator.specs.Tallies.{tally_sum, ends_of}
use Rattle.run_workers.specs.declared.worker.Worker.{Worker}
use Rattle.consolidator.specs.declared.driving.MoverPlan.{MoverPlan}
use Rattle.run_movers.specs.declared.mover.MoverTask.{MoverTask}
use Rattle.run_movers.specs.Histories.{AreWorkersBefore, IsOfMoversAlone}
use Rattle.run_engine.specs.declared.plan.RunPlan.{RunPlan}
use Rattle.run_engine.specs.declared.shared.Shared.{Shared}
use Rattle.run_engine.specs.declared.crew.Crew.{Crew}
use Rattle.run_engine.specs.declared.parts.Parts.{Parts}
use Rattle.run_engine.specs.Quotas.{IsInPlan, first_plan, second_plan}
use Rattle.run_engine.specs.Opened.{IsShared}
use Rattle.run_engine.specs.Done.{IsCrewDone, IsWorkerDone, IsMoverDone}
use Rattle.run_engine.specs.Ran.{IsRan, IsCacheHistoryOf, AreFullsDue, AreAnswersDue}
use Rattle.run_engine.specs.Closed.{ArePartsOf, IsClosed, log_of}
use Rattle.run_engine.proofs.Taken.{all_both, of_parts, sum_parts}
use Rattle.run_engine.proofs.Histories.{SharedLaw, Exact, shared_all, of_workers, found_full, asked_slabs}
use Rattle.run_engine.proofs.Scans.{SumsLaw, weight_of, scans_by, pass_is, mover_is, balances, sum_pair, sum_behind, begun_in_all, ended_in_all}
use Rattle.run_engine.proofs.States.{asked_after, still_calm, reached_sizes}
use Rattle.run_engine.proofs.Fulls.{full_out, full_count, out_most, pending_most}
use Rattle.run_engine.proofs.Asking.{asks_most, before_full, HasFull, find_full, none_by, none_refused}
use Rattle.run_engine.proofs.Known.{one_due, sum_due}
use Rattle.run_engine.proofs.Printable.{ValidLaw, WithinLaw, replies_within}

pub record Laws : Type 0 where
  pub pending : (sizes : CacheSizes) (history : List (ℕ × CacheEntry)) (s : CacheState) → Reaches sizes history s →
      pending_count s + total moves_ended (entries_in history) ≡ total moves_begun (entries_in history)
  pub pending_along : (s t : CacheState) (entries : List CacheEntry) → Follows s entries t → pending_count t + total moves_ended entries ≡ pending_count s + total moves_begun entries
  pub sums : SumsLaw
  pub whole : (sizes : CacheSizes) (history : List (ℕ × CacheEntry)) (s : CacheState) → 0 < sizes.chunks → 0 < sizes.limit → Reaches sizes history s → IsWhole s
  pub out : (sizes : CacheSizes) (history : List (ℕ × CacheEntry)) (s : CacheState) → 0 < sizes.chunks → Reaches sizes history s →
      out_count s + total made_free (entries_in history) ≡ total made_out (entries_in history)
  pub passes : (passes : ℕ) (weight : CacheEntry → ℕ) (history : List (ℕ × CacheEntry)) → All (λ (e : ℕ × CacheEntry). e.0 < passes) history →
      total_before passes weight history ≡ total weight (entries_in history)
  pub begun : IsOfMoversAlone moves_begun
  pub ended : IsOfMoversAlone moves_ended
  pub shared : SharedLaw
  pub valid : ValidLaw
  pub told : WithinLaw
  pub start : (names workers : ℕ) → IsValid (no_records names workers)

pub record Facts (plan : RunPlan) (script : Plain) (shared : Shared) (crew : Crew) (parts : Parts) (heap : HeapView) (records : RecordLogState) (slabs : CacheView)
    (log : CacheLogState) (tally : Tally) : Type 0 where
  pub in_plan : IsInPlan plan
  pub of : IsScript plan.workers script
  pub is : IsShared plan (length script.names) shared
  pub done : IsCrewDone plan script.lines shared crew
  pub parted : ArePartsOf crew parts
  pub tally_is : tally ≡ tally_sum crew.first.tally crew.second.tally
  -- the close of the table
  pub legal : IsLegalHistory (no_records shared.table.home.names shared.table.home.workers) records.entries
  pub in_range : All (IsEntryWithin shared.table.home.names shared.table.home.workers) records.entries
  pub addresses : List ℕ
  pub stands : StandsFor (map_after (no_records shared.table.home.names shared.table.home.workers) records.entries) addresses heap.heap
  pub objects : length heap.heap.objects ≡ length shared.table.home.cache.cells
  pub counts : object_count heap.heap + all_fetched parts.sessions.items parts.movers.items ≡ all_brought parts.sessions.items parts.movers.items
  pub exact : All (λ (s : SessionState). entries_of s.pass.number records.entries ≡ s.pass.mine) parts.sessions.items
  pub silent : All (λ (m : MoverState). entries_of m.pass.number records.entries ≡ []) parts.movers.items
  pub flags : All (λ (m : MoverState). AreFlagsDue m.flags m.pass.seen) parts.movers.items
  pub fronts : All (λ (m : MoverState). IsFront m.pass.seen records.entries) parts.movers.items
  pub within : All (λ (e : ℕ × RecordEntry). e.0 < shared.table.count) records.entries
  pub homes : (heap.home ≡ shared.table.home.cache) × (records.home ≡ shared.table.home.cache)
  -- the close of the queue
  pub jobs : popped_by parts.places.items ≡ pushed_by parts.places.items
  -- the close of the cache
  pub state : CacheState
  pub rounds : List ℕ
  pub reached : Reaches (sizes_at shared.cache.lock.home) log.entries state
  pub flushed : Follows state (frees_of rounds) slabs.state
  pub cache_counts : out_count slabs.state + sum_by (λ (s : CacheSeatState). s.returned) parts.seats.items ≡ sum_by (λ (s : CacheSeatState). s.lent) parts.seats.items
  pub cache_exact : All (λ (s : CacheSeatState). entries_of s.pass.number log.entries ≡ s.pass.mine) parts.seats.items
  pub cache_within : All (λ (e : ℕ × CacheEntry). e.0 < shared.cache.lock.count) log.entries
  pub cache_homes : (slabs.home ≡ buffers_at shared.cache) × (log.home ≡ buffers_at shared.cache)

module _ (laws : Laws) (plan : RunPlan) (script : Plain) (shared : Shared) (crew : Crew) (parts : Parts) (heap : HeapView) (records : RecordLogState)
    (slabs : CacheView) (log : CacheLogState) (tally : Tally) (f : Facts plan script shared crew parts heap records slabs log tally) where
  workers : List Worker
  workers = crew.workers.items

  seats_are : All (λ (s : CacheSeatState). entries_of s.pass.number log.entries ≡ s.pass.mine) (crew.first.seat ∷ crew.second.seat ∷ map (λ (w : Worker). w.seat) (reverse crew.workers.items))
  seats_are = All-same (λ (s : CacheSeatState). entries_of s.pass.number log.entries ≡ s.pass.mine) (crew.first.seat ∷ crew.second.seat ∷ map (λ (w : Worker). w.seat) (reverse crew.workers.items)) parts.seats.items (sym f.parted.seats) f.cache_exact

  first_mine : entries_by plan.workers log.entries ≡ crew.first.seat.pass.mine
  first_mine =
      ap (λ (n : ℕ). entries_of n log.entries) (sym (pass_is shared plan.workers (first_plan plan) crew.first f.done.first))
      ∙ All-head (λ (s : CacheSeatState). entries_of s.pass.number log.entries ≡ s.pass.mine) crew.first.seat (crew.second.seat ∷ map (λ (w : Worker). w.seat) (reverse crew.workers.items)) seats_are

  behind : All (λ (s : CacheSeatState). entries_of s.pass.number log.entries ≡ s.pass.mine) (crew.second.seat ∷ map (λ (w : Worker). w.seat) (reverse crew.workers.items))
  behind = All-tail (λ (s : CacheSeatState). entries_of s.pass.number log.entries ≡ s.pass.mine) crew.first.seat (crew.second.seat ∷ map (λ (w : Worker). w.seat) (reverse crew.workers.items)) seats_are

  second_mine : entries_by (plan.workers + 1) log.entries ≡ crew.second.seat.pass.mine
  second_mine =
      ap (λ (n : ℕ). entries_of n log.entries) (sym (pass_is shared (plan.workers + 1) (second_plan plan) crew.second f.done.second))
      ∙ All-head (λ (s : CacheSeatState). entries_of s.pass.number log.entries ≡ s.pass.mine) crew.second.seat (map (λ (w : Worker). w.seat) (reverse crew.workers.items)) behind

  exact_both : All (Exact records.entries log.entries) crew.workers.items
  exact_both =
      all_both (λ (w : Worker). entries_of w.session.pass.number records.entries ≡ w.session.pass.mine) (λ (w : Worker). entries_of w.seat.pass.number log.entries ≡ w.seat.pass.mine)
      crew.workers.items
      (of_parts (λ (w : Worker). w.session) crew.workers.items parts.sessions.items f.parted.sessions (λ (s : SessionState). entries_of s.pass.number records.entries ≡ s.pass.mine) f.exact)
      (of_parts (λ (w : Worker). w.seat) crew.workers.items (map (λ (w : Worker). w.seat) (reverse crew.workers.items)) refl
      (λ (s : CacheSeatState). entries_of s.pass.number log.entries ≡ s.pass.mine)
      (All-tail (λ (s : CacheSeatState). entries_of s.pass.number log.entries ≡ s.pass.mine) crew.second.seat (map (λ (w : Worker). w.seat) (reverse crew.workers.items)) behind))

  silent_are : All (λ (m : MoverState). entries_of m.pass.number records.entries ≡ []) (crew.first.mover ∷ crew.second.mover ∷ [])
  silent_are = All-same (λ (m : MoverState). entries_of m.pass.number records.entries ≡ []) (crew.first.mover ∷ crew.second.mover ∷ []) parts.movers.items (sym f.parted.movers) f.silent

  first_silent : entries_of plan.workers records.entries ≡ []
  first_silent =
      ap (λ (n : ℕ). entries_of n records.entries) (sym (mover_is shared plan.workers (first_plan plan) crew.first f.done.first))
      ∙ All-head (λ (m : MoverState). entries_of m.pass.number records.entries ≡ []) crew.first.mover (crew.second.mover ∷ []) silent_are

  second_silent : entries_of (plan.workers + 1) records.entries ≡ []
  second_silent =
      ap (λ (n : ℕ). entries_of n records.entries) (sym (mover_is shared (plan.workers + 1) (second_plan plan) crew.second f.done.second))
      ∙ All-head (λ (m : MoverState). entries_of m.pass.number records.entries ≡ []) crew.second.mover []
      (All-tail (λ (m : MoverState). entries_of m.pass.number records.entries ≡ []) crew.first.mover (crew.second.mover ∷ []) silent_are)

  -- The records

  legal_so : IsLegalHistory (no_records (length script.names) plan.workers) records.entries
  legal_so =
      subst (λ (n : ℕ). IsLegalHistory (no_records n plan.workers) records.entries) f.is.names_are
      (subst (λ (w : ℕ). IsLegalHistory (no_records shared.table.home.names w) records.entries) f.is.workers f.legal)

  range_so : All (IsEntryWithin (length script.names) plan.workers) records.entries
  range_so =
      subst (λ (n : ℕ). All (IsEntryWithin n plan.workers) records.entries) f.is.names_are
      (subst (λ (w : ℕ). All (IsEntryWithin shared.table.home.names w) records.entries) f.is.workers f.in_range)

  history : IsHistoryOf plan.workers script records.entries
  history =
      record {
        legal = legal_so;
        shared =
            shared_all shared script.lines records.entries log.entries crew.workers.items plan.workers f.done.workers f.done.passes exact_both laws.shared f.of.workers
            (subst (λ (n : ℕ). All (λ (e : ℕ × RecordEntry). e.0 < n) records.entries) f.is.passes f.within) first_silent second_silent;
      }

  passes_so : All (λ (e : ℕ × RecordEntry). e.0 < plan.workers) records.entries
  passes_so = All-weaker (IsEntryWithin (length script.names) plan.workers) (λ (e : ℕ × RecordEntry). e.0 < plan.workers) (λ e within. within.pass) records.entries range_so

  -- The cache

  within_so : All (λ (e : ℕ × CacheEntry). e.0 < plan.workers + 2) log.entries
  within_so = subst (λ (n : ℕ). All (λ (e : ℕ × CacheEntry). e.0 < n) log.entries) f.is.seats f.cache_within

  before_so : AreWorkersBefore plan.workers log.entries
  before_so pass small = of_workers shared script.lines records.entries log.entries crew.workers.items plan.workers f.done.workers f.done.passes exact_both pass small

  sizes_so : sizes_at shared.cache.lock.home ≡ sizes_of plan.slabs plan.chunks 64
  sizes_so =
      ap (λ (n : ℕ). sizes_of n shared.cache.lock.home.chunks (length (buffers_at shared.cache).moves)) f.is.sizes.0
      ∙ (ap (λ (n : ℕ). sizes_of plan.slabs n (length (buffers_at shared.cache).moves)) f.is.sizes.1 ∙ ap (λ (n : ℕ). sizes_of plan.slabs plan.chunks n) f.is.moves)

  reached_so : Reaches (sizes_of plan.slabs plan.chunks 64) log.entries f.state
  reached_so = subst (λ (z : CacheSizes). Reaches z log.entries f.state) sizes_so f.reached

  jobs_so : length crew.first.place.popped + length crew.second.place.popped ≡ length crew.first.place.pushed + length crew.second.place.pushed
  jobs_so =
      omega (
        arith,
        f.jobs,
        ap popped_by f.parted.places,
        ap pushed_by f.parted.places,
        sum_pair (λ s. length s.popped) crew.first.place crew.second.place,
        sum_pair (λ s. length s.pushed) crew.first.place crew.second.place,
      )

  all_begun : total moves_begun (entries_in log.entries) ≡ total moves_begun crew.first.seat.pass.mine + total moves_begun crew.second.seat.pass.mine
  all_begun =
      omega (
        arith,
        laws.sums moves_begun plan.workers log.entries laws.begun within_so before_so,
        ap (total moves_begun) first_mine,
        ap (total moves_begun) second_mine,
      )

  all_ended : total moves_ended (entries_in log.entries) ≡ total moves_ended crew.first.seat.pass.mine + total moves_ended crew.second.seat.pass.mine
  all_ended =
      omega (
        arith,
        laws.sums moves_ended plan.workers log.entries laws.ended within_so before_so,
        ap (total moves_ended) first_mine,
        ap (total moves_ended) second_mine,
      )

  none_pending : pending_count f.state ≡ 0
  none_pending =
      omega (
        arith,
        laws.pending (sizes_of plan.slabs plan.chunks 64) log.entries f.state reached_so,
        all_begun,
        all_ended,
        jobs_so,
        f.done.first.moved.begun,
        f.done.first.moved.ended,
        f.done.second.moved.begun,
        f.done.second.moved.ended,
      )

  calm_so : has_pending f.state ≡ false
  calm_so = still_calm f.state f.state [] laws.pending_along refl none_pending

  cache_so : IsCacheHistoryOf plan log.entries f.state
  cache_so =
      record {
        reached = reached_so;
        calm = calm_so;
        within = within_so;
        workers = before_so;
        first = scans_by shared plan.workers (first_plan plan) crew.first log.entries f.done.first first_mine;
        second = scans_by shared (plan.workers + 1) (second_plan plan) crew.second log.entries f.done.second second_mine;
      }

  -- No Full but where every buffer is out

  full_so : (front rest : List (ℕ × CacheEntry)) (pass : ℕ) → log.entries ≡ front ++ (pass, Full) ∷ rest →
      (s : CacheState) × Reaches (sizes_of plan.slabs plan.chunks 64) front s × (is_full s ≡ true)
  full_so front rest pass is =
      full_out front rest pass (opening (sizes_of plan.slabs plan.chunks 64)) f.state
      (subst (λ (h : List (ℕ × CacheEntry)). Reaches (sizes_of plan.slabs plan.chunks 64) h f.state) is reached_so)

  asked_so : total (weight_of asks_slabs) (entries_in log.entries) ≤ count_by (λ line. is_put line.command) script.lines
  asked_so =
      asks_most plan.workers script.lines log.entries
      (asked_slabs shared script.lines records.entries log.entries crew.workers.items plan.workers f.done.workers f.done.passes exact_both)
      (laws.passes (plan.workers + 2) (weight_of asks_slabs) log.entries within_so)
      (subst (All IsOfMover) (sym first_mine) f.done.first.moved.kinds) (subst (All IsOfMover) (sym second_mine) f.done.second.moved.kinds)

  room_so : count_by (λ line. is_put line.command) script.lines + 64 ≤ plan.slabs * plan.chunks → HasFull log.entries → ⊥
  room_so room h =
      let (s, reached, full) = full_so h.front h.rest h.pass h.is in
      let whole = laws.whole (sizes_of plan.slabs plan.chunks 64) h.front s f.in_plan.chunks.0 (omega arith) reached in
      let same = reached_sizes (sizes_of plan.slabs plan.chunks 64) h.front s reached in
      let buffers : out_count s ≡ plan.slabs * plan.chunks = full_count s whole full ∙ ap₂ (λ a b. a * b) same.0 same.1 in
      omega (
        arith,
        room,
        buffers,
        out_most (entries_in h.front) (out_count s) (pending_count s) (laws.out (sizes_of plan.slabs plan.chunks 64) h.front s f.in_plan.chunks.0 reached)
            (laws.pending (sizes_of plan.slabs plan.chunks 64) h.front s reached),
        pending_most s,
        same.2,
        before_full h.front h.rest h.pass,
        ap (λ (l : List (ℕ × CacheEntry)). total (weight_of asks_slabs) (entries_in l)) h.is,
        asked_so,
      )

  fulls_so : AreFullsDue plan script.lines records.entries log.entries
  fulls_so =
      record {
        out = full_so;
        room = λ room. All-from_recursion (λ (e : ℕ × RecordEntry). is_refused e.1 ≡ false) records.entries
            (none_refused plan.workers records.entries (recursion_from_All (λ (e : ℕ × RecordEntry). e.0 < plan.workers) records.entries passes_so) (λ pass small.
            let none : AllByRecursion (λ (e : ℕ × CacheEntry). is_full_entry e.1 ≡ false) log.entries = ⊎_elim (λ none. none) (λ some. absurd (room_so room some)) (find_full log.entries) in
            omega (
              arith,
              found_full shared script.lines records.entries log.entries crew.workers.items plan.workers f.done.workers f.done.passes exact_both pass small,
              none_by pass log.entries none,
            )));
      }

  -- How moves ended

  flags_are : All (λ (m : MoverState). AreFlagsDue m.flags m.pass.seen) (crew.first.mover ∷ crew.second.mover ∷ [])
  flags_are = All-same (λ (m : MoverState). AreFlagsDue m.flags m.pass.seen) (crew.first.mover ∷ crew.second.mover ∷ []) parts.movers.items (sym f.parted.movers) f.flags

  fronts_are : All (λ (m : MoverState). IsFront m.pass.seen records.entries) (crew.first.mover ∷ crew.second.mover ∷ [])
  fronts_are = All-same (λ (m : MoverState). IsFront m.pass.seen records.entries) (crew.first.mover ∷ crew.second.mover ∷ []) parts.movers.items (sym f.parted.movers) f.fronts

  due_by : (pass : ℕ) (moves : MoverPlan) (t : MoverTask) → IsMoverDone shared pass moves t → AreFlagsDue t.mover.flags t.mover.pass.seen → IsFront t.mover.pass.seen records.entries →
      AreAnswersDue script.lines (ends_of t.tally)
  due_by pass moves t d due front =
      one_due records.entries script.lines history.shared t.mover.flags t.mover.pass.seen d.before.tally t.tally d.waiting.ready.tally_none due front d.moved.given

  due_so : AreAnswersDue script.lines (ends_of tally)
  due_so =
      subst (λ (t : Tally). AreAnswersDue script.lines (ends_of t)) (sym f.tally_is)
      (sum_due script.lines crew.first.tally crew.second.tally
      (due_by plan.workers (first_plan plan) crew.first f.done.first
      (All-head (λ (m : MoverState). AreFlagsDue m.flags m.pass.seen) crew.first.mover (crew.second.mover ∷ []) flags_are)
      (All-head (λ (m : MoverState). IsFront m.pass.seen records.entries) crew.first.mover (crew.second.mover ∷ []) fronts_are))
      (due_by (plan.workers + 1) (second_plan plan) crew.second f.done.second
      (All-head (λ (m : MoverState). AreFlagsDue m.flags m.pass.seen) crew.second.mover [] (All-tail (λ (m : MoverState). AreFlagsDue m.flags m.pass.seen) crew.first.mover (crew.second.mover ∷ []) flags_are))
      (All-head (λ (m : MoverState). IsFront m.pass.seen records.entries) crew.second.mover [] (All-tail (λ (m : MoverState). IsFront m.pass.seen records.entries) crew.first.mover (crew.second.mover ∷ []) fronts_are))))

  -- What is left

  count_so : count_by is_some heap.heap.objects ≡ out_count slabs.state
  count_so =
      omega (
        arith,
        f.counts,
        f.cache_counts,
        jobs_so,
        f.done.first.moved.balance,
        f.done.second.moved.balance,
        balances crew.workers.items (All-weaker (IsWorkerDone shared script.lines) (λ (w : Worker). w.seat.lent + w.session.share.fetched ≡ w.seat.returned + w.session.share.brought)
            (λ w d. d.worked.balance) crew.workers.items f.done.workers),
        sum_parts (λ (w : Worker). w.session) crew.workers.items parts.sessions.items f.parted.sessions (λ (s : SessionState). s.share.fetched),
        sum_parts (λ (w : Worker). w.session) crew.workers.items parts.sessions.items f.parted.sessions (λ (s : SessionState). s.share.brought),
        ap (sum_by (λ (m : MoverState). m.share.fetched)) f.parted.movers,
        ap (sum_by (λ (m : MoverState). m.share.brought)) f.parted.movers,
        sum_pair (λ (m : MoverState). m.share.fetched) crew.first.mover crew.second.mover,
        sum_pair (λ (m : MoverState). m.share.brought) crew.first.mover crew.second.mover,
        ap (sum_by (λ (s : CacheSeatState). s.returned)) f.parted.seats,
        ap (sum_by (λ (s : CacheSeatState). s.lent)) f.parted.seats,
        sum_behind (λ (s : CacheSeatState). s.returned) crew.first.seat crew.second.seat (map (λ (w : Worker). w.seat) (reverse crew.workers.items)),
        sum_behind (λ (s : CacheSeatState). s.lent) crew.first.seat crew.second.seat (map (λ (w : Worker). w.seat) (reverse crew.workers.items)),
        sum_parts (λ (w : Worker). w.seat) crew.workers.items (map (λ (w : Worker). w.seat) (reverse crew.workers.items)) refl (λ (s : CacheSeatState). s.returned),
        sum_parts (λ (w : Worker). w.seat) crew.workers.items (map (λ (w : Worker). w.seat) (reverse crew.workers.items)) refl (λ (s : CacheSeatState). s.lent),
      )

  ran_so : IsRan plan script (record { records = records; cache = log; moves = parts.moves })
  ran_so =
      record {
        records = history;
        within = passes_so;
        end = f.state;
        cache = cache_so;
        refusals = record {
          found = found_full shared script.lines records.entries log.entries crew.workers.items plan.workers f.done.workers f.done.passes exact_both;
          asked = asked_slabs shared script.lines records.entries log.entries crew.workers.items plan.workers f.done.workers f.done.passes exact_both;
        };
        fulls = fulls_so;
        home = f.homes.1 ∙ (sym f.is.home ∙ sym f.cache_homes.1);
        moves =
            omega (
              arith,
              ap (sum_by (λ m. m.pushed + m.refused)) f.parted.moves,
              sum_pair (λ m. m.pushed + m.refused) (log_of crew.first.place) (log_of crew.second.place),
              all_begun,
              f.done.first.moved.begun,
              f.done.second.moved.begun,
            );
      }

  pub closed_so : IsClosed plan script (record { ran = record { records = records; cache = log; moves = parts.moves }; heap = heap; slabs = slabs; tally = tally })
  unfolding ran_so
  closed_so =
      record {
        ran = ran_so;
        rounds = f.rounds;
        flush = f.flushed;
        addresses = f.addresses;
        stands =
            subst (λ (n : ℕ). StandsFor (map_after (no_records n plan.workers) records.entries) f.addresses heap.heap) f.is.names_are
            (subst (λ (w : ℕ). StandsFor (map_after (no_records shared.table.home.names w) records.entries) f.addresses heap.heap) f.is.workers f.stands);
        home = f.homes.0 ∙ (sym f.is.home ∙ sym f.cache_homes.0);
        size =
            f.objects ∙ (ap (λ h. length h.cells) (sym f.is.home) ∙ (f.is.cells ∙ sym (asked_after (sizes_of plan.slabs plan.chunks 64) log.entries (frees_of f.rounds) f.state slabs.state reached_so f.flushed)));
        calm = still_calm f.state slabs.state f.rounds laws.pending_along f.flushed none_pending;
        count = count_so;
        printable = record {
          passes = All-weaker (λ (e : ℕ × RecordEntry). e.0 < plan.workers) (λ (e : ℕ × RecordEntry). e.0 < 16) (λ e small. omega (arith, small, f.in_plan.workers.1)) records.entries passes_so;
          named = replies_within laws.valid laws.told laws.start (length script.names) plan.workers records.entries legal_so range_so;
        };
        due = due_so;
        begun = ap (λ (t : Tally). t.begun) f.tally_is ∙ begun_in_all laws.sums plan.workers log.entries within_so before_so crew.first.seat.pass.mine
            crew.second.seat.pass.mine first_mine second_mine crew.first.tally crew.second.tally f.done.first.moved.tally f.done.second.moved.tally;
        ends = ap ends_of f.tally_is ∙ ended_in_all laws.sums plan.workers log.entries within_so before_so crew.first.seat.pass.mine
            crew.second.seat.pass.mine first_mine second_mine crew.first.tally crew.second.tally f.done.first.moved.ends f.done.second.moved.ends;
      }
