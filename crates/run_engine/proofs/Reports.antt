-- What is reported at the end of a run.
use Rattle.std.proofs.Common.{◌≡◌, ℕ, true, List, length, is_some, sym, ap, ap₂, ◌∙◌, subst}
use Rattle.kmem_text.specs.Grammar.{Plain}
use Rattle.kmem_model.specs.CacheState.{out_count}
use Rattle.kmem_model.specs.CacheCounts.{entries_in}
use Rattle.kmem_model.specs.CacheScans.{is_begin}
use Rattle.kmem_model.specs.declared.record_entry.RecordEntry.{RecordEntry}
use Rattle.kmem_model.specs.Records.{RecordMap, live_count, held_at, no_records}
use Rattle.kmem_model.specs.History.{map_after, IsLegalHistory, has_held, has_fixed}
use Rattle.kmem_model.specs.OneRun.{is_fixed, without_leftovers}
use Rattle.kmem_model.specs.Heap.{StandsFor, object_at, has_record}
use Rattle.kmem_model.specs.Says.{stage_in, AreInBuffers}
use Rattle.kmem_model.specs.Settle.{EndedMove}
use Rattle.kmem_model.specs.SettleEntries.{moves_entries}
use Rattle.kmem_model.specs.SettleWhole.{IsWhole, IsSettled}
use Rattle.kmem_model.specs.Report.{report_on, counted_in, ends_in}
use Rattle.kmem_report.specs.Reported.{reported}
use Rattle.object_cache.specs.Cache.{CacheView}
use Rattle.object_cache.specs.declared.tally.Tally.{Tally}
use Rattle.record_heap.specs.View.{HeapView}
use Rattle.consolidator.specs.Tallies.{tally_of, ends_of}
use Rattle.run_end.specs.Ends.{IsWoundUp, HasFreed, AreAllFree, AreEndsDue, IsOnFewest}
use Rattle.run_end.proofs.Settling.{together, stand_buffers}
use Rattle.run_end.proofs.Left.{without_map}
use Rattle.kmem_model.specs.One.{OneState, buffers_of}
use Rattle.run_engine.specs.declared.plan.RunPlan.{RunPlan}
use Rattle.run_engine.specs.declared.closing.Closed.{Closed}
use Rattle.run_engine.specs.Ran.{IsReportOn, last_map}
use Rattle.run_engine.specs.Closed.{IsClosed}
use Rattle.run_engine.proofs.Known.{settle_due}

-- what a tally of moves counts is how their entries end
pub record TallyLaw : Type 0 where
  pub yes : (moves : List EndedMove) → (tally_of moves).yes ≡ (ends_in (moves_entries moves)).yes
  pub no_s : (moves : List EndedMove) → (tally_of moves).no ≡ (ends_in (moves_entries moves)).no
  pub later : (moves : List EndedMove) → (tally_of moves).later ≡ (ends_in (moves_entries moves)).later
  pub dont_need : (moves : List EndedMove) → (tally_of moves).dont_need ≡ (ends_in (moves_entries moves)).dont_need
  pub dont_know : (moves : List EndedMove) → (tally_of moves).dont_know ≡ (ends_in (moves_entries moves)).dont_know
  pub gone : (moves : List EndedMove) → (tally_of moves).gone ≡ (ends_in (moves_entries moves)).gone

counts_all : TallyLaw → (moves : List EndedMove) → ends_of (tally_of moves) ≡ ends_in (moves_entries moves)
counts_all law moves = λ i. record {
  yes = law.yes moves i;
  no = law.no_s moves i;
  later = law.later moves i;
  dont_need = law.dont_need moves i;
  dont_know = law.dont_know moves i;
  gone = law.gone moves i;
}

-- tags in use were taken, and fixed records fixed
pub record TakenLaw : Type 0 where
  pub held : (names workers place : ℕ) (h : List (ℕ × RecordEntry)) → IsLegalHistory (no_records names workers) h →
      is_some (held_at (map_after (no_records names workers) h) place) ≡ true → has_held h ≡ true
  pub fixed : (names workers id : ℕ) (h : List (ℕ × RecordEntry)) → IsLegalHistory (no_records names workers) h →
      is_fixed (map_after (no_records names workers) h) id ≡ true → has_fixed h ≡ true

-- what the end of a run shows
pub record Wound (plan : RunPlan) (script : Plain) (closed : Closed) (slabs : CacheView) (heap : HeapView) (settled : Tally) (live : ℕ) : Type 0 where
  pub whole : IsWhole closed.slabs.state
  pub buffers : AreInBuffers closed.slabs.state closed.heap.heap.objects
  pub wound_up : IsWoundUp closed.slabs closed.heap slabs heap settled
  pub stands : (m : RecordMap) (addresses : List ℕ) → StandsFor m addresses closed.heap.heap → (others : List ℕ) × StandsFor m others heap.heap
  pub records : (b : ℕ) → is_some (object_at heap.heap b) ≡ true → has_record (object_at heap.heap b) ≡ true
  pub live_is : (m : RecordMap) (addresses : List ℕ) → StandsFor m addresses closed.heap.heap → out_count slabs.state ≡ live_count m
  pub fewest : (m : RecordMap) (addresses : List ℕ) → StandsFor m addresses closed.heap.heap → AreAllFree m → IsOnFewest (live_count m) slabs.state
  pub answered : (m : RecordMap) (addresses : List ℕ) → StandsFor m addresses closed.heap.heap → AreEndsDue m settled
  pub done : IsSettled (stage_in slabs.state heap.heap.objects)
  pub after : AreInBuffers slabs.state heap.heap.objects
  pub told : (m : RecordMap) (addresses : List ℕ) → StandsFor m addresses heap.heap → live ≡ live_count m

pub report_so : TallyLaw → TakenLaw → (plan : RunPlan) (script : Plain) (closed : Closed) (slabs : CacheView) (heap : HeapView) (settled : Tally) (live : ℕ) →
    IsClosed plan script closed → Wound plan script closed slabs heap settled live →
    IsReportOn plan script.lines (last_map plan script closed.ran.records.entries) closed.ran.cache.entries (reported live plan.scans closed.tally settled slabs.state)
report_so law taken plan script closed slabs heap settled live c w =
    record {
      end = c.ran.end;
      reached = c.ran.cache.reached;
      last = slabs.state;
      settling = w.wound_up.settles.entries;
      wound_up = record {
        rounds = c.rounds;
        leftovers = freed.numbers;
        flushed = closed.slabs.state;
        between = w.wound_up.between.state;
        flush = c.flush;
        frees = freed.frees;
        heap = w.wound_up.heap_between.heap;
        addresses = s_freed.addresses;
        stands = subst (λ (n : RecordMap). StandsFor n s_freed.addresses w.wound_up.heap_between.heap) map_kept freed.stands.stands.stands;
        buffers = stand_buffers s_freed w.wound_up.between w.wound_up.heap_between freed.stands;
        moves = w.wound_up.settles.moves;
        settle = w.wound_up.settles.settle;
        made = w.wound_up.settles.made;
      };
      kept = record {
        heap = heap.heap;
        addresses = (w.stands (last_map plan script closed.ran.records.entries) c.addresses c.stands).0;
        stands = (w.stands (last_map plan script closed.ran.records.entries) c.addresses c.stands).1;
        buffers = w.after;
        records = w.records;
        live = w.live_is (last_map plan script closed.ran.records.entries) c.addresses c.stands;
        done = w.done;
        fewest = w.fewest (last_map plan script closed.ran.records.entries) c.addresses c.stands;
      };
      is =
          ap (λ n. report_on slabs.state n plan.scans closed.tally.begun (ends_of closed.tally) (ends_of settled)) (w.told (last_map plan script closed.ran.records.entries) (w.stands (last_map plan script closed.ran.records.entries) c.addresses c.stands).0 (w.stands (last_map plan script closed.ran.records.entries) c.addresses c.stands).1)
          ∙ (ap (λ n. report_on slabs.state (live_count (last_map plan script closed.ran.records.entries)) plan.scans n (ends_of closed.tally) (ends_of settled)) c.begun
          ∙ ap₂ (report_on slabs.state (live_count (last_map plan script closed.ran.records.entries)) plan.scans (counted_in (entries_in closed.ran.cache.entries) is_begin)) c.ends ends);
      moves_due = c.due;
      settled_due =
          settle_due closed.ran.records.entries script.lines c.ran.records.shared (length script.names) plan.workers settled c.ran.records.legal
          (λ place. taken.held (length script.names) plan.workers place closed.ran.records.entries c.ran.records.legal)
          (λ id. taken.fixed (length script.names) plan.workers id closed.ran.records.entries c.ran.records.legal) answered;
      needed = answered.unneeded;
    }
  where
    answered : AreEndsDue (last_map plan script closed.ran.records.entries) settled
    answered = w.answered (last_map plan script closed.ran.records.entries) c.addresses c.stands

    freed : HasFreed (record { map = last_map plan script closed.ran.records.entries; cache = closed.slabs.state; addresses = c.addresses }) closed.slabs closed.heap w.wound_up.between w.wound_up.heap_between
    freed = w.wound_up.freed (record { map = last_map plan script closed.ran.records.entries; cache = closed.slabs.state; addresses = c.addresses })
        (together (last_map plan script closed.ran.records.entries) c.addresses closed.slabs closed.heap w.whole c.calm c.stands w.buffers)

    s_closed : OneState
    s_closed = record { map = last_map plan script closed.ran.records.entries; cache = closed.slabs.state; addresses = c.addresses }

    s_freed : OneState
    s_freed = without_leftovers (buffers_of closed.slabs.state) s_closed

    map_kept : s_freed.map ≡ last_map plan script closed.ran.records.entries
    map_kept = without_map (buffers_of closed.slabs.state) s_closed

    ends : ends_of settled ≡ ends_in w.wound_up.settles.entries
    ends = ap ends_of w.wound_up.settles.counts ∙ (counts_all law w.wound_up.settles.moves ∙ sym w.wound_up.settles.made.ends)
