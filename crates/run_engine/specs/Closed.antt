-- A run between its threads and its end (this project's own).
use Rattle.std.specs.Prelude.{◌≡◌, ℕ, false, List, [], ◌∷◌, length, map, reverse, is_some, count_by}
use Rattle.kmem_text.specs.Grammar.{Plain}
use Rattle.kmem_model.specs.CacheState.{out_count, has_pending}
use Rattle.kmem_model.specs.CacheHistory.{Follows}
use Rattle.kmem_model.specs.CacheCounts.{entries_in}
use Rattle.kmem_model.specs.CacheScans.{is_begin}
use Rattle.kmem_model.specs.Heap.{StandsFor}
use Rattle.kmem_model.specs.Report.{counted_in, ends_in}
use Rattle.kmem_cache.specs.Closing.{frees_of}
use Rattle.move_queue.specs.Queue.{QueueSeatState, QueueLogState}
use Rattle.consolidator.specs.Tallies.{ends_of}
use Rattle.run_print.specs.Printed.{IsPrintable}
use Rattle.run_engine.specs.declared.plan.RunPlan.{RunPlan}
use Rattle.run_engine.specs.declared.crew.Crew.{Crew}
use Rattle.run_engine.specs.declared.parts.Parts.{Parts}
use Rattle.run_engine.specs.declared.closing.Closed.{Closed}
use Rattle.run_engine.specs.Ran.{IsRan, AreAnswersDue, last_map}

-- what a seat of the queue has come to
abbrev pub log_of : {X : Type 0} → QueueSeatState X → QueueLogState
log_of seat = record { pushed = length seat.pushed; refused = seat.refused }

-- the parts are those of the two movers, and then of the workers, the last one first
pub record ArePartsOf (crew : Crew) (parts : Parts) : Type 0 where
  pub sessions : parts.sessions.items ≡ map (λ w. w.session) (reverse crew.workers.items)
  pub movers : parts.movers.items ≡ crew.first.mover ∷ crew.second.mover ∷ []
  pub seats : parts.seats.items ≡ crew.first.seat ∷ crew.second.seat ∷ map (λ w. w.seat) (reverse crew.workers.items)
  pub places : parts.places.items ≡ crew.first.place ∷ crew.second.place ∷ []
  pub moves : parts.moves.items ≡ log_of crew.first.place ∷ log_of crew.second.place ∷ []

-- everything is closed and nothing is settled yet: the heap stands for the map after the history, with as many objects as buffers are out
pub record IsClosed (plan : RunPlan) (script : Plain) (closed : Closed) : Type 0 where
  pub ran : IsRan plan script closed.ran
  pub rounds : List ℕ
  pub flush : Follows ran.end (frees_of rounds) closed.slabs.state
  pub addresses : List ℕ
  pub stands : StandsFor (last_map plan script closed.ran.records.entries) addresses closed.heap.heap
  pub home : closed.heap.home ≡ closed.slabs.home
  pub size : length closed.heap.heap.objects ≡ length closed.slabs.state.asked
  pub calm : has_pending closed.slabs.state ≡ false
  pub count : count_by is_some closed.heap.heap.objects ≡ out_count closed.slabs.state
  pub printable : IsPrintable (length script.names) closed.ran.records.entries
  pub begun : closed.tally.begun ≡ counted_in (entries_in closed.ran.cache.entries) is_begin
  pub due : AreAnswersDue script.lines (ends_of closed.tally)
  pub ends : ends_of closed.tally ≡ ends_in (entries_in closed.ran.cache.entries)
