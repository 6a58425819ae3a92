-- What `one` runs on, and when it stands for what `one` keeps (this project's own).
use Rattle.std.specs.Prelude.{ℕ, ◌≡◌, ◌<◌, ◌≤◌, ◌*◌, ◌+◌, Bool, true, false, List, Option, Some, None, IfSome, is_some, length, count_by, slice_index_or}
use Rattle.kmem_text.specs.declared.command.Command.{Command}
use Rattle.kmem_text.specs.declared.command.Command.TheVariants.{Get, First, Next, Count}
use Rattle.kmem_text.specs.declared.command.Line.{Line}
use Rattle.kmem_text.specs.declared.command.Reply.{Reply}
use Rattle.kmem_text.specs.Grammar.{IsWithinNames}
use Rattle.kmem_model.specs.Records.{tag_place}
use Rattle.kmem_model.specs.Heap.{hold_at, places_of}
use Rattle.kmem_model.specs.One.{OneState, buffers_of, least_leftover, one_step, one_workers}
use Rattle.kmem_model.specs.OneRun.{OneRun, line_run, without_leftover}
use Rattle.kmem_model.specs.OneStands.{OneStands}
use Rattle.object_cache.specs.Cache.{CacheView}
use Rattle.object_cache.specs.declared.tally.Tally.{Tally}
use Rattle.record_heap.specs.View.{HeapView, HoldState, IsHoldOf}
use Rattle.record_heap.specs.declared.heap.put.PutEnd.{PutEnd}
use Rattle.record_heap.specs.declared.heap.put.PutEnd.TheVariants.{Replied, Wanting}
use Rattle.consolidator.specs.Tallies.{tally_of}

-- a cache, the heap of the records in its buffers, the hold of each tag that is in use, by the tag's place, and the moves of all settles
pub record BenchView : Type 0 where
  pub cache : CacheView
  pub heap : HeapView
  pub holds : List (Option HoldState)
  pub settled : Tally

-- the hold is of this heap, and stands at the place of its tag
abbrev pub IsHoldAtPlace : HeapView → ℕ → HoldState → Type 0
IsHoldAtPlace heap place hold = IsHoldOf heap hold × (tag_place hold.worker hold.tag ≡ place)

-- what always holds of these parts
pub record IsTogether (cache : CacheView) (heap : HeapView) (holds : List (Option HoldState)) : Type 0 where
  -- the heap takes the buffers of the cache
  pub home : heap.home ≡ cache.home
  pub few : length cache.home.cells ≤ 65536
  -- there is a place for each tag of each worker
  pub tags : length heap.heap.tags ≡ 8 * one_workers
  pub places : length holds ≡ 8 * one_workers
  pub held : (place : ℕ) → IfSome (slice_index_or holds place None) (IsHoldAtPlace heap place)

-- the bench stands for what `one` keeps
pub record StandsAt (s : OneState) (b : BenchView) : Type 0 where
  pub stands : OneStands s b.heap.heap
  pub cache : b.cache.state ≡ s.cache
  pub cells : length b.cache.home.cells ≡ buffers_of s.cache
  -- there is a hold exactly for each tag that is in use
  pub held : (place : ℕ) → is_some (slice_index_or b.holds place None) ≡ is_some (hold_at b.heap.heap place)

-- the bench stands for some of it
abbrev pub Stands : BenchView → Type 0
Stands b = (s : OneState) × StandsAt s b

-- the bench stands for what `one` keeps at this moment of a run
pub record RunsAt (run : OneRun) (b : BenchView) : Type 0 where
  pub stands : StandsAt run.state b
  pub settled : b.settled ≡ tally_of run.moves

-- the command's names and worker are among those of the bench
pub record IsOfBench (b : BenchView) (worker : ℕ) (command : Command) : Type 0 where
  pub names : IsWithinNames (length b.heap.heap.names) command
  pub known : (0 < worker) × (worker ≤ one_workers)

-- the reply is that of `one`, and the bench stands for what `one` keeps then
pub record IsCarriedOut (s : OneState) (worker : ℕ) (command : Command) (reply : Reply) (b : BenchView) : Type 0 where
  pub replies : reply ≡ (one_step s worker command).reply
  pub stands : StandsAt (one_step s worker command).state b

-- whatever of `one` the bench stood for, the command is carried out; the names and the counts of settles stay
pub record CarriesOut (old : BenchView) (worker : ℕ) (command : Command) (reply : Reply) (new : BenchView) : Type 0 where
  pub out : (s : OneState) → StandsAt s old → IsCarriedOut s worker command reply new
  pub names : length new.heap.heap.names ≡ length old.heap.heap.names
  pub settled : new.settled ≡ old.settled

-- a command on names that only looks
abbrev pub looks_at_names : Command → Bool
looks_at_names (Get name) = true
looks_at_names First = true
looks_at_names (Next name) = true
looks_at_names Count = true
looks_at_names _ = false

-- the reply of a put, if it was answered
abbrev pub reply_in : PutEnd → Option Reply
reply_in (Replied reply buf) = Some reply
reply_in Wanting = None

-- a line of a script with so many names, for the workers of `one`
pub record IsGoodLine (names : ℕ) (line : Line) : Type 0 where
  pub within : IsWithinNames names line.command
  pub worker : (0 < line.worker) × (line.worker ≤ one_workers)

-- the reply to a line is that of `one`, and the bench runs on, by a settle too where one is due
pub record IsAnswered (every : Option ℕ) (number : ℕ) (run : OneRun) (line : Line) (reply : Reply) (b : BenchView) : Type 0 where
  pub replies : reply ≡ (one_step run.state line.worker line.command).reply
  pub runs : RunsAt (line_run every number run line) b

-- whatever run the bench stood in, the line is answered
abbrev pub Answers : Option ℕ → ℕ → Line → BenchView → Reply → BenchView → Type 0
Answers every number line old reply new = (run : OneRun) → RunsAt run old → IsAnswered every number run line reply new

-- the least leftover was freed, if there was one
abbrev pub FreesOne : OneState → BenchView → Bool → BenchView → Type 0
FreesOne s old true new =
    (b : ℕ) × (least_leftover s ≡ Some b) × StandsAt (without_leftover s b) new
    × (count_by (λ x. x) (places_of new.heap.heap.objects) + 1 ≡ count_by (λ x. x) (places_of old.heap.heap.objects))
FreesOne s old false new = (least_leftover s ≡ None) × (new ≡ old)
