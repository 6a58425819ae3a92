-- What an entry does to what the object stands for.
use Rattle.std.proofs.Common.{◌≡◌, ◌⊎◌, ℕ, ◌+◌, ◌<◌, ◌≤◌, true, List, [], ◌∷◌, ◌++◌, inl, inr, ⊎_elim, sym, ap, ◌∙◌, refl, subst, arith}
use Rattle.std.proofs.lemmas.Bool.{cond-false, cases_lt}
use Rattle.std.proofs.lemmas.List.Elements.{All-push}
use Rattle.kmem_text.specs.declared.command.Command.{Command}
use Rattle.kmem_text.specs.declared.command.Reply.{Reply}
use Rattle.kmem_text.specs.Grammar.{IsWithinNames, IsWithinTags}
use Rattle.kmem_model.specs.Records.{RecordMap, no_records, live_count}
use Rattle.kmem_model.specs.RecordStep.{step, only_looks}
use Rattle.kmem_model.specs.Heap.{StandsFor, places_of}
use Rattle.kmem_model.specs.History.{worker_of, is_refusal, map_next, map_after, IsRight, IsEntryWithin}
use Rattle.kmem_model.specs.declared.record_entry.RecordEntry.{RecordEntry}
use Rattle.kmem_model.proofs.Legal.{map_after-append, legal-append, step_no_refusal}
use Rattle.kmem_model.proofs.StepTags.{looks_leave}
use Rattle.marks.specs.Words.{MarkPenState}
use Rattle.record_heap.specs.View.{HeapView, IsReplyBy, IsStepBy}
use Rattle.record_table.specs.Ended.{drops}
use Rattle.record_table.specs.Shares.{SharesState}
use Rattle.record_table.specs.Tables.{TableView, IsStandingFor, IsCounted, object_count}
use Rattle.record_table.specs.Turns.{entry_of, HasEntered}
use Rattle.record_table.proofs.Lives.{ended_before, ended_last, ends}
use Rattle.record_table.proofs.Lefts.{left_count, same_places}

-- from one heap to another, with these many records before and after, there is a leftover only where there was one, or the entry is a `drop`
-- after which fewer live
abbrev pub LeavesBy : HeapView → HeapView → ℕ → ℕ → ℕ × RecordEntry → Type 0
LeavesBy old new before after e =
    (object_count new.heap + before ≤ object_count old.heap + after) ⊎ ((drops e ≡ true) × (object_count new.heap ≡ object_count old.heap))

-- after an entry that is right
pub entered : (t : TableView) (heap : HeapView) (pen : MarkPenState) (shares : SharesState) (who number : ℕ) (command : Command) (reply : Reply) (h : List (ℕ × RecordEntry)) →
    who < t.workers → IsWithinNames t.names command → IsWithinTags command →
    (it : IsStandingFor t h) →
    IsRight (map_after (no_records t.names t.workers) h) (who, entry_of number command reply) →
    (addresses : List ℕ) → StandsFor (map_next (map_after (no_records t.names t.workers) h) (who, entry_of number command reply)) addresses heap.heap →
    pen.known ≡ places_of heap.heap.objects → IsCounted (record t { heap = heap; pen = pen; shares = shares }) →
    LeavesBy t.heap heap (live_count (map_after (no_records t.names t.workers) h)) (live_count (map_next (map_after (no_records t.names t.workers) h) (who, entry_of number command reply)))
    (who, entry_of number command reply) →
    IsStandingFor (record t { heap = heap; pen = pen; shares = shares }) (h ++ (who, entry_of number command reply) ∷ [])
entered t heap pen shares who number command reply h worker named tagged it right addresses stands known counted leaves =
    let start = no_records t.names t.workers in
    let e : ℕ × RecordEntry = (who, entry_of number command reply) in
    let m = map_after start h in
    let had = left_count m it.addresses t.heap.heap it.stands in
    let has = left_count (map_next m e) addresses heap.heap stands in
    record {
      legal = (legal-append start h (e ∷ [])).1 (it.legal, (right, tt));
      within = All-push (IsEntryWithin t.names t.workers) h e it.within (record { named = named; tagged = tagged; pass = worker });
      addresses = addresses;
      stands = subst (λ (map : RecordMap). StandsFor map addresses heap.heap) (sym (map_after-append start h (e ∷ []))) stands;
      known = known;
      counted = counted;
      left = λ some_left.
          ⊎_elim
          (λ (grows : object_count heap.heap + live_count m ≤ object_count t.heap.heap + live_count (map_next m e)).
          ended_before start h (e ∷ []) (it.left (omega (arith, some_left, had, has, grows))))
          (λ (both : (drops e ≡ true) × (object_count heap.heap ≡ object_count t.heap.heap)). ⊎_elim
          (λ fewer. ended_last start h e (ends m e both.0 fewer))
          (λ (no_fewer : live_count m ≤ live_count (map_next m e)). ended_before start h (e ∷ []) (it.left (omega (arith, some_left, had, has, both.1, no_fewer))))
          (cases_lt (live_count (map_next m e)) (live_count m)))
          leaves;
    }

-- a reply of the map's step is no refusal
pub next_is : (m : RecordMap) (who number : ℕ) (command : Command) (reply : Reply) → reply ≡ (step m (worker_of who) command).reply →
    map_next m (who, entry_of number command reply) ≡ (step m (worker_of who) command).map
next_is m who number command reply same =
    cond-false (is_refusal reply) m _ (ap is_refusal same ∙ step_no_refusal m (worker_of who) command)

-- after a command whose reply and map are the step's
pub stepped_to : (t : TableView) (heap : HeapView) (pen : MarkPenState) (shares : SharesState) (who number : ℕ) (command : Command) (reply : Reply) →
    who < t.workers → IsWithinNames t.names command → IsWithinTags command →
    IsReplyBy t.heap.heap (λ m. (step m (worker_of who) command).reply) reply →
    ((m : RecordMap) (addresses : List ℕ) → StandsFor m addresses t.heap.heap →
    (after : List ℕ) × StandsFor (step m (worker_of who) command).map after heap.heap) →
    (t.pen.known ≡ places_of t.heap.heap.objects → pen.known ≡ places_of heap.heap.objects) →
    (IsCounted t → IsCounted (record t { heap = heap; pen = pen; shares = shares })) →
    ((m : RecordMap) (addresses : List ℕ) → StandsFor m addresses t.heap.heap →
    LeavesBy t.heap heap (live_count m) (live_count (step m (worker_of who) command).map) (who, entry_of number command reply)) →
    HasEntered t (record t { heap = heap; pen = pen; shares = shares }) who (entry_of number command reply)
stepped_to t heap pen shares who number command reply worker named tagged says next places counts leaves h it =
    let m = map_after (no_records t.names t.workers) h in
    let same : reply ≡ (step m (worker_of who) command).reply = says m it.addresses it.stands in
    let after = next m it.addresses it.stands in
    let is = sym (next_is m who number command reply same) in
    entered t heap pen shares who number command reply h worker named tagged it (inr same) after.0
    (subst (λ (map : RecordMap). StandsFor map after.0 heap.heap) is after.1)
    (places it.known) (counts it.counted)
    (subst (λ (map : RecordMap). LeavesBy t.heap heap (live_count m) (live_count map) (who, entry_of number command reply)) is (leaves m it.addresses it.stands))

-- as many records live after the command, or it is a `drop` with `ok`
abbrev pub LivesBy : RecordMap → ℕ → Command → Reply → Type 0
LivesBy m who command reply = (live_count m ≤ live_count (step m (worker_of who) command).map) ⊎ ((number : ℕ) → drops (who, entry_of number command reply) ≡ true)

-- the same with objects in the same places
pub stepped : (t : TableView) (heap : HeapView) (who number : ℕ) (command : Command) (reply : Reply) →
    who < t.workers → IsWithinNames t.names command → IsWithinTags command →
    IsReplyBy t.heap.heap (λ m. (step m (worker_of who) command).reply) reply →
    IsStepBy t.heap.heap heap.heap (λ m. (step m (worker_of who) command).map) →
    places_of heap.heap.objects ≡ places_of t.heap.heap.objects →
    ((m : RecordMap) (addresses : List ℕ) → StandsFor m addresses t.heap.heap → LivesBy m who command reply) →
    HasEntered t (record t { heap = heap }) who (entry_of number command reply)
stepped t heap who number command reply worker named tagged says next places lives =
    let same = same_places heap.heap t.heap.heap places in
    stepped_to t heap t.pen t.shares who number command reply worker named tagged says (λ m addresses stands. (addresses, next m addresses stands)) (λ known. known ∙ sym places)
    (λ counted. omega (arith, counted, same))
    (λ m addresses stands. ⊎_elim
    (λ (more : live_count m ≤ live_count (step m (worker_of who) command).map). inl (omega (arith, more, same)))
    (λ drop. inr (drop number, same))
    (lives m addresses stands))

-- the object's own command, which may be told apart from the one that was made only by an equation
abbrev pub Enters : TableView → TableView → ℕ → ℕ → Command → Reply → Type 0
Enters old new who number command reply = who < old.workers → IsWithinNames old.names command → HasEntered old new who (entry_of number command reply)

-- a command on a name that changes the map and no place
pub changed : (t : TableView) (heap : HeapView) (who number : ℕ) (command did : Command) (reply : Reply) → command ≡ did → IsWithinTags did →
    IsReplyBy t.heap.heap (λ m. (step m (worker_of who) did).reply) reply →
    IsStepBy t.heap.heap heap.heap (λ m. (step m (worker_of who) did).map) →
    places_of heap.heap.objects ≡ places_of t.heap.heap.objects →
    ((m : RecordMap) → live_count m ≤ live_count (step m (worker_of who) did).map) →
    Enters t (record t { heap = heap }) who number command reply
changed t heap who number command did reply is tagged says next places lives =
    subst (λ (k : Command). Enters t (record t { heap = heap }) who number k reply) (sym is)
    (λ worker named. stepped t heap who number did reply worker named tagged says next places (λ m addresses stands. inl (lives m)))

-- a command that only looks
pub looked : (t : TableView) (who number : ℕ) (command did : Command) (reply : Reply) → command ≡ did → IsWithinTags did → only_looks did ≡ true →
    IsReplyBy t.heap.heap (λ m. (step m (worker_of who) did).reply) reply →
    Enters t t who number command reply
looked t who number command did reply is tagged looks says =
    changed t t.heap who number command did reply is tagged says
    (λ m addresses stands. subst (λ (map : RecordMap). StandsFor map addresses t.heap.heap) (sym (looks_leave m (worker_of who) did looks)) stands) refl
    (λ m. omega (arith, ap live_count (looks_leave m (worker_of who) did looks)))
