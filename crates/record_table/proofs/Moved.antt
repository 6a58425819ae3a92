-- What a move does to what the object stands for.
use Rattle.std.proofs.Common.{◌≡◌, ℕ, ◌+◌, ◌<◌, ◌≤◌, length, arith, true, false, List, None, is_some, get_or, set, sym, ap, ◌∙◌, refl}
use Rattle.std.proofs.lemmas.List.{map-set}
use Rattle.kmem_model.specs.Records.{RecordMap}
use Rattle.kmem_model.specs.Heap.{HeapState, StandsFor, object_at, places_of}
use Rattle.kmem_model.specs.Says.{heap_after, addresses_after}
use Rattle.kmem_model.specs.Settle.{places_after}
use Rattle.kmem_model.specs.declared.cache_entry.Said.{Said}
use Rattle.kmem_model.specs.declared.cache_entry.Said.TheVariants.{Yes, No, Later, DontNeed, DontKnow}
use Rattle.kmem_model.proofs.CacheLists.{get_or-map_default}
use Rattle.marks.specs.Words.{MarkPenState}
use Rattle.record_heap.specs.View.{HeapView}
use Rattle.record_table.specs.Shares.{SharesState}
use Rattle.record_table.specs.Tables.{TableView, object_count}
use Rattle.record_table.specs.Moves.{StaysStanding}
use Rattle.record_table.proofs.Lefts.{left_count, same_places, one_less, one_moved}

-- where there are objects after an answer
pub places_moved : (said : Said) (h : HeapState) (from to : ℕ) → places_of (heap_after h from to said).objects ≡ places_after false said from to (places_of h.objects)
places_moved Yes h from to =
    map-set is_some (set h.objects to (get_or h.objects from None)) from None
    ∙ ap (λ xs. set xs from false)
    (map-set is_some h.objects to (get_or h.objects from None) ∙ ap (set (places_of h.objects) to) (sym (get_or-map_default is_some h.objects from None)))
places_moved No h from to = refl
places_moved Later h from to = refl
places_moved DontNeed h from to = map-set is_some h.objects from None
places_moved DontKnow h from to = refl

-- how many buffers an answer brings in, and fetches
abbrev pub brought_said : Said → ℕ
brought_said Yes = 1
brought_said _ = 0

abbrev pub fetched_said : Said → ℕ
fetched_said Yes = 1
fetched_said DontNeed = 1
fetched_said _ = 0

-- the objects are those that such an answer is about
pub record IsMovable (h : HeapState) (from to : ℕ) : Type 0 where
  pub there : is_some (object_at h from) ≡ true
  pub empty : object_at h to ≡ None
  pub low : to < length h.objects

count_after : (h new : HeapState) (from to : ℕ) (said : Said) → IsMovable h from to → places_of new.objects ≡ places_after false said from to (places_of h.objects) →
    object_count new + fetched_said said ≡ object_count h + brought_said said
count_after h new from to Yes it same = omega (arith, one_moved new h from to it.there it.empty it.low same)
count_after h new from to No it same = omega (arith, same_places new h same)
count_after h new from to Later it same = omega (arith, same_places new h same)
count_after h new from to DontNeed it same = omega (arith, one_less new h from it.there same)
count_after h new from to DontKnow it same = omega (arith, same_places new h same)

pub stays_after : (t : TableView) (heap : HeapView) (pen : MarkPenState) (shares : SharesState) (from to : ℕ) (said : Said) →
    heap.heap ≡ heap_after t.heap.heap from to said →
    ((m : RecordMap) (addresses : List ℕ) → StandsFor m addresses t.heap.heap → StandsFor m (addresses_after addresses from to said) heap.heap) →
    (t.pen.known ≡ places_of t.heap.heap.objects → pen.known ≡ places_after false said from to t.pen.known) →
    IsMovable t.heap.heap from to → (shares.brought ≡ t.shares.brought + brought_said said) × (shares.fetched ≡ t.shares.fetched + fetched_said said) →
    StaysStanding t (record t { heap = heap; pen = pen; shares = shares })
stays_after t heap pen shares from to said is next words movable grown h it =
    let count = count_after t.heap.heap heap.heap from to said movable (ap (λ (x : HeapState). places_of x.objects) is ∙ places_moved said t.heap.heap from to) in
    let counted = it.counted in
    let had = left_count _ it.addresses t.heap.heap it.stands in
    let has = left_count _ (addresses_after it.addresses from to said) heap.heap (next _ it.addresses it.stands) in
    record {
      legal = it.legal;
      within = it.within;
      addresses = addresses_after it.addresses from to said;
      stands = next _ it.addresses it.stands;
      known =
          words it.known
          ∙ (ap (places_after false said from to) it.known
          ∙ (sym (places_moved said t.heap.heap from to) ∙ ap (λ (x : HeapState). places_of x.objects) (sym is)));
      counted = omega (arith, counted, count, grown.0, grown.1, less said);
      left = λ some_left. it.left (omega (arith, some_left, had, has, count, less said));
    }
  where
    less : (s : Said) → brought_said s ≤ fetched_said s
    less Yes = omega arith
    less No = omega arith
    less Later = omega arith
    less DontNeed = omega arith
    less DontKnow = omega arith

-- the word of an object that is there is known
pub word_there : (t : TableView) (from : ℕ) → is_some (object_at t.heap.heap from) ≡ true → t.pen.known ≡ places_of t.heap.heap.objects → get_or t.pen.known from false ≡ true
word_there t from there known =
    ap (λ ks. get_or ks from false) known ∙ (get_or-map_default is_some t.heap.heap.objects from None ∙ there)
