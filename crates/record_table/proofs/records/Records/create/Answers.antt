use Rattle.std.proofs.Common.{ℕ, ◌≡◌, ◌*◌, false, refl, [], cond, Option, None, is_some, count_by, replicate, arith, sym, ap, ◌∙◌}
use Rattle.std.proofs.lemmas.List.Elements.{All-nil}
use Rattle.kmem_model.specs.Heap.{Object, HeapState, places_of}
use Rattle.kmem_model.specs.History.{IsEntryWithin}
use Rattle.kmem_model.proofs.CacheLists.{map-replicate}
use Rattle.marks.specs.Words.{MarkPenState}
use Rattle.std.proofs.lemmas.List.Folds.{sum_by-replicate}
use Rattle.record_table.specs.Tables.{object_count}
use Rattle.record_table.proofs.Lefts.{left_count}
use Rattle.record_table.proofs.records.Records.create.Goals as goal

-- no object
no_objects : (n : ℕ) (x : Option Object) → is_some x ≡ false → count_by is_some (replicate n x) ≡ 0
no_objects n x none =
    let e = sum_by-replicate (λ (y : Option Object). cond (is_some y) 1 0) n x ∙ ap (λ b. n * cond b 1 0) none in
    omega (arith, e)

pub returns-clause-stands : goal.returns-clause-stands
returns-clause-stands c =
    record {
      legal = tt;
      within = All-nil (IsEntryWithin c.args.names c.args.workers);
      addresses = [];
      stands = c.in_ok-heap.ensures.stands;
      known =
          ap (λ (p : MarkPenState). p.known) c.in_ok-marks.ensures.pen
          ∙ sym (ap (λ (h : HeapState). places_of h.objects) c.in_ok-heap.ensures.heap.0 ∙ map-replicate is_some c.args.buffers None);
      counted = omega (arith, c.in_ok-shares.ensures.none, none_there);
      left = λ some_left. absurd (omega (arith, some_left, none_there, left_count _ [] c.in_ok-heap.heap.heap c.in_ok-heap.ensures.stands));
    }
  where
    none_there : object_count c.in_ok-heap.heap.heap ≡ 0
    none_there = ap object_count c.in_ok-heap.ensures.heap.0 ∙ no_objects c.args.buffers None refl
