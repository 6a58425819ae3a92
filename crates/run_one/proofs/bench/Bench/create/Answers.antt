use Rattle.std.proofs.Common.{◌≡◌, ◌≤◌, ◌*◌, ℕ, zero, suc, false, get_or, length, replicate, Option, None, is_some, IfSome, refl, sym, ap, ◌∙◌, subst}
use Rattle.std.proofs.lemmas.List.{length-replicate}
use Rattle.kmem_model.specs.Heap.{HeapState}
use Rattle.record_heap.specs.View.{HoldState}
use Rattle.run_one.specs.Bench.{IsHoldAtPlace}
use Rattle.run_one.proofs.bench.Bench.create.Goals as goal

nothing_at : {X : Type 0} (n i : ℕ) → ◌≡◌ {A = Option X} (get_or (replicate n None) i None) None
nothing_at zero i = refl
nothing_at (suc n) zero = refl
nothing_at (suc n) (suc i) = nothing_at n i

pub returns-clause-start : goal.returns-clause-start
returns-clause-start c =
    let heap = c.in_ok-heap.heap.heap in
    let stands = c.law_one_step.ensures.start c.args.slabs c.args.chunks c.args.names heap c.requires.chunks.0
    (ap (λ (h : HeapState). h.objects) c.in_ok-heap.ensures.heap.0) c.in_ok-heap.ensures.stands in
    record {
      stands = record {
        stands = stands;
        cache = c.in_ok-cache.ensures.state;
        cells = c.in_ok-cache.ensures.home.0 ∙ sym (length-replicate (c.args.slabs * c.args.chunks) false);
        held = λ place. ap is_some (c.in_ok-holds.ensures.none place) ∙ sym (ap (λ (h : HeapState). is_some (get_or h.tags place None)) c.in_ok-heap.ensures.heap.0 ∙ ap is_some (nothing_at 128 place));
      };
      settled = c.no_moves.ensures;
    }

pub invariant_of-result : goal.invariant_of-result
invariant_of-result c =
    let heap = c.in_ok-heap.heap in
    let none = c.in_ok-holds.ensures.none in
    record {
      home = c.in_ok-heap.ensures.heap.1 ∙ c.home.ensures;
      few = subst (λ n. n ≤ 65536) (sym c.in_ok-cache.ensures.home.0) c.requires.buffers;
      tags = ap (λ (h : HeapState). length h.tags) c.in_ok-heap.ensures.heap.0 ∙ length-replicate {A = Option ℕ} 128 None;
      places = c.in_ok-holds.ensures.size;
      held = λ place. subst (λ (held : Option HoldState). IfSome held (IsHoldAtPlace heap place)) (sym (none place)) tt;
    }
