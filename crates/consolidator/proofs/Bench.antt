-- The bench of the tests: what a put and a del leave.
use Rattle.std.proofs.Common.{◌≡◌, ℕ, Bool, true, false, length, Option, None, Some, Result, Ok, Err, refl, sym, ◌∙◌, ap}
use Rattle.std.specs.Bool.{then_some}
use Rattle.std.specs.Option.{IsSome, is_some}
use Rattle.kmem_model.specs.CacheState.{CacheState}
use Rattle.kmem_model.specs.One.{OneStep}
use Rattle.kmem_model.specs.OneStands.{OneEnds}
use Rattle.kmem_text.specs.declared.command.Reply.{Reply}
use Rattle.object_cache.specs.Cache.{CacheView}
use Rattle.record_heap.specs.View.{HeapView, IsFrame}
use Rattle.consolidator.specs.Bench.{IsSetUp}

pub none_is : (a : Option ℕ) → is_some a ≡ false → a ≡ None
none_is None e = refl
none_is (Some b) e = absurd (cc)

pub not_full : (b : Bool) (s : CacheState) → (IsSome (then_some b s) → ⊥) → b ≡ false
not_full true s h = absurd (h refl)
not_full false s h = refl

pub ok_err : {A E : Type 0} (r : Result A E) (a : A) (e : E) → r ≡ Ok a → r ≡ Err e → ⊥
ok_err r a e h k = absurd (cc)

-- after a command that ends so
pub set_up_after : (cache : CacheView) (heap : HeapView) → IsSetUp cache heap → (new_cache : CacheView) (new_heap : HeapView) → IsFrame heap new_heap → new_cache.home ≡ cache.home →
    (made : OneStep) (reply : Reply) → OneEnds made reply new_cache.state new_heap.heap → IsSetUp new_cache new_heap
set_up_after cache heap b new_cache new_heap frame home made reply ends =
    record {
      home = frame.home ∙ (b.home ∙ sym home);
      cells = ap (λ h. length h.cells) home ∙ (b.cells ∙ sym frame.objects);
      names = frame.names ∙ b.names;
      tags = frame.tags ∙ b.tags;
      state = made.state;
      stands = ends.stands;
      same = sym ends.leaves;
    }
