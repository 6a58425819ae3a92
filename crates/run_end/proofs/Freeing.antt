-- Leftovers that are freed one after another.
use Rattle.std.proofs.Common.{◌≡◌, ◌<◌, ◌≤◌, ◌+◌, ◌++◌, ℕ, zero, suc, Bool, true, false, cond, List, [], ◌∷◌, map, count_by, length, set, get_or, Option, Some, None, is_some, refl, sym, ap, ◌∙◌, subst, arith}
use Rattle.std.specs.Bool.{then_some}
use Rattle.std.specs.Option.{option_map_or}
use Rattle.std.proofs.lemmas.List.{length-map, map-append}
use Rattle.std.proofs.lemmas.List.Sums.{count_by-le-length, sum_by-set}
use Rattle.kmem_model.specs.CacheHistory.{Follows}
use Rattle.kmem_model.specs.CacheState.{CacheState, out_count}
use Rattle.kmem_model.specs.CacheCounts.{total, made_out, made_free}
use Rattle.kmem_model.specs.SettleWhole.{IsWhole}
use Rattle.kmem_model.specs.declared.cache_entry.CacheEntry.{CacheEntry}
use Rattle.kmem_model.specs.declared.cache_entry.CacheEntry.TheVariants.{Free}
use Rattle.kmem_model.specs.Heap.{HeapState, Object, places_of, object_at, is_leftover, least_left_in}
use Rattle.kmem_model.specs.CacheOrder.{least_below}
use Rattle.std.specs.Option.{option_or}
use Rattle.kmem_model.specs.One.{OneState, buffers_of, least_leftover}
use Rattle.kmem_model.specs.OneRun.{without_leftover, without_leftovers}
use Rattle.object_cache.specs.Cache.{CacheView}
use Rattle.record_heap.specs.View.{HeapView}
use Rattle.run_end.specs.Ends.{StandTogether, AreFewer, FreesOne, HasFreed}
use Rattle.run_end.proofs.Within.{IsFreeing}

abbrev frees_of : List ℕ → List CacheEntry
frees_of numbers = map (λ n. Free n) numbers

-- entries, and further ones
abbrev Chains : Type 0
Chains = (front rest : List CacheEntry) (s t u : CacheState) → Follows s front t → Follows t rest u → Follows s (front ++ rest) u

pub freeing_start : (s : OneState) (cache : CacheView) (heap : HeapView) (more : Bool) → StandTogether s cache heap → more ≡ true → IsFreeing s cache heap cache heap more
freeing_start s cache heap more at is =
    record {
      n = buffers_of s.cache;
      state = s;
      stands = at;
      fuel = omega (arith, count_by-le-length (λ x. x) (places_of heap.heap.objects), length-map heap.heap.objects is_some, at.stands.size);
      same = refl;
      last = λ no. absurd (both more is no);
      numbers = [];
      frees = refl;
      counted = refl;
    }
  where
    both : (x : Bool) → x ≡ true → x ≡ false → ⊥
    both true e f = cc
    both false e f = cc

-- where there is no leftover, all are freed
none_left : (n : ℕ) (s : OneState) → least_leftover s ≡ None → without_leftovers n s ≡ s
none_left zero s e = refl
none_left (suc n) s e = ap (λ x. option_map_or (λ b. without_leftovers n (without_leftover s b)) x s) e

-- how many buffers are out along entries
abbrev Along : Type 0
Along = (s t : CacheState) (entries : List CacheEntry) → IsWhole s → Follows s entries t → out_count t + total made_free entries ≡ out_count s + total made_out entries

pub freeing_on : Chains → Along → (s : OneState) (start cache cache' : CacheView) (begin heap heap' : HeapView) (more was : Bool) (f : IsFreeing s start begin cache heap was) → FreesOne f.state cache heap more cache' heap' → IsFreeing s start begin cache' heap' more
freeing_on chain along s start cache cache' begin heap heap' true was f does = by_fuel f.n f.fuel f.same
  where
    by_fuel : (n : ℕ) → count_by (λ x. x) (places_of heap.heap.objects) ≤ n → without_leftovers n f.state ≡ without_leftovers (buffers_of s.cache) s → IsFreeing s start begin cache' heap' true
    by_fuel zero fuel same = absurd (omega (arith, fuel, does.4))
    by_fuel (suc n) fuel same =
        record {
          n = n;
          state = without_leftover f.state does.0;
          stands = does.3;
          fuel = omega (arith, fuel, does.4);
          same = sym (ap (λ x. option_map_or (λ b. without_leftovers n (without_leftover f.state b)) x f.state) does.1) ∙ same;
          last = λ no. absurd (cc);
          numbers = f.numbers ++ does.0 ∷ [];
          frees = subst (λ es. Follows start.state es cache'.state) (sym (map-append (λ n. Free n) f.numbers (does.0 ∷ []))) (chain (frees_of f.numbers) (Free does.0 ∷ []) start.state cache.state cache'.state f.frees does.2);
          counted = omega (arith, f.counted, does.4, along cache.state cache'.state (Free does.0 ∷ []) (subst IsWhole (sym f.stands.state) f.stands.stands.whole) does.2);
        }
freeing_on chain along s start cache cache' begin heap heap' false was f does =
    record {
      n = f.n;
      state = f.state;
      stands = subst (λ (h : HeapView). StandTogether f.state cache' h) (sym does.2) (subst (λ (c : CacheView). StandTogether f.state c heap) (sym does.1) f.stands);
      fuel = subst (λ (h : HeapView). count_by (λ x. x) (places_of h.heap.objects) ≤ f.n) (sym does.2) f.fuel;
      same = f.same;
      last = λ no. does.0;
      numbers = f.numbers;
      frees = subst (λ (c : CacheView). Follows start.state (frees_of f.numbers) c.state) (sym does.1) f.frees;
      counted = subst (λ (h : HeapView). AreFewer start begin cache' h) (sym does.2) (subst (λ (c : CacheView). AreFewer start begin c heap) (sym does.1) f.counted);
    }

pub freed_all : (s : OneState) (start cache : CacheView) (heap heap' : HeapView) (more : Bool) → IsFreeing s start heap cache heap' more → more ≡ false → HasFreed s start heap cache heap'
freed_all s start cache heap heap' more f is =
    record {
      numbers = f.numbers;
      frees = f.frees;
      stands = subst (λ (t : OneState). StandTogether t cache heap') whole f.stands;
      none = ap least_leftover (sym whole) ∙ f.last is;
      counted = f.counted;
    }
  where
    whole : f.state ≡ without_leftovers (buffers_of s.cache) s
    whole = sym (none_left f.n f.state (f.last is)) ∙ f.same

-- fewer objects, or the last turn
pub smaller : (s : OneState) (cache cache' : CacheView) (heap heap' : HeapView) (more : Bool) → FreesOne s cache heap more cache' heap' → count_by (λ x. x) (places_of heap'.heap.objects) + cond more 1 0 < count_by (λ x. x) (places_of heap.heap.objects) + 1
smaller s cache cache' heap heap' true does = omega (arith, does.4)
smaller s cache cache' heap heap' false does = omega (arith, ap (λ (h : HeapView). count_by (λ x. x) (places_of h.heap.objects)) does.2)

same_some : {X : Type 0} (x y : X) → ◌≡◌ {A = Option X} (Some x) (Some y) → x ≡ y
same_some x y e = cc

none_some : {X : Type 0} (x : X) → ◌≡◌ {A = Option X} None (Some x) → ⊥
none_some x e = cc

-- one place less
pub one_less : (xs : List Bool) (i : ℕ) → get_or xs i false ≡ true → count_by (λ x. x) (set xs i false) + 1 ≡ count_by (λ x. x) xs
one_less xs i there =
    let below : i < length xs = inside xs i there in
    let was : ◌≡◌ {A = ℕ} (cond (get_or xs i false) 1 0) 1 = ap {B = ℕ} (λ b. cond b 1 0) there in
    omega (arith, was, sum_by-set (λ b. cond b 1 0) xs i false false below)
  where
    inside : (ys : List Bool) (j : ℕ) → get_or ys j false ≡ true → j < length ys
    inside [] j e = absurd (cc)
    inside (y ∷ ys) zero e = omega arith
    inside (y ∷ ys) (suc j) e = omega (arith, inside ys j e)

-- where the least leftover lies there is an object
pub place_there : (h : HeapState) (b : ℕ) → least_left_in h ≡ Some b → get_or (places_of h.objects) b false ≡ true
place_there h b e = mapped h.objects b ∙ leftover_there (object_at h b) (found (length h.objects) (λ n. is_leftover (object_at h n)) b e)
  where
    mapped : (xs : List (Option Object)) (i : ℕ) → get_or (map is_some xs) i false ≡ is_some (get_or xs i None)
    mapped [] i = refl
    mapped (x ∷ xs) zero = refl
    mapped (x ∷ xs) (suc i) = mapped xs i

    leftover_there : (x : Option Object) → is_leftover x ≡ true → is_some x ≡ true
    leftover_there None e = e
    leftover_there (Some o) e = refl

    found : (n : ℕ) (test : ℕ → Bool) (k : ℕ) → least_below n test ≡ Some k → test k ≡ true
    found zero test k e = absurd (none_some k e)
    found (suc n) test k e = step (least_below n test) (test n) refl (λ f. found n test k f) e
      where
        step : (o : Option ℕ) (t : Bool) → test n ≡ t → (o ≡ Some k → test k ≡ true) → option_or o (then_some t n) ≡ Some k → test k ≡ true
        step (Some m) t is rest e = rest e
        step None true is rest e = ap test (sym (same_some n k e)) ∙ is
        step None false is rest e = absurd (none_some k e)
