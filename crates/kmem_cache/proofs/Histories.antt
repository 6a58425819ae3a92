-- One more entry of a history, and the object that stands for it.
use Rattle.std.proofs.Common.{◌≡◌, ℕ, List, [], ◌∷◌, ◌++◌, Option, Some, None, option_and_then, refl, sym, ap, ◌∙◌, subst, arith, length-append}
use Rattle.hist_lock.specs.History.{told}
use Rattle.kmem_model.specs.CacheState.{CacheState}
use Rattle.kmem_model.specs.CacheEnter.{enter}
use Rattle.kmem_model.specs.CacheHistory.{state_after, Reaches}
use Rattle.kmem_model.specs.declared.cache_entry.CacheEntry.{CacheEntry}
use Rattle.kmem_cache.specs.declared.locked.CacheHome.{CacheHome}
use Rattle.kmem_cache.specs.declared.locked.Locked.{Locked}
use Rattle.kmem_cache.specs.Locked.{sizes_at, home_under, IsStanding, IsStep}

-- the state after one more entry
pub state_after-last : (h : List (ℕ × CacheEntry)) (s : CacheState) (e : ℕ × CacheEntry) →
    state_after s (h ++ e ∷ []) ≡ option_and_then (λ t. enter t e.1) (state_after s h)
state_after-last [] s e = by_next (enter s e.1)
  where
    by_next : (o : Option CacheState) → option_and_then (λ next. Some next) o ≡ o
    by_next None = refl
    by_next (Some next) = refl
state_after-last (x ∷ xs) s e = by_next xs (enter s x.1) (λ next. state_after-last xs next e)
  where
    by_next : (xs : List (ℕ × CacheEntry)) (o : Option CacheState) →
        ((next : CacheState) → state_after next (xs ++ e ∷ []) ≡ option_and_then (λ t. enter t e.1) (state_after next xs)) →
        option_and_then (λ next. state_after next (xs ++ e ∷ [])) o ≡ option_and_then (λ t. enter t e.1) (option_and_then (λ next. state_after next xs) o)
    by_next xs None later = refl
    by_next xs (Some next) later = later next

module _ {K : Type 0} where
  -- what a step leaves stands for the history that it tells
  pub step_stands : (old new : Locked K) (h : List (ℕ × CacheEntry)) (who : ℕ) (entry : Option CacheEntry) → IsStep old new entry → IsStanding old h → IsStanding new (told h who entry)
  step_stands old new h who None step stands = subst (λ (l : Locked K). IsStanding l h) (sym step) stands
  step_stands old new h who (Some e) step stands = record {
    reached = subst (λ (home : CacheHome). Reaches (sizes_at home) (h ++ (who, e) ∷ []) new.cache.state) (sym step.home)
        (state_after-last h _ (who, e) ∙ (ap (option_and_then (λ t. enter t e)) stands.reached ∙ step.state));
    counted = omega (arith, step.counted, stands.counted, length-append h ((who, e) ∷ []));
  }

  pub step_home : (old new : Locked K) (entry : Option CacheEntry) → IsStep old new entry → home_under new ≡ home_under old
  step_home old new None step = ap home_under step
  step_home old new (Some e) step = step.home
