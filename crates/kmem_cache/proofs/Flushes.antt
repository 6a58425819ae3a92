-- Entries one after another.
use Rattle.std.proofs.Common.{◌≡◌, ℕ, ◌+◌, List, [], ◌∷◌, ◌++◌, Option, Some, None, option_and_then, refl, ap, ◌∙◌, arith, length-append}
use Rattle.std.specs.List.{sum_by}
use Rattle.std.proofs.lemmas.List.Sums.{sum_by-cons, sum_by-append}
use Rattle.kmem_model.specs.CacheState.{CacheState}
use Rattle.kmem_model.specs.CacheEnter.{enter}
use Rattle.kmem_model.specs.CacheHistory.{entered_all}
use Rattle.kmem_model.specs.declared.cache_entry.CacheEntry.{CacheEntry}
use Rattle.kmem_model.specs.declared.cache_entry.CacheEntry.TheVariants.{Free}
use Rattle.kmem_cache.specs.Closing.{frees_of, IsFlushed}

pub entered-append : (xs ys : List CacheEntry) (s : CacheState) → entered_all s (xs ++ ys) ≡ option_and_then (λ t. entered_all t ys) (entered_all s xs)
entered-append [] ys s = refl
entered-append (x ∷ xs) ys s = by_next xs (enter s x) (λ next. entered-append xs ys next)
  where
    by_next : (xs : List CacheEntry) (o : Option CacheState) →
        ((next : CacheState) → entered_all next (xs ++ ys) ≡ option_and_then (λ t. entered_all t ys) (entered_all next xs)) →
        option_and_then (λ next. entered_all next (xs ++ ys)) o ≡ option_and_then (λ t. entered_all t ys) (option_and_then (λ next. entered_all next xs) o)
    by_next xs None later = refl
    by_next xs (Some next) later = later next

pub frees-append : (xs ys : List ℕ) → frees_of (xs ++ ys) ≡ frees_of xs ++ frees_of ys
frees-append [] ys = refl
frees-append (x ∷ xs) ys = ap (λ l. Free x ∷ l) (frees-append xs ys)

-- a flush and another one are one
pub flushed_both : (a b : ℕ) (s t u : CacheState) → IsFlushed a s t → IsFlushed b t u → IsFlushed (a + b) s u
flushed_both a b s t u first second = (
  first.0 ++ second.0,
  ap (entered_all s) (frees-append first.0 second.0)
      ∙ (entered-append (frees_of first.0) (frees_of second.0) s ∙ (ap (option_and_then (λ v. entered_all v (frees_of second.0))) first.1 ∙ second.1)),
  omega (arith, length-append first.0 second.0, first.2, second.2),
)

pub flushed_none : (s : CacheState) → IsFlushed 0 s s
flushed_none s = ([], refl, refl)

pub flushed_one : (n : ℕ) (s t : CacheState) → enter s (Free n) ≡ Some t → IsFlushed 1 s t
flushed_one n s t e = (n ∷ [], ap (option_and_then (λ v. Some v)) e, refl)

-- so many of all were freed, and so many are left
abbrev pub IsGoing : ℕ → ℕ → CacheState → CacheState → Type 0
IsGoing all left start now = (n : ℕ) × IsFlushed n start now × (n + left ≡ all)

pub going_on : (all left left' m : ℕ) (start now next : CacheState) → left ≡ left' + m → IsFlushed m now next → IsGoing all left start now → IsGoing all left' start next
going_on all left left' m start now next fewer more going =
    (going.0 + m, flushed_both going.0 m start now next going.1 more, omega (arith, going.2, fewer))

-- one more element at the end of a list
pub sum-last : {A : Type 0} (f : A → ℕ) (xs ys : List A) (x : A) → xs ≡ ys ++ x ∷ [] → sum_by f xs ≡ sum_by f ys + f x
sum-last f xs ys x e = omega (arith, ap (sum_by f) e, sum_by-append f ys (x ∷ []), sum_by-cons f x [])
