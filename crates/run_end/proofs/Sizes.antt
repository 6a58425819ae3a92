-- Entries change no size of a cache.
use Rattle.std.proofs.Common.{◌≡◌, List, [], ◌∷◌, subst}
use Rattle.kmem_model.specs.declared.cache_entry.CacheEntry.{CacheEntry}
use Rattle.kmem_model.specs.CacheState.{CacheState}
use Rattle.kmem_model.specs.CacheHistory.{Follows, entered_all}
use Rattle.kmem_model.specs.CacheEnter.{enter}
use Rattle.kmem_model.proofs.SettleWhole.{AreSameSizes, same_sizes, sizes_on, enter_sizes}
use Rattle.kmem_model.proofs.PlacesKept.{and_then_says}

pub follows_sizes : (entries : List CacheEntry) (s t : CacheState) → Follows s entries t → AreSameSizes s t
follows_sizes [] s t e = let same : s ≡ t = cc in subst (AreSameSizes s) same (same_sizes s)
follows_sizes (x ∷ xs) s t e =
    let (next, one, rest) = and_then_says (λ n. entered_all n xs) (enter s x) t e in
    sizes_on s next t (enter_sizes s next x one) (follows_sizes xs next t rest)
