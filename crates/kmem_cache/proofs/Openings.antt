-- Seats at the beginning.
use Rattle.std.proofs.Common.{◌≡◌, ℕ, ◌+◌, ◌<◌, List, [], ◌∷◌, ◌++◌, length, map, reverse, All, Some, refl, sym, ap, ◌∙◌, subst, arith}
use Rattle.std.proofs.lemmas.List.{reverse-reverse}
use Rattle.std.proofs.lemmas.List.Elements.{All-nil, All-cons}
use Rattle.kmem_buf.specs.Answers.{numbers_of}
use Rattle.kmem_buf.specs.Buffers.{BufState}
use Rattle.kmem_buf.specs.Homes.{Homes}
use Rattle.kmem_model.specs.CacheState.{opening}
use Rattle.kmem_model.specs.CacheHistory.{state_after}
use Rattle.kmem_model.specs.CacheCounts.{made_out, made_free, total}
use Rattle.kmem_model.specs.declared.cache_entry.CacheEntry.{CacheEntry}
use Rattle.magazine.specs.Layer.{Layer, IsLayer, empty_layer, layer_rounds}
use Rattle.magazine.specs.Ready.{IsReady, AreReady}
use Rattle.hist_lock.specs.History.{entries_of}
use Rattle.hist_lock.specs.Passes.{Site, PassState, fresh_passes}
use Rattle.depot.specs.Depot.{DepotState, DepotSeatState, fresh_depot_seat}
use Rattle.kmem_cache.specs.declared.locked.CacheHome.{CacheHome}
use Rattle.kmem_cache.specs.Locked.{sizes_at}
use Rattle.kmem_cache.specs.Seats.{CacheSite, IsCacheSeat, fresh_cache_seat}
use Rattle.kmem_cache.specs.Seated.{IsSeated}
use Rattle.kmem_cache.specs.Opening.{IsFreshPass}
use Rattle.kmem_cache.proofs.Partings.{reverse-cons, map-more}

pub fresh_seated : {X : Type 0} (constructed : X → Type 0) (store : DepotState) (pass : PassState CacheEntry CacheHome) (cpu : Layer (BufState X))
    (spare : List (BufState X)) (depot : DepotSeatState) (lent returned : ℕ) → IsFreshPass store.home pass → cpu ≡ empty_layer → spare ≡ [] →
    depot ≡ fresh_depot_seat store → lent ≡ 0 → returned ≡ 0 → IsSeated constructed pass cpu (Some spare) depot lent returned
fresh_seated {X} constructed store pass cpu spare depot lent returned fresh none empty unused no_lent no_returned =
    let bare : IsLayer {A = BufState X} empty_layer = (omega arith, λ (more : 0 < 0). absurd (omega arith)) in
    record {
      kept = subst (λ (l : Layer (BufState X)). IsLayer l) (sym none) bare;
      ready = subst (λ (l : Layer (BufState X)). AreReady constructed pass.site.home.buffers (layer_rounds l)) (sym none) (All-nil (IsReady constructed pass.site.home.buffers));
      spare_is = ap Some empty;
      home = ap (λ (d : DepotSeatState). d.home) unused ∙ sym fresh.home_is;
      legal = (opening (sizes_at pass.site.home), ap (state_after (opening (sizes_at pass.site.home))) fresh.seen);
      exact = ap (entries_of pass.number) fresh.seen ∙ sym fresh.mine;
      chunks = fresh.chunks;
      adds = omega (
        arith,
        ap (total made_out) fresh.mine,
        ap (total made_free) fresh.mine,
        ap (λ (l : Layer (BufState X)). length (numbers_of (layer_rounds l))) none,
        ap (λ (d : DepotSeatState). length d.taken) unused,
        ap (λ (d : DepotSeatState). length d.put) unused,
        no_lent,
        no_returned,
      );
    }

pub fresh_all : (site : Site CacheHome) (home : Homes) (n : ℕ) (quotas : List ℕ) → site.home.buffers ≡ home → 0 < site.home.chunks → All (IsFreshPass home) (fresh_passes site n quotas)
fresh_all site home n [] at some_there = All-nil (IsFreshPass home)
fresh_all site home n (q ∷ qs) at some_there =
    All-cons (IsFreshPass home) _ (fresh_passes site (n + 1) qs) (record { seen = refl; mine = refl; home_is = at; chunks = some_there }) (fresh_all site home (n + 1) qs at some_there)

pub fresh_long : (site : Site CacheHome) (n : ℕ) (quotas : List ℕ) → length (fresh_passes {E = CacheEntry} site n quotas) ≡ length quotas
fresh_long site n [] = refl
fresh_long site n (q ∷ qs) = omega (arith, fresh_long site (n + 1) qs)

map-reverse : {A B : Type 0} (f : A → B) (xs : List A) → map f (reverse xs) ≡ reverse (map f xs)
map-reverse f [] = refl
map-reverse f (x ∷ xs) = map-more f x xs ∙ (ap (λ l. l ++ f x ∷ []) (map-reverse f xs) ∙ sym (reverse-cons (f x) (map f xs)))

pub map-turned : {A B : Type 0} (f : A → B) (xs : List A) → reverse (map f (reverse xs)) ≡ map f xs
map-turned f xs = ap reverse (map-reverse f xs) ∙ reverse-reverse (map f xs)

pub seats_of : (site : CacheSite) (n : ℕ) (quotas : List ℕ) → All (IsCacheSeat site) (map (fresh_cache_seat site.depot) (fresh_passes site.lock n quotas))
seats_of site n [] = All-nil (IsCacheSeat site)
seats_of site n (q ∷ qs) = All-cons (IsCacheSeat site) _ (map (fresh_cache_seat site.depot) (fresh_passes site.lock (n + 1) qs)) (refl, (refl, refl)) (seats_of site (n + 1) qs)

pub seats_long : (site : CacheSite) (n : ℕ) (quotas : List ℕ) → length (map (fresh_cache_seat site.depot) (fresh_passes site.lock n quotas)) ≡ length quotas
seats_long site n [] = refl
seats_long site n (q ∷ qs) = omega (arith, seats_long site (n + 1) qs)
