-- Every entry keeps how many slabs a cache has, and how many buffers a slab has.
use Rattle.std.proofs.Common.{◌≡◌, ℕ, ◌/◌, ◌%◌, Bool, true, false, cond, List, [], ◌∷◌, map, length-set, set, Option, Some, None, option_map, option_and_then, ◌∙◌, subst}
use Rattle.std.proofs.lemmas.List.{length-map}
use Rattle.std.specs.Bool.{then_some}
use Rattle.kmem_model.specs.CacheState.{SlabState, CacheState, slab_at, is_out, move_at, has_pending}
use Rattle.kmem_model.specs.CacheEnter.{unmarked, slab_taken, slab_freed, slab_given_back, slab_answered, on_slab_of, with_out, emptied_goes, freed, all_freed, handed_back, without_move, with_answer, scan_started, gone, ended, enter}
use Rattle.kmem_model.specs.declared.cache_state.PendingMove.{PendingMove}
use Rattle.kmem_model.specs.declared.cache_entry.Said.{Said}
use Rattle.kmem_model.specs.declared.cache_entry.CacheEntry.{CacheEntry}
use Rattle.kmem_model.specs.declared.cache_entry.CacheEntry.TheVariants.{Alloc, Full, Free, Scan, Begin, Idle, Gone, End, Forget}
use Rattle.kmem_report.specs.Bench.{HasSizes}

-- What an optional state says

sizes_then : (n k : ℕ) (b : Bool) (x y : CacheState) → then_some b x ≡ Some y → HasSizes n k x → HasSizes n k y
sizes_then n k true x y e p = let same : x ≡ y = cc in subst (HasSizes n k) same p
sizes_then n k false x y e p = absurd (cc)

sizes_map : (n k : ℕ) (f : CacheState → CacheState) (o : Option CacheState) (y : CacheState) → option_map f o ≡ Some y → ((x : CacheState) → o ≡ Some x → HasSizes n k (f x)) → HasSizes n k y
sizes_map n k f None y e p = absurd (cc)
sizes_map n k f (Some x) y e p = let same : f x ≡ y = cc in subst (HasSizes n k) same (p x (cc))

sizes_and_then : {X : Type 0} (n k : ℕ) (f : X → Option CacheState) (o : Option X) (y : CacheState) → option_and_then f o ≡ Some y → ((x : X) → o ≡ Some x → f x ≡ Some y → HasSizes n k y) → HasSizes n k y
sizes_and_then n k f None y e p = absurd (cc)
sizes_and_then n k f (Some x) y e p = p x (cc) e

-- The effects

sizes_on : (n k : ℕ) (s : CacheState) (b : ℕ) (change : SlabState → ℕ → SlabState) → HasSizes n k s → HasSizes n k (on_slab_of s b change)
sizes_on n k s b change p =
    record { slabs = length-set s.slabs (b / s.chunks) (change (slab_at s.slabs (b / s.chunks)) (b % s.chunks)) ∙ p.slabs; chunks = p.chunks }

sizes_freed : (n k : ℕ) (s t : CacheState) (b : ℕ) → freed s b ≡ Some t → HasSizes n k s → HasSizes n k t
sizes_freed n k s t b e p = sizes_then n k _ _ t e (sizes_on n k s b (slab_freed (emptied_goes s)) p)

sizes_all_freed : (n k : ℕ) (bs : List ℕ) (s t : CacheState) → all_freed s bs ≡ Some t → HasSizes n k s → HasSizes n k t
sizes_all_freed n k [] s t e p = let same : s ≡ t = cc in subst (HasSizes n k) same p
sizes_all_freed n k (b ∷ bs) s t e p =
    sizes_and_then n k (λ next. all_freed next bs) (freed s b) t e
    (λ x first rest. sizes_all_freed n k bs x t rest (sizes_freed n k s x b first p))

sizes_without : (n k : ℕ) (s : CacheState) (j : ℕ) → HasSizes n k s → HasSizes n k (without_move s j)
sizes_without n k s j p = by_pending (has_pending next)
  where
    next : CacheState
    next = record s { pending = set s.pending j None }

    by_pending : (b : Bool) → HasSizes n k (cond b next (record next { slabs = map slab_given_back s.slabs }))
    by_pending true = record { slabs = p.slabs; chunks = p.chunks }
    by_pending false = record { slabs = length-map s.slabs slab_given_back ∙ p.slabs; chunks = p.chunks }

sizes_answered : (n k : ℕ) (s : CacheState) (b : ℕ) (said : Said) → HasSizes n k s → HasSizes n k (with_answer s b said)
sizes_answered n k s b said p = by_out (is_out s b)
  where
    by_out : (x : Bool) → HasSizes n k (cond x (on_slab_of s b (slab_answered said)) s)
    by_out true = sizes_on n k s b (slab_answered said) p
    by_out false = p

sizes_gone : (n k : ℕ) (s t : CacheState) (j : ℕ) (m : PendingMove) → gone s j m ≡ Some t → HasSizes n k s → HasSizes n k t
sizes_gone n k s t j m e p = by_out (is_out s m.from) e
  where
    by_out : (b : Bool) → cond b None (option_map (λ next. without_move next j) (freed s m.to)) ≡ Some t → HasSizes n k t
    by_out true h = absurd (cc)
    by_out false h =
        sizes_map n k (λ next. without_move next j) (freed s m.to) t h
        (λ x first. sizes_without n k x j (sizes_freed n k s x m.to first p))

sizes_ended : (n k : ℕ) (s t : CacheState) (j : ℕ) (said : Said) (m : PendingMove) → ended s j said m ≡ Some t → HasSizes n k s → HasSizes n k t
sizes_ended n k s t j said m e p =
    sizes_map n k (λ next. without_move (with_answer next m.from said) j) (all_freed s (handed_back said m)) t e
    (λ x first. sizes_without n k (with_answer x m.from said) j (sizes_answered n k x m.from said (sizes_all_freed n k (handed_back said m) s x first p)))

-- The entries

pub sizes_kept : (n k : ℕ) (s t : CacheState) (entry : CacheEntry) → enter s entry ≡ Some t → HasSizes n k s → HasSizes n k t
sizes_kept n k s t (Alloc b) e p = sizes_then n k _ _ t e (sizes_on n k s b slab_taken p)
sizes_kept n k s t Full e p = sizes_then n k _ _ t e p
sizes_kept n k s t (Free b) e p = sizes_freed n k s t b e p
sizes_kept n k s t (Scan desperate) e p =
    let same : scan_started s desperate ≡ t = cc in
    subst (HasSizes n k) same (record { slabs = p.slabs; chunks = p.chunks })
sizes_kept n k s t (Begin j from to) e p =
    let out : HasSizes n k (with_out s to) = sizes_on n k s to slab_taken p in
    sizes_then n k _ _ t e (record { slabs = out.slabs; chunks = out.chunks })
sizes_kept n k s t Idle e p = sizes_then n k _ _ t e p
sizes_kept n k s t (Gone j) e p = sizes_and_then n k (gone s j) (move_at s j) t e (λ m there h. sizes_gone n k s t j m h p)
sizes_kept n k s t (End j said) e p = sizes_and_then n k (ended s j said) (move_at s j) t e (λ m there h. sizes_ended n k s t j said m h p)
sizes_kept n k s t Forget e p =
    let cleared : CacheState = record s { slabs = map unmarked s.slabs } in
    let same : cleared ≡ t = cc in
    subst (HasSizes n k) same (record { slabs = length-map s.slabs unmarked ∙ p.slabs; chunks = p.chunks })
