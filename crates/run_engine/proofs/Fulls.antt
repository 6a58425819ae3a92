-- A Full stands in a legal history only where every buffer is out, and not where there is room for all puts.
use Rattle.std.proofs.Common.{◌≡◌, ◌+◌, ◌*◌, ◌≤◌, ◌==◌, ◌&&◌, ℕ, Bool, true, false, List, [], ◌∷◌, ◌++◌, length, Some, is_some, option_and_then, refl, ap, ◌∙◌, arith}
use Rattle.std.specs.List.{sum_by, list_all, AllByRecursion}
use Rattle.std.proofs.lemmas.List.Sums.{sum_by-cons, count_by-le-length}
use Rattle.kmem_model.specs.declared.cache_entry.CacheEntry.{CacheEntry}
use Rattle.kmem_model.specs.declared.cache_entry.CacheEntry.TheVariants.{Alloc, Full, Free, Scan, Begin, Idle, Gone, End, Forget}
use Rattle.kmem_model.specs.declared.cache_entry.Said.{Said}
use Rattle.kmem_model.specs.declared.cache_entry.Said.TheVariants.{Yes, No, Later, DontNeed, DontKnow}
use Rattle.std.proofs.lemmas.Bool.{eqb-true}
use Rattle.std.proofs.lemmas.List.Elements.{recursion_from_All}
use Rattle.kmem_model.specs.SettleWhole.{IsWhole, IsWholeSlab}
use Rattle.kmem_model.specs.CacheState.{SlabState, CacheState, used, out_count, pending_count}
use Rattle.kmem_model.specs.CacheHistory.{state_after}
use Rattle.kmem_model.specs.CacheEnter.{enter, is_full}
use Rattle.kmem_model.specs.CacheCounts.{made_out, made_free, moves_begun, moves_ended, handed_by, total}
use Rattle.kmem_model.proofs.PlacesKept.{then_some_says, and_then_says}

-- the state between a front and the entry behind it
pub state_between : (front rest : List (ℕ × CacheEntry)) (e : ℕ × CacheEntry) (s t : CacheState) → state_after s (front ++ e ∷ rest) ≡ Some t →
    (u : CacheState) × (v : CacheState) × (state_after s front ≡ Some u) × (enter u e.1 ≡ Some v)
state_between [] rest e s t h = let (v, one, more) = and_then_says (λ next. state_after next rest) (enter s e.1) t h in (s, v, refl, one)
state_between (x ∷ xs) rest e s t h =
    let (next, one, more) = and_then_says (λ next. state_after next (xs ++ e ∷ rest)) (enter s x.1) t h in
    let (u, v, there, enters) = state_between xs rest e next t more in
    (u, v, ap (option_and_then (λ n. state_after n xs)) one ∙ there, enters)

-- a Full is legal only where every buffer is out
pub full_out : (front rest : List (ℕ × CacheEntry)) (pass : ℕ) (s t : CacheState) → state_after s (front ++ (pass, Full) ∷ rest) ≡ Some t →
    (u : CacheState) × (state_after s front ≡ Some u) × (is_full u ≡ true)
full_out front rest pass s t h = let (u, v, there, enters) = state_between front rest (pass, Full) s t h in (u, there, (then_some_says (is_full u) u v enters).0)

-- How many buffers are out

-- an allocation
abbrev pub is_alloc : CacheEntry → ℕ
is_alloc (Alloc b) = 1
is_alloc _ = 0

made_by : (e : CacheEntry) → made_out e ≡ is_alloc e + moves_begun e
made_by (Alloc b) = refl
made_by Full = refl
made_by (Free b) = refl
made_by (Scan d) = refl
made_by (Begin j b c) = refl
made_by Idle = refl
made_by (Gone j) = refl
made_by (End j a) = refl
made_by Forget = refl

handed_some : (a : Said) → 1 ≤ handed_by a
handed_some Yes = omega arith
handed_some No = omega arith
handed_some Later = omega arith
handed_some DontNeed = omega arith
handed_some DontKnow = omega arith

freed_by : (e : CacheEntry) → moves_ended e ≤ made_free e
freed_by (Alloc b) = omega arith
freed_by Full = omega arith
freed_by (Free b) = omega arith
freed_by (Scan d) = omega arith
freed_by (Begin j b c) = omega arith
freed_by Idle = omega arith
freed_by (Gone j) = omega arith
freed_by (End j a) = handed_some a
freed_by Forget = omega arith

made_all : (es : List CacheEntry) → total made_out es ≡ total is_alloc es + total moves_begun es
made_all [] = refl
made_all (e ∷ es) = omega (arith, made_by e, made_all es)

freed_all : (es : List CacheEntry) → total moves_ended es ≤ total made_free es
freed_all [] = omega arith
freed_all (e ∷ es) = omega (arith, freed_by e, freed_all es)

-- at most as many as were allocated, and those of the moves that are pending
pub out_most : (es : List CacheEntry) (out pending : ℕ) → out + total made_free es ≡ total made_out es → pending + total moves_ended es ≡ total moves_begun es →
    out ≤ total is_alloc es + pending
out_most es out pending a b = omega (arith, a, b, made_all es, freed_all es)

-- Where every buffer is out

all_used : (slabs : List SlabState) → AllByRecursion (λ (slab : SlabState). used slab ≡ length slab.out) slabs → sum_by used slabs ≡ sum_by (λ slab. length slab.out) slabs
all_used [] h = refl
all_used (slab ∷ slabs) h =
    omega (arith, h.0, all_used slabs h.1, sum_by-cons used slab slabs, sum_by-cons (λ (x : SlabState). length x.out) slab slabs)

both_of : (a b : Bool) → (a && b) ≡ true → (a ≡ true) × (b ≡ true)
both_of true b e = (refl, e)
both_of false b e = absurd (cc)

used_of : (slabs : List SlabState) → list_all (λ slab. used slab == length slab.out) slabs ≡ true → AllByRecursion (λ (slab : SlabState). used slab ≡ length slab.out) slabs
used_of [] e = tt
used_of (slab ∷ slabs) e = let (here, rest) = both_of (used slab == length slab.out) (list_all (λ (x : SlabState). used x == length x.out) slabs) e in (eqb-true (used slab) (length slab.out) here, used_of slabs rest)

sizes_sum : (chunks : ℕ) (slabs : List SlabState) → AllByRecursion (IsWholeSlab chunks) slabs → sum_by (λ slab. length slab.out) slabs ≡ length slabs * chunks
sizes_sum chunks [] h = omega arith
sizes_sum chunks (slab ∷ slabs) h =
    omega (arith, h.0.size, sizes_sum chunks slabs h.1, sum_by-cons (λ (x : SlabState). length x.out) slab slabs)

pub full_count : (s : CacheState) → IsWhole s → is_full s ≡ true → out_count s ≡ length s.slabs * s.chunks
full_count s whole full =
    all_used s.slabs (used_of s.slabs full) ∙ sizes_sum s.chunks s.slabs (recursion_from_All (IsWholeSlab s.chunks) s.slabs whole.slabs)

-- at most as many moves are pending as may be
pub pending_most : (s : CacheState) → pending_count s ≤ length s.pending
pending_most s = count_by-le-length is_some s.pending
