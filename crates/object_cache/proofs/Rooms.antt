-- Where the next buffer lies, and what taking it leaves.
use Rattle.std.proofs.Common.{◌≡◌, ℕ, zero, suc, ◌<◌, ◌≤◌, ◌/◌, ◌%◌, ◌==◌, ◌&&◌, Bool, true, false, cond, List, [], ◌∷◌, length, set, replicate, count_by, Option, Some, None, is_some, sym, ◌∙◌, ap, ap₂, refl, arith, subst}
use Rattle.std.specs.Option.{option_or}
use Rattle.std.proofs.lemmas.Bool.{both_ways, ne_eqb}
use Rattle.std.proofs.lemmas.List.{get_or-set_same, set-set}
use Rattle.std.proofs.lemmas.List.Sums.{sum_by-cons}
use Rattle.kmem_model.specs.CacheState.{SlabState, slab_at, no_slab, is_same_standing, is_listed, is_in_source, is_dead, used}
use Rattle.kmem_model.specs.CacheOrder.{wanted, first_partial_free, first_of_slab}
use Rattle.kmem_model.specs.CacheEnter.{slab_listed, slab_taken}
use Rattle.kmem_model.specs.declared.cache_state.Standing.{Standing}
use Rattle.kmem_model.specs.declared.cache_state.Standing.TheVariants.{Source, Listed, Dead}
use Rattle.slab_list.specs.Slabs.{ListState, IsFree, on_slab, on_buffer, fresh_slab, is_unused}
use Rattle.slab_source.specs.Source.{SourceState}
use Rattle.object_cache.specs.Stock.{bare, AreHeld, IsStocked}
use Rattle.object_cache.proofs.Stocked.{held-same, used-set}
use Rattle.object_cache.proofs.Freed.{listed_within, listed_not_source}

-- one more is out, and none less
count-set : (bs : List Bool) (k : ℕ) → count_by (λ (o : Bool). o) bs ≤ count_by (λ (o : Bool). o) (set bs k true)
count-set [] k = omega arith
count-set (true ∷ bs) zero = omega arith
count-set (false ∷ bs) zero =
    omega (arith, sum_by-cons (λ (o : Bool). cond o 1 0) false bs, sum_by-cons (λ (o : Bool). cond o 1 0) true bs)
count-set (b ∷ bs) (suc k) =
    omega (arith, sum_by-cons (λ (o : Bool). cond o 1 0) b bs, sum_by-cons (λ (o : Bool). cond o 1 0) b (set bs k true), count-set bs k)

first-set : (n : ℕ) → 0 < n → 0 < count_by (λ (o : Bool). o) (set (replicate n false) 0 true)
first-set zero some = absurd (omega arith)
first-set (suc n) some = omega (arith, sum_by-cons (λ (o : Bool). cond o 1 0) true (replicate n false))

used_by : (slab : SlabState) → 0 < used slab → is_unused slab ≡ false
used_by slab some = no (is_listed slab) (used slab == 0) (ne_eqb (used slab) 0 (λ e. omega (arith, some, e)))
  where
    no : (a b : Bool) → b ≡ false → (a && b) ≡ false
    no true b e = e
    no false b e = refl

by_used : (slab : SlabState) → is_listed slab ≡ true → is_unused slab ≡ false → 0 < used slab
by_used slab listed e = positive (used slab) (ap (λ b. b && used slab == 0) (sym listed) ∙ e)
  where
    positive : (n : ℕ) → (n == 0) ≡ false → 0 < n
    positive zero h = absurd (both_ways true h refl)
    positive (suc n) h = omega arith

listed_says : (b : Bool) (slab : SlabState) → is_listed slab ≡ b → is_listed (slab_listed slab) ≡ true
listed_says true slab e = rw e e
listed_says false slab e = rw e refl

pub listed_is : (slab : SlabState) → is_listed slab ≡ true → slab_listed slab ≡ slab
listed_is slab e = rw e refl

pub taken_twice : (slab : SlabState) (k : ℕ) → slab_taken (slab_listed slab) k ≡ slab_taken slab k
taken_twice slab k =
    ap (λ (s : SlabState). record s { out = set s.out k true }) (listed_is (slab_listed slab) (listed_says (is_listed slab) slab refl))

pub taken_listed : (slab : SlabState) (k : ℕ) → is_listed (slab_taken slab k) ≡ true
taken_listed slab k = listed_says (is_listed slab) slab refl

-- a buffer was taken of a listed slab that has one out
pub taken_used : (slab : SlabState) (k : ℕ) → is_listed slab ≡ true → is_unused slab ≡ false → is_unused (slab_taken slab k) ≡ false
taken_used slab k listed some =
    used_by (slab_taken slab k)
    (subst (λ (s : SlabState). 0 < count_by (λ (o : Bool). o) (set s.out k true)) (sym (listed_is slab listed))
    (omega (arith, by_used slab listed some, count-set slab.out k)))

-- the first one was taken of a slab that was just listed
pub fresh_used : (chunks : ℕ) (slab : SlabState) → 0 < chunks → slab_listed slab ≡ fresh_slab chunks → is_unused (slab_taken slab 0) ≡ false
fresh_used chunks slab some fresh =
    used_by (slab_taken slab 0)
    (subst (λ (s : SlabState). 0 < count_by (λ (o : Bool). o) (set s.out 0 true)) (sym fresh) (first-set chunks some))

-- to list a slab and then take of it is to take of it
pub open_taken : (list : ListState) (i b : ℕ) → i < length list.slabs → b / list.chunks ≡ i →
    on_buffer (on_slab list i slab_listed) b slab_taken ≡ on_buffer list b slab_taken
open_taken list i b below place =
    let k = b % list.chunks in
    let l = slab_listed (slab_at list.slabs i) in
    rw place
    (ap (λ (slabs : List SlabState). record list { slabs = slabs })
    (ap (λ slab. set (set list.slabs i l) i (slab_taken slab k)) (get_or-set_same list.slabs i l no_slab below)
    ∙ (set-set list.slabs i l (slab_taken l k) ∙ ap (set list.slabs i) (taken_twice (slab_at list.slabs i) k))))

-- what serves where no partial slab does
pub wanted_source : (list : ListState) (o : Option ℕ) → first_partial_free list.chunks list.slabs ≡ None →
    first_of_slab list.chunks list.slabs is_in_source ≡ o → is_some o ≡ true → wanted (bare list) ≡ o
wanted_source list None none first there = absurd (both_ways false refl there)
wanted_source list (Some b) none first there =
    ap₂ (λ x y. option_or x (option_or y (first_of_slab list.chunks list.slabs is_dead))) none first

pub wanted_dead : (list : ListState) (o : Option ℕ) → first_partial_free list.chunks list.slabs ≡ None →
    first_of_slab list.chunks list.slabs is_in_source ≡ None → first_of_slab list.chunks list.slabs is_dead ≡ o → wanted (bare list) ≡ o
wanted_dead list o none empty first =
    ap₂ (λ x y. option_or x (option_or y (first_of_slab list.chunks list.slabs is_dead))) none empty ∙ first

dead_apart : (t : Standing) → is_same_standing Dead t ≡ true → (is_same_standing Listed t ≡ false) × (is_same_standing Source t ≡ false)
dead_apart Source e = absurd (both_ways false refl e)
dead_apart Listed e = absurd (both_ways false refl e)
dead_apart Dead e = (refl, refl)

pub dead_unlisted : (slab : SlabState) → is_dead slab ≡ true → (is_listed slab ≡ false) × (is_in_source slab ≡ false)
dead_unlisted slab e = dead_apart slab.standing e

source_apart : (t : Standing) → is_same_standing Source t ≡ true → is_same_standing Listed t ≡ false
source_apart Source e = refl
source_apart Listed e = absurd (both_ways false refl e)
source_apart Dead e = absurd (both_ways false refl e)

pub source_unlisted : (slab : SlabState) → is_in_source slab ≡ true → is_listed slab ≡ false
source_unlisted slab e = source_apart slab.standing e

-- a buffer of a listed slab was taken
pub taken_stocked : (list : ListState) (source : SourceState) (b : ℕ) → IsStocked list.slabs source → IsFree list b →
    IsStocked (on_buffer list b slab_taken).slabs source
taken_stocked list source b stocked free =
    let i = b / list.chunks in
    let slab = slab_at list.slabs i in
    let x = slab_taken slab (b % list.chunks) in
    let below = listed_within list.slabs i free.0 in
    record {
      held = held-same list.slabs source i x below stocked.held (listed_not_source x (taken_listed slab (b % list.chunks)) ∙ sym (listed_not_source slab free.0));
      used = used-set list.slabs i x below (taken_used slab (b % list.chunks) free.0 (stocked.used i)) (λ j apart. stocked.used j);
    }

-- the first buffer of a slab that was just listed was taken
pub opened_stocked : (list : ListState) (next : SourceState) (i b : ℕ) → i < length list.slabs → (b / list.chunks ≡ i) × (b % list.chunks ≡ 0) →
    0 < list.chunks → slab_listed (slab_at list.slabs i) ≡ fresh_slab list.chunks → ((j : ℕ) → is_unused (slab_at list.slabs j) ≡ false) →
    AreHeld (set list.slabs i (slab_taken (slab_at list.slabs i) 0)) next → IsStocked (on_buffer list b slab_taken).slabs next
opened_stocked list next i b below place some fresh used held =
    rw (place.0, place.1)
    (record {
      held = held;
      used = used-set list.slabs i (slab_taken (slab_at list.slabs i) 0) below (fresh_used list.chunks (slab_at list.slabs i) some fresh) (λ j apart. used j);
    })
