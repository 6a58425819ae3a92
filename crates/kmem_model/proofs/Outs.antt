-- Which buffers are out after one is allocated or freed.
use Rattle.std.proofs.Common.{◌≡◌, ◌≢◌, ℕ, ◌+◌, ◌*◌, ◌/◌, ◌%◌, ◌<◌, ◌==◌, ◌&&◌, ◌||◌, not, Bool, true, false, cond, List, length, get_or, set, count_by, Some, ⊎_elim, sym, ◌∙◌, ap, refl, arith}
use Rattle.std.proofs.lemmas.Bool.{cases_eq, cond_both, eq-eqb, ne_eqb}
use Rattle.std.proofs.lemmas.List.{get_or-set_same, get_or-set_other}
use Rattle.std.proofs.lemmas.Nat.{div_below, mod_below}
use Rattle.std.proofs.Math.Nat.{div-add-mod}
use Rattle.kmem_model.proofs.CacheLists.{reads_within}
use Rattle.kmem_model.proofs.PlacesKept.{then_some_says}
use Rattle.kmem_model.specs.CacheState.{SlabState, CacheState, no_slab, slab_at, is_listed, is_out, is_out_on}
use Rattle.kmem_model.specs.CacheOrder.{is_the}
use Rattle.kmem_model.specs.CacheEnter.{slab_listed, slab_taken, slab_freed, emptied_goes, may_take, with_out, on_slab_of, enter}
use Rattle.kmem_model.specs.declared.cache_state.Standing.{Standing}
use Rattle.kmem_model.specs.declared.cache_entry.CacheEntry.TheVariants as entry
use Rattle.kmem_model.specs.SettleWhole.{IsWhole, IsWholeSlab}
use Rattle.kmem_model.specs.One.{buffers_of}

-- one flag written on one slab
written : (slabs : List SlabState) (i k : ℕ) (v : Bool) (slab : SlabState) → i < length slabs → k < length (slab_at slabs i).out → slab.out ≡ set (slab_at slabs i).out k v →
    (j l : ℕ) → is_out_on (slab_at (set slabs i slab) j) l ≡ cond ((j == i) && (l == k)) v (is_out_on (slab_at slabs j) l)
written slabs i k v slab row column is j l =
    ⊎_elim
    (λ same. ap (λ n. is_out_on (slab_at (set slabs i slab) n) l) same ∙ (ap (λ s. is_out_on s l) (get_or-set_same slabs i slab no_slab row) ∙ (ap (λ flags. get_or flags l false) is ∙ (on_slab same ∙ sym (ap (λ b. cond (b && (l == k)) v (is_out_on (slab_at slabs j) l)) (eq-eqb j i same))))))
    (λ other. ap (λ s. is_out_on s l) (get_or-set_other slabs i j slab no_slab other) ∙ sym (ap (λ b. cond (b && (l == k)) v (is_out_on (slab_at slabs j) l)) (ne_eqb j i other)))
    (cases_eq j i)
  where
    on_slab : j ≡ i → get_or (set (slab_at slabs i).out k v) l false ≡ cond (l == k) v (is_out_on (slab_at slabs j) l)
    on_slab same =
        ⊎_elim
        (λ here. ap (λ n. get_or (set (slab_at slabs i).out k v) n false) here ∙ (get_or-set_same (slab_at slabs i).out k v false column ∙ sym (ap (λ b. cond b v (is_out_on (slab_at slabs j) l)) (eq-eqb l k here))))
        (λ there. get_or-set_other (slab_at slabs i).out k l v false there ∙ (ap (λ n. is_out_on (slab_at slabs n) l) (sym same) ∙ sym (ap (λ b. cond b v (is_out_on (slab_at slabs j) l)) (ne_eqb l k there))))
        (cases_eq l k)

-- two buffers are one where slab and index are
same_place : (b n chunks : ℕ) → 0 < chunks → ((b / chunks == n / chunks) && (b % chunks == n % chunks)) ≡ (b == n)
same_place b n chunks positive =
    ⊎_elim
    (λ same. ap (λ k. (k / chunks == n / chunks) && (k % chunks == n % chunks)) same ∙ (and_same ∙ sym (eq-eqb b n same)))
    (λ other. apart other ∙ sym (ne_eqb b n other))
    (cases_eq b n)
  where
    and_same : ((n / chunks == n / chunks) && (n % chunks == n % chunks)) ≡ true
    and_same = ap (λ x. x && (n % chunks == n % chunks)) (eq-eqb (n / chunks) (n / chunks) refl) ∙ eq-eqb (n % chunks) (n % chunks) refl

    apart : b ≢ n → ((b / chunks == n / chunks) && (b % chunks == n % chunks)) ≡ false
    apart other =
        ⊎_elim
        (λ row. ap (λ x. x && (b % chunks == n % chunks)) (eq-eqb (b / chunks) (n / chunks) row) ∙ ne_eqb (b % chunks) (n % chunks) (λ column. other (whole row column)))
        (λ row. ap (λ x. x && (b % chunks == n % chunks)) (ne_eqb (b / chunks) (n / chunks) row))
        (cases_eq (b / chunks) (n / chunks))
      where
        whole : b / chunks ≡ n / chunks → b % chunks ≡ n % chunks → b ≡ n
        whole row column = sym (div-add-mod b chunks) ∙ (ap (λ q. chunks * q + b % chunks) row ∙ (ap (λ r. chunks * (n / chunks) + r) column ∙ div-add-mod n chunks))

pub listed_out : (slab : SlabState) → (slab_listed slab).out ≡ slab.out
listed_out slab = cond_both (is_listed slab) _ _ (λ (s : SlabState). s.out ≡ slab.out) (λ e. refl) (λ e. refl)

pub freed_out : (to : Standing) (slab : SlabState) (k : ℕ) → (slab_freed to slab k).out ≡ set slab.out k false
freed_out to slab k =
    cond_both (count_by (λ x. x) (set slab.out k false) == 0) _ _ (λ (s : SlabState). s.out ≡ set slab.out k false)
    (λ e. refl)
    (λ e. cond_both (is_the slab.stuck k) _ _ (λ (s : SlabState). s.out ≡ set slab.out k false) (λ f. refl) (λ f. refl))

-- a buffer that is out lies on a slab
pub out_on : (s : CacheState) (n : ℕ) → is_out s n ≡ true → (n / s.chunks < length s.slabs) × (n % s.chunks < length (slab_at s.slabs (n / s.chunks)).out)
out_on s n out = (
  reads_within s.slabs (n / s.chunks) no_slab (λ slab. is_out_on slab (n % s.chunks)) refl out,
  reads_within (slab_at s.slabs (n / s.chunks)).out (n % s.chunks) false (λ x. x) refl out,
)

-- a buffer among those that there are lies on a slab
pub lies_on : (s : CacheState) (n : ℕ) → IsWhole s → n < buffers_of s → (n / s.chunks < length s.slabs) × (n % s.chunks < length (slab_at s.slabs (n / s.chunks)).out)
lies_on s n whole below =
    let row : n / s.chunks < length s.slabs = div_below n s.chunks (length s.slabs) whole.positive (omega (arith, below, whole.asked)) in
    let slab : IsWholeSlab s.chunks (slab_at s.slabs (n / s.chunks)) = whole.slabs (n / s.chunks) no_slab row in
    (row, omega (arith, slab.size, mod_below n s.chunks whole.positive))

pub out_after_alloc : (s t : CacheState) (n b : ℕ) → IsWhole s → n < buffers_of s → enter s (entry.Alloc n) ≡ Some t → is_out t b ≡ (b == n || is_out s b)
out_after_alloc s t n b whole below e =
    let is : (may_take s n ≡ true) × (with_out s n ≡ t) = then_some_says (may_take s n) (with_out s n) t e in
    let on = lies_on s n whole below in
    ap (λ u. is_out u b) (sym is.1)
    ∙ (written s.slabs (n / s.chunks) (n % s.chunks) true (slab_taken (slab_at s.slabs (n / s.chunks)) (n % s.chunks)) on.0 on.1 (ap (λ flags. set flags (n % s.chunks) true) (listed_out (slab_at s.slabs (n / s.chunks)))) (b / s.chunks) (b % s.chunks)
    ∙ (ap (λ x. cond x true (is_out s b)) (same_place b n s.chunks whole.positive) ∙ or_is (b == n) (is_out s b)))
  where
    or_is : (x y : Bool) → cond x true y ≡ (x || y)
    or_is true y = refl
    or_is false y = refl

pub out_after_free : (s t : CacheState) (n b : ℕ) → IsWhole s → enter s (entry.Free n) ≡ Some t → is_out t b ≡ (not (b == n) && is_out s b)
out_after_free s t n b whole e =
    let is : (is_out s n ≡ true) × (on_slab_of s n (slab_freed (emptied_goes s)) ≡ t) = then_some_says (is_out s n) (on_slab_of s n (slab_freed (emptied_goes s))) t e in
    let on = out_on s n is.0 in
    ap (λ u. is_out u b) (sym is.1)
    ∙ (written s.slabs (n / s.chunks) (n % s.chunks) false (slab_freed (emptied_goes s) (slab_at s.slabs (n / s.chunks)) (n % s.chunks)) on.0 on.1 (freed_out (emptied_goes s) (slab_at s.slabs (n / s.chunks)) (n % s.chunks)) (b / s.chunks) (b % s.chunks)
    ∙ (ap (λ x. cond x false (is_out s b)) (same_place b n s.chunks whole.positive) ∙ and_is (b == n) (is_out s b)))
  where
    and_is : (x y : Bool) → cond x false y ≡ (not x && y)
    and_is true y = refl
    and_is false y = refl
