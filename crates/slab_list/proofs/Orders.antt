-- Slabs by their places: the order of places is the order in which slabs serve.
use Rattle.std.proofs.Common.{◌≡◌, ◌≢◌, ℕ, ◌+◌, ◌-◌, ◌*◌, ◌/◌, ◌%◌, ◌<◌, ◌≤◌, Bool, true, false, cond, ◌&&◌, ◌||◌, nat_lt, ◌==◌, List, length, Option, Some, None, ⊎_elim, sym, ◌∙◌, ap, ap₂, arith, refl, subst}
use Rattle.std.specs.Prelude.{◌↔◌, MatchOption}
use Rattle.std.proofs.lemmas.Bool.{cases_eq, cases_lt, cases_order, both_ways, eq-eqb, ne_eqb, eqb-true, lt-ltb, le-ltb, ltb-true, and_parts, and_from, false_from_ne_true}
use Rattle.std.proofs.lemmas.List.{get_or_past}
use Rattle.std.proofs.lemmas.Nat.{div-mul-add, mod-mul-add, div-add-mod'}
use Rattle.number_set.specs.Places.{IsLeastFrom, IsLastBelow}
use Rattle.kmem_model.specs.CacheState.{SlabState, slab_at, no_slab, is_listed, is_same_standing, used}
use Rattle.kmem_model.specs.CacheOrder.{least_below, IsLeastBelow, is_the, is_partial, is_marked, comes_before, first_partial, IsForemost}
use Rattle.kmem_model.specs.declared.cache_state.Standing.{Standing}
use Rattle.kmem_model.specs.declared.cache_state.Standing.TheVariants.{Source, Listed, Dead}
use Rattle.slab_list.specs.Slabs.{ListState}
use Rattle.slab_list.specs.Bins.{bin_at, bin_of, stands_at, IsSpent, IsLastUnspent}
use Rattle.slab_list.proofs.Steps.{listed_within, listed_is}

-- the bin of a slab of which some but not all buffers are out
abbrev pub partial_bin : ℕ → Bool → ℕ
partial_bin u marked = cond marked (63 - u) (127 - u)

-- its place
abbrev pub place_of : List SlabState → ℕ → ℕ
place_of slabs j = partial_bin (used (slab_at slabs j)) (is_marked (slab_at slabs j)) * 4096 + j

low_bin : (u : ℕ) (marked : Bool) → partial_bin u marked < 128
low_bin u true = omega arith
low_bin u false = omega arith

bin_listed : (n u : ℕ) (m : Bool) → 0 < u → u < n → bin_at n Listed u m ≡ Some (partial_bin u m)
bin_listed n u m some less =
    ap (λ b. cond b (Some (cond (u == 0) 128 (partial_bin u m))) None) (lt-ltb u n less)
    ∙ ap (λ b. Some (cond b 128 (partial_bin u m))) (ne_eqb u 0 (λ e. absurd (omega (arith, e, some))))

bin_unused : (n : ℕ) (m : Bool) → 0 < n → bin_at n Listed 0 m ≡ Some 128
bin_unused n m some = ap (λ b. cond b (Some 128) None) (lt-ltb 0 n some)

bin_full : (n u : ℕ) (m : Bool) → n ≤ u → bin_at n Listed u m ≡ None
bin_full n u m full = ap (λ b. cond b (Some (cond (u == 0) 128 (partial_bin u m))) None) (le-ltb u n full)

-- what stands in a bin below 128 is partial, and the bin is its own
pub partial_by : (n : ℕ) (t : Standing) (u : ℕ) (m : Bool) (b : ℕ) → is_the (bin_at n t u m) b ≡ true → b < 128 →
    ((is_same_standing Listed t && nat_lt 0 u && nat_lt u n) ≡ true) × (partial_bin u m ≡ b)
partial_by n Source u m b is low = absurd (both_ways false refl is)
partial_by n Dead u m b is low = absurd (omega (arith, eqb-true 129 b is, low))
partial_by n Listed u m b is low =
    ⊎_elim
    (λ (less : u < n).
    ⊎_elim
    (λ (none : u ≡ 0).
    absurd (omega (arith, low, eqb-true 128 b (sym (ap (λ o. is_the o b) (bin_unused n m (omega (arith, less, none)))) ∙ (ap (λ v. is_the (bin_at n Listed v m) b) (sym none) ∙ is)))))
    (λ some.
    let more : 0 < u = omega (arith, some) in (
      and_from (nat_lt 0 u) (nat_lt u n) (lt-ltb 0 u more) (lt-ltb u n less),
      eqb-true (partial_bin u m) b (sym (ap (λ o. is_the o b) (bin_listed n u m more less)) ∙ is),
    ))
    (cases_eq u 0))
    (λ full. absurd (both_ways (is_the (bin_at n Listed u m) b) (ap (λ o. is_the o b) (bin_full n u m full)) is))
    (cases_lt u n)

pub unused_by : (n : ℕ) (t : Standing) (u : ℕ) (m : Bool) → 0 < n → is_the (bin_at n t u m) 128 ≡ (is_same_standing Listed t && u == 0)
unused_by n Source u m some = refl
unused_by n Dead u m some = refl
unused_by n Listed u m some =
    ⊎_elim
    (λ (none : u ≡ 0).
    ap (λ v. is_the (bin_at n Listed v m) 128) none ∙ (ap (λ o. is_the o 128) (bin_unused n m some) ∙ sym (eq-eqb u 0 none)))
    (λ more.
    ⊎_elim
    (λ (less : u < n).
    ap (λ o. is_the o 128) (bin_listed n u m (omega (arith, more)) less)
    ∙ (ne_eqb (partial_bin u m) 128 (λ e. absurd (omega (arith, e, low_bin u m))) ∙ sym (ne_eqb u 0 more)))
    (λ full. ap (λ o. is_the o 128) (bin_full n u m full) ∙ sym (ne_eqb u 0 more))
    (cases_lt u n))
    (cases_eq u 0)

pub dead_by : (n : ℕ) (t : Standing) (u : ℕ) (m : Bool) → 0 < n → is_the (bin_at n t u m) 129 ≡ is_same_standing Dead t
dead_by n Source u m some = refl
dead_by n Dead u m some = refl
dead_by n Listed u m some =
    ⊎_elim
    (λ (none : u ≡ 0). ap (λ v. is_the (bin_at n Listed v m) 129) none ∙ ap (λ o. is_the o 129) (bin_unused n m some))
    (λ more.
    ⊎_elim
    (λ (less : u < n).
    ap (λ o. is_the o 129) (bin_listed n u m (omega (arith, more)) less) ∙ ne_eqb (partial_bin u m) 129 (λ e. absurd (omega (arith, e, low_bin u m))))
    (λ full. ap (λ o. is_the o 129) (bin_full n u m full))
    (cases_lt u n))
    (cases_eq u 0)

-- the order of two uses is the one of their bins
fuller_is : (k u v i j : ℕ) → u ≤ k → v ≤ k → i < 4096 → j < 4096 →
    (nat_lt v u || (u == v && nat_lt i j)) ≡ nat_lt ((k - u) * 4096 + i) ((k - v) * 4096 + j)
fuller_is k u v i j a b low less =
    ⊎_elim
    (λ (same : u ≡ v).
    let at : k - u ≡ k - v = ap (λ w. k - w) same in
    ap₂ (λ x y. x || (y && nat_lt i j)) (le-ltb v u (omega (arith, same))) (eq-eqb u v same)
    ∙ ⊎_elim
    (λ (first : i < j). lt-ltb i j first ∙ sym (lt-ltb ((k - u) * 4096 + i) ((k - v) * 4096 + j) (omega (arith, at, first))))
    (λ after. le-ltb i j after ∙ sym (le-ltb ((k - u) * 4096 + i) ((k - v) * 4096 + j) (omega (arith, at, after))))
    (cases_lt i j))
    (λ apart.
    ⊎_elim
    (λ (more : u < v).
    ap₂ (λ x y. x || (y && nat_lt i j)) (le-ltb v u (omega (arith, more))) (ne_eqb u v (λ e. absurd (omega (arith, e, more))))
    ∙ sym (le-ltb ((k - u) * 4096 + i) ((k - v) * 4096 + j) (omega (arith, more, a, b, low, less))))
    (λ (fewer : v < u).
    ap (λ x. x || (u == v && nat_lt i j)) (lt-ltb v u fewer)
    ∙ sym (lt-ltb ((k - u) * 4096 + i) ((k - v) * 4096 + j) (omega (arith, fewer, a, b, low, less))))
    apart)
    (cases_order u v)

before_is : (ma mb : Bool) (u v i j : ℕ) → u < 64 → v < 64 → i < 4096 → j < 4096 →
    cond ma (cond mb (nat_lt v u || (u == v && nat_lt i j)) true) (cond mb false (nat_lt v u || (u == v && nat_lt i j)))
    ≡ nat_lt (partial_bin u ma * 4096 + i) (partial_bin v mb * 4096 + j)
before_is true true u v i j a b low less = fuller_is 63 u v i j (omega arith) (omega arith) low less
before_is true false u v i j a b low less = sym (lt-ltb ((63 - u) * 4096 + i) ((127 - v) * 4096 + j) (omega arith))
before_is false true u v i j a b low less = sym (le-ltb ((127 - u) * 4096 + i) ((63 - v) * 4096 + j) (omega arith))
before_is false false u v i j a b low less = fuller_is 127 u v i j (omega arith) (omega arith) low less

-- what a search that goes down from the last place has left to look at: every slab that can stands there or before
abbrev pub Left : ListState → (ℕ → Bool) → Option ℕ → Type 0
Left s can None = (j : ℕ) → j < length s.slabs → can j ≡ false
Left s can (Some p) = (p < 524288) × (stands_at s p ≡ true) × ((j : ℕ) → j < length s.slabs → can j ≡ true → place_of s.slabs j ≤ p)

module _ (s : ListState) (narrow : s.chunks ≤ 64) (few : length s.slabs ≤ 4096) (size : (j : ℕ) → j < length s.slabs → length (slab_at s.slabs j).out ≡ s.chunks) where
  -- a partial slab stands at its place
  module _ (j : ℕ) (below : j < length s.slabs) (partial : is_partial (slab_at s.slabs j) ≡ true) where
    abbrev it : SlabState
    it = slab_at s.slabs j

    pub parts : (is_listed it ≡ true) × (0 < used it) × (used it < s.chunks)
    parts =
        let a = and_parts (is_listed it && nat_lt 0 (used it)) (nat_lt (used it) (length it.out)) partial in
        let b = and_parts (is_listed it) (nat_lt 0 (used it)) a.0 in
        let c : used it < length it.out = ltb-true (used it) (length it.out) a.1 in
        (b.0, ltb-true 0 (used it) b.1, omega (arith, c, size j below))

    pub low_use : used it < 64
    low_use = omega (arith, parts.2, narrow)

    pub own_bin : bin_of s.chunks it ≡ Some (partial_bin (used it) (is_marked it))
    own_bin =
        ap (λ t. bin_at s.chunks t (used it) (is_marked it)) (listed_is it.standing parts.0)
        ∙ bin_listed s.chunks (used it) (is_marked it) parts.1 parts.2

    pub stands : stands_at s (place_of s.slabs j) ≡ true
    stands =
        let b = partial_bin (used it) (is_marked it) in
        let low : j < 4096 = omega (arith, below, few) in
        ap₂ (λ i q. is_the (bin_of s.chunks (slab_at s.slabs i)) q) (mod-mul-add b 4096 j low) (div-mul-add b 4096 j low)
        ∙ (ap (λ o. is_the o b) own_bin ∙ eq-eqb b b refl)

    pub place_low : place_of s.slabs j < 524288
    place_low = omega (arith, low_bin (used it) (is_marked it), below, few)

  pub before_places : (i j : ℕ) → i < length s.slabs → j < length s.slabs → is_partial (slab_at s.slabs i) ≡ true → is_partial (slab_at s.slabs j) ≡ true →
      comes_before s.slabs i j ≡ nat_lt (place_of s.slabs i) (place_of s.slabs j)
  before_places i j low less one two =
      before_is (is_marked (slab_at s.slabs i)) (is_marked (slab_at s.slabs j)) (used (slab_at s.slabs i)) (used (slab_at s.slabs j)) i j
      (low_use i low one) (low_use j less two) (omega (arith, low, few)) (omega (arith, less, few))

  -- what stands at a place of a partial slab
  module _ (p : ℕ) (there : stands_at s p ≡ true) (low : p / 4096 < 128) where
    abbrev i : ℕ
    i = p % 4096

    abbrev slab : SlabState
    slab = slab_at s.slabs i

    told : ((is_listed slab && nat_lt 0 (used slab) && nat_lt (used slab) s.chunks) ≡ true) × (partial_bin (used slab) (is_marked slab) ≡ p / 4096)
    told = partial_by s.chunks slab.standing (used slab) (is_marked slab) (p / 4096) there low

    pub place_within : i < length s.slabs
    place_within =
        listed_within s.slabs i
        (and_parts (is_listed slab) (nat_lt 0 (used slab)) (and_parts (is_listed slab && nat_lt 0 (used slab)) (nat_lt (used slab) s.chunks) told.0).0).0

    pub place_partial : is_partial slab ≡ true
    place_partial = ap (λ n. is_listed slab && nat_lt 0 (used slab) && nat_lt (used slab) n) (size i place_within) ∙ told.0

    pub place_own : place_of s.slabs i ≡ p
    place_own = ap (λ b. b * 4096 + i) told.1 ∙ div-add-mod' p 4096

  module _ (first_is : (i : ℕ) → (first_partial s.slabs ≡ Some i) ↔ IsForemost (length s.slabs) (λ j. is_partial (slab_at s.slabs j)) (comes_before s.slabs) i)
      (no_first_is : (first_partial s.slabs ≡ None) ↔ ((k : ℕ) → k < length s.slabs → is_partial (slab_at s.slabs k) ≡ false)) where
    -- no place at all
    pub none_first : IsLeastFrom (stands_at s) 0 None → None ≡ first_partial s.slabs
    none_first none =
        sym (no_first_is.1 (λ k below. false_from_ne_true (is_partial (slab_at s.slabs k))
        (λ given. both_ways (stands_at s (place_of s.slabs k)) (none (place_of s.slabs k) (omega arith)) (stands k below given))))

    -- the least place is of no partial slab
    pub past_first : (p : ℕ) → IsLeastFrom (stands_at s) 0 (Some p) → 128 ≤ p / 4096 → None ≡ first_partial s.slabs
    past_first p found high =
        sym (no_first_is.1 (λ k below. false_from_ne_true (is_partial (slab_at s.slabs k))
        (λ given. both_ways (stands_at s (place_of s.slabs k))
        (found.2 (place_of s.slabs k) (omega arith) (omega (arith, high, place_low k below given)))
        (stands k below given))))

    -- the least place is of the first partial slab
    pub this_first : (p : ℕ) → IsLeastFrom (stands_at s) 0 (Some p) → p / 4096 < 128 → Some (p % 4096) ≡ first_partial s.slabs
    this_first p found low =
        sym ((first_is (p % 4096)).1 (record {
          below = place_within p found.1 low;
          passes = place_partial p found.1 low;
          first = λ j below given.
              before_places j (p % 4096) below (place_within p found.1 low) given (place_partial p found.1 low)
              ∙ le-ltb (place_of s.slabs j) (place_of s.slabs (p % 4096))
              (⊎_elim
              (λ (less : place_of s.slabs j < p). absurd (both_ways (stands_at s (place_of s.slabs j)) (found.2 (place_of s.slabs j) (omega arith) less) (stands j below given)))
              (λ over. omega (arith, over, place_own p found.1 low))
              (cases_lt (place_of s.slabs j) p));
        }))

  -- the slabs of one bin stand by their numbers
  module _ (b from : ℕ) (at : from ≡ b * 4096) where
    abbrev test : ℕ → Bool
    test i = is_the (bin_of s.chunks (slab_at s.slabs i)) b

    stands_here : (i : ℕ) → i < 4096 → stands_at s (b * 4096 + i) ≡ test i
    stands_here i low = ap₂ (λ j q. is_the (bin_of s.chunks (slab_at s.slabs j)) q) (mod-mul-add b 4096 i low) (div-mul-add b 4096 i low)

    pub in_none : IsLeastFrom (stands_at s) from None → (i : ℕ) → i < length s.slabs → test i ≡ false
    in_none none i below = sym (stands_here i (omega (arith, below, few))) ∙ none (b * 4096 + i) (omega (arith, at))

    pub in_other : (p : ℕ) → IsLeastFrom (stands_at s) from (Some p) → p / 4096 ≢ b → (i : ℕ) → i < length s.slabs → test i ≡ false
    in_other p found apart i below =
        sym (stands_here i (omega (arith, below, few)))
        ∙ found.2 (b * 4096 + i) (omega (arith, at)) (omega (arith, apart, found.0, at, div-add-mod' p 4096, below, few))

    pub in_this : (p : ℕ) → IsLeastFrom (stands_at s) from (Some p) → p / 4096 ≡ b → IsLeastBelow (length s.slabs) test (p % 4096)
    in_this p found same =
        let here : test (p % 4096) ≡ true = ap (λ q. is_the (bin_of s.chunks (slab_at s.slabs (p % 4096))) q) (sym same) ∙ found.1 in
        record {
          below =
              ⊎_elim (λ below. below)
              (λ past. absurd (both_ways (test (p % 4096)) (ap (λ slab. is_the (bin_of s.chunks slab) b) (get_or_past s.slabs (p % 4096) no_slab past)) here))
              (cases_lt (p % 4096) (length s.slabs));
          passes = here;
          least = λ j less.
              sym (stands_here j (omega (arith, less)))
              ∙ found.2 (b * 4096 + j) (omega (arith, at)) (omega (arith, less, same, div-add-mod' p 4096));
        }

  -- a search from the last place on
  module _ (can : ℕ → Bool) (only : (j : ℕ) → j < length s.slabs → can j ≡ true → is_partial (slab_at s.slabs j) ≡ true) where
    pub left_next : (bound : ℕ) (o : Option ℕ) → bound ≤ 524288 → ((j : ℕ) → j < length s.slabs → can j ≡ true → place_of s.slabs j < bound) →
        IsLastBelow (stands_at s) bound o → Left s can o
    left_next bound None few all none =
        λ j below. false_from_ne_true (can j) (λ given.
        both_ways (stands_at s (place_of s.slabs j)) (none (place_of s.slabs j) (all j below given)) (stands j below (only j below given)))
    left_next bound (Some p) few all found = (
      omega (arith, found.0, few),
      found.1,
      λ j below given.
          ⊎_elim
          (λ (over : p < place_of s.slabs j).
          absurd (both_ways (stands_at s (place_of s.slabs j)) (found.2 (place_of s.slabs j) over (all j below given)) (stands j below (only j below given))))
          (λ le. le)
          (cases_lt p (place_of s.slabs j)),
    )

    spent_at : (j : ℕ) → j < length s.slabs → IsSpent s.chunks s.slabs s.skip (place_of s.slabs j % 4096) → IsSpent s.chunks s.slabs s.skip j
    spent_at j below spent =
        subst (IsSpent s.chunks s.slabs s.skip)
        (mod-mul-add (partial_bin (used (slab_at s.slabs j)) (is_marked (slab_at s.slabs j))) 4096 j (omega (arith, below, few))) spent

    -- the same among those that may have a buffer left to ask about
    pub left_unspent : (bound : ℕ) (o : Option ℕ) → bound ≤ 524288 → ((j : ℕ) → j < length s.slabs → can j ≡ true → place_of s.slabs j < bound) →
        ((j : ℕ) → IsSpent s.chunks s.slabs s.skip j → can j ≡ false) → IsLastUnspent s bound o → Left s can o
    left_unspent bound None few_places all cant none =
        λ j below. false_from_ne_true (can j) (λ given.
        both_ways (can j) (cant j (spent_at j below (none (place_of s.slabs j) (all j below given) (stands j below (only j below given))))) given)
    left_unspent bound (Some p) few_places all cant found = (
      omega (arith, found.0, few_places),
      found.1,
      λ j below given.
          ⊎_elim
          (λ (over : p < place_of s.slabs j).
          absurd (both_ways (can j)
          (cant j (spent_at j below (found.2 (place_of s.slabs j) over (all j below given) (stands j below (only j below given))))) given))
          (λ le. le)
          (cases_lt p (place_of s.slabs j)),
    )

    -- a place that can't is passed by
    pub left_past : (p : ℕ) → Left s can (Some p) → can (p % 4096) ≡ false → (j : ℕ) → j < length s.slabs → can j ≡ true → place_of s.slabs j < p
    left_past p left fails j below given =
        ⊎_elim
        (λ (same : place_of s.slabs j ≡ p).
        let here : p % 4096 ≡ j = ap (λ q. q % 4096) (sym same) ∙ mod-mul-add (partial_bin (used (slab_at s.slabs j)) (is_marked (slab_at s.slabs j))) 4096 j (omega (arith, below, few)) in
        absurd (both_ways (can j) (ap can (sym here) ∙ fails) given))
        (λ apart. omega (arith, apart, left.2 j below given))
        (cases_eq (place_of s.slabs j) p)

    -- one that can is the last
    pub left_this : (p : ℕ) → Left s can (Some p) → can (p % 4096) ≡ true → IsForemost (length s.slabs) can (λ j i. comes_before s.slabs i j) (p % 4096)
    left_this p left passes =
        let low : p / 4096 < 128 = omega (arith, left.0) in
        record {
          below = place_within p left.1 low;
          passes = passes;
          first = λ j below given.
              before_places (p % 4096) j (place_within p left.1 low) below (place_partial p left.1 low) (only j below given)
              ∙ le-ltb (place_of s.slabs (p % 4096)) (place_of s.slabs j) (omega (arith, left.2 j below given, place_own p left.1 low));
        }

-- what a search has found is what another test finds that comes to the same
pub found_by : (least_is : (n k : ℕ) (t : ℕ → Bool) → (least_below n t ≡ Some k) ↔ IsLeastBelow n t k)
    (none_is : (n : ℕ) (t : ℕ → Bool) → (least_below n t ≡ None) ↔ ((k : ℕ) → k < n → t k ≡ false)) →
    (n : ℕ) (t u : ℕ → Bool) → ((i : ℕ) → t i ≡ u i) → (o : Option ℕ) → MatchOption o ((i : ℕ) → i < n → t i ≡ false) (IsLeastBelow n t) → o ≡ least_below n u
found_by least_is none_is n t u same None none = sym ((none_is n u).1 (λ k below. sym (same k) ∙ none k below))
found_by least_is none_is n t u same (Some k) found =
    let f : IsLeastBelow n t k = found in
    sym ((least_is n k u).1 (record { below = f.below; passes = sym (same k) ∙ f.passes; least = λ j less. sym (same j) ∙ f.least j less }))
