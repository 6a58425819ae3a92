-- What may come next in a state.
use Rattle.std.proofs.Common.{◌≡◌, ℕ, ◌+◌, ◌*◌, ◌<◌, ◌≤◌, ◌==◌, nat_lt, Bool, true, false, not, ◌&&◌, ◌||◌, List, length, Option, Some, None, option_and_then, option_map, is_some, is_none, ◌⊎◌, inl, inr, ⊎_elim, sym, ◌∙◌, ap, refl, subst, arith}
use Rattle.std.specs.Bool.{then_some}
use Rattle.std.specs.Option.{option_or}
use Rattle.std.proofs.lemmas.Bool.{cases_Bool, and_parts, and_from, and_cases, or_parts, both_ways, eqb-true, eq-eqb, ltb-true, ltb-false, lt-ltb, not-true, not-false, not_from_false}
use Rattle.std.proofs.lemmas.List.{get_or_default}
use Rattle.std.proofs.lemmas.List.Sums.{count_by-le-length, AllPass-from_list_all, list_all-from_AllPass}
use Rattle.kmem_model.proofs.CacheLists.{count_all}
use Rattle.kmem_model.proofs.CacheSearch.{least_from_some, fails_from_none, foremost_from_some, none_passes_from_none}
use Rattle.kmem_model.proofs.CacheRanks.{comes_before-order}
use Rattle.kmem_model.proofs.CacheChoices.{map_says, is_the_says, same_standing_says, IsOnPartial, partial_within, first_partial_free_says, last_reclaimable_says}
use Rattle.kmem_model.proofs.CacheKept.{FitsCount, IsKeptSlab, IsKeptState, history_kept, opening_kept}
use Rattle.kmem_model.specs.CacheState.{sizes_of, SlabState, CacheState, is_same_standing, is_in_source, is_listed, is_dead, no_slab, slab_at, used, is_out_on, move_at, pending_count, opening}
use Rattle.kmem_model.specs.CacheOrder.{least_below, IsLeastBelow, IsForemost, is_the, is_partial, comes_before, first_partial, least_free, first_partial_free, first_of_slab, wanted, is_left_out, chosen, free_number, is_at_limit, is_off, is_idle}
use Rattle.kmem_model.specs.CacheEnter.{with_out, with_move, may_take, is_full, may_begin}
use Rattle.kmem_model.specs.CacheHistory.{Reaches, MayEnter, MayAlloc, MayBegin, AtMostOneBegin, ExactlyOne}
use Rattle.kmem_model.specs.declared.cache_state.Standing.{Standing}
use Rattle.kmem_model.specs.declared.cache_state.Standing.TheVariants.{Source, Listed, Dead}
use Rattle.kmem_model.specs.declared.cache_state.PendingMove.{PendingMove}
use Rattle.kmem_model.specs.declared.cache_entry.CacheEntry.{CacheEntry}
use Rattle.kmem_model.specs.declared.cache_entry.CacheEntry.TheVariants.{Full, Begin, Idle}

-- Options

option_cases : {X : Type 0} (o : Option X) → ((x : X) × (o ≡ Some x)) ⊎ (o ≡ None)
option_cases None = inr refl
option_cases (Some x) = inl (x, refl)

or_none : {X : Type 0} (o p : Option X) → option_or o p ≡ None → (o ≡ None) × (p ≡ None)
or_none None p e = (refl, e)
or_none (Some x) p e = absurd (cc)

or_some : {X : Type 0} (o p : Option X) (x : X) → option_or o p ≡ Some x → (o ≡ Some x) ⊎ (p ≡ Some x)
or_some None p x e = inr e
or_some (Some y) p x e = inl e

map_none : {X Y : Type 0} (f : X → Y) (o : Option X) → option_map f o ≡ None → o ≡ None
map_none f None e = refl
map_none f (Some x) e = absurd (cc)

legal_says : {X : Type 0} (b : Bool) (x : X) → is_some (then_some b x) ≡ true → b ≡ true
legal_says true x e = refl
legal_says false x e = absurd (cc)

legal_from : {X : Type 0} (b : Bool) (x : X) → b ≡ true → is_some (then_some b x) ≡ true
legal_from true x e = refl
legal_from false x e = absurd (cc)

is_the_from : (o : Option ℕ) (n : ℕ) → o ≡ Some n → is_the o n ≡ true
is_the_from None n e = absurd (cc)
is_the_from (Some m) n e = let same : m ≡ n = cc in eq-eqb m n same

-- The first partial slab has a free buffer

partial_uses : (slab : SlabState) → is_partial slab ≡ true → (0 < used slab) × (used slab < length slab.out)
partial_uses slab e =
    let parts : ((is_listed slab && nat_lt 0 (used slab)) ≡ true) × (nat_lt (used slab) (length slab.out) ≡ true) = and_parts _ _ e in
    (ltb-true 0 (used slab) (and_parts _ _ parts.0).1, ltb-true (used slab) (length slab.out) parts.1)

free_found : (slab : SlabState) → is_partial slab ≡ true → (k : ℕ) × (least_free slab ≡ Some k)
free_found slab e =
    ⊎_elim (λ found. found) (λ none. absurd (omega (arith, (partial_uses slab e).1, all_out none))) (option_cases (least_free slab))
  where
    all_out : least_free slab ≡ None → used slab ≡ length slab.out
    all_out none =
        count_all (λ x. x) slab.out false
        (λ k below. not-false (is_out_on slab k)
        (fails_from_none (length slab.out) (λ i. not (is_out_on slab i)) none k below))

first_free_found : (chunks : ℕ) (slabs : List SlabState) (i : ℕ) → is_partial (slab_at slabs i) ≡ true →
    (b : ℕ) × (first_partial_free chunks slabs ≡ Some b)
first_free_found chunks slabs i e =
    ⊎_elim
    (λ (n, first).
    let found : IsForemost (length slabs) (λ m. is_partial (slab_at slabs m)) (comes_before slabs) n =
    foremost_from_some (length slabs) (λ m. is_partial (slab_at slabs m)) (comes_before slabs) n first in
    let (k, least) = free_found (slab_at slabs n) found.passes in (
      n * chunks + k,
      ap (option_and_then (λ m. option_map (λ g. m * chunks + g) (least_free (slab_at slabs m)))) first
          ∙ ap (option_map (λ g. n * chunks + g)) least,
    ))
    (λ none. absurd
    (both_ways (is_partial (slab_at slabs i))
    (none_passes_from_none (length slabs) (λ m. is_partial (slab_at slabs m)) (comes_before slabs) (comes_before-order slabs) none i
    (partial_within slabs i e))
    e))
    (option_cases (first_partial slabs))

-- Alloc or Full

module _ (s : CacheState) (kept : IsKeptState s) where
  kept_at : (i : ℕ) → i < length s.slabs → IsKeptSlab s.chunks (slab_at s.slabs i)
  kept_at i below = kept.slabs i no_slab below

  -- a slab of which a buffer is wanted has not all buffers out
  not_full : (i : ℕ) → i < length s.slabs → used (slab_at s.slabs i) < length (slab_at s.slabs i).out → is_full s ≡ true → ⊥
  not_full i below fewer full =
      let all : (used (slab_at s.slabs i) == length (slab_at s.slabs i).out) ≡ true =
      AllPass-from_list_all (λ slab. used slab == length slab.out) s.slabs full i no_slab below in
      omega (arith, fewer, eqb-true (used (slab_at s.slabs i)) (length (slab_at s.slabs i).out) all)

  -- a slab that isn't listed has none out
  unlisted_uses : (i : ℕ) → i < length s.slabs → (standing : Standing) → (slab_at s.slabs i).standing ≡ standing → (standing ≡ Listed → ⊥) →
      used (slab_at s.slabs i) < length (slab_at s.slabs i).out
  unlisted_uses i below standing is apart =
      omega (arith, kept.positive, (kept_at i below).size, none standing apart (subst (λ x. FitsCount x (used (slab_at s.slabs i))) is (kept_at i below).fits))
    where
      none : (standing : Standing) → (standing ≡ Listed → ⊥) → FitsCount standing (used (slab_at s.slabs i)) → used (slab_at s.slabs i) ≡ 0
      none Source apart fits = fits
      none Listed apart fits = absurd (apart refl)
      none Dead apart fits = fits

  first_of_says : (test : SlabState → Bool) (b : ℕ) → first_of_slab s.chunks s.slabs test ≡ Some b →
      (i : ℕ) × (i < length s.slabs) × (test (slab_at s.slabs i) ≡ true)
  first_of_says test b e =
      let (i, found, place) = map_says (λ i. i * s.chunks) (least_below (length s.slabs) (λ i. test (slab_at s.slabs i))) b e in
      let least : IsLeastBelow (length s.slabs) (λ n. test (slab_at s.slabs n)) i =
      least_from_some (length s.slabs) (λ n. test (slab_at s.slabs n)) i found in
      (i, least.below, least.passes)

  wanted_apart : (b : ℕ) → wanted s ≡ Some b → is_full s ≡ true → ⊥
  wanted_apart b e full =
      ⊎_elim partial
      (λ h. ⊎_elim source dead (or_some (first_of_slab s.chunks s.slabs is_in_source) (first_of_slab s.chunks s.slabs is_dead) b h))
      (or_some (first_partial_free s.chunks s.slabs) _ b e)
    where
      source_listed : Source ≡ Listed → ⊥
      source_listed h = cc

      dead_listed : Dead ≡ Listed → ⊥
      dead_listed h = cc

      partial : first_partial_free s.chunks s.slabs ≡ Some b → ⊥
      partial h =
          let on : IsOnPartial s.chunks s.slabs b = first_partial_free_says s.chunks s.slabs b h in
          not_full on.row (partial_within s.slabs on.row on.partial) (partial_uses (slab_at s.slabs on.row) on.partial).1 full

      source : first_of_slab s.chunks s.slabs is_in_source ≡ Some b → ⊥
      source h =
          let (i, below, test) = first_of_says is_in_source b h in
          not_full i below
          (unlisted_uses i below Source (sym (same_standing_says Source (slab_at s.slabs i).standing test)) source_listed) full

      dead : first_of_slab s.chunks s.slabs is_dead ≡ Some b → ⊥
      dead h =
          let (i, below, test) = first_of_says is_dead b h in
          not_full i below (unlisted_uses i below Dead (sym (same_standing_says Dead (slab_at s.slabs i).standing test)) dead_listed) full

  none_first : (test : SlabState → Bool) → first_of_slab s.chunks s.slabs test ≡ None → (i : ℕ) → i < length s.slabs → test (slab_at s.slabs i) ≡ false
  none_first test e =
      fails_from_none (length s.slabs) (λ i. test (slab_at s.slabs i))
      (map_none (λ i. i * s.chunks) (least_below (length s.slabs) (λ i. test (slab_at s.slabs i))) e)

  full_from_none : wanted s ≡ None → is_full s ≡ true
  full_from_none e =
      list_all-from_AllPass (λ slab. used slab == length slab.out) s.slabs
      (λ i d below.
      subst (λ slab. (used slab == length slab.out) ≡ true) (get_or_default s.slabs i no_slab d below) (all_out i below))
    where
      parts : (first_partial_free s.chunks s.slabs ≡ None)
          × (option_or (first_of_slab s.chunks s.slabs is_in_source) (first_of_slab s.chunks s.slabs is_dead) ≡ None)
      parts = or_none _ _ e

      others : (first_of_slab s.chunks s.slabs is_in_source ≡ None) × (first_of_slab s.chunks s.slabs is_dead ≡ None)
      others = or_none _ _ parts.1

      none_some : (b : ℕ) → None ≡ Some b → ⊥
      none_some b h = cc

      not_partial : (i : ℕ) → is_partial (slab_at s.slabs i) ≡ false
      not_partial i =
          ⊎_elim (λ h. let (b, found) = first_free_found s.chunks s.slabs i h in absurd (none_some b (sym parts.0 ∙ found))) (λ h. h)
          (cases_Bool (is_partial (slab_at s.slabs i)))

      by_standing : (slab : SlabState) (standing : Standing) → slab.standing ≡ standing → is_same_standing Source standing ≡ false →
          is_same_standing Dead standing ≡ false →
          FitsCount standing (used slab) →
          (is_same_standing Listed standing && nat_lt 0 (used slab) && nat_lt (used slab) (length slab.out)) ≡ false →
          used slab ≡ length slab.out
      by_standing slab Source is source dead fits partial = absurd (cc)
      by_standing slab Dead is source dead fits partial = absurd (cc)
      by_standing slab Listed is source dead fits partial =
          let short : used slab ≤ length slab.out = count_by-le-length (λ x. x) slab.out in
          ⊎_elim (λ h. absurd (both_ways (nat_lt 0 (used slab)) h (lt-ltb 0 (used slab) fits)))
          (λ h. omega (arith, short, ltb-false (used slab) (length slab.out) h))
          (and_cases (nat_lt 0 (used slab)) (nat_lt (used slab) (length slab.out)) partial)

      all_out : (i : ℕ) → i < length s.slabs → (used (slab_at s.slabs i) == length (slab_at s.slabs i).out) ≡ true
      all_out i below =
          eq-eqb (used (slab_at s.slabs i)) (length (slab_at s.slabs i).out)
          (by_standing (slab_at s.slabs i) (slab_at s.slabs i).standing refl (none_first is_in_source others.0 i below)
          (none_first is_dead others.1 i below) (kept_at i below).fits (not_partial i))

  pub alloc_or_full : ExactlyOne (MayAlloc s) (MayEnter s Full)
  alloc_or_full =
      record {
        one =
            ⊎_elim (λ (b, found). inl (b, legal_from (may_take s b) (with_out s b) (is_the_from (wanted s) b found)))
            (λ none. inr (legal_from (is_full s) s (full_from_none none)))
            (option_cases (wanted s));
        apart = λ (b, legal) full.
            wanted_apart b (is_the_says (wanted s) b (legal_says (may_take s b) (with_out s b) legal)) (legal_says (is_full s) s full);
      }

pub alloc_or_full_law : (slabs chunks limit : ℕ) (history : List (ℕ × CacheEntry)) (s : CacheState) → 0 < chunks →
    Reaches (sizes_of slabs chunks limit) history s → ExactlyOne (MayAlloc s) (MayEnter s Full)
alloc_or_full_law slabs chunks limit history s some reaches =
    alloc_or_full s (history_kept history (opening (sizes_of slabs chunks limit)) s reaches (opening_kept slabs chunks limit some))

-- Begin or Idle

module _ (s : CacheState) where
  begin_says : (j from to : ℕ) → MayEnter s (Begin j from to) →
      (is_idle s ≡ false) × (free_number s ≡ Some j) × (chosen s ≡ Some from) × (first_partial_free s.chunks s.slabs ≡ Some to)
  begin_says j from to legal = (
    not-true (is_idle s) (and_parts _ _ more.0).0,
    is_the_says (free_number s) j (and_parts _ _ more.0).1,
    is_the_says (chosen s) from more.1,
    is_the_says (first_partial_free s.chunks s.slabs) to parts.1,
  )
    where
      m : PendingMove
      m = record { from = from; to = to }

      parts : ((not (is_idle s) && is_the (free_number s) j && is_the (chosen s) from) ≡ true)
          × (is_the (first_partial_free s.chunks s.slabs) to ≡ true)
      parts = and_parts _ _ (legal_says (may_begin s j m) (with_move s j m) legal)

      more : ((not (is_idle s) && is_the (free_number s) j) ≡ true) × (is_the (chosen s) from ≡ true)
      more = and_parts _ _ parts.0

  number_found : is_at_limit s ≡ false → (j : ℕ) × (free_number s ≡ Some j)
  number_found below =
      ⊎_elim (λ found. found)
      (λ none. absurd
      (both_ways (is_at_limit s) below
      (eq-eqb (pending_count s) (length s.pending)
      (count_all is_some s.pending None
      (λ j within. not-false (is_some (move_at s j))
      (fails_from_none (length s.pending) (λ i. is_none (move_at s i)) none j within))))))
      (option_cases (free_number s))

  begin_found : is_idle s ≡ false → MayBegin s
  begin_found busy =
      let parts : ((is_off s.mode || is_at_limit s) ≡ false) × (is_none (chosen s) ≡ false) = or_parts _ _ busy in
      let (j, number) = number_found (or_parts (is_off s.mode) (is_at_limit s) parts.0).1 in
      ⊎_elim
      (λ (from, old).
      let on : IsOnPartial s.chunks s.slabs from =
      last_reclaimable_says s.chunks s.numerator s.mode (is_left_out s) s.slabs from old in
      let (to, new) = first_free_found s.chunks s.slabs on.row on.partial in (
        j,
        from,
        to,
        legal_from (may_begin s j (record { from = from; to = to })) (with_move s j (record { from = from; to = to }))
            (and_from (not (is_idle s) && is_the (free_number s) j && is_the (chosen s) from) (is_the (first_partial_free s.chunks s.slabs) to)
            (and_from (not (is_idle s) && is_the (free_number s) j) (is_the (chosen s) from)
            (and_from (not (is_idle s)) (is_the (free_number s) j) (not_from_false (is_idle s) busy)
            (is_the_from (free_number s) j number))
            (is_the_from (chosen s) from old))
            (is_the_from (first_partial_free s.chunks s.slabs) to new)),
      ))
      (λ none. absurd (both_ways (is_none (chosen s)) parts.1 (ap is_none none)))
      (option_cases (chosen s))

  pub begin_or_idle : ExactlyOne (MayBegin s) (MayEnter s Idle)
  begin_or_idle =
      record {
        one =
            ⊎_elim (λ idle. inr (legal_from (is_idle s) s idle)) (λ busy. inl (begin_found busy)) (cases_Bool (is_idle s));
        apart = λ (j, from, to, legal) idle.
            both_ways (is_idle s) (begin_says j from to legal).0 (legal_says (is_idle s) s idle);
      }

  pub at_most_one_begin : AtMostOneBegin s
  at_most_one_begin j from to i old new one other =
      let a : (is_idle s ≡ false) × (free_number s ≡ Some j) × (chosen s ≡ Some from) × (first_partial_free s.chunks s.slabs ≡ Some to) =
      begin_says j from to one in
      let b : (is_idle s ≡ false) × (free_number s ≡ Some i) × (chosen s ≡ Some old) × (first_partial_free s.chunks s.slabs ≡ Some new) =
      begin_says i old new other in
      let numbers : j ≡ i = same_value (sym a.1 ∙ b.1) in
      let olds : from ≡ old = same_value (sym a.2 ∙ b.2) in
      let news : to ≡ new = same_value (sym a.3 ∙ b.3) in
      cc
    where
      same_value : {m n : ℕ} → Some m ≡ Some n → m ≡ n
      same_value h = cc
