use Rattle.std.proofs.Common.{◌≡◌, ◌<◌, ◌%◌, ℕ, Bool, Some, None, true, false, length, is_some, slice_index_or, arith, sym, ap, ◌∙◌, refl, subst}
use Rattle.kmem_model.specs.CacheState.{slab_at}
use Rattle.kmem_model.specs.CacheOrder.{is_partial, comes_before, least_to_move}
use Rattle.std.proofs.lemmas.Bool.{false_from_ne_true}
use Rattle.slab_list.specs.Slabs.{mode_of}
use Rattle.slab_list.proofs.Choices.{slab_size}
use Rattle.slab_list.proofs.Orders.{Left, left_unspent, left_past, left_this, place_low, place_within, place_partial, place_own, low_use, parts}
use Rattle.slab_list.proofs.Scanned.{can_reclaim, reclaim_partial, scan_ends, is_some_map, spent_cant}
use Rattle.slab_list.proofs.list.SlabList.last_to_ask.Goals as goal

pub loop-last-init : goal.loop-last-init
loop-last-init g c =
    let s = c.args.self.now in
    let size = slab_size s c.law_whole.ensures.whole in
    let skip : ℕ → Bool = λ b. slice_index_or s.skip b false in
    let can : ℕ → Bool = λ i. is_some (least_to_move s.chunks c.args.rule.numer (mode_of c.args.rule.desperate) skip s.slabs i) in
    let only : (j : ℕ) → j < length s.slabs → can j ≡ true → is_partial (slab_at s.slabs j) ≡ true =
    λ j below given. reclaim_partial s.chunks c.args.rule.numer c.args.rule.desperate (slab_at s.slabs j)
    (can_reclaim c.law_order.ensures.no_least s.chunks c.args.rule.numer (mode_of c.args.rule.desperate) skip s.slabs j given) in (
      refl,
      left_unspent s c.law_whole.ensures.sizes.0 c.law_whole.ensures.sizes.1 size can only 524288 c.unspent_before-last.result (omega arith)
          (λ j below given. place_low s c.law_whole.ensures.sizes.0 c.law_whole.ensures.sizes.1 size j below (only j below given))
          (λ j. spent_cant c.law_order.ensures.no_least s.chunks c.args.rule.numer (mode_of c.args.rule.desperate) s.skip s.slabs j)
          c.unspent_before-last.ensures,
    )

pub loop-last-preserved : goal.loop-last-preserved
loop-last-preserved g c =
    let s = c.args.self.now in
    let size = slab_size s c.law_whole.ensures.whole in
    let skip : ℕ → Bool = λ b. slice_index_or s.skip b false in
    let can : ℕ → Bool = λ i. is_some (least_to_move s.chunks c.args.rule.numer (mode_of c.args.rule.desperate) skip s.slabs i) in
    let only : (j : ℕ) → j < length s.slabs → can j ≡ true → is_partial (slab_at s.slabs j) ≡ true =
    λ j below given. reclaim_partial s.chunks c.args.rule.numer c.args.rule.desperate (slab_at s.slabs j)
    (can_reclaim c.law_order.ensures.no_least s.chunks c.args.rule.numer (mode_of c.args.rule.desperate) skip s.slabs j given) in
    let p = c.in-Some.place in
    let left : Left s can (Some p) = subst (Left s can) c.in-Some.is c.loop-last.invariant.1 in
    let fails : can (p % 4096) ≡ false =
    sym (ap is_some (rw c.loop-last.invariant.0 at c.least_to_move.ensures.least) ∙ is_some_map _ (least_to_move s.chunks c.args.rule.numer (mode_of c.args.rule.desperate) skip s.slabs (p % 4096)))
    ∙ (sym c.is_some.ensures ∙ c.if-is_some.false) in
    let same = c.pass.ensures ∙ c.loop-last.invariant.0 in (
      same,
      left_unspent s c.law_whole.ensures.sizes.0 c.law_whole.ensures.sizes.1 size can only p c.unspent_before-last-in-Some.result (omega (arith, left.0))
          (left_past s c.law_whole.ensures.sizes.0 c.law_whole.ensures.sizes.1 size can only p left fails)
          (λ j. spent_cant c.law_order.ensures.no_least s.chunks c.args.rule.numer (mode_of c.args.rule.desperate) s.skip s.slabs j)
          (rw same at c.unspent_before-last-in-Some.ensures),
    )

pub returns-then-is_some-clause-last : goal.returns-then-is_some-clause-last
returns-then-is_some-clause-last g c =
    let s = c.args.self.now in
    let size = slab_size s c.law_whole.ensures.whole in
    let skip : ℕ → Bool = λ b. slice_index_or s.skip b false in
    let can : ℕ → Bool = λ i. is_some (least_to_move s.chunks c.args.rule.numer (mode_of c.args.rule.desperate) skip s.slabs i) in
    let only : (j : ℕ) → j < length s.slabs → can j ≡ true → is_partial (slab_at s.slabs j) ≡ true =
    λ j below given. reclaim_partial s.chunks c.args.rule.numer c.args.rule.desperate (slab_at s.slabs j)
    (can_reclaim c.law_order.ensures.no_least s.chunks c.args.rule.numer (mode_of c.args.rule.desperate) skip s.slabs j given) in
    let p = c.in-Some.place in
    let left : Left s can (Some p) = subst (Left s can) c.in-Some.is c.loop-last.invariant.1 in
    let passes : can (p % 4096) ≡ true =
    sym (ap is_some (rw c.loop-last.invariant.0 at c.least_to_move.ensures.least) ∙ is_some_map _ (least_to_move s.chunks c.args.rule.numer (mode_of c.args.rule.desperate) skip s.slabs (p % 4096)))
    ∙ (sym c.is_some.ensures ∙ c.if-is_some.true) in
    sym ((c.law_order.ensures.foremost (length s.slabs) (p % 4096) can (λ j i. comes_before s.slabs i j) (c.law_order.ensures.reversed s.slabs)).1
    (left_this s c.law_whole.ensures.sizes.0 c.law_whole.ensures.sizes.1 size can only p left passes))

pub returns-then-ends_scan-clause-last : goal.returns-then-ends_scan-clause-last
returns-then-ends_scan-clause-last g c =
    let s = c.args.self.now in
    let size = slab_size s c.law_whole.ensures.whole in
    let narrow = c.law_whole.ensures.sizes.0 in
    let few = c.law_whole.ensures.sizes.1 in
    let skip : ℕ → Bool = λ b. slice_index_or s.skip b false in
    let can : ℕ → Bool = λ i. is_some (least_to_move s.chunks c.args.rule.numer (mode_of c.args.rule.desperate) skip s.slabs i) in
    let p = c.in-Some.place in
    let left : Left s can (Some p) = subst (Left s can) c.in-Some.is c.loop-last.invariant.1 in
    let high : p < 524288 = left.0 in
    let low = place_within s narrow few size p left.1 (omega (arith, high)) in
    let partial = place_partial s narrow few size p left.1 (omega (arith, high)) in
    let own = place_own s narrow few size p left.1 (omega (arith, high)) in
    sym ((c.law_order.ensures.no_foremost (length s.slabs) can (λ j i. comes_before s.slabs i j) (c.law_order.ensures.reversed s.slabs)).1
    (λ j below. false_from_ne_true (can j) (λ given.
    let takes = can_reclaim c.law_order.ensures.no_least s.chunks c.args.rule.numer (mode_of c.args.rule.desperate) skip s.slabs j given in
    let other = reclaim_partial s.chunks c.args.rule.numer c.args.rule.desperate (slab_at s.slabs j) takes in
    scan_ends s.chunks c.args.rule.numer c.args.rule.desperate s.slabs (p % 4096) j (omega arith) (omega (arith, below, few))
    (low_use s narrow few size (p % 4096) low partial) (low_use s narrow few size j below other) partial (parts s narrow few size (p % 4096) low partial).1
    (omega (arith, left.2 j below given, own)) (sym (rw c.loop-last.invariant.0 at c.ends_scan.ensures) ∙ c.if-ends_scan.true) takes)))

pub returns-clause-last : goal.returns-clause-last
returns-clause-last g c =
    let s = c.args.self.now in
    let skip : ℕ → Bool = λ b. slice_index_or s.skip b false in
    let can : ℕ → Bool = λ i. is_some (least_to_move s.chunks c.args.rule.numer (mode_of c.args.rule.desperate) skip s.slabs i) in
    let left : Left s can None = subst (Left s can) c.in_default.is c.loop-last.invariant.1 in
    sym ((c.law_order.ensures.no_foremost (length s.slabs) can (λ j i. comes_before s.slabs i j) (c.law_order.ensures.reversed s.slabs)).1 left)
