use Rattle.std.proofs.Common.{◌≡◌, ◌+◌, ◌*◌, ◌&&◌, not, ℕ, Bool, Some, length, false, arith, sym, ap, ap₂, ◌∙◌, ⊎_elim, option_map, slice_index_or}
use Rattle.kmem_model.specs.CacheState.{slab_at, is_out_on}
use Rattle.std.proofs.lemmas.Bool.{cases_eq, and_parts}
use Rattle.kmem_model.specs.CacheOrder.{can_move}
use Rattle.slab_list.specs.Slabs.{mode_of}
use Rattle.slab_list.proofs.Choices.{slab_size}
use Rattle.slab_list.proofs.list.SlabList.least_to_move.Goals as goal

pub returns-then-not-may_ask-clause-least : goal.returns-then-not-may_ask-clause-least
returns-then-not-may_ask-clause-least g c =
    let s = c.args.self.now in
    let i = c.args.slab in
    let skip : ℕ → Bool = λ b. slice_index_or s.skip b false in
    let slab = slab_at s.slabs i in
    sym (ap (option_map (λ k. i * s.chunks + k))
    ((c.law_order.ensures.no_least (length slab.out) (can_move s.chunks c.args.rule.numer (mode_of c.args.rule.desperate) skip s.slabs i)).1
    (λ k below. ap (λ m. m && is_out_on slab k && not (skip (i * s.chunks + k))) (sym c.may_ask.ensures ∙ c.if-not-may_ask.true))))

pub returns-then-is_left-clause-least : goal.returns-then-is_left-clause-least
returns-then-is_left-clause-least g c =
    let s = c.args.self.now in
    let i = c.args.slab in
    let skip : ℕ → Bool = λ b. slice_index_or s.skip b false in
    let slab = slab_at s.slabs i in
    let k = c.loop-place.place in
    ap Some c.number.ensures.number
    ∙ sym (ap (option_map (λ j. i * s.chunks + j))
    ((c.law_order.ensures.least (length slab.out) k (can_move s.chunks c.args.rule.numer (mode_of c.args.rule.desperate) skip s.slabs i)).1
    (record {
      below = omega (arith, c.loop-place-test.true, c.chunks-place-end.ensures.chunks, slab_size s c.chunks-place-end.ensures.whole i c.requires.slab);
      passes = ap (λ m. m && is_out_on slab k && not (skip (i * s.chunks + k))) (sym c.may_ask.ensures ∙ c.if-not-may_ask.false) ∙ (sym c.is_left.ensures ∙ c.if-is_left.true);
      least = c.loop-place.invariant;
    })))

pub loop-place-preserved : goal.loop-place-preserved
loop-place-preserved g c =
    let s = c.args.self.now in
    let i = c.args.slab in
    let skip : ℕ → Bool = λ b. slice_index_or s.skip b false in
    let slab = slab_at s.slabs i in
    let can : ℕ → Bool = can_move s.chunks c.args.rule.numer (mode_of c.args.rule.desperate) skip s.slabs i in
    let here : can c.loop-place.place ≡ false =
    ap (λ m. m && is_out_on slab c.loop-place.place && not (skip (i * s.chunks + c.loop-place.place))) (sym c.may_ask.ensures ∙ c.if-not-may_ask.false) ∙ (sym c.is_left.ensures ∙ c.if-is_left.false) in
    λ k below. ⊎_elim (λ same. ap can same ∙ here) (λ other. c.loop-place.invariant k (omega (arith, below, other))) (cases_eq k c.loop-place.place)

pub returns-clause-least : goal.returns-clause-least
returns-clause-least g c =
    let s = c.args.self.now in
    let i = c.args.slab in
    let skip : ℕ → Bool = λ b. slice_index_or s.skip b false in
    let slab = slab_at s.slabs i in
    sym (ap (option_map (λ k. i * s.chunks + k))
    ((c.law_order.ensures.no_least (length slab.out) (can_move s.chunks c.args.rule.numer (mode_of c.args.rule.desperate) skip s.slabs i)).1
    (λ k below. c.loop-place.invariant k (omega (arith, below, c.loop-place-test.false, c.chunks-place-end.ensures.chunks, slab_size s c.chunks-place-end.ensures.whole i c.requires.slab)))))

pub returns-then-is_left-clause-out : goal.returns-then-is_left-clause-out
returns-then-is_left-clause-out g c =
    let s = c.args.self.now in
    let place = c.number.ensures.place in
    let out = (and_parts (is_out_on (slab_at s.slabs c.args.slab) c.loop-place.place) (not (slice_index_or s.skip (c.args.slab * s.chunks + c.loop-place.place) false)) (sym c.is_left.ensures ∙ c.if-is_left.true)).0 in
    (c.number.ensures.range, ap₂ (λ i k. is_out_on (slab_at s.slabs i) k) place.0 place.1 ∙ out)
