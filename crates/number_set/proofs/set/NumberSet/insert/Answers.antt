use Rattle.std.proofs.Common.{◌≡◌, ℕ, List, length, set, Bool, true, eqb, cond, arith, sym, ap, ap₂, ◌∙◌, subst}
use Rattle.number_set.specs.Places.{is_marked, flags_of}
use Rattle.number_set.specs.Levels.{level_of, AreLevels}
use Rattle.std.specs.Vec.{with_items}
use Rattle.std.proofs.lemmas.List.{with_items_is}
use Rattle.number_set.proofs.Flags.{length-flags, flags_put, levels_put}
use Rattle.number_set.proofs.set.NumberSet.insert.Goals as goal

pub put_at-requires-clause-place : goal.put_at-requires-clause-place
put_at-requires-clause-place c =
    let ws = level_of c.self.inside.levels.items 0 in
    omega (arith, c.requires, ap (λ s. length s.flags) c.self.view_is, length-flags ws, ap {A = List (List ℕ)} {B = ℕ} (λ ls. length (level_of ls 0)) c.deref_mut.ensures.value)

pub invariant_of-self : goal.invariant_of-self
invariant_of-self c =
    let f = c.self.inside in
    let old = f.levels.items in
    let new = c.put_at.new.levels in
    let was : c.deref_mut.result.now ≡ old = c.deref_mut.ensures.value in
    let sizes : (k : ℕ) → length (level_of new k) ≡ length (level_of old k) =
    λ k. c.put_at.ensures.sizes k ∙ ap {A = List (List ℕ)} {B = ℕ} (λ ls. length (level_of ls k)) was in
    let count : length new ≡ length old = c.put_at.auto.levels ∙ ap length was in
    let is : (with_items f.levels new).items ≡ new = with_items_is f.levels new (count ∙ sym f.levels.ok.0) in
    subst AreLevels (sym is) (levels_put old new c.self.invariant count sizes c.put_at.ensures.sums)

pub returns : goal.returns
returns c =
    let f = c.self.inside in
    let old = f.levels.items in
    let new = c.put_at.new.levels in
    let was : c.deref_mut.result.now ≡ old = c.deref_mut.ensures.value in
    let sizes : (k : ℕ) → length (level_of new k) ≡ length (level_of old k) =
    λ k. c.put_at.ensures.sizes k ∙ ap {A = List (List ℕ)} {B = ℕ} (λ ls. length (level_of ls k)) was in
    let count : length new ≡ length old = c.put_at.auto.levels ∙ ap length was in
    let is : (with_items f.levels new).items ≡ new = with_items_is f.levels new (count ∙ sym f.levels.ok.0) in
    let n = c.args.number in
    let flags : flags_of (level_of new 0) ≡ set (flags_of (level_of old 0)) n true =
    flags_put (level_of old 0) (level_of new 0) n true (sizes 0)
    (omega (arith, c.requires, ap (λ s. length s.flags) c.self.view_is, length-flags (level_of old 0)))
    (λ k. c.put_at.ensures.marked k ∙ ap {A = List (List ℕ)} {B = Bool} (λ ls. cond (eqb k n) true (is_marked (level_of ls 0) k)) was) in
    ap₂ (λ levels flags. record { levels = levels; flags = flags })
    (ap length is ∙ (count ∙ ap (λ s. s.levels) c.self.view_is))
    (ap (λ ls. flags_of (level_of ls 0)) is ∙ (flags ∙ ap (λ s. set s.flags n true) c.self.view_is))
