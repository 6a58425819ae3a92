use Rattle.std.proofs.Common.{◌≡◌, true, false, length, ◌<◌, arith, sym, ap, ◌∙◌}
use Rattle.std.proofs.Math.ListN.{set, length-set}
use Rattle.std.specs.FinSet as fin
use Rattle.slab_source.specs.Source.{bit_at}
use Rattle.slab_source.proofs.Places.{contains-places, places-give, count_of-give, count_of-le, none-give}
use Rattle.slab_source.proofs.supply.Supply.give.Goals as goal

pub overflow_add-self : goal.overflow_add-self
overflow_add-self c =
    let items = c.self.inside.held.items in
    let slab = c.args.slab in
    let here : slab < length items = omega (arith, c.requires.range, ap (λ s. s.slabs) c.self.view_is) in
    let off : bit_at items slab ≡ false = sym (contains-places items slab) ∙ ap (λ s. fin.contains s.held slab) c.self.view_is ∙ c.requires.apart in
    omega (arith, c.self.invariant.0, c.self.invariant.3, count_of-give items slab here off, count_of-le (set items slab true), length-set items slab true)

pub invariant_of-self : goal.invariant_of-self
invariant_of-self c =
    let items = c.self.inside.held.items in
    let slab = c.args.slab in
    let i = c.self.invariant in
    let here : slab < length items = omega (arith, c.requires.range, ap (λ s. s.slabs) c.self.view_is) in
    let off : bit_at items slab ≡ false = sym (contains-places items slab) ∙ ap (λ s. fin.contains s.held slab) c.self.view_is ∙ c.requires.apart in
    let low = c.min-self-inside.ensures in (
      omega (arith, length-set items slab true, i.0),
      omega (arith, length-set items slab true, i.1, low),
      none-give items c.self.inside.first slab c.min-self-inside.result here i.2 (omega (arith, low)) (omega (arith, low)),
      omega (arith, count_of-give items slab here off, i.3),
    )

pub returns : goal.returns
returns c =
    let items = c.self.inside.held.items in
    let slab = c.args.slab in
    let here : slab < length items = omega (arith, c.requires.range, ap (λ s. s.slabs) c.self.view_is) in
    λ k. record { slabs = (length-set items slab true ∙ ap (λ s. s.slabs) c.self.view_is) k; held = (places-give items slab here ∙ ap (λ s. fin.insert s.held slab) c.self.view_is) k }
