use Rattle.std.proofs.Common.{◌≡◌, true, false, length, ℕ, ◌<◌, List, Bool, arith, refl, sym, ap, subst, ◌∙◌}
use Rattle.std.proofs.Math.ListN.{length-set}
use Rattle.std.specs.FinSet as fin
use Rattle.slab_source.specs.Source.{bit_at, NoneBelow}
use Rattle.slab_source.proofs.Places.{contains-places, places-take, places-none, count_of-take, none-take}
use Rattle.slab_source.proofs.supply.Supply.take.Goals as goal

-- what the search found, of the source's own list
abbrev Found : ℕ → List Bool → Type 0
Found slab bits = (slab < length bits) × (bit_at bits slab ≡ true) × NoneBelow bits slab

pub overflow_sub-self : goal.overflow_sub-self
overflow_sub-self c =
    let found = subst (Found c.in_ok-slab.slab) c.deref.ensures.value c.in_ok-slab.ensures in
    omega (arith, c.self.invariant.3, count_of-take c.self.inside.held.items c.in_ok-slab.slab found.1)

pub invariant_of-self : goal.invariant_of-self
invariant_of-self c =
    let items = c.self.inside.held.items in
    let slab = c.in_ok-slab.slab in
    let i = c.self.invariant in
    let found = subst (Found slab) c.deref.ensures.value c.in_ok-slab.ensures in (
      omega (arith, length-set items slab false, i.0),
      omega (arith, length-set items slab false, found.0),
      none-take items slab found.0 found.2,
      omega (arith, count_of-take items slab found.1, i.3),
    )

pub returns : goal.returns
returns c =
    let items = c.self.inside.held.items in
    let slab = c.in_ok-slab.slab in
    let found = subst (Found slab) c.deref.ensures.value c.in_ok-slab.ensures in
    let is = c.self.view_is in
    record {
      none = tt;
      least = (
        (sym (ap (λ s. fin.contains s.held slab) is) ∙ contains-places items slab ∙ found.1, λ m low. sym (ap (λ s. fin.contains s.held m) is) ∙ contains-places items m ∙ found.2 m low),
        omega (arith, found.0, ap (λ s. s.slabs) is),
      );
      taken = λ k. record { slabs = (length-set items slab false ∙ ap (λ s. s.slabs) is) k; held = (places-take items slab found.0 ∙ ap (λ s. fin.remove s.held slab) is) k };
    }

pub returns-in_err-slab : goal.returns-in_err-slab
returns-in_err-slab c =
    let none = subst (λ (bits : List Bool). NoneBelow bits (length bits)) c.deref.ensures.value c.in_err-slab.ensures in
    rw c.from_residual.ensures record { none = sym (ap (λ s. s.held) c.self.view_is) ∙ places-none c.self.inside.held.items none; least = tt; taken = refl }
