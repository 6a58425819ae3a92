use Rattle.std.proofs.Common.{ℕ, ◌≡◌, Option, None, replicate, arith, sym, ap, subst, ◌∙◌}
use Rattle.using_owner.specs.declared.Place.{Place}
use Rattle.using_owner.specs.Shelves.{AreShelved, shelf_of}
use Rattle.using_owner.proofs.Shelved.{start, empty_is}
use Rattle.using_owner.proofs.Shelf.create.Goals as goal

pub invariant_of-result : goal.invariant_of-result
invariant_of-result c =
    let all : c.loop.counter ≡ c.args.buffers = omega arith in
    let items : c.loop.places.items ≡ replicate c.args.buffers None = c.loop.invariant ∙ ap (λ (n : ℕ). replicate {A = Option Place} n None) all in
    subst (AreShelved c.args.home) (sym items) (start c.args.home c.args.buffers c.requires)

pub returns : goal.returns
returns c =
    let all : c.loop.counter ≡ c.args.buffers = omega arith in
    let items : c.loop.places.items ≡ replicate c.args.buffers None = c.loop.invariant ∙ ap (λ (n : ℕ). replicate {A = Option Place} n None) all in
    ap (shelf_of c.args.home) items ∙ empty_is c.args.home c.args.buffers
