use Rattle.std.proofs.Common.{ℕ, Some, set, sym, ap₂, subst, ◌∙◌}
use Rattle.kmem_buf.specs.Homes.{IsBufferOf}
use Rattle.using_owner.specs.declared.Place.{Place}
use Rattle.using_owner.specs.Shelves.{ShelfState}
use Rattle.using_owner.proofs.Shelved.{shelved_put, shelf_set}
use Rattle.using_owner.proofs.Shelf.put.Goals as goal

pub invariant_of-self : goal.invariant_of-self
invariant_of-self c =
    let f = c.self.inside in
    let of : IsBufferOf f.home.cells c.args.buf = subst (λ (s : ShelfState). IsBufferOf s.home.cells c.args.buf) (sym c.self.view_is) c.requires.of in
    let place : Place = record { buf = record { number = c.args.buf.number; object = c.args.word; home = c.args.buf.home }; stand = c.args.stand } in
    shelved_put f.home f.places.items c.number-number.result place c.self.invariant (sym c.number-number.ensures) of

pub returns : goal.returns
returns c =
    let f = c.self.inside in
    let place : Place = record { buf = record { number = c.args.buf.number; object = c.args.word; home = c.args.buf.home }; stand = c.args.stand } in
    shelf_set f.home f.places.items c.number-number.result (Some place)
    ∙ ap₂ (λ (s : ShelfState) (n : ℕ). record s { stands = set s.stands n c.args.stand; words = set s.words n (Some c.args.word) }) c.self.view_is c.number-number.ensures
