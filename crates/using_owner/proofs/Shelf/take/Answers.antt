use Rattle.std.proofs.Common.{◌≡◌, Option, Some, None, get_or, set, sym, ap, refl, subst, ◌∙◌}
use Rattle.std.proofs.lemmas.List.{get_or_read}
use Rattle.kmem_buf.specs.Homes.{IsBufferOf}
use Rattle.kmem_buf.specs.declared.owner.Stand.TheVariants.{Unknown}
use Rattle.using_owner.specs.declared.Place.{Place}
use Rattle.using_owner.specs.Shelves.{ShelfState, AreShelved, shelf_of}
use Rattle.using_owner.proofs.Shelved.{shelved_take, shelf_set, known_within}
use Rattle.using_owner.proofs.Shelf.take.Goals as goal

pub invariant_of-self : goal.invariant_of-self
invariant_of-self c =
    let f = c.self.inside in let n = c.args.number in
    let low = known_within c.args.self.now f.home f.places.items n c.self.view_is c.requires in
    subst (λ (o : Option Place). AreShelved f.home (set f.places.items n o)) (sym c.take.ensures.after) (shelved_take f.home f.places.items n low c.self.invariant)

pub returns-clause-buf : goal.returns-clause-buf
returns-clause-buf c =
    let f = c.self.inside in let n = c.args.number in
    let low = known_within c.args.self.now f.home f.places.items n c.self.view_is c.requires in
    let is : get_or f.places.items n None ≡ Some c.in-Some.place =
    sym (get_or_read f.places.items n c.index_mut.result.now low c.index_mut.ensures.value None) ∙ (sym c.take.ensures.value ∙ c.in-Some.is) in
    let placed = c.self.invariant.placed n c.in-Some.place is in
    (placed.0, subst (λ (s : ShelfState). IsBufferOf s.home.cells c.in-Some.place.buf) c.self.view_is placed.1, refl)

pub returns-clause-shelf : goal.returns-clause-shelf
returns-clause-shelf c =
    let f = c.self.inside in let n = c.args.number in
    ap (λ (o : Option Place). shelf_of f.home (set f.places.items n o)) c.take.ensures.after
    ∙ (shelf_set f.home f.places.items n None
    ∙ ap (λ (s : ShelfState). record s { stands = set s.stands n Unknown; words = set s.words n None }) c.self.view_is)
