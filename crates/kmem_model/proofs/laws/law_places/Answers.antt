use Rattle.kmem_model.proofs.PlacesSound.{places_law}
use Rattle.kmem_model.proofs.laws.law_places.Goals as goal

pub returns-clause-always : goal.returns-clause-always
returns-clause-always c = λ sizes holders events some. places_law sizes.slabs sizes.chunks sizes.limit holders events some
