use Rattle.std.proofs.Common.{length, sym, ap, ◌∙◌}
use Rattle.std.proofs.lemmas.List.{length-map}
use Rattle.magazine.specs.Layer.{layer_rounds}
use Rattle.kmem_cache.specs.Seats.{CacheSeatState}
use Rattle.kmem_cache.proofs.seat.CacheSeat.rounds.Goals as goal

pub returns : goal.returns
returns g c =
    c.len.ensures ∙ (sym (length-map (layer_rounds c.self.inside.cpu) (λ b. b.number)) ∙ ap (λ (s : CacheSeatState). length s.rounds) c.self.view_is)
