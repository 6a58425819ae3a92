use Rattle.std.proofs.Common.{◌≤◌, ap, sym, ◌∙◌, subst, vec_capacity}
use mathlib.Core.Option.{some-injective}
use lib.ListN.{get_elem?}
use Rattle.kmem_cache.proofs.room.Room.open.Goals as goal

pub returns-clause-none : goal.returns-clause-none
returns-clause-none g c =
    let final = c.close-closed.ensures.values.2 in let held = final.1 in
    let same = some-injective held.0 c.take-values.result (sym (final.4 0 held.0 (ap (λ hs. get_elem? hs 0) held.1)) ∙ c.take-values.ensures.value) in
    ap (λ v. v.items) (sym same) ∙ held.2

pub returns-clause-room : goal.returns-clause-room
returns-clause-room g c =
    let final = c.close-closed.ensures.values.2 in let held = final.1 in
    let same = some-injective held.0 c.take-values.result (sym (final.4 0 held.0 (ap (λ hs. get_elem? hs 0) held.1)) ∙ c.take-values.ensures.value) in
    subst (λ v. c.args.self ≤ vec_capacity v) same (subst (λ n. n ≤ vec_capacity held.0) c.self.view_is held.3)
