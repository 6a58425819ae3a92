use Rattle.std.proofs.Common.{◌≡◌, ℕ, List, ◌++◌, ◌∷◌, [], replicate, set, ap, sym, ◌∙◌, subst}
use Rattle.atomic_table.specs.Table.{opening}
use Rattle.hist_lock.specs.declared.rule.Held.{Held}
use Rattle.hist_lock.specs.Rule.{OneLog, bounds_of, dealer}
use Rattle.hist_lock.proofs.Shares.{opens}
use Rattle.hist_lock.proofs.deal.lay.Goals as goal

pub new-requires : goal.new-requires
new-requires g c =
    let told = g.O.Told in let bounds = bounds_of told.home c.args.terms.now in
    let held : Held g.row.O.Denot g.row.O-Entry.Denot = record { object = c.args.object; journal = c.in_ok-journal.journal } in
    let journal = c.in_ok-journal.ensures in let slots = c.in_ok-slots.ensures in
    let alone : c.push_reserved.new.self.items ≡ held ∷ [] = c.push_reserved.ensures.items ∙ ap (λ l. l ++ held ∷ []) slots.items in
    let bells : List ℕ = set (replicate 18 0) 16 18446744073709551615 in
    subst (λ l. OneLog bounds told.stands told.home (opening (0 ∷ 0 ∷ 0 ∷ bells) l (dealer bounds))) (sym alone)
    (opens bounds told.stands told.home bells held journal.items c.requires.stands c.requires.home journal.capacity c.requires.small.0 c.requires.small.1)
