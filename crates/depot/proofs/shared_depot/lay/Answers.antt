use Rattle.std.proofs.Common.{◌≡◌, ℕ, List, replicate, subst, sym, ◌∙◌}
use Rattle.atomic_table.specs.Table.{opening}
use Rattle.kmem_buf.specs.Buffers.{BufState}
use Rattle.depot.specs.Rule.{IsShared, opener}
use Rattle.depot.proofs.Shares.{opens}
use Rattle.depot.proofs.shared_depot.lay.Goals as goal

pub new-requires : goal.new-requires
new-requires g c =
    let terms = c.args.terms.now in let n = c.args.places in let constructed = g.K.Kind.constructed in
    let words : c.as_slice.result.now ≡ replicate n 0 = c.as_slice.ensures.value ∙ c.in_ok-words.ensures.items_if_clones_equal (λ y e. e) in
    subst (λ (p : List ℕ × List (List (BufState g.row.K-Object.Denot))). IsShared constructed terms.home terms.seats (opening p.0 p.1 (opener terms.home terms.seats))) (λ i. (sym words i, sym c.in_ok-magazines.ensures i))
    (opens constructed terms.home terms.seats n)
