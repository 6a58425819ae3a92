use Rattle.std.proofs.Common.{rules, ℕ, List, ap, ◌∙◌}
use Rattle.arrayvec.proofs.ArrayVecLemmas.{filter-from_retain}
use Rattle.record_heap.specs.Objects.{without_back}
use Rattle.record_heap.proofs.cell.RecordCell.remove_name.Goals as goal

pub returns : goal.returns
returns c =
    let f = c.self.inside in
    ap (λ (names : List ℕ). record { value = f.value; names = names; holds = f.holds; fixed = f.fixed })
    (filter-from_retain _ _ _ (λ x b f' y called. search rules) _ _ c.retain.ensures.filtered)
    ∙ ap (without_back c.args.name.0) c.self.view_is
