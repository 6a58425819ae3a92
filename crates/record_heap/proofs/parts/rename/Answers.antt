use Rattle.std.proofs.Common.{ℕ, Option, List, length-set, ◌<◌, ◌==◌, Some, None, length, get_or, set, take, cond, arith, sym, ap, ◌∙◌, refl, ⊎_elim}
use Rattle.std.specs.List.{list_any}
use Rattle.std.proofs.lemmas.Bool.{cases_eq, eq-eqb, ne_eqb, or_right}
use Rattle.std.proofs.lemmas.List.{get_or-set_same, get_or-set_other}
use Rattle.std.proofs.lemmas.List.Folds.{list_any_more, list_any_at}
use Rattle.record_heap.proofs.Lists.{or_nothing}
use Rattle.record_heap.proofs.parts.rename.Goals as goal

pub lead-requires : goal.lead-requires
lead-requires c =
    let moved = c.args.moved.now in
    let i = c.loop-name.name-index in
    let at = get_or moved i 0 in
    omega (arith, c.loop-name.invariant.size, c.requires at (list_any_at (λ other. other == at) moved i 0 c.loop-name-test.true (eq-eqb at at refl)))

pub loop-name-preserved : goal.loop-name-preserved
loop-name-preserved c =
    let moved = c.args.moved.now in
    let names = c.loop-name.names in
    let i = c.loop-name.name-index in
    let at = get_or moved i 0 in
    let to = c.args.to in
    let low : at < length names =
    omega (arith, c.loop-name.invariant.size, c.requires at (list_any_at (λ other. other == at) moved i 0 c.loop-name-test.true (eq-eqb at at refl))) in
    record {
      size = ap length c.lead.ensures ∙ (length-set names at (Some to) ∙ c.loop-name.invariant.size);
      leads = λ name.
          let was = get_or c.args.names.now name None in
          let more = list_any_more (λ other. other == name) moved i 0 c.loop-name-test.true in
          ap (λ (ns : List (Option ℕ)). get_or ns name None) c.lead.ensures
          ∙ ⊎_elim
          (λ same.
          ap (λ n. get_or (set names at (Some to)) n None) same
          ∙ (get_or-set_same names at (Some to) None low
          ∙ sym (ap (λ t. cond t (Some to) was) (more ∙ or_right (list_any (λ other. other == name) (take i moved)) (at == name) (eq-eqb at name (sym same))))))
          (λ apart.
          get_or-set_other names at name (Some to) None apart
          ∙ (c.loop-name.invariant.leads name
          ∙ sym (ap (λ t. cond t (Some to) was) (more ∙ or_nothing (list_any (λ other. other == name) (take i moved)) (at == name) (ne_eqb at name (λ e. apart (sym e)))))))
          (cases_eq name at);
    }
