use Rattle.std.proofs.Common.{◌≡◌, ℕ, List, Ordering, sym, rules}
use Rattle.std.specs.Cmp.Lexicographic.{slice_cmp, nat_list_cmp_total}
use Rattle.std.specs.Ordering.{nat_cmp}
use Rattle.std.proofs.lemmas.List.Sorted.{searchable_from_sorted}
use Rattle.std.proofs.lemmas.Fn.{always_returns_same}
use Rattle.kmem_text.proofs.Places.{none_found, sorted_by}
use Rattle.kmem_text.proofs.Reread.{name_found, name_missing}
use Rattle.kmem_text.proofs.reading.name_in.Goals as goal

pub returns-in-Ok : goal.returns-in-Ok
returns-in-Ok c =
    let order = λ (y : List ℕ). slice_cmp nat_cmp y c.args.text.now in
    sym (name_found c.args.names.now c.args.text.now c.in-Ok.place c.requires.sorted c.in-Ok.ensures.bound (c.in-Ok.ensures.position order (always_returns_same _ _ _ (λ a r f called. search rules))))

pub returns-in-Err : goal.returns-in-Err
returns-in-Err c =
    let names = c.args.names.now in
    let name = c.args.text.now in
    let order = λ (y : List ℕ). slice_cmp nat_cmp y name in
    let rising = searchable_from_sorted nat_list_cmp_total (λ n. n) names name (sorted_by names c.requires.sorted) in
    sym (name_missing names name (none_found names name c.in-Err.field-0 c.in-Err.ensures.bound (c.in-Err.ensures.position order (always_returns_same _ _ _ (λ a r f called. search rules)) rising)))
