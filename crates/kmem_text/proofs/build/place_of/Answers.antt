use Rattle.std.proofs.Common.{sym, ◌∙◌}
use Rattle.std.specs.Cmp.Lexicographic.{nat_list_cmp_total}
use Rattle.std.proofs.lemmas.Bool.{true≢false}
use Rattle.std.proofs.lemmas.List.Sorted.{searchable_from_sorted}
use Rattle.kmem_text.proofs.Places.{place_found, none_found, sorted_by}
use Rattle.kmem_text.proofs.build.place_of.Goals as goal

pub unreachable-requires : goal.unreachable-requires
unreachable-requires c =
    let names = c.args.names.now in
    let name = c.args.name.now in
    let rising = searchable_from_sorted nat_list_cmp_total (λ n. n) names name (sorted_by names c.requires.sorted) in
    true≢false (sym c.requires.there ∙ none_found names name c.in-Err.field-0 c.in-Err.ensures.bound (c.in-Err.ensures.position rising))

pub returns-clause-place : goal.returns-clause-place
returns-clause-place c = λ i. record { 0 = place_found c.args.names.now c.args.name.now c.in-Ok.place c.requires.sorted c.in-Ok.ensures.bound c.in-Ok.ensures.ok i }
