use Rattle.std.proofs.Common.{◌≡◌, ◌<◌, ◌+◌, ◌*◌, ◌/◌, ℕ, List, [], length, get_or, Some, None, arith, sym, ap, ◌∙◌, subst}
use Rattle.std.proofs.lemmas.List.{get_or_default}
use Rattle.number_set.specs.Places.{has_place, is_marked, IsLeastFrom}
use Rattle.number_set.specs.Levels.{level_of, SumsUp}
use Rattle.number_set.proofs.Down.{least_extend, least_none, least_down, after_gap, index_within}
use Rattle.number_set.proofs.levels.+after_at.Goals as goal

pub returns-in_err-next-clause-least : goal.returns-in_err-next-clause-least
returns-in_err-next-clause-least t c =
    let ls = c.args.levels.now in
    let l = c.args.level in
    let place = c.args.place in
    let ws = level_of ls l in
    let here : c.index-levels-level.result ≡ ws = c.index-levels-level.is ∙ get_or_default ls l c.index-levels-level.result [] c.requires.level in
    let word : c.word.result ≡ get_or ws (place / 64) 0 = c.word.ensures.word ∙ ap (λ w. get_or w (place / 64) 0) here in
    let sums : SumsUp ws (level_of ls (l + 1)) = c.requires.levels.sums l (omega arith) (omega arith) in
    subst (IsLeastFrom (is_marked ws) (place + 1)) (sym c.from_residual.ensures)
    (least_extend (is_marked ws) (place + 1) ((place / 64 + 1) * 64) None (omega arith)
    (after_gap ws place c.above-rest.result (omega arith) (λ i after within. c.above-rest.ensures.kept i after within ∙ ap (λ w. has_place w i) word))
    (least_none ws (level_of ls (l + 1)) sums (place / 64 + 1) c.in_err-next.ensures.least))

pub word-requires-2-clause-range : goal.word-requires-2-clause-range
word-requires-2-clause-range t c =
    let ls = c.args.levels.now in
    let l = c.args.level in
    let ws = level_of ls l in
    let here : c.index-levels-level-2.result ≡ ws = c.index-levels-level-2.is ∙ get_or_default ls l c.index-levels-level-2.result [] c.requires.level in
    let sums : SumsUp ws (level_of ls (l + 1)) = c.requires.levels.sums l (omega arith) (omega arith) in
    let within : c.in_ok-next.next < length ws = index_within ws (level_of ls (l + 1)) sums c.in_ok-next.next c.in_ok-next.ensures.least.1 in
    omega (arith, within, ap {A = List ℕ} {B = ℕ} length here)

pub returns-clause-least : goal.returns-clause-least
returns-clause-least t c =
    let ls = c.args.levels.now in
    let l = c.args.level in
    let place = c.args.place in
    let ws = level_of ls l in
    let next = c.in_ok-next.next in
    let here : c.index-levels-level.result ≡ ws = c.index-levels-level.is ∙ get_or_default ls l c.index-levels-level.result [] c.requires.level in
    let there : c.index-levels-level-2.result ≡ ws = c.index-levels-level-2.is ∙ get_or_default ls l c.index-levels-level-2.result [] c.requires.level in
    let word : c.word.result ≡ get_or ws (place / 64) 0 = c.word.ensures.word ∙ ap (λ w. get_or w (place / 64) 0) here in
    let below : c.word-2.result ≡ get_or ws next 0 = c.word-2.ensures.word ∙ ap (λ w. get_or w next 0) there in
    let sums : SumsUp ws (level_of ls (l + 1)) = c.requires.levels.sums l (omega arith) (omega arith) in
    let low = c.lowest-2.ensures in
    least_extend (is_marked ws) (place + 1) ((place / 64 + 1) * 64) (Some (next * 64 + c.lowest-2.result)) (omega arith)
    (after_gap ws place c.above-rest.result (omega arith) (λ i after within. c.above-rest.ensures.kept i after within ∙ ap (λ w. has_place w i) word))
    (least_down ws (level_of ls (l + 1)) sums (place / 64 + 1) next c.lowest-2.result c.in_ok-next.ensures.least low.range
    (ap (λ w. has_place w c.lowest-2.result) (sym below) ∙ low.there)
    (λ i less. ap (λ w. has_place w i) (sym below) ∙ low.least i less))
