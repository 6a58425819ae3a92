use Rattle.std.proofs.Common.{◌≡◌, ◌+◌, ◌-◌, ◌*◌, ◌/◌, [], get_or, Some, arith, sym, ap, ◌∙◌, subst}
use Rattle.std.proofs.lemmas.List.{get_or_default}
use Rattle.number_set.specs.Places.{has_place, is_marked, IsLastBelow}
use Rattle.number_set.specs.Levels.{level_of, SumsUp}
use Rattle.number_set.proofs.Down.{last_extend, last_down, before_gap}
use Rattle.number_set.proofs.levels.+before_at.Goals as goal

pub returns-clause-last : goal.returns-clause-last
returns-clause-last t c =
    let ls = c.args.levels.now in
    let l = c.args.level in
    let top = c.args.place - 1 in
    let ws = level_of ls l in
    let last = c.in_ok-last.last in
    let here : c.index-levels-level.result ≡ ws = c.index-levels-level.is ∙ get_or_default ls l c.index-levels-level.result [] c.requires.level in
    let there : c.index-levels-level-2.result ≡ ws = c.index-levels-level-2.is ∙ get_or_default ls l c.index-levels-level-2.result [] c.requires.level in
    let word : c.word.result ≡ get_or ws (top / 64) 0 = c.word.ensures.word ∙ ap (λ w. get_or w (top / 64) 0) here in
    let below : c.word-2.result ≡ get_or ws last 0 = c.word-2.ensures.word ∙ ap (λ w. get_or w last 0) there in
    let sums : SumsUp ws (level_of ls (l + 1)) = c.requires.levels.sums l (omega arith) (omega arith) in
    let high = c.highest-2.ensures in
    let whole : top + 1 ≡ c.args.place = omega arith in
    subst (λ to. IsLastBelow (is_marked ws) to (Some (last * 64 + c.highest-2.result))) whole
    (last_extend (is_marked ws) (top / 64 * 64) (top + 1) (Some (last * 64 + c.highest-2.result)) (omega arith)
    (before_gap ws top c.up_to-rest.result (omega arith) (λ i within. c.up_to-rest.ensures.kept i within ∙ ap (λ w. has_place w i) word))
    (last_down ws (level_of ls (l + 1)) sums (top / 64) last c.highest-2.result c.in_ok-last.ensures.last high.range
    (ap (λ w. has_place w c.highest-2.result) (sym below) ∙ high.there)
    (λ i more. ap (λ w. has_place w i) (sym below) ∙ high.greatest i more)))
