use Rattle.std.proofs.Common.{◌≡◌, ◌<◌, ◌+◌, ◌/◌, ◌%◌, [], length, get_or, set, eqb, not, cond, arith, sym, ap, ◌∙◌, subst, ⊎_elim, length-set}
use Rattle.std.proofs.lemmas.Bool.{cases_eq}
use Rattle.std.proofs.lemmas.List.{get_or_default, get_or-set_same, get_or-set_other}
use Rattle.number_set.specs.Places.{has_place, is_marked}
use Rattle.number_set.specs.Levels.{level_of, SumsUp}
use Rattle.number_set.proofs.Down.{put_marked, put_sums, follows_from, same_tests}
use Rattle.number_set.proofs.levels.+put_at.Goals as goal

pub returns-then-level-levels-clause-marked : goal.returns-then-level-levels-clause-marked
returns-then-level-levels-clause-marked t c =
    let ls = c.args.levels.now in
    let l = c.args.level in
    let at = c.args.place / 64 in
    let ws = level_of ls l in
    let new = c.with_place-new.result in
    let here : get_or ls l c.index-levels-level.result ≡ ws = get_or_default ls l c.index-levels-level.result [] c.requires.level in
    let old : c.word-old.result ≡ get_or ws at 0 = c.word-old.ensures.word ∙ ap (λ w. get_or w at 0) here in
    let written : c.set.new.self ≡ set ws at new = c.set.ensures ∙ ap (λ w. set w at new) (get_or_default ls l c.index-levels-level-2.result [] c.requires.level) in
    let stays : level_of c.put_at.new.levels l ≡ set ws at new =
    c.put_at.ensures.below l (omega arith) ∙ (get_or-set_same ls l c.set.new.self [] c.requires.level ∙ written) in
    λ n.
    ap (λ w. is_marked w n) stays
    ∙ put_marked ws c.args.place new c.args.there (omega arith) c.with_place-new.ensures.here
    (λ i within other. c.with_place-new.ensures.others i within other ∙ ap (λ w. has_place w i) old) n

pub returns-then-level-levels-clause-sums : goal.returns-then-level-levels-clause-sums
returns-then-level-levels-clause-sums t c =
    let ls = c.args.levels.now in
    let l = c.args.level in
    let at = c.args.place / 64 in
    let ws = level_of ls l in
    let new = c.with_place-new.result in
    let here : get_or ls l c.index-levels-level.result ≡ ws = get_or_default ls l c.index-levels-level.result [] c.requires.level in
    let old : c.word-old.result ≡ get_or ws at 0 = c.word-old.ensures.word ∙ ap (λ w. get_or w at 0) here in
    let written : c.set.new.self ≡ set ws at new = c.set.ensures ∙ ap (λ w. set w at new) (get_or_default ls l c.index-levels-level-2.result [] c.requires.level) in
    let stays : level_of c.put_at.new.levels l ≡ set ws at new =
    c.put_at.ensures.below l (omega arith) ∙ (get_or-set_same ls l c.set.new.self [] c.requires.level ∙ written) in
    let above : level_of (set ls l c.set.new.self) (l + 1) ≡ level_of ls (l + 1) = get_or-set_other ls l (l + 1) c.set.new.self [] (λ e. absurd (omega (arith, e))) in
    let deep : l + 1 < length ls = omega (arith, c.if-level-levels.true, length-set ls l c.set.new.self) in
    let sums : SumsUp ws (level_of ls (l + 1)) = c.requires.sums l (omega arith) deep in
    let follows : c.args.there ≡ not (eqb new 0) =
    follows_from c.word-old.result new (c.args.place % 64) c.args.there c.with_place-new.ensures.here c.with_place-new.ensures.less
    (λ same. same_tests (eqb c.word-old.result 0) (eqb new 0) same c.if-old-new.true) in
    λ k from inside.
    ⊎_elim
    (λ (it : k ≡ l).
    subst (λ j. SumsUp (level_of c.put_at.new.levels j) (level_of c.put_at.new.levels (j + 1))) (sym it)
    (subst (λ w. SumsUp w (level_of c.put_at.new.levels (l + 1))) (sym stays)
    (put_sums ws c.args.place new c.args.there (omega arith) c.with_place-new.ensures.here
    (λ i within other. c.with_place-new.ensures.others i within other ∙ ap (λ w. has_place w i) old)
    (level_of ls (l + 1)) (level_of c.put_at.new.levels (l + 1)) sums follows
    (λ i. c.put_at.ensures.marked i ∙ ap (λ w. cond (eqb i at) c.args.there (is_marked w i)) above))))
    (λ apart. c.put_at.ensures.sums k (omega (arith, from, apart)) inside)
    (cases_eq k l)

pub returns-then-level-levels-clause-sizes : goal.returns-then-level-levels-clause-sizes
returns-then-level-levels-clause-sizes t c =
    let ls = c.args.levels.now in
    let l = c.args.level in
    let at = c.args.place / 64 in
    let ws = level_of ls l in
    let new = c.with_place-new.result in
    let written : c.set.new.self ≡ set ws at new = c.set.ensures ∙ ap (λ w. set w at new) (get_or_default ls l c.index-levels-level-2.result [] c.requires.level) in
    λ k.
    c.put_at.ensures.sizes k
    ∙ ⊎_elim
    (λ (it : k ≡ l).
    ap (λ j. length (level_of (set ls l c.set.new.self) j)) it
    ∙ (ap length (get_or-set_same ls l c.set.new.self [] c.requires.level ∙ written) ∙ (length-set ws at new ∙ ap (λ j. length (level_of ls j)) (sym it))))
    (λ apart. ap length (get_or-set_other ls l k c.set.new.self [] apart))
    (cases_eq k l)

pub returns-else-old-new-clause-marked : goal.returns-else-old-new-clause-marked
returns-else-old-new-clause-marked t c =
    let ls = c.args.levels.now in
    let l = c.args.level in
    let at = c.args.place / 64 in
    let ws = level_of ls l in
    let new = c.with_place-new.result in
    let here : get_or ls l c.index-levels-level.result ≡ ws = get_or_default ls l c.index-levels-level.result [] c.requires.level in
    let old : c.word-old.result ≡ get_or ws at 0 = c.word-old.ensures.word ∙ ap (λ w. get_or w at 0) here in
    let written : c.set.new.self ≡ set ws at new = c.set.ensures ∙ ap (λ w. set w at new) (get_or_default ls l c.index-levels-level-2.result [] c.requires.level) in
    λ n.
    ap (λ w. is_marked w n) (get_or-set_same ls l c.set.new.self [] c.requires.level ∙ written)
    ∙ put_marked ws c.args.place new c.args.there (omega arith) c.with_place-new.ensures.here
    (λ i within other. c.with_place-new.ensures.others i within other ∙ ap (λ w. has_place w i) old) n
