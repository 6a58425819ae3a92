use Rattle.std.proofs.Common.{◌≡◌, ◌++◌, ◌∷◌, [], ℕ, List, replicate, arith, sym, ap, ◌∙◌, subst, ◌+◌, ◌/◌, ◌%◌, min}
use Rattle.std.proofs.Math.Nat.{pow-le-pow_right}
use Rattle.number_set.proofs.Rising.{IsRising, rising_start, rising_more, rising_all}
use Rattle.number_set.proofs.set.empty_levels.Goals as goal

pub loop-level-init : goal.loop-level-init
loop-level-init c = rising_start c.in_ok-all.all.items c.args.levels c.args.count c.in_ok-all.ensures.items c.requires.count.0 c.requires.count.1

pub loop-level-preserved : goal.loop-level-preserved
loop-level-preserved c =
    let all = c.loop-level.all.items in
    let len = c.loop-level.len in
    let next : c.div_ceil-len.result ≡ len / 64 + min 1 (len % 64) = c.div_ceil-len.ensures in
    let items : c.push.new.self.items ≡ all ++ replicate (len / 64 + min 1 (len % 64)) 0 ∷ [] =
    c.in_ok-push.ensures.items ∙ ap (λ (ws : List ℕ). all ++ ws ∷ []) (c.in_ok-create.ensures ∙ ap (λ n. replicate n 0) next) in
    subst (λ n. IsRising c.push.new.self.items (c.loop-level._level + 1) c.args.levels c.args.count n) (sym next)
    (subst (λ ls. IsRising ls (c.loop-level._level + 1) c.args.levels c.args.count (len / 64 + min 1 (len % 64))) (sym items)
    (rising_more all c.loop-level._level c.args.levels c.args.count len c.loop-level.invariant c.loop-level-test.true))

pub returns-clause-kept : goal.returns-clause-kept
returns-clause-kept c =
    let done : c.loop-level._level ≡ c.args.levels = omega arith in
    rising_all c.loop-level.all.items c.args.levels c.args.count c.loop-level.len
    (subst (λ d. IsRising c.loop-level.all.items d c.args.levels c.args.count c.loop-level.len) done c.loop-level.invariant)
    c.requires.levels.0
    (omega (arith, c.requires.count.1, pow-le-pow_right {n = 64} (omega arith) {i = c.args.levels} {j = 4} c.requires.levels.1))
