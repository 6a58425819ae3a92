use Rattle.std.proofs.Common.{◌≡◌, ◌+◌, ◌*◌, ◌/◌, ◌%◌, ap, ◌∙◌}
use Rattle.std.proofs.lemmas.Nat.{div-mul-add, mod-mul-add}
use Rattle.slab_list.proofs.list.SlabList.number.Goals as goal

pub returns-clause-place : goal.returns-clause-place
returns-clause-place g c =
    let n = c.args.self.now.chunks in
    let i = c.args.slab in
    let k = c.args.index in
    let is : i * c.chunks.result + k ≡ i * n + k = ap (λ m. i * m + k) c.chunks.ensures.chunks in
    (ap (λ b. b / n) is ∙ div-mul-add i n k c.requires.index, ap (λ b. b % n) is ∙ mod-mul-add i n k c.requires.index)
