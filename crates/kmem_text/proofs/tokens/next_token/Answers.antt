use Rattle.std.proofs.Common.{◌-◌, ℕ, List, length, take, drop, sym, refl, subst}
use Rattle.std.proofs.lemmas.List.{take_rest}
use Rattle.kmem_text.specs.Tokens.{Cuts}
use Rattle.kmem_text.proofs.Parts.{cuts}
use Rattle.kmem_text.proofs.tokens.next_token.Goals as goal

pub returns : goal.returns
returns c =
    let line = c.args.line.now in
    let start = c.first_not_blank-start.result in
    let end = c.first_blank-end.result in
    let token = take (length line - start) (drop start line) in
    let P = λ (xs : List ℕ). Cuts line (take end token) xs in
    subst P (sym (take_rest token end)) (cuts line token start end c.first_not_blank-start.ensures.count refl c.first_blank-end.ensures.count)
