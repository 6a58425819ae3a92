use Rattle.std.proofs.Common.{◌≡◌, ◌∙◌, ap, not, length, unwrap_or, Option, ℕ, arith}
use Rattle.std.specs.List.{position_or_len}
use Rattle.std.proofs.lemmas.List.Sums.{prefix_len-le-length}
use Rattle.kmem_text.specs.Grammar.{is_blank}
use Rattle.kmem_text.proofs.Parts.{position_or}
use Rattle.kmem_text.proofs.tokens.first_not_blank.Goals as goal

pub returns-clause-count : goal.returns-clause-count
returns-clause-count c = c.unwrap_or.ensures ∙ ap (λ (o : Option ℕ). unwrap_or o (length c.args.bytes.now)) c.token_at.ensures ∙ position_or (λ byte. not (is_blank byte)) c.args.bytes.now

pub returns-clause-within : goal.returns-clause-within
returns-clause-within c =
    let count : c.unwrap_or.result ≡ position_or_len (λ (byte : ℕ). not (is_blank byte)) c.args.bytes.now = c.unwrap_or.ensures ∙ ap (λ (o : Option ℕ). unwrap_or o (length c.args.bytes.now)) c.token_at.ensures ∙ position_or (λ (byte : ℕ). not (is_blank byte)) c.args.bytes.now in
    omega (arith, count, prefix_len-le-length (λ (byte : ℕ). not (not (is_blank byte))) c.args.bytes.now)
