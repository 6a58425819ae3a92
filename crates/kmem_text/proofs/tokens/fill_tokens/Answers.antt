use Rattle.std.proofs.Common.{◌≡◌, ◌++◌, ◌∷◌, [], Bool, cond, is_ok, sym, ap, ◌∙◌, arith}
use Rattle.kmem_text.specs.Grammar.{tokens_in}
use Rattle.kmem_text.proofs.Parts.{cuts_some, more_tokens}
use Rattle.kmem_text.proofs.tokens.fill_tokens.Goals as goal

pub cutting-preserved : goal.cutting-preserved
cutting-preserved c =
    let front = c.cutting.tokens.items in
    let token = c.next_token.result.0 in
    let behind = c.next_token.result.1 in
    let cut = cuts_some c.cutting.rest.now token.now behind.now c.next_token.ensures (sym c.if-is_empty.ensures) in
    let put : c.push.new.self.items ≡ front ++ token ∷ [] = c.push.ensures.items ∙ ap (λ (b : Bool). cond b (front ++ token ∷ []) front) (ap is_ok c.unwrap.ensures) in
    record {
      few = omega (arith, c.push.ensures.len);
      room = omega (arith, c.push.ensures.capacity);
      tokens = more_tokens front c.push.new.self.items token (tokens_in c.cutting.rest.now) (tokens_in behind.now) _ put (omega arith) cut.0 c.cutting.invariant.tokens;
    }
