use Rattle.std.proofs.Common.{◌≡◌, ◌-◌, ◌++◌, ◌≤◌, length, map, take, vec_capacity}
use Rattle.kmem_text.specs.Grammar.{tokens_in, tokens_of}
use Rattle.kmem_text.proofs.tokens.fill_tokens.Given as goal

-- the tokens so far and those of the rest are those of the line, up to the fifth
abbrev pub invariant-cutting : goal.invariant-cutting
invariant-cutting l = record {
  few : length l.tokens.items ≤ 5;
  room : 5 ≤ vec_capacity l.tokens;
  tokens : map (λ token. token.now) l.tokens.items ++ take (5 - length l.tokens.items) (tokens_in l.rest) ≡ take 5 (tokens_of l.line);
}

abbrev pub decreases-cutting : goal.decreases-cutting
decreases-cutting l = 5 - length l.tokens.items
