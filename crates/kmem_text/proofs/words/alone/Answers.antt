use Rattle.std.proofs.Common.{◌≡◌, ◌<◌, ℕ, List, [], ◌∷◌, length, map, Bor, Err, refl, arith}
use Rattle.kmem_text.specs.Words.{alone}
use Rattle.kmem_text.specs.declared.spelling.LineFault.TheVariants.{Words}
use Rattle.kmem_text.specs.declared.spelling.Spelled.{Spelled}
use Rattle.kmem_text.proofs.words.alone.Goals as goal

not_alone : (command : Spelled) (tokens : List (Bor (List ℕ))) → 0 < length tokens → Err Words ≡ alone command (map (λ (token : Bor (List ℕ)). token.now) tokens)
not_alone command [] some = absurd (omega (arith, some))
not_alone command (token ∷ tokens) some = refl

pub returns-in_default : goal.returns-in_default
returns-in_default c = not_alone c.args.command c.args.tokens.now (omega (arith, c.in_default.len_at_least))
