use Rattle.std.proofs.Common.{rules, tests, ◌≡◌, ◌∙◌, ◌&&◌, ℕ, List, [], ◌∷◌, Bor, refl, ap, map}
use Rattle.std.specs.List.{list_all}
use Rattle.std.proofs.lemmas.Iterator.{YieldsList-from_slice}
use Rattle.std.proofs.lemmas.Iterator.Search.{all_from_yields_List}
use Rattle.command_line.specs.CommandLine.{is_plain_word}
use Rattle.command_line.proofs.words.are_plain.Goals as goal

-- the test of what the references lead to
behind : (words : List (Bor (List ℕ))) → list_all (λ word. is_plain_word word.now) words ≡ list_all is_plain_word (map (λ word. word.now) words)
behind [] = refl
behind (w ∷ ws) = ap (λ b. is_plain_word w.now && b) (behind ws)

pub returns : goal.returns
returns c =
    all_from_yields_List (λ word. is_plain_word word.now) _ _ c.all.result c.all.ensures.ran (YieldsList-from_slice c.args.words.now cc) (λ x b q k. search (rules, tests))
    ∙ behind c.args.words.now
