use Rattle.std.proofs.Common.{◌≡◌, ◌+◌, ◌∙◌, ap, sym, subst, [], replicate, add-one, suc}
use Rattle.atomic_table.specs.Table.{opening}
use Rattle.marks.specs.Rule.{IsMarked, pen_view}
use Rattle.marks.proofs.Moves.{opens}
use Rattle.marks.proofs.marks_table.lay.Goals as goal

pub of_words-requires : goal.of_words-requires
of_words-requires c =
    let n = c.args.buffers in
    let words : c.in_ok-words.words.items ≡ replicate (n + 1) 0xbaddcafe = c.in_ok-words.ensures.items_if_clones_equal (λ y e. e) in
    let more : replicate (n + 1) 0xbaddcafe ≡ replicate (suc n) 0xbaddcafe = ap (λ k. replicate k 0xbaddcafe) (add-one n) in
    subst (λ l. IsMarked (opening l [] (pen_view n))) (sym (c.as_slice.ensures.value ∙ (words ∙ more))) (opens n)
