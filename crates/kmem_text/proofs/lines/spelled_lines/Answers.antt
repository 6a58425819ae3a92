use Rattle.std.proofs.Common.{◌∙◌, ◌+◌, ◌++◌, ◌∷◌, [], ℕ, List, Bor, map, length, ap, sym, arith}
use Rattle.std.proofs.lemmas.List.{length-take}
use Rattle.kmem_text.specs.Grammar.{lines_of}
use Rattle.kmem_text.proofs.Parts.{spelled_some, spelled_none, spelled_fault, line_good, line_bad, keeps_more, keeps_same, keeps_all, keeps_too_many, keeps_at_end, good_at_end}
use Rattle.kmem_text.proofs.lines.spelled_lines.Goals as goal

pub cutting-preserved-in-Continue-branch-2 : goal.cutting-preserved-in-Continue-branch-2
cutting-preserved-in-Continue-branch-2 c =
    let workers = c.args.workers in
    let line = c.cut_line.result.0.now in
    let lines = lines_of c.cutting.rest.now in
    let behind = lines_of c.cut_line.result.1.now in
    let cut = c.cut_line.ensures.lines in
    let five = ap (map (λ (token : Bor (List ℕ)). token.now)) c.deref.ensures.value ∙ c.fill_tokens.ensures.tokens in
    let is = spelled_some workers c.in-Ok-Some.field-0 c.in-Ok-Some.field-0-0 _ line c.in-Ok-Some.field-0-is c.in-Ok-Some.ensures five in
    record {
      number = omega (arith, c.cut_line.ensures.shorter, c.cutting.invariant.number);
      few = omega (arith, ap length c.in_ok-keep-in-Ok-Some.ensures, length-take 100001 (c.cutting.lines.items ++ c.in-Ok-Some.field-0-0 ∷ []));
      room = c.fill_tokens.ensures.room;
      good = line_good workers c.cutting.number lines behind line _ _ cut is c.cutting.invariant.good;
      lines = keeps_more workers lines behind line c.cutting.lines.items c.keep.new.lines.items _ c.in-Ok-Some.field-0-0 cut is c.in_ok-keep-in-Ok-Some.ensures c.cutting.invariant.lines;
    }

pub cutting-preserved : goal.cutting-preserved
cutting-preserved c =
    let workers = c.args.workers in
    let line = c.cut_line.result.0.now in
    let lines = lines_of c.cutting.rest.now in
    let behind = lines_of c.cut_line.result.1.now in
    let cut = c.cut_line.ensures.lines in
    let five = ap (map (λ (token : Bor (List ℕ)). token.now)) c.deref.ensures.value ∙ c.fill_tokens.ensures.tokens in
    let is = spelled_none workers c.in-Ok-None.field-0 _ line c.in-Ok-None.field-0-is c.in-Ok-None.ensures five in
    record {
      number = omega (arith, c.cut_line.ensures.shorter, c.cutting.invariant.number);
      few = c.cutting.invariant.few;
      room = c.fill_tokens.ensures.room;
      good = line_good workers c.cutting.number lines behind line _ _ cut is c.cutting.invariant.good;
      lines = keeps_same workers lines behind line c.cutting.lines.items _ cut is c.cutting.invariant.lines;
    }

pub returns-in-Err-clause-error : goal.returns-in-Err-clause-error
returns-in-Err-clause-error c =
    let line = c.cut_line.result.0.now in
    let five = ap (map (λ (token : Bor (List ℕ)). token.now)) c.deref.ensures.value ∙ c.fill_tokens.ensures.tokens in
    line_bad c.args.workers c.cutting.number (lines_of c.cutting.rest.now) (lines_of c.cut_line.result.1.now) line c.in-Err.fault _ c.cut_line.ensures.lines (spelled_fault c.args.workers c.in-Err.fault _ line c.in-Err.ensures five) c.cutting.invariant.good

pub returns-then-len-le-MAX_COMMANDS-clause-lines : goal.returns-then-len-le-MAX_COMMANDS-clause-lines
returns-then-len-le-MAX_COMMANDS-clause-lines c = keeps_all c.cutting.lines.items _ (omega arith) (keeps_at_end c.args.workers c.cutting.rest.now c.cutting.lines.items _ (sym c.cutting-test.ensures) c.cutting.invariant.lines)

pub returns-else-len-le-MAX_COMMANDS-clause-error : goal.returns-else-len-le-MAX_COMMANDS-clause-error
returns-else-len-le-MAX_COMMANDS-clause-error c = (
  good_at_end c.args.workers (c.cutting.number + 1) c.cutting.rest.now _ (sym c.cutting-test.ensures) c.cutting.invariant.good,
  keeps_too_many c.cutting.lines.items _ (omega arith) (keeps_at_end c.args.workers c.cutting.rest.now c.cutting.lines.items _ (sym c.cutting-test.ensures) c.cutting.invariant.lines),
)
