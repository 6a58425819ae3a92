use Rattle.std.proofs.Common.{◌++◌, ◌∷◌, [], ◌∙◌, ap, arith}
use Rattle.kmem_text.specs.Grammar.{first_bad_of, script_of}
use Rattle.kmem_text.specs.Layout.{command_tokens}
use Rattle.kmem_text.specs.declared.bytes.TheConstants.{LINE_FEED}
use Rattle.generator.specs.Lines.{spelled_command, spelled_line, spaced}
use Rattle.generator.proofs.Pieces.{later, text_of_line, put_together}
use Rattle.generator.proofs.line.write_line.Goals as goal

pub returns-clause-text : goal.returns-clause-text
returns-clause-text c =
    let line = c.args.line.now in
    let command = spelled_command c.args.script.now.names.items line.command in
    let begun = c.put-at.ensures.text ∙ c.as_bytes.ensures.value ∙ c.format.ensures.text in
    let front = c.put.ensures.text ∙ ap (λ xs. xs ++ LINE_FEED ∷ []) (c.put_command-at.ensures.text ∙ ap (λ xs. xs ++ spaced (command_tokens command)) begun)
    ∙ text_of_line line.worker command in
    let behind = c.put_command-at.ensures.rest ∙ later c.put-at.result c.put_command-at.result _ _ c.put_command-at.ensures.end.0 c.put-at.ensures.rest in
    put_together c.put.result c.put.new.out _ c.args.out.now front
    (c.put.ensures.rest ∙ later c.put_command-at.result c.put.result _ _ (omega (arith, c.put.ensures.end)) behind)

pub returns-clause-good : goal.returns-clause-good
returns-clause-good c workers small good =
    let line = c.args.line.now in
    let command = spelled_command c.args.script.now.names.items line.command in
    let begun = c.put-at.ensures.text ∙ c.as_bytes.ensures.value ∙ c.format.ensures.text in
    let front = c.put.ensures.text ∙ ap (λ xs. xs ++ LINE_FEED ∷ []) (c.put_command-at.ensures.text ∙ ap (λ xs. xs ++ spaced (command_tokens command)) begun)
    ∙ text_of_line line.worker command in
    ap (first_bad_of workers) front ∙ c.law_written.ensures.good workers (spelled_line c.args.script.now.names.items line ∷ []) small (good, tt)

pub returns-clause-read : goal.returns-clause-read
returns-clause-read c workers small good =
    let line = c.args.line.now in
    let command = spelled_command c.args.script.now.names.items line.command in
    let begun = c.put-at.ensures.text ∙ c.as_bytes.ensures.value ∙ c.format.ensures.text in
    let front = c.put.ensures.text ∙ ap (λ xs. xs ++ LINE_FEED ∷ []) (c.put_command-at.ensures.text ∙ ap (λ xs. xs ++ spaced (command_tokens command)) begun)
    ∙ text_of_line line.worker command in
    ap (script_of workers) front ∙ c.law_written.ensures.script workers (spelled_line c.args.script.now.names.items line ∷ []) small (good, tt)
