use Rattle.std.proofs.Common.{◌<◌, length, sym, subst, arith}
use Rattle.kmem_text.specs.Grammar.{IsWithinNames}
use Rattle.kmem_text.specs.declared.command.Line.{Line}
use Rattle.run_serve.proofs.tests.made_text.Goals as goal

pub push_line-requires : goal.push_line-requires
push_line-requires c =
    let script = c.in_ok-script.script in
    let line = c.index.result.now in
    let small : c.loop-index.index < length script.lines.items = omega (arith, c.loop-index-test.true, c.len-index-end.ensures) in
    record { names = subst (λ (l : Line). IsWithinNames (length script.names.items) l.command) (sym c.index.ensures) (c.in_ok-script.ensures.whole.places c.loop-index.index line small) }
