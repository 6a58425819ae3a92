use Rattle.std.proofs.Common.{◌∙◌, ap, arith, length}
use Rattle.kmem_text.specs.Scripts.{plain}
use Rattle.kmem_text.proofs.Places.{length-in_order, lines_among}
use Rattle.kmem_text.proofs.Used.{made_whole}
use Rattle.kmem_text.proofs.command.Script.from_lines.Goals as goal

pub placed_lines-requires-clause-few : goal.placed_lines-requires-clause-few
placed_lines-requires-clause-few c = omega (arith, ap length (c.deref.ensures.value ∙ c.in_ok-names.ensures.names), length-in_order c.args.lines.now)

pub placed_lines-requires-clause-there : goal.placed_lines-requires-clause-there
placed_lines-requires-clause-there c = rw (c.deref.ensures.value, c.in_ok-names.ensures.names) (lines_among c.args.lines.now)

pub returns-clause-whole : goal.returns-clause-whole
returns-clause-whole c = λ most workers. made_whole most c.args.lines.now (plain (record { names = c.in_ok-names.names; lines = c.in_ok-lines.lines })) c.requires workers
    c.in_ok-names.ensures.sorted c.in_ok-names.ensures.names (rw (← c.deref.ensures.value) c.in_ok-lines.ensures.lines) (rw (← c.deref.ensures.value) c.in_ok-lines.ensures.within) c.in_ok-lines.ensures.tags c.in_ok-lines.ensures.values c.law_good_lines.ensures
