use Rattle.std.proofs.Common.{ap, ◌∙◌}
use Rattle.record_heap.proofs.Shelved.{taken_again, view_of}
use Rattle.record_heap.proofs.parts.Parts.show_empty.Goals as goal

pub returns-clause-parts : goal.returns-clause-parts
returns-clause-parts c =
    let f = c.self.inside in
    ap (view_of f.names f.tags)
    (taken_again f.shelf c.put.new.self c.take.new.self c.number-number.result c.args.buf.number c.args.buf.object c.put.ensures.empty c.put.ensures.shelf c.number-number.ensures c.take.ensures.shelf)
    ∙ c.self.view_is
