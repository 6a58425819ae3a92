use Rattle.std.proofs.Common.{true, arith}
use Rattle.std.proofs.lemmas.List.{length-map}
use Rattle.std.proofs.lemmas.Option.{slice_get_within}
use Rattle.kmem_buf.specs.declared.owner.Stand.TheVariants.{Unknown}
use Rattle.kmem_model.specs.Says.{says}
use Rattle.record_heap.specs.Tenants.{stand_of, stands_of}
use Rattle.record_heap.proofs.Tenants.{stands_next, tenants_next, meaning_next}
use Rattle.record_heap.proofs.heap.owner.RecordHeapOwnerRecordKind.answer.Goals as goal

pub returns-clause-stands : goal.returns-clause-stands
returns-clause-stands c = stands_next c.args.self.now c.answer_move.new.self c.args.from c.args.to.number c.answer_move.ensures.heap

pub returns-clause-tenants : goal.returns-clause-tenants
returns-clause-tenants c =
    let objects = c.args.self.now.heap.objects in
    tenants_next c.args.self.now c.answer_move.new.self c.args.from c.args.to.number c.answer_move.ensures.heap c.answer_move.ensures.empty
    (omega (arith, slice_get_within (stands_of c.args.self.now) c.args.to.number Unknown c.requires.empty, length-map objects stand_of))
    (omega (arith, c.requires.from, length-map objects stand_of))
    c.law_tied.ensures

pub returns-clause-meaning : goal.returns-clause-meaning
returns-clause-meaning c =
    meaning_next c.args.self.now c.answer_move.new.self c.args.from c.args.to.number (says c.args.self.now.heap true c.args.from) c.answer_move.ensures.stands c.answer_move.ensures.frame
