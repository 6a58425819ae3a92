use Rattle.std.proofs.Common.{Some, sym, ◌∙◌, ap, subst}
use Rattle.kmem_model.specs.Says.{stage_in}
use Rattle.kmem_model.specs.Settle.{Stage, Course}
use Rattle.kmem_model.specs.SettleMeasure.{settled}
use Rattle.kmem_model.specs.SettleEntries.{AreEntriesOf}
use Rattle.record_heap.specs.Tenants.{stands_of}
use Rattle.consolidator.specs.Owned.{stage_with}
use Rattle.consolidator.proofs.OfRecords.{heap_owned, owned_within, same_stage, settled_in_heap, heap_moves}
use Rattle.consolidator.proofs.records.settle_records.Goals as goal

pub settle-requires-clause-owned : goal.settle-requires-clause-owned
settle-requires-clause-owned c = heap_owned c.args.cache.now.state c.args.heap.now c.requires.buffers

pub returns-clause-settles : goal.returns-clause-settles
returns-clause-settles c =
    let old = c.args.cache.now.state in let new = c.settle.new.cache.state in let heap = c.args.heap.now in let heap_after = c.settle.new.owner in
    let s = c.settle.ensures.settles in
    let first = same_stage old heap in let last = ap (λ (stage : Stage). record { stage = stage; moves = s.moves }) (same_stage new heap_after) in
    record {
      moves = s.moves;
      settle = ap settled (sym first) ∙ (s.settle ∙ ap Some last);
      counts = s.counts;
      entries = s.entries;
      made = subst (λ (course : Course). AreEntriesOf (stage_in old heap.heap.objects) course s.entries) last (subst (λ (stage : Stage). AreEntriesOf stage (record { stage = stage_with new (stands_of heap_after); moves = s.moves }) s.entries) first s.made);
      heap_moves = heap_moves heap heap_after s.moves s.answered s.left c.settle.ensures.meaning c.settle.ensures.homes.1;
    }

pub returns-clause-settled : goal.returns-clause-settled
returns-clause-settled c = settled_in_heap c.settle.new.cache.state c.settle.new.owner c.settle.ensures.settled

pub returns-clause-buffers : goal.returns-clause-buffers
returns-clause-buffers c = owned_within c.settle.new.cache.state c.settle.new.owner c.settle.ensures.owned
