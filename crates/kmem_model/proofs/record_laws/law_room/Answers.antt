use Rattle.std.proofs.Common.{ap}
use Rattle.kmem_model.specs.Heap.{has_record}
use Rattle.kmem_model.proofs.Heaps.{leftover_same, room_left, leftover_room, no_room}
use Rattle.kmem_model.proofs.record_laws.law_room.Goals as goal

pub returns-clause-leftover : goal.returns-clause-leftover
returns-clause-leftover c = λ s h stands. leftover_same s h stands

pub returns-clause-empty : goal.returns-clause-empty
returns-clause-empty c = λ s h b stands below empty. room_left s h b stands below (ap has_record empty)

pub returns-clause-room : goal.returns-clause-room
returns-clause-room c = λ s h b stands e. leftover_room s h b stands e

pub returns-clause-no_room : goal.returns-clause-no_room
returns-clause-no_room c = λ s h stands full none. no_room s h stands full none
