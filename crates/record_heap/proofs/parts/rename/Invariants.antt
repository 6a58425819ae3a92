use Rattle.std.proofs.Common.{◌≡◌, ◌==◌, ℕ, Some, None, length, slice_index_or, take, if◌then◌else◌}
use Rattle.std.specs.List.{list_any}
use Rattle.record_heap.proofs.parts.rename.Given as goal

abbrev pub invariant-loop-name : goal.invariant-loop-name
invariant-loop-name l =
    record {
      size : length l.names ≡ length l.initial.names;
      leads : (name : ℕ) → slice_index_or l.names name None ≡ (if list_any (λ other. other == name) (take l.name-index l.moved) then Some l.to else slice_index_or l.initial.names name None);
    }
