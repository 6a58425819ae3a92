-- The tags of all workers, with a stub for each (this project's own).
use Rattle.std.specs.Prelude.{ℕ, ◌≡◌, ◌+◌, ◌/◌, ◌%◌, ◌<◌, ◌≤◌, true, false, List, Option, Some, None, length, slice_index_or}
use Rattle.atomic_table.specs.Seated.{TableId}
use Rattle.kmem_buf.specs.Stubs.{StubState}
use Rattle.record_heap.specs.View.{hold_facts}

-- the address that each tag holds, by its place, and the homes of the stubs
pub record TagsState : Type 0 where
  pub tags : List (Option ℕ)
  pub stubs : List TableId

-- the stub of a place, beside the address that its tag holds
abbrev pub IsStubOf : ℕ → StubState → Option ℕ → Type 0
IsStubOf place stub None = stub.issued ≡ false
IsStubOf place stub (Some address) = (stub.issued ≡ true) × (stub.facts ≡ hold_facts (place / 8 + 1) (place % 8) address)

-- a stub is issued exactly where its tag is in use, with the worker, the tag and the address
pub record AreIssued (stubs : List StubState) (tags : List (Option ℕ)) : Type 0 where
  pub size : length stubs ≡ length tags
  pub few : length tags ≤ 128
  pub issued : (j : ℕ) (d : StubState) → j < length tags → IsStubOf j (slice_index_or stubs j d) (slice_index_or tags j None)
