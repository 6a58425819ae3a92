-- Holds of a record table (this project's own).
use Rattle.std.specs.Prelude.{◌≡◌, ◌↔◌, ℕ, ◌<◌, List, false, Option, Some, None, IsSome, IfSome}
use Rattle.kmem_text.specs.declared.command.NameId.{NameId}
use Rattle.kmem_text.specs.declared.command.Reply.{Reply}
use Rattle.kmem_text.specs.declared.command.Reply.TheVariants.{Done}
use Rattle.kmem_text.specs.declared.command.Command.{Command}
use Rattle.kmem_text.specs.declared.command.Command.TheVariants.{Hold, Read, Write, Drop}
use Rattle.kmem_model.specs.declared.record_entry.RecordEntry.{RecordEntry}
use Rattle.kmem_model.specs.Records.{tag_place}
use Rattle.kmem_model.specs.Heap.{hold_at}
use Rattle.kmem_model.specs.History.{worker_of, in_use, own_entries}
use Rattle.record_heap.specs.View.{HoldState, IsHoldAt}
use Rattle.record_table.specs.Tables.{TableHome, TableView}
use Rattle.record_table.specs.Turns.{entry_of}

-- the hold is of a table of this home, and it is this pass's, for this tag
pub record IsHeldBy (home : TableHome) (who tag : ℕ) (hold : HoldState) : Type 0 where
  pub of : IsHoldAt home.holds hold
  pub worker : hold.worker ≡ worker_of who
  pub same : hold.tag ≡ tag

-- a hold that this pass can ask for
pub record IsHoldAsk (home : TableHome) (who : ℕ) (name : NameId) : Type 0 where
  pub worker : who < home.workers
  pub named : name.0 < home.names

-- a command on a tag that this pass can carry out with its hold
pub record IsTagAsk (home : TableHome) (who : ℕ) (hold : HoldState) : Type 0 where
  pub worker : who < home.workers
  pub held : IsHeldBy home who hold.tag hold

-- what a hold's turn tells: its entry; and a hold, exactly with `ok`
pub record IsHeld (home : TableHome) (who number tag : ℕ) (name : NameId) (out : Reply × Option HoldState) (entry : Option RecordEntry) : Type 0 where
  pub made : entry ≡ Some (entry_of number (Hold tag name) out.0)
  pub done : (out.0 ≡ Done) ↔ IsSome out.1
  pub given : IfSome out.1 (IsHeldBy home who tag)

-- the heap has the tag of the hold at its address
abbrev pub IsHoldThere : TableView → HoldState → Type 0
IsHoldThere table hold = hold_at table.heap.heap (tag_place hold.worker hold.tag) ≡ Some hold.address

-- the tag that a command is on
abbrev pub tag_in : Command → Option ℕ
tag_in (Read tag) = Some tag
tag_in (Write tag value) = Some tag
tag_in (Drop tag) = Some tag
tag_in _ = None

-- a command on a tag that this pass's own entries leave free
pub record IsIdleAsk (home : TableHome) (who : ℕ) (command : Command) (h : List (ℕ × RecordEntry)) : Type 0 where
  pub worker : who < home.workers
  pub tag : ℕ
  pub on : tag_in command ≡ Some tag
  pub small : tag < 8
  pub free : in_use tag false (own_entries who h) ≡ false
