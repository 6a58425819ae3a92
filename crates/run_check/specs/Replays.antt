-- A reply against what the map on which a history is replayed says.
use Rattle.std.specs.Prelude.{◌≡◌, ◌≢◌, ◌⊎◌, ℕ, true, false}
use Rattle.kmem_text.specs.declared.command.Command.{Command}
use Rattle.kmem_text.specs.declared.command.Reply.{Reply}
use Rattle.kmem_text.specs.declared.command.Reply.TheVariants.{Full}
use Rattle.kmem_model.specs.Records.{RecordMap}
use Rattle.kmem_model.specs.History.{is_put_of_absent, is_refusal}
use Rattle.run_check.specs.PlainMaps.{step_kept}

-- the reply refuses a put of an absent name, which leaves the map, or is the step's, which the map goes on by
abbrev pub IsTaken : RecordMap → ℕ → Command → Reply → RecordMap → Type 0
IsTaken m worker command reply new =
    ((reply ≡ Full) × (is_put_of_absent m command ≡ true) × (new ≡ m))
    ⊎ ((is_refusal reply ≡ false) × (reply ≡ (step_kept m worker command).reply) × (new ≡ (step_kept m worker command).map))

-- it refuses another command, or is not the step's
abbrev pub IsWrong : RecordMap → ℕ → Command → Reply → Type 0
IsWrong m worker command reply =
    ((reply ≡ Full) × (is_put_of_absent m command ≡ false)) ⊎ ((is_refusal reply ≡ false) × (reply ≢ (step_kept m worker command).reply))
