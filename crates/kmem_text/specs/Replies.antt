-- The text of a reply (this project's own format).
use Rattle.std.specs.Prelude.{◌<◌, ℕ, List, [], ◌++◌, codes, get_or}
use Rattle.std.specs.Fmt.{decimal}
use Rattle.kmem_text.specs.declared.command.Reply.{Reply}
use Rattle.kmem_text.specs.declared.command.Reply.TheVariants.{New, Was, Full, Gone, Val, Absent, At, Number, Done, Taken, Many, Used, Idle}

-- where these are the names of the script
abbrev pub reply_text : List (List ℕ) → Reply → List ℕ
reply_text names New = codes "new"
reply_text names (Was value) = codes "was " ++ value
reply_text names Full = codes "full"
reply_text names (Gone value) = codes "del " ++ value
reply_text names (Val value) = codes "val " ++ value
reply_text names Absent = codes "none"
reply_text names (At name value) = codes "at " ++ get_or names name.0 [] ++ codes " " ++ value
reply_text names (Number count) = codes "n " ++ decimal count
reply_text names Done = codes "ok"
reply_text names Taken = codes "taken"
reply_text names Many = codes "many"
reply_text names Used = codes "used"
reply_text names Idle = codes "idle"

-- the name of the reply, if it has one, is one of so many
abbrev pub IsReplyWithinNames : ℕ → Reply → Type 0
IsReplyWithinNames names (At name value) = name.0 < names
IsReplyWithinNames names _ = Unit {0}
