-- Which replies a command may have, and how a reply is read back from its text (this project's own rule).
use Rattle.std.specs.Prelude.{◌≡◌, ◌<◌, ◌-◌, ◌^◌, ◌==◌, ℕ, Bool, true, false, List, [], length, take, drop, reverse, codes, Option, Some, None, option_map, position, if◌then◌else◌}
use Rattle.std.specs.List.{list_any}
use Rattle.std.specs.Str.{bytes_eq}
use Rattle.std.specs.Cmp.Lexicographic.{slice_cmp}
use Rattle.std.specs.Ordering.{nat_cmp}
use Rattle.std.specs.BTreeMap.{is_at}
use Rattle.kmem_text.specs.Texts.{is_value}
use Rattle.kmem_text.specs.Numbers.{number_within}
use Rattle.kmem_text.specs.Grammar.{place_of}
use Rattle.kmem_text.specs.declared.bytes.TheConstants.{SPACE}
use Rattle.kmem_text.specs.declared.command.Command.{Command}
use Rattle.kmem_text.specs.declared.command.Command.TheVariants as command
use Rattle.kmem_text.specs.declared.command.NameId.{NameId}
use Rattle.kmem_text.specs.declared.command.Reply.{Reply}
use Rattle.kmem_text.specs.declared.command.Reply.TheVariants.{New, Was, Full, Gone, Val, Absent, At, Number, Done, Taken, Many, Used, Idle}

-- The replies of each command

abbrev pub of_put : Reply → Bool
of_put New = true
of_put (Was value) = true
of_put Full = true
of_put _ = false

abbrev pub of_get : Reply → Bool
of_get (Val value) = true
of_get Absent = true
of_get _ = false

abbrev pub of_del : Reply → Bool
of_del (Gone value) = true
of_del Absent = true
of_del _ = false

-- of first and next
abbrev pub of_next : Reply → Bool
of_next (At name value) = true
of_next Absent = true
of_next _ = false

abbrev pub of_count : Reply → Bool
of_count (Number count) = true
of_count _ = false

abbrev pub of_link : Reply → Bool
of_link Absent = true
of_link Taken = true
of_link Many = true
of_link Done = true
of_link _ = false

abbrev pub of_hold : Reply → Bool
of_hold Used = true
of_hold Absent = true
of_hold Done = true
of_hold _ = false

abbrev pub of_read : Reply → Bool
of_read (Val value) = true
of_read Idle = true
of_read _ = false

abbrev pub of_write : Reply → Bool
of_write (Was value) = true
of_write Idle = true
of_write _ = false

abbrev pub of_drop : Reply → Bool
of_drop Done = true
of_drop Idle = true
of_drop _ = false

-- of fix and loose
abbrev pub of_fix : Reply → Bool
of_fix Done = true
of_fix Absent = true
of_fix _ = false

-- the command may have the reply, whatever the records are
abbrev pub may_reply : Command → Reply → Bool
may_reply (command.Put name value) reply = of_put reply
may_reply (command.Get name) reply = of_get reply
may_reply (command.Del name) reply = of_del reply
may_reply command.First reply = of_next reply
may_reply (command.Next name) reply = of_next reply
may_reply command.Count reply = of_count reply
may_reply (command.Link name other) reply = of_link reply
may_reply (command.Hold tag name) reply = of_hold reply
may_reply (command.Read tag) reply = of_read reply
may_reply (command.Write tag value) reply = of_write reply
may_reply (command.Drop tag) reply = of_drop reply
may_reply (command.Fix name) reply = of_fix reply
may_reply (command.Loose name) reply = of_fix reply

-- the reply's name is one of so many, its value is a value, and its number is below 2^32
abbrev pub IsReply : ℕ → Reply → Type 0
IsReply names (Was value) = is_value value ≡ true
IsReply names (Gone value) = is_value value ≡ true
IsReply names (Val value) = is_value value ≡ true
IsReply names (At name value) = (name.0 < names) × (is_value value ≡ true)
IsReply names (Number count) = count < 2 ^ 32
IsReply names _ = Unit {0}

-- a reply that the command may have, in a script of so many names
pub record IsReplyTo (names : ℕ) (command : Command) (reply : Reply) : Type 0 where
  pub allowed : may_reply command reply ≡ true
  pub whole : IsReply names reply

-- The reply that a text is

abbrev pub begins_with : List ℕ → List ℕ → Bool
begins_with word text = bytes_eq (take (length word) text) word

-- a value
abbrev pub value_in : List ℕ → Option (List ℕ)
value_in text = if is_value text then Some text else None

-- one of these names
abbrev pub name_in : List (List ℕ) → List ℕ → Option NameId
name_in names text = if list_any (is_at (slice_cmp nat_cmp text)) names then Some (place_of names text) else None

-- how many bytes stand behind the last space
abbrev pub last_word_len : List ℕ → Option ℕ
last_word_len text = position (λ byte. byte == SPACE) (reverse text)

-- a name and a value
abbrev pub both_in : Option NameId → Option (List ℕ) → Option Reply
both_in None value = None
both_in (Some name) None = None
both_in (Some name) (Some value) = Some (At name value)

-- a name, a space and a value of this length
abbrev pub split_at : List (List ℕ) → List ℕ → Option ℕ → Option Reply
split_at names text None = None
split_at names text (Some len) =
    both_in (name_in names (take (length text - len - 1) text)) (value_in (drop (length text - len) text))

-- a word with more behind it
abbrev pub worded : List (List ℕ) → List ℕ → Option Reply
worded names text =
    if begins_with (codes "was ") text then option_map Was (value_in (drop 4 text)) else
    (if begins_with (codes "del ") text then option_map Gone (value_in (drop 4 text)) else
    (if begins_with (codes "val ") text then option_map Val (value_in (drop 4 text)) else
    (if begins_with (codes "n ") text then option_map Number (number_within 0 4294967295 (drop 2 text)) else
    (if begins_with (codes "at ") text then split_at names (drop 3 text) (last_word_len (drop 3 text)) else None))))

-- the reply
abbrev pub reply_in : List (List ℕ) → List ℕ → Option Reply
reply_in names text =
    if bytes_eq text (codes "new") then Some New else
    (if bytes_eq text (codes "full") then Some Full else
    (if bytes_eq text (codes "none") then Some Absent else
    (if bytes_eq text (codes "ok") then Some Done else
    (if bytes_eq text (codes "taken") then Some Taken else
    (if bytes_eq text (codes "many") then Some Many else
    (if bytes_eq text (codes "used") then Some Used else
    (if bytes_eq text (codes "idle") then Some Idle else worded names text)))))))
