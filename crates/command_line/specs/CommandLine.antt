-- The command line, as the parser of words has it (this project's own): a subcommand of each row of the programs, whose words are
-- positional arguments, and no help and no version.
use Rattle.std.specs.Prelude.{◌≡◌, ◌==◌, Bool, true, false, not, List, [], ◌∷◌, codes, Option, Some, None, option_map, if◌then◌else◌}
use Rattle.std.specs.Str.{bytes_eq}
use Rattle.clap.specs.Words.{App, Shape, Rule, Row, Text, new_app, new_rule, with_rule, with_subcommand, first_of}
use Rattle.clap.specs.Simple.{on_top}
use Rattle.clap.specs.declared.builder.command.Command.{Command}
use Rattle.clap.specs.declared.builder.command.Command.TheViews.{out-Command}
use Rattle.kmem_model.specs.declared.plan.Plan.{Plan}
use Rattle.kmem_model.specs.Words.{one_of, check_of}
use Rattle.command_line.specs.declared.program.Program.{Program}
use Rattle.command_line.specs.declared.program.Program.TheVariants.{Plain}
use Rattle.command_line.specs.Programs.{run_of, gen_of}

-- an argument that has to be there
abbrev pub needed : Text → Rule
needed id = record (new_rule id) { required = true }

-- `one S C` and `one S C EVERY`
abbrev pub one_app : App
one_app = with_rule (with_rule (with_rule (new_app (codes "one")) (needed (codes "slabs"))) (needed (codes "chunks"))) (new_rule (codes "every"))

-- `check W`
abbrev pub check_app : App
check_app = with_rule (new_app (codes "check")) (needed (codes "workers"))

-- `run S C W SCANS` and `run S C W SCANS desperate`
abbrev pub run_app : App
run_app = with_rule (with_rule (with_rule (with_rule (with_rule (new_app (codes "run")) (needed (codes "slabs"))) (needed (codes "chunks"))) (needed (codes "workers"))) (needed (codes "scans"))) (new_rule (codes "desperate"))

-- `gen SEED W N`
abbrev pub gen_app : App
gen_app = with_rule (with_rule (with_rule (new_app (codes "gen")) (needed (codes "seed"))) (needed (codes "workers"))) (needed (codes "commands"))

-- a subcommand has to be there; there is no help and no version
abbrev pub bare : Shape → Shape
bare s = record s {
  no_binary_name = true;
  disable_help_flag = true;
  disable_help_subcommand = true;
  disable_version_flag = true;
  subcommand_required = true;
}

abbrev pub whole_app : App
whole_app = with_subcommand (with_subcommand (with_subcommand (with_subcommand (on_top bare (new_app (codes "kmemrun"))) one_app.top) check_app.top) run_app.top) gen_app.top

-- no argument of the command is one of its subcommands too
abbrev pub IsLocal : Command → Type 0
IsLocal c = (out-Command c).has_globals ≡ false

-- the word doesn't begin with `-`
abbrev pub is_plain_word : Text → Bool
is_plain_word [] = true
is_plain_word (x ∷ xs) = not (x == 45)

-- the program of the values that were found

abbrev pub one_in : Option Text → Option Text → Option Text → Option Plan
one_in (Some slabs) (Some chunks) None = one_of (slabs ∷ chunks ∷ [])
one_in (Some slabs) (Some chunks) (Some every) = one_of (slabs ∷ chunks ∷ every ∷ [])
one_in (Some slabs) None every = None
one_in None chunks every = None

abbrev pub check_in : Option Text → Option Plan
check_in (Some workers) = check_of (workers ∷ [])
check_in None = None

abbrev pub plan_named : Text → List Row → Option Plan
plan_named name rows =
    if bytes_eq name (codes "one") then one_in (first_of (codes "slabs") rows) (first_of (codes "chunks") rows) (first_of (codes "every") rows)
    else (if bytes_eq name (codes "check") then check_in (first_of (codes "workers") rows)
    else None)

abbrev pub run_in : Option Text → Option Text → Option Text → Option Text → Option Text → Option Program
run_in (Some slabs) (Some chunks) (Some workers) (Some scans) None = run_of (slabs ∷ chunks ∷ workers ∷ scans ∷ [])
run_in (Some slabs) (Some chunks) (Some workers) (Some scans) (Some desperate) = run_of (slabs ∷ chunks ∷ workers ∷ scans ∷ desperate ∷ [])
run_in (Some slabs) (Some chunks) (Some workers) None desperate = None
run_in (Some slabs) (Some chunks) None scans desperate = None
run_in (Some slabs) None workers scans desperate = None
run_in None chunks workers scans desperate = None

abbrev pub gen_in : Option Text → Option Text → Option Text → Option Program
gen_in (Some seed) (Some workers) (Some commands) = gen_of (seed ∷ workers ∷ commands ∷ [])
gen_in (Some seed) (Some workers) None = None
gen_in (Some seed) None commands = None
gen_in None workers commands = None

abbrev pub program_named : Text → List Row → Option Program
program_named name rows =
    if bytes_eq name (codes "run")
    then run_in (first_of (codes "slabs") rows) (first_of (codes "chunks") rows) (first_of (codes "workers") rows) (first_of (codes "scans") rows) (first_of (codes "desperate") rows)
    else (if bytes_eq name (codes "gen") then gen_in (first_of (codes "seed") rows) (first_of (codes "workers") rows) (first_of (codes "commands") rows)
    else option_map Plain (plan_named name rows))

abbrev pub program_found : Option (Text × List Row) → Option Program
program_found None = None
program_found (Some p) = program_named p.0 p.1
