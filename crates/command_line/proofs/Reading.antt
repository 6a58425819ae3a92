-- What the parser makes of a list of words without `-` at a front.
use Rattle.std.proofs.Common.{◌≡◌, ◌⊎◌, Bool, true, false, List, [], ◌∷◌, codes, Some, None, refl, sym, ap, ap₂, ◌∙◌, subst, inl, inr}
use Rattle.std.specs.Prelude.{fold, ◌||◌, find, option_map, if◌then◌else◌}
use Rattle.std.specs.List.{list_all}
use Rattle.std.proofs.lemmas.Bool.{cond-false}
use Rattle.std.proofs.lemmas.Slice.Eq.{bytes_eq-Decides}
use Rattle.std.specs.Str.{bytes_eq}
use Rattle.clap.specs.Words.{Text, Shape, fault_of, is_simple, is_simple_and_free, subcommand_of, IsAmong, built}
use Rattle.clap.specs.Walk.{Names, walked, walk_from, nothing_held, idle, subcommand_met, subcommand_or_other, answers_to}
use Rattle.clap.specs.Kinds.{or_else}
use Rattle.clap.specs.Faults.{other_fault, walk_fault, turn_fault, step_fault}
use Rattle.clap.specs.declared.error.kind.ErrorKind.{ErrorKind}
use Rattle.clap.specs.declared.error.kind.ErrorKind.TheVariants.{MissingSubcommand, UnknownArgument, InvalidSubcommand}
use Rattle.clap.proofs.WalkLemmas.{both}
use Rattle.clap.proofs.OnLiterals.{clap_on_literals}
use Rattle.command_line.specs.CommandLine.{whole_app, one_app, check_app, run_app, gen_app, program_found, is_plain_word}
use Rattle.command_line.proofs.Plain.{plain_met, plain_other}
use Rattle.command_line.proofs.Levels.{IsSubcommand, IsRead, below_top, names, whole_fault, read_taken, read_missing, read_stray}
use Rattle.command_line.specs.declared.program.Program.TheVariants.{Plain}
use Rattle.command_line.specs.Programs.{program_of, run_of, gen_of}
use Rattle.kmem_model.specs.Words.{plan_of}

pub free : is_simple_and_free whole_app ≡ true
unfolding clap_on_literals
free = refl

-- Each subcommand: its shape, and the words behind its name

abbrev one_shape : Shape
one_shape = below_top one_app.top

is_one : IsSubcommand (codes "one") one_shape
unfolding clap_on_literals
is_one = record { met = λ further. refl; below = λ further. refl; words = λ further. refl; rows = λ further. refl }

read_one : (further : List Text) → list_all is_plain_word further ≡ true → IsRead (codes "one" ∷ further)
unfolding clap_on_literals
read_one [] e = read_missing (codes "one") one_shape is_one [] e tt refl refl
read_one (a ∷ []) e = read_missing (codes "one") one_shape is_one (a ∷ []) e (refl, (refl, tt)) refl refl
read_one (a ∷ b ∷ []) e = read_taken (codes "one") one_shape is_one (a ∷ b ∷ []) e (refl, (refl, (refl, (refl, tt)))) refl refl
read_one (a ∷ b ∷ d ∷ []) e = read_taken (codes "one") one_shape is_one (a ∷ b ∷ d ∷ []) e (refl, (refl, (refl, (refl, (refl, (refl, tt)))))) refl refl
read_one (a ∷ b ∷ d ∷ f ∷ rest) e = read_stray (codes "one") one_shape is_one (a ∷ b ∷ d ∷ []) f rest e (refl, (refl, (refl, (refl, (refl, (refl, tt)))))) refl refl

abbrev check_shape : Shape
check_shape = below_top check_app.top

is_check : IsSubcommand (codes "check") check_shape
unfolding clap_on_literals
is_check = record { met = λ further. refl; below = λ further. refl; words = λ further. refl; rows = λ further. refl }

read_check : (further : List Text) → list_all is_plain_word further ≡ true → IsRead (codes "check" ∷ further)
unfolding clap_on_literals
read_check [] e = read_missing (codes "check") check_shape is_check [] e tt refl refl
read_check (a ∷ []) e = read_taken (codes "check") check_shape is_check (a ∷ []) e (refl, (refl, tt)) refl refl
read_check (a ∷ b ∷ rest) e = read_stray (codes "check") check_shape is_check (a ∷ []) b rest e (refl, (refl, tt)) refl refl

abbrev run_shape : Shape
run_shape = below_top run_app.top

is_run : IsSubcommand (codes "run") run_shape
unfolding clap_on_literals
is_run = record { met = λ further. refl; below = λ further. refl; words = λ further. refl; rows = λ further. refl }

read_run : (further : List Text) → list_all is_plain_word further ≡ true → IsRead (codes "run" ∷ further)
unfolding clap_on_literals
read_run [] e = read_missing (codes "run") run_shape is_run [] e tt refl refl
read_run (a ∷ []) e = read_missing (codes "run") run_shape is_run (a ∷ []) e (refl, (refl, tt)) refl refl
read_run (a ∷ b ∷ []) e = read_missing (codes "run") run_shape is_run (a ∷ b ∷ []) e (refl, (refl, (refl, (refl, tt)))) refl refl
read_run (a ∷ b ∷ d ∷ []) e = read_missing (codes "run") run_shape is_run (a ∷ b ∷ d ∷ []) e (refl, (refl, (refl, (refl, (refl, (refl, tt)))))) refl refl
read_run (a ∷ b ∷ d ∷ f ∷ []) e = read_taken (codes "run") run_shape is_run (a ∷ b ∷ d ∷ f ∷ []) e (refl, (refl, (refl, (refl, (refl, (refl, (refl, (refl, tt)))))))) refl refl
read_run (a ∷ b ∷ d ∷ f ∷ g ∷ []) e = read_taken (codes "run") run_shape is_run (a ∷ b ∷ d ∷ f ∷ g ∷ []) e (refl, (refl, (refl, (refl, (refl, (refl, (refl, (refl, (refl, (refl, tt)))))))))) refl refl
read_run (a ∷ b ∷ d ∷ f ∷ g ∷ h ∷ rest) e = read_stray (codes "run") run_shape is_run (a ∷ b ∷ d ∷ f ∷ g ∷ []) h rest e (refl, (refl, (refl, (refl, (refl, (refl, (refl, (refl, (refl, (refl, tt)))))))))) refl refl

abbrev gen_shape : Shape
gen_shape = below_top gen_app.top

is_gen : IsSubcommand (codes "gen") gen_shape
unfolding clap_on_literals
is_gen = record { met = λ further. refl; below = λ further. refl; words = λ further. refl; rows = λ further. refl }

read_gen : (further : List Text) → list_all is_plain_word further ≡ true → IsRead (codes "gen" ∷ further)
unfolding clap_on_literals
read_gen [] e = read_missing (codes "gen") gen_shape is_gen [] e tt refl refl
read_gen (a ∷ []) e = read_missing (codes "gen") gen_shape is_gen (a ∷ []) e (refl, (refl, tt)) refl refl
read_gen (a ∷ b ∷ []) e = read_missing (codes "gen") gen_shape is_gen (a ∷ b ∷ []) e (refl, (refl, (refl, (refl, tt)))) refl refl
read_gen (a ∷ b ∷ d ∷ []) e = read_taken (codes "gen") gen_shape is_gen (a ∷ b ∷ d ∷ []) e (refl, (refl, (refl, (refl, (refl, (refl, tt)))))) refl refl
read_gen (a ∷ b ∷ d ∷ f ∷ rest) e = read_stray (codes "gen") gen_shape is_gen (a ∷ b ∷ d ∷ []) f rest e (refl, (refl, (refl, (refl, (refl, (refl, tt)))))) refl refl

-- A first word that names no subcommand

-- the subcommands of these names, none with an alias
abbrev named : List Text → Names
named [] = []
named (n ∷ ns) = (n, []) ∷ named ns

-- none of the names is the word
abbrev Differ : Text → List Text → Type 0
Differ w [] = Unit
Differ w (n ∷ ns) = (bytes_eq n w ≡ false) × Differ w ns

none_met : (ns : List Text) (w : Text) → Differ w ns → find (answers_to w) (named ns) ≡ None
none_met [] w d = refl
none_met (n ∷ ns) w d = ap (λ (b : Bool). if b || false then Some (n, []) else find (answers_to w) (named ns)) d.0 ∙ none_met ns w d.1

strange_turn : (w : Text) → is_plain_word w ≡ true → subcommand_met names idle w ≡ None → turn_fault (built whole_app).top names (walk_from nothing_held) w ≡ UnknownArgument ∷ InvalidSubcommand ∷ []
unfolding clap_on_literals
strange_turn w e none =
    ap (λ m. or_else (other_fault (built whole_app).top m w nothing_held) (step_fault (built whole_app).top 1 (subcommand_or_other [] m idle 1 w nothing_held).0 (subcommand_or_other [] m idle 1 w nothing_held).1)) none
    ∙ (ap₂ (λ f met. or_else f (step_fault (built whole_app).top 1 met.0 met.1)) (plain_other (built whole_app).top w e nothing_held) (plain_met [] w e nothing_held 1))

strange_met : (w : Text) (further : List Text) → fault_of whole_app (w ∷ further) ≡ whole_fault (or_else (turn_fault (built whole_app).top names (walk_from nothing_held) w) (walk_fault (built whole_app).top names (walked [] names (walk_from nothing_held) w) further)) (fold (walked [] names) (walk_from nothing_held) (w ∷ further))
unfolding walk_fault
strange_met w further = refl

strange_fault : (w : Text) (further : List Text) → is_plain_word w ≡ true → subcommand_met names idle w ≡ None → fault_of whole_app (w ∷ further) ≡ UnknownArgument ∷ InvalidSubcommand ∷ []
strange_fault w further e none = strange_met w further
    ∙ ap (λ t. whole_fault (or_else t (walk_fault (built whole_app).top names (walked [] names (walk_from nothing_held) w) further)) (fold (walked [] names) (walk_from nothing_held) (w ∷ further))) (strange_turn w e none)

none_fault : fault_of whole_app [] ≡ MissingSubcommand ∷ []
unfolding clap_on_literals
none_fault = refl

true_false : true ≡ false → ⊥
true_false e = cc

bool_cases : (b : Bool) → (b ≡ true) ⊎ (b ≡ false)
bool_cases true = inl refl
bool_cases false = inr refl

turned : (w v : Text) → bytes_eq w v ≡ false → bytes_eq v w ≡ false
turned w v e = elim (bool_cases (bytes_eq v w)) [
  | inl is ↦ absurd (true_false (sym ((bytes_eq-Decides w v).1 (sym ((bytes_eq-Decides v w).0 is))) ∙ e))
  | inr not ↦ not
]

-- a word is this name, and then what holds behind the name holds, or it isn't
by_name : (name w : Text) (further : List Text) → IsRead (name ∷ further) → (bytes_eq w name ≡ false → IsRead (w ∷ further)) → IsRead (w ∷ further)
by_name name w further is other = elim (bool_cases (bytes_eq w name)) [
  | inl same ↦ subst (λ v. IsRead (v ∷ further)) (sym ((bytes_eq-Decides w name).0 same)) is
  | inr differs ↦ other differs
]

-- All words

-- the names of the subcommands, in their order
abbrev sub_names : List Text
sub_names = codes "one" ∷ codes "check" ∷ codes "run" ∷ codes "gen" ∷ []

strange_plan : (w : Text) (further : List Text) → bytes_eq w (codes "one") ≡ false → bytes_eq w (codes "check") ≡ false → plan_of (w ∷ further) ≡ None
strange_plan w further e1 e2 = cond-false (bytes_eq w (codes "one")) _ _ e1 ∙ cond-false (bytes_eq w (codes "check")) _ _ e2

strange_program : (w : Text) (further : List Text) → bytes_eq w (codes "one") ≡ false → bytes_eq w (codes "check") ≡ false → bytes_eq w (codes "run") ≡ false → bytes_eq w (codes "gen") ≡ false → program_of (w ∷ further) ≡ None
strange_program w further e1 e2 e3 e4 =
    let plain = option_map Plain (plan_of (w ∷ further)) in
    cond-false (bytes_eq w (codes "run")) (run_of further) (if bytes_eq w (codes "gen") then gen_of further else plain) e3
    ∙ (cond-false (bytes_eq w (codes "gen")) (gen_of further) plain e4 ∙ ap (option_map Plain) (strange_plan w further e1 e2))

named_names : named sub_names ≡ names
unfolding clap_on_literals
named_names = refl

read_strange : (w : Text) (further : List Text) → is_plain_word w ≡ true → bytes_eq w (codes "one") ≡ false → bytes_eq w (codes "check") ≡ false → bytes_eq w (codes "run") ≡ false → bytes_eq w (codes "gen") ≡ false → IsRead (w ∷ further)
read_strange w further e e1 e2 e3 e4 =
    let none = none_met sub_names w (turned w (codes "one") e1, (turned w (codes "check") e2, (turned w (codes "run") e3, (turned w (codes "gen") e4, tt)))) in
    let met = subst (λ (ns : Names). subcommand_met ns idle w ≡ None) named_names (ap (option_map (λ (p : Text × List Text). p.0)) none) in
    inr (UnknownArgument, InvalidSubcommand ∷ [], strange_fault w further e met, strange_program w further e1 e2 e3 e4)

pub all_read : (words : List Text) → list_all is_plain_word words ≡ true → IsRead words
all_read [] e = inr (MissingSubcommand, [], none_fault, refl)
all_read (w ∷ further) e =
    let p = both (is_plain_word w) _ e in
    by_name (codes "one") w further (read_one further p.1) (λ e1.
    by_name (codes "check") w further (read_check further p.1) (λ e2.
    by_name (codes "run") w further (read_run further p.1) (λ e3.
    by_name (codes "gen") w further (read_gen further p.1) (λ e4.
    read_strange w further p.0 e1 e2 e3 e4))))

-- a parse that is taken
pub taken_program : (words : List Text) → list_all is_plain_word words ≡ true → fault_of whole_app words ≡ [] → program_found (subcommand_of whole_app words) ≡ program_of words
taken_program words e none = elim (all_read words e) [
  | inl read ↦ read.1
  | inr refused ↦ let bad : [] ≡ refused.0 ∷ refused.1 = sym none ∙ refused.2 in absurd cc
]

-- and one that is refused
pub refused_program : (words : List Text) → list_all is_plain_word words ≡ true → (kind : ErrorKind) → IsAmong kind (fault_of whole_app words) → program_of words ≡ None
refused_program words e kind among = elim (all_read words e) [
  | inl read ↦ absurd (subst (IsAmong kind) read.0 among)
  | inr refused ↦ refused.3
]

pub simple : is_simple whole_app ≡ true
simple = (both (is_simple whole_app) _ free).0
