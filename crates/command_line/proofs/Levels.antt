-- What the parser makes of the words behind a subcommand's name, where each is taken by the positional argument whose turn it is.
use Rattle.std.proofs.Common.{◌≡◌, ◌⊎◌, ◌+◌, ℕ, true, false, List, [], ◌∷◌, ◌++◌, Some, None, refl, sym, ap, ap₂, ◌∙◌, inl, inr, append-nil, append_assoc}
use Rattle.std.specs.Prelude.{fold, is_some}
use Rattle.std.specs.List.{list_all}
use Rattle.clap.specs.Words.{Text, Kinds, Rule, Shape, fault_of, subcommand_of, built}
use Rattle.clap.specs.Walk.{Held, Walk, Names, walked, walk_from, nothing_held, to_positional, arg_by_index, settled, finished, rows_after, value}
use Rattle.clap.specs.Simple.{entered, with_filled_rules, names_of}
use Rattle.clap.specs.Kinds.{or_else}
use Rattle.clap.specs.Faults.{walk_fault, step_fault, settle_fault, defaults_fault, check_fault, level_fault, entered_fault}
use Rattle.clap.specs.declared.error.kind.ErrorKind.TheVariants.{UnknownArgument, MissingRequiredArgument}
use Rattle.clap.specs.declared.error.kind.ErrorKind.{ErrorKind}
use Rattle.clap.proofs.WalkLemmas.{both}
use Rattle.command_line.specs.CommandLine.{whole_app, program_named, program_found, is_plain_word}
use Rattle.command_line.proofs.Plain.{at, takes_word, walks_word, stray_word}
use Rattle.command_line.specs.Programs.{program_of}

-- Words that positional arguments take, one each

abbrev pub held_after : Shape → Held → ℕ → Text → Held
held_after s h i word = (to_positional s.rules (arg_by_index s.rules i) word (at h i) h).held

abbrev pub held_by : Shape → Held → ℕ → List Text → Held
held_by s h i [] = h
held_by s h i (w ∷ ws) = held_by s (held_after s h i w) (i + 1) ws

abbrev pub place_after : ℕ → List Text → ℕ
place_after i [] = i
place_after i (w ∷ ws) = place_after (i + 1) ws

abbrev pub Takes : Shape → Held → ℕ → List Text → Type 0
Takes s h i [] = Unit
Takes s h i (w ∷ ws) = (step_fault s i h value ≡ [])
    × ((to_positional s.rules (arg_by_index s.rules i) w (at h i) h ≡ at (held_after s h i w) (i + 1))
    × Takes s (held_after s h i w) (i + 1) ws)

-- where the walk stands behind these words
abbrev pub end_of : Shape → List Text → Walk
end_of s words = at (held_by s nothing_held 1 words) (place_after 1 words)

no_fault : (s : Shape) (h : Held) (i : ℕ) (words : List Text) → list_all is_plain_word words ≡ true → Takes s h i words → walk_fault s [] (at h i) words ≡ []
unfolding walk_fault
no_fault s h i [] e t = refl
no_fault s h i (w ∷ ws) e t =
    let p = both (is_plain_word w) _ e in
    takes_word s h (held_after s h i w) i (i + 1) w ws p.0 t.0 t.1.0 ∙ no_fault s (held_after s h i w) (i + 1) ws p.1 t.1.1

walk_end : (s : Shape) (h : Held) (i : ℕ) (words : List Text) → list_all is_plain_word words ≡ true → Takes s h i words → fold (walked s.rules []) (at h i) words ≡ at (held_by s h i words) (place_after i words)
walk_end s h i [] e t = refl
walk_end s h i (w ∷ ws) e t =
    let p = both (is_plain_word w) _ e in
    walks_word s h (held_after s h i w) i (i + 1) w ws p.0 t.1.0 ∙ walk_end s (held_after s h i w) (i + 1) ws p.1 t.1.1

-- and one more, which none takes
stray_fault : (s : Shape) (h : Held) (i : ℕ) (words : List Text) (w : Text) (rest : List Text) → list_all is_plain_word (words ++ w ∷ rest) ≡ true → Takes s h i words → step_fault s (place_after i words) (held_by s h i words) value ≡ UnknownArgument ∷ [] → walk_fault s [] (at h i) (words ++ w ∷ rest) ≡ UnknownArgument ∷ []
stray_fault s h i [] w rest e t found = stray_word s h i w rest (both (is_plain_word w) _ e).0 found
stray_fault s h i (v ∷ vs) w rest e t found =
    let p = both (is_plain_word v) _ e in
    takes_word s h (held_after s h i v) i (i + 1) v (vs ++ w ∷ rest) p.0 t.0 t.1.0 ∙ stray_fault s (held_after s h i v) (i + 1) vs w rest p.1 t.1.1 found

-- The kinds of a level, by what its walk comes to

abbrev pub level_of : Shape → Kinds → Walk → Kinds
level_of s found end = or_else found
    (or_else []
    (or_else (settle_fault s.rules s.args_override_self end.held)
    (or_else (defaults_fault (settled s.rules end.held).rows s.rules)
    (check_fault s (finished s.rules end.held) false))))

level_taken : (s : Shape) (words : List Text) → list_all is_plain_word words ≡ true → Takes s nothing_held 1 words → level_fault s [] nothing_held words false [] ≡ level_of s [] (end_of s words)
level_taken s words e t = ap₂ (level_of s) (no_fault s nothing_held 1 words e t) (walk_end s nothing_held 1 words e t)

level_stray : (s : Shape) (words : List Text) (w : Text) (rest : List Text) → list_all is_plain_word (words ++ w ∷ rest) ≡ true → Takes s nothing_held 1 words → step_fault s (place_after 1 words) (held_by s nothing_held 1 words) value ≡ UnknownArgument ∷ [] → level_fault s [] nothing_held (words ++ w ∷ rest) false [] ≡ UnknownArgument ∷ []
level_stray s words w rest e t found =
    ap (λ kinds. level_of s kinds (fold (walked s.rules []) (at nothing_held 1) (words ++ w ∷ rest))) (stray_fault s nothing_held 1 words w rest e t found)

-- A subcommand that was met takes all further words

abbrev pub stop_at : Held → Text → List Text → Walk
stop_at h name words = record (walk_from h) { stopped = Some (name, words) }

walk_stopped : (c : List Rule) (names : Names) (h : Held) (name : Text) (before words : List Text) → fold (walked c names) (stop_at h name before) words ≡ stop_at h name (before ++ words)
unfolding walked
walk_stopped c names h name before [] = ap (stop_at h name) (sym (append-nil before))
walk_stopped c names h name before (w ∷ ws) = walk_stopped c names h name (before ++ w ∷ []) ws ∙ ap (stop_at h name) (append_assoc before (w ∷ []) ws)

fault_stopped : (s : Shape) (names : Names) (h : Held) (name : Text) (before words : List Text) → walk_fault s names (stop_at h name before) words ≡ []
unfolding walked walk_fault
fault_stopped s names h name before [] = refl
fault_stopped s names h name before (w ∷ ws) = fault_stopped s names h name (before ++ w ∷ []) ws

or_nothing : (kinds : Kinds) → or_else kinds [] ≡ kinds
or_nothing [] = refl
or_nothing (k ∷ ks) = refl

-- the kinds of the whole, by what its walk comes to
abbrev pub whole_fault : Kinds → Walk → Kinds
whole_fault found end = or_else found
    (or_else (entered_fault (built whole_app) end.stopped)
    (or_else (settle_fault [] false end.held)
    (or_else (defaults_fault (settled [] end.held).rows [])
    (check_fault (built whole_app).top (finished [] end.held) (is_some (entered (built whole_app) end.stopped))))))

abbrev pub names : Names
names = names_of (built whole_app)

-- a subcommand's shape as it is built
abbrev pub below_top : Shape → Shape
below_top s = with_filled_rules (record s {
  is_built = true;
  no_binary_name = true;
  disable_help_flag = true;
  disable_help_subcommand = true;
  disable_version_flag = true;
})

-- the name is that of a subcommand of the whole, which is built to this shape
pub record IsSubcommand (name : Text) (s : Shape) : Type 0 where
  pub met : (further : List Text) → fault_of whole_app (name ∷ further)
      ≡ whole_fault (walk_fault (built whole_app).top names (stop_at nothing_held name []) further) (fold (walked [] names) (stop_at nothing_held name []) further)
  pub below : (further : List Text) → whole_fault [] (stop_at nothing_held name further) ≡ or_else (level_fault s [] nothing_held further false []) []
  pub words : (further : List Text) → subcommand_of whole_app (name ∷ further) ≡ entered (built whole_app) (fold (walked [] names) (stop_at nothing_held name []) further).stopped
  pub rows : (further : List Text) → entered (built whole_app) (Some (name, further)) ≡ Some (name, rows_after s.rules [] further)

sub_fault : (name : Text) (s : Shape) → IsSubcommand name s → (further : List Text) → fault_of whole_app (name ∷ further) ≡ level_fault s [] nothing_held further false []
sub_fault name s is further = is.met further
    ∙ (ap₂ whole_fault (fault_stopped (built whole_app).top names nothing_held name [] further) (walk_stopped [] names nothing_held name [] further)
    ∙ (is.below further ∙ or_nothing _))

sub_rows : (name : Text) (s : Shape) → IsSubcommand name s → (further : List Text) → subcommand_of whole_app (name ∷ further) ≡ Some (name, rows_after s.rules [] further)
sub_rows name s is further = is.words further ∙ (ap (λ (w : Walk). entered (built whole_app) w.stopped) (walk_stopped [] names nothing_held name [] further) ∙ is.rows further)

-- What the parse of the words comes to: the program is that of the values that were found, or the parse is refused and there is none

abbrev pub IsRead : List Text → Type 0
IsRead words = ((fault_of whole_app words ≡ []) × (program_found (subcommand_of whole_app words) ≡ program_of words))
    ⊎ ((kind : ErrorKind) × (kinds : Kinds) × (fault_of whole_app words ≡ kind ∷ kinds) × (program_of words ≡ None))

-- as many words as the subcommand takes
pub read_taken : (name : Text) (s : Shape) → IsSubcommand name s → (words : List Text) → list_all is_plain_word words ≡ true → Takes s nothing_held 1 words → level_of s [] (end_of s words) ≡ [] → program_named name (finished s.rules (end_of s words).held) ≡ program_of (name ∷ words) → IsRead (name ∷ words)
read_taken name s is words e t none plan = inl (
  sub_fault name s is words ∙ (level_taken s words e t ∙ none),
  ap program_found (sub_rows name s is words) ∙ (ap (λ (w : Walk). program_named name (finished s.rules w.held)) (walk_end s nothing_held 1 words e t) ∙ plan),
)

-- fewer
pub read_missing : (name : Text) (s : Shape) → IsSubcommand name s → (words : List Text) → list_all is_plain_word words ≡ true → Takes s nothing_held 1 words → level_of s [] (end_of s words) ≡ MissingRequiredArgument ∷ [] → program_of (name ∷ words) ≡ None → IsRead (name ∷ words)
read_missing name s is words e t missing plan = inr (MissingRequiredArgument, [], sub_fault name s is words ∙ (level_taken s words e t ∙ missing), plan)

-- more
pub read_stray : (name : Text) (s : Shape) → IsSubcommand name s → (words : List Text) (w : Text) (rest : List Text) → list_all is_plain_word (words ++ w ∷ rest) ≡ true → Takes s nothing_held 1 words → step_fault s (place_after 1 words) (held_by s nothing_held 1 words) value ≡ UnknownArgument ∷ [] → program_of (name ∷ (words ++ w ∷ rest)) ≡ None → IsRead (name ∷ (words ++ w ∷ rest))
read_stray name s is words w rest e t found plan = inr (UnknownArgument, [], sub_fault name s is (words ++ w ∷ rest) ∙ level_stray s words w rest e t found, plan)
