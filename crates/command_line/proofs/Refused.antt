-- A list in which some word begins with `-` has no program.
use Rattle.std.proofs.Common.{◌≡◌, ◌⊎◌, ◌==◌, ◌&&◌, ℕ, Bool, true, false, not, List, [], ◌∷◌, ◌++◌, codes, Option, Some, None, refl, ap, ◌∙◌, inl, inr}
use Rattle.std.proofs.lemmas.Bool.{eqb-true}
use Rattle.std.specs.Prelude.{if◌then◌else◌, option_map}
use Rattle.std.specs.List.{list_all}
use Rattle.std.specs.Str.{bytes_eq}
use Rattle.clap.specs.Words.{Text}
use Rattle.std.specs.Prelude.{nat_lt, length}
use Rattle.std.specs.Str.Parse.{digits_value}
use Rattle.kmem_text.specs.Texts.{is_within}
use Rattle.kmem_text.specs.Numbers.{number_within}
use Rattle.kmem_model.specs.declared.plan.Plan.TheVariants.{Check}
use Rattle.kmem_model.specs.Words.{plan_of, one_of, check_of, bounded, settling}
use Rattle.command_line.specs.declared.program.Program.{Program}
use Rattle.command_line.specs.declared.program.Program.TheVariants.{Plain}
use Rattle.command_line.specs.Programs.{program_of, run_of, running, running_by, gen_of, making}
use Rattle.command_line.specs.CommandLine.{is_plain_word}

and_false : (p q : Bool) → (p && q) ≡ false → (p ≡ false) ⊎ (q ≡ false)
and_false true q e = inr e
and_false false q e = inl refl

true_false : true ≡ false → ⊥
true_false e = cc

not_false : (b : Bool) → not b ≡ false → b ≡ true
not_false true e = refl
not_false false e = absurd (true_false e)

same_number : (x y : ℕ) → (x == y) ≡ true → x ≡ y
same_number x y e = eqb-true x y e

-- a word that begins with `-`
dash : (word : Text) → is_plain_word word ≡ false → (rest : Text) × (word ≡ 45 ∷ rest)
dash [] e = absurd (true_false e)
dash (x ∷ xs) e = (xs, ap (λ y. y ∷ xs) (same_number x 45 (not_false (x == 45) e)))

fails : (p q : Bool) (n : ℕ) → (if (p && false) && q then Some n else None) ≡ None
fails true q n = refl
fails false q n = refl

dash_none : (least most : ℕ) (rest : Text) → number_within least most (45 ∷ rest) ≡ None
dash_none least most rest = fails (nat_lt 0 (length (45 ∷ rest))) (is_within least most (digits_value 10 (45 ∷ rest))) (digits_value 10 (45 ∷ rest))

no_number : (least most : ℕ) (word : Text) → is_plain_word word ≡ false → number_within least most word ≡ None
no_number least most word e = let d = dash word e in ap (number_within least most) d.1 ∙ dash_none least most d.0

no_chunks : (slabs : Option ℕ) (every : Option ℕ) → bounded slabs None every ≡ None
no_chunks None every = refl
no_chunks (Some n) every = refl

no_every : (slabs chunks : Option ℕ) → settling slabs chunks None ≡ None
no_every slabs chunks = refl

no_sizes : (slabs chunks every : Option ℕ) → ((e : Option ℕ) → bounded slabs chunks e ≡ None) → settling slabs chunks every ≡ None
no_sizes slabs chunks None h = refl
no_sizes slabs chunks (Some e) h = h (Some e)

one_none : (further : List Text) → list_all is_plain_word further ≡ false → one_of further ≡ None
one_none [] e = absurd (true_false e)
one_none (a ∷ []) e = refl
one_none (a ∷ b ∷ []) e = elim (and_false (is_plain_word a) (list_all is_plain_word (b ∷ [])) e) [
  | inl da ↦ ap (λ n. bounded n (number_within 1 64 b) None) (no_number 1 4096 a da)
  | inr more ↦ elim (and_false (is_plain_word b) true more) [
    | inl db ↦ ap (λ n. bounded (number_within 1 4096 a) n None) (no_number 1 64 b db) ∙ no_chunks (number_within 1 4096 a) None
    | inr none ↦ absurd (true_false none)
  ]
]
one_none (a ∷ b ∷ d ∷ []) e = elim (and_false (is_plain_word a) (list_all is_plain_word (b ∷ d ∷ [])) e) [
  | inl da ↦ no_sizes (number_within 1 4096 a) (number_within 1 64 b) (number_within 0 100000 d) (λ every. ap (λ n. bounded n (number_within 1 64 b) every) (no_number 1 4096 a da))
  | inr more ↦ elim (and_false (is_plain_word b) (list_all is_plain_word (d ∷ [])) more) [
    | inl db ↦ no_sizes (number_within 1 4096 a) (number_within 1 64 b) (number_within 0 100000 d) (λ every. ap (λ n. bounded (number_within 1 4096 a) n every) (no_number 1 64 b db) ∙ no_chunks (number_within 1 4096 a) every)
    | inr last ↦ elim (and_false (is_plain_word d) true last) [
      | inl dd ↦ ap (settling (number_within 1 4096 a) (number_within 1 64 b)) (no_number 0 100000 d dd)
      | inr none ↦ absurd (true_false none)
    ]
  ]
]
one_none (a ∷ b ∷ d ∷ f ∷ rest) e = refl

check_none : (further : List Text) → list_all is_plain_word further ≡ false → check_of further ≡ None
check_none [] e = refl
check_none (a ∷ []) e = elim (and_false (is_plain_word a) true e) [
  | inl da ↦ ap (λ n. option_map Check n) (no_number 1 16 a da)
  | inr none ↦ absurd (true_false none)
]
check_none (a ∷ b ∷ rest) e = refl

-- what one name asks for and what the others do
neither : {A : Type 0} (b : Bool) (x y : Option A) → x ≡ None → y ≡ None → (if b then x else y) ≡ None
neither true x y ex ey = ex
neither false x y ex ey = ey

plan_none : (words : List Text) → list_all is_plain_word words ≡ false → plan_of words ≡ None
plan_none [] e = absurd (true_false e)
plan_none (w ∷ further) e = elim (and_false (is_plain_word w) (list_all is_plain_word further) e) [
  | inl dw ↦ let d = dash w dw in ap (λ v. plan_of (v ∷ further)) d.1
  | inr more ↦
      let is_check = bytes_eq w (codes "check") in
      neither (bytes_eq w (codes "one")) (one_of further) (if is_check then check_of further else None) (one_none further more)
      (neither is_check (check_of further) None (check_none further more) refl)
]

-- one of the numbers of a run isn't there

no_run_chunks : (slabs workers scans : Option ℕ) (desperate : Bool) → running slabs None workers scans desperate ≡ None
no_run_chunks None workers scans desperate = refl
no_run_chunks (Some s) workers scans desperate = refl

no_run_workers : (slabs chunks scans : Option ℕ) (desperate : Bool) → running slabs chunks None scans desperate ≡ None
no_run_workers None chunks scans desperate = refl
no_run_workers (Some s) None scans desperate = refl
no_run_workers (Some s) (Some c) scans desperate = refl

no_run_scans : (slabs chunks workers : Option ℕ) (desperate : Bool) → running slabs chunks workers None desperate ≡ None
no_run_scans None chunks workers desperate = refl
no_run_scans (Some s) None workers desperate = refl
no_run_scans (Some s) (Some c) None desperate = refl
no_run_scans (Some s) (Some c) (Some w) desperate = refl

numbers_none : (a b d f : Text) (desperate : Bool) → list_all is_plain_word (a ∷ b ∷ d ∷ f ∷ []) ≡ false → running_by a b d f desperate ≡ None
numbers_none a b d f desperate e =
    let slabs = number_within 1 4096 a in
    let chunks = number_within 1 64 b in
    let workers = number_within 1 16 d in
    let scans = number_within 1 1000 f in
    elim (and_false (is_plain_word a) (list_all is_plain_word (b ∷ d ∷ f ∷ [])) e) [
      | inl da ↦ ap (λ n. running n chunks workers scans desperate) (no_number 1 4096 a da)
      | inr more ↦ elim (and_false (is_plain_word b) (list_all is_plain_word (d ∷ f ∷ [])) more) [
        | inl db ↦ ap (λ n. running slabs n workers scans desperate) (no_number 1 64 b db) ∙ no_run_chunks slabs workers scans desperate
        | inr most ↦ elim (and_false (is_plain_word d) (list_all is_plain_word (f ∷ [])) most) [
          | inl dd ↦ ap (λ n. running slabs chunks n scans desperate) (no_number 1 16 d dd) ∙ no_run_workers slabs chunks scans desperate
          | inr last ↦ elim (and_false (is_plain_word f) true last) [
            | inl df ↦ ap (λ n. running slabs chunks workers n desperate) (no_number 1 1000 f df) ∙ no_run_scans slabs chunks workers desperate
            | inr none ↦ absurd (true_false none)
          ]
        ]
      ]
    ]

and_nothing : (p : Bool) → (p && false) ≡ false
and_nothing true = refl
and_nothing false = refl

-- the word that isn't plain is the last one or one before it
before_last : (words : List Text) (last : Text) → list_all is_plain_word (words ++ last ∷ []) ≡ false → (list_all is_plain_word words ≡ false) ⊎ (is_plain_word last ≡ false)
before_last [] last e = elim (and_false (is_plain_word last) true e) [
  | inl dashed ↦ inr dashed
  | inr none ↦ absurd (true_false none)
]
before_last (w ∷ ws) last e = elim (and_false (is_plain_word w) (list_all is_plain_word (ws ++ last ∷ [])) e) [
  | inl dw ↦ inl (ap (λ p. p && list_all is_plain_word ws) dw)
  | inr more ↦ elim (before_last ws last more) [
    | inl dashed ↦ inl (ap (λ p. is_plain_word w && p) dashed ∙ and_nothing (is_plain_word w))
    | inr dashed ↦ inr dashed
  ]
]

no_last : (last : Text) (asked : Option Program) → is_plain_word last ≡ false → (if bytes_eq last (codes "desperate") then asked else None) ≡ None
no_last last asked e = let d = dash last e in ap (λ v. if bytes_eq v (codes "desperate") then asked else None) d.1

run_none : (further : List Text) → list_all is_plain_word further ≡ false → run_of further ≡ None
run_none [] e = refl
run_none (a ∷ []) e = refl
run_none (a ∷ b ∷ []) e = refl
run_none (a ∷ b ∷ d ∷ []) e = refl
run_none (a ∷ b ∷ d ∷ f ∷ []) e = numbers_none a b d f false e
run_none (a ∷ b ∷ d ∷ f ∷ g ∷ []) e = elim (before_last (a ∷ b ∷ d ∷ f ∷ []) g e) [
  | inl dashed ↦ neither (bytes_eq g (codes "desperate")) (running_by a b d f true) None (numbers_none a b d f true dashed) refl
  | inr dg ↦ no_last g (running_by a b d f true) dg
]
run_none (a ∷ b ∷ d ∷ f ∷ g ∷ h ∷ rest) e = refl

-- one of the numbers of a made script isn't there

no_made_workers : (seed commands : Option ℕ) → making seed None commands ≡ None
no_made_workers None commands = refl
no_made_workers (Some s) commands = refl

no_made_commands : (seed workers : Option ℕ) → making seed workers None ≡ None
no_made_commands None workers = refl
no_made_commands (Some s) None = refl
no_made_commands (Some s) (Some w) = refl

gen_none : (further : List Text) → list_all is_plain_word further ≡ false → gen_of further ≡ None
gen_none [] e = refl
gen_none (a ∷ []) e = refl
gen_none (a ∷ b ∷ []) e = refl
gen_none (a ∷ b ∷ d ∷ []) e =
    let seed = number_within 0 999999999 a in
    let workers = number_within 1 16 b in
    let commands = number_within 1 60000 d in
    elim (and_false (is_plain_word a) (list_all is_plain_word (b ∷ d ∷ [])) e) [
      | inl da ↦ ap (λ n. making n workers commands) (no_number 0 999999999 a da)
      | inr more ↦ elim (and_false (is_plain_word b) (list_all is_plain_word (d ∷ [])) more) [
        | inl db ↦ ap (λ n. making seed n commands) (no_number 1 16 b db) ∙ no_made_workers seed commands
        | inr last ↦ elim (and_false (is_plain_word d) true last) [
          | inl dd ↦ ap (making seed workers) (no_number 1 60000 d dd) ∙ no_made_commands seed workers
          | inr none ↦ absurd (true_false none)
        ]
      ]
    ]
gen_none (a ∷ b ∷ d ∷ f ∷ rest) e = refl

pub dashed_none : (words : List Text) → list_all is_plain_word words ≡ false → program_of words ≡ None
dashed_none [] e = absurd (true_false e)
dashed_none (w ∷ further) e = elim (and_false (is_plain_word w) (list_all is_plain_word further) e) [
  | inl dw ↦ let d = dash w dw in ap (λ v. program_of (v ∷ further)) d.1
  | inr more ↦
      let plain = option_map Plain (plan_of (w ∷ further)) in
      let is_gen = bytes_eq w (codes "gen") in
      neither (bytes_eq w (codes "run")) (run_of further) (if is_gen then gen_of further else plain) (run_none further more)
      (neither is_gen (gen_of further) plain (gen_none further more) (ap (option_map Plain) (plan_none (w ∷ further) e)))
]
