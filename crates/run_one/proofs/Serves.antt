-- What is answered for a script that was read.
use Rattle.std.proofs.Common.{◌≡◌, ◌≤◌, ℕ, Bool, List, ◌++◌, length, Option, Some, None, Result, Ok, Err, refl, sym, ap, ◌∙◌, subst}
use Rattle.std.specs.Option.{IfSome}
use Rattle.std.specs.Result.{IsOkAnd, IsErrOf, OnOk}
use Rattle.std.specs.Prelude.{if◌then◌else◌}
use Rattle.std.specs.Io.KnownBytes.{Consumes, IsAtEnd}
use Rattle.std.proofs.lemmas.Bool.{le-ltb}
use Rattle.std.proofs.lemmas.List.{append-nil}
use Rattle.kmem_text.specs.Grammar.{Plain, script_of, first_bad_of}
use Rattle.kmem_model.specs.OneRun.{run_start, one_text, one_output}
use Rattle.run_check.specs.declared.fault.Fault.TheVariants.{Limit}
use Rattle.run_one.specs.Answers.{script_answer, one_answer}
use Rattle.run_one.proofs.Benches.{same_some}

pub if_some : {X : Type 0} (r : Option X) (P : X → Type 0) → ((x : X) → r ≡ Some x → P x) → IfSome r P
if_some None P all = tt
if_some (Some x) P all = all x refl

pub ok_and : {X E : Type 0} (r : Result X E) (P : X → Type 0) (x : X) → r ≡ Ok x → P x → IsOkAnd r P
ok_and {X = X} {E = E} r P x is holds = subst (λ (q : Result X E). IsOkAnd q P) (sym is) holds

-- a value is no fault
pub not_due : {X E : Type 0} (r : Result X E) (x : X) (e : E) (P : Type 0) → r ≡ Ok x → IsErrOf r e → P
not_due r x e P is fails = absurd (cc)

-- all that was left was read
pub all_read : (left after : Option (List ℕ)) (taken bytes : List ℕ) → Consumes left after taken → IsAtEnd after → left ≡ Some bytes → bytes ≡ taken
all_read None after taken bytes took end is = absurd (cc)
all_read (Some xs) None taken bytes took end is = absurd took
all_read (Some xs) (Some ys) taken bytes took end is = same_some bytes xs (sym is) ∙ (took ∙ (ap (λ zs. taken ++ zs) end ∙ append-nil taken))

-- a script that was read whole is answered by its run
pub run_answer : (slabs chunks : ℕ) (every : Option ℕ) (bytes : List ℕ) (script : Plain) → length bytes ≤ 16777216 → first_bad_of 16 bytes ≡ None → script_of 16 bytes ≡ script → length script.lines ≤ 100000 →
    one_answer slabs chunks every bytes ≡ Ok (one_text every script.names (run_start slabs chunks (length script.names)) script.lines)
run_answer slabs chunks every bytes script within good is few =
    ap (λ (b : Bool). if b then Err Limit else script_answer slabs chunks every (first_bad_of 16 bytes) (script_of 16 bytes)) (le-ltb 16777216 (length bytes) within)
    ∙ (ap (λ bad. script_answer slabs chunks every bad (script_of 16 bytes)) good
    ∙ (ap (λ s. script_answer slabs chunks every None s) is
    ∙ ap (λ (b : Bool). if b then Err Limit else Ok (one_output slabs chunks every script)) (le-ltb 100000 (length script.lines) few)))

-- what a result has where it is fine, put otherwise
pub on_ok : {X E : Type 0} (r : Result X E) (P Q : Type 0) → (P → Q) → OnOk r P → OnOk r Q
on_ok (Ok x) P Q on p = on p
on_ok (Err e) P Q on p = tt
