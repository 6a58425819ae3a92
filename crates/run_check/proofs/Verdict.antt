-- The verdict on an input from the walk through its run.
use Rattle.std.proofs.Common.{◌≡◌, ◌≢◌, ◌⊎◌, ◌++◌, ℕ, ◌+◌, ◌<◌, ◌≤◌, List, [], ◌∷◌, length, Option, Some, None, Result, Ok, Err, IfErr, OnOk, IfSome, refl, sym, ap, ◌∙◌, subst, arith, inl, inr, append-nil}
use Rattle.std.specs.Io.KnownBytes.{Consumes, IsAtEnd}
use Rattle.std.specs.Result.{IsErrOf, IsOk}
use Rattle.std.proofs.lemmas.Bool.{cases_lt}
use Rattle.std.proofs.lemmas.Option.{none-some, same_Some}
use Rattle.kmem_text.specs.Grammar.{Plain, lines_of, spelled_lines, script_of_lines, first_bad, script_of, first_bad_of}
use Rattle.kmem_text.specs.Scripts.{IsScript}
use Rattle.kmem_text.specs.declared.spelling.LineFault.{LineFault}
use Rattle.kmem_model.specs.Checked.{script_part, run_part, script_len, checked_script, checked_fault, StandUpTo, MayStand, HasNoIllegal, IsFirstRefused, IsFirstIllegal}
use Rattle.kmem_text.proofs.Counted.{counted_from}
use Rattle.run_check.specs.Faults.{IfIllegal}
use Rattle.run_check.specs.Scripts.{IsScriptFault}
use Rattle.run_check.specs.Verdicts.{HasScript, IsLegal, IsDueFault, IsDueOrFree, IsCounted, IsDue}
use Rattle.run_check.specs.declared.fault.Fault.{Fault}
use Rattle.run_check.specs.declared.fault.Fault.TheVariants.{BadScript, Read, Write, Limit, NoMemory, Illegal}

-- the script of the input is that of the bytes before `=== run`
pub same_script : (workers : ℕ) (bytes front : List ℕ) (script : Plain) → lines_of front ≡ script_part (lines_of bytes) → script_of workers front ≡ script → checked_script workers bytes ≡ script
same_script workers bytes front script cut is = ap (λ ls. script_of_lines (spelled_lines workers ls)) (sym cut) ∙ is

pub has_script : (workers : ℕ) (bytes front : List ℕ) (script : Plain) → length bytes ≤ 16777216 → lines_of front ≡ script_part (lines_of bytes) → script_of workers front ≡ script → first_bad_of workers front ≡ None → IsScript workers script → HasScript workers bytes
has_script workers bytes front script size cut is good whole = record {
  size = size;
  good = ap (first_bad workers 1) (sym cut) ∙ good;
  few = subst (λ (s : Plain). length s.lines ≤ 100000) (sym (same_script workers bytes front script cut is)) whole.few;
}

pub legal_is : (workers : ℕ) (bytes : List ℕ) (run : List (List ℕ)) (script : Plain) → HasScript workers bytes → checked_script workers bytes ≡ script → run ≡ run_part (lines_of bytes) → StandUpTo workers script run (4 + length script.lines + length script.lines) → IsLegal workers bytes
legal_is workers bytes run script has is part stand = record {
  script = has;
  run = subst (λ (s : Plain). StandUpTo workers s (run_part (lines_of bytes)) (4 + length s.lines + length s.lines)) (sym is)
      (subst (λ r. StandUpTo workers script r (4 + length script.lines + length script.lines)) part stand);
}

pub first_is : (workers : ℕ) (bytes : List ℕ) (run : List (List ℕ)) (script : Plain) (taken line : ℕ) → checked_script workers bytes ≡ script → run ≡ run_part (lines_of bytes) → taken ≡ script_len (lines_of bytes) → IsFirstRefused workers script run taken line → IsFirstIllegal workers bytes line
first_is workers bytes run script taken line is part before h =
    subst (λ (s : Plain). IsFirstRefused workers s (run_part (lines_of bytes)) (script_len (lines_of bytes)) line) (sym is)
    (subst (λ r. IsFirstRefused workers script r (script_len (lines_of bytes)) line) part (subst (λ t. IsFirstRefused workers script run t line) before h))

pub due_on : {A : Type 0} (workers : ℕ) (bytes : List ℕ) (r : Result A Fault) (P : ℕ → Type 0) → ((line : ℕ) → P line → IsDueFault workers bytes (Illegal line)) → IfErr r (λ fault. IfIllegal fault P) → IfErr r (λ fault. IsDueOrFree workers bytes fault)
due_on workers bytes (Ok x) P f h = tt
due_on workers bytes (Err (Illegal line)) P f h = f line h
due_on workers bytes (Err NoMemory) P f h = tt
due_on workers bytes (Err (BadScript line check)) P f h = absurd h
due_on workers bytes (Err Read) P f h = absurd h
due_on workers bytes (Err Write) P f h = absurd h
due_on workers bytes (Err Limit) P f h = absurd h

-- One verdict

pub legal_not_due : (workers : ℕ) (bytes : List ℕ) (fault : Fault) → IsLegal workers bytes → IsDueFault workers bytes fault → ⊥
legal_not_due workers bytes (BadScript line check) h d = none-some (line, check) (sym h.script.good ∙ d.1)
legal_not_due workers bytes Limit h (inl d) = omega (arith, h.script.size)
legal_not_due workers bytes Limit h (inr d) = omega (arith, h.script.few, d.2)
legal_not_due workers bytes (Illegal line) h d = d.1.4 (h.run d.1.0 d.1.2)
legal_not_due workers bytes Read h d = d
legal_not_due workers bytes Write h d = d
legal_not_due workers bytes NoMemory h d = d

one_illegal : (workers : ℕ) (bytes : List ℕ) (line line' : ℕ) → IsFirstIllegal workers bytes line → IsFirstIllegal workers bytes line' → line ≡ line'
one_illegal workers bytes line line' h k = elim (cases_lt h.0 k.0) [
  | inl below ↦ absurd (h.4 (k.3 h.0 below))
  | inr over ↦ elim (cases_lt k.0 h.0) [
    | inl below ↦ absurd (k.4 (h.3 k.0 below))
    | inr under ↦ omega (arith, h.1, k.1)
  ]
]

same_bad : (b c : ℕ × LineFault) → Some b ≡ Some c → BadScript b.0 b.1 ≡ BadScript c.0 c.1
same_bad b c h = let same = same_Some b c h in λ i. BadScript (same i).0 (same i).1

pub one_due : (workers : ℕ) (bytes : List ℕ) (f g : Fault) → IsDueFault workers bytes f → IsDueFault workers bytes g → f ≡ g
one_due workers bytes (BadScript line check) (BadScript line' check') h k = same_bad (line, check) (line', check') (sym h.1 ∙ k.1)
one_due workers bytes (BadScript line check) Limit h (inl k) = absurd (omega (arith, h.0))
one_due workers bytes (BadScript line check) Limit h (inr k) = absurd (none-some (line, check) (sym k.1 ∙ h.1))
one_due workers bytes (BadScript line check) (Illegal line') h k = absurd (none-some (line, check) (sym k.0.good ∙ h.1))
one_due workers bytes Limit (BadScript line check) (inl h) k = absurd (omega (arith, k.0))
one_due workers bytes Limit (BadScript line check) (inr h) k = absurd (none-some (line, check) (sym h.1 ∙ k.1))
one_due workers bytes Limit Limit h k = refl
one_due workers bytes Limit (Illegal line) (inl h) k = absurd (omega (arith, k.0.size))
one_due workers bytes Limit (Illegal line) (inr h) k = absurd (omega (arith, k.0.few, h.2))
one_due workers bytes (Illegal line) (BadScript line' check) h k = absurd (none-some (line', check) (sym h.0.good ∙ k.1))
one_due workers bytes (Illegal line) Limit h (inl k) = absurd (omega (arith, h.0.size))
one_due workers bytes (Illegal line) Limit h (inr k) = absurd (omega (arith, h.0.few, k.2))
one_due workers bytes (Illegal line) (Illegal line') h k = ap Illegal (one_illegal workers bytes line line' h.1 k.1)
one_due workers bytes Read g h k = absurd h
one_due workers bytes Write g h k = absurd h
one_due workers bytes NoMemory g h k = absurd h
one_due workers bytes f Read h k = absurd k
one_due workers bytes f Write h k = absurd k
one_due workers bytes f NoMemory h k = absurd k

-- What a fault is due to

pub if_some : {X : Type 0} (r : Option X) (P : X → Type 0) → ((x : X) → r ≡ Some x → P x) → IfSome r P
if_some None P all = tt
if_some (Some x) P all = all x refl

same_some : {X : Type 0} (x y : X) → Some x ≡ Some y → x ≡ y
same_some x y e = cc

-- all that was left was read
pub all_read : (left after : Option (List ℕ)) (taken bytes : List ℕ) → Consumes left after taken → IsAtEnd after → left ≡ Some bytes → taken ≡ bytes
all_read None after taken bytes took end is = absurd (none-some bytes is)
all_read (Some xs) None taken bytes took end is = absurd took
all_read (Some xs) (Some ys) taken bytes took end is = sym (same_some bytes xs (sym is) ∙ (took ∙ (ap (λ zs. taken ++ zs) end ∙ append-nil taken)))

due_fault : (workers : ℕ) (bytes : List ℕ) (f : Fault) → IsDueOrFree workers bytes f → (f ≡ NoMemory) ⊎ IsDueFault workers bytes f
due_fault workers bytes NoMemory h = inl refl
due_fault workers bytes (BadScript line check) h = inr h
due_fault workers bytes Limit h = inr h
due_fault workers bytes (Illegal line) h = inr h
due_fault workers bytes Read h = inr h
due_fault workers bytes Write h = inr h

pub due_is : (workers : ℕ) (bytes read : List ℕ) (r : Result (Unit {0}) Fault) (f due : Fault) → r ≡ Err f → read ≡ bytes → IsDueOrFree workers read f → IsDueFault workers bytes due → IsDue r due
due_is workers bytes read r f due is same h d = elim (due_fault workers bytes f (subst (λ xs. IsDueOrFree workers xs f) same h)) [
  | inl none ↦ inr (inl (is ∙ ap Err none))
  | inr found ↦ inl (is ∙ ap Err (one_due workers bytes f due found d))
]

-- A line that is told is counted from 1

pub counted_if_due : (workers : ℕ) (bytes : List ℕ) (f : Fault) → IsDueOrFree workers bytes f → IsCounted f
counted_if_due workers bytes (BadScript line check) h = counted_from workers 1 (script_part (lines_of bytes)) line check h.1
counted_if_due workers bytes (Illegal line) h = omega (arith, h.1.1)
counted_if_due workers bytes Limit h = tt
counted_if_due workers bytes NoMemory h = tt
counted_if_due workers bytes Read h = tt
counted_if_due workers bytes Write h = tt

pub counted_by : {A : Type 0} (workers : ℕ) (bytes : List ℕ) (r : Result A Fault) → IfErr r (λ fault. IsDueOrFree workers bytes fault) → IfErr r IsCounted
counted_by workers bytes (Ok x) h = tt
counted_by workers bytes (Err f) h = counted_if_due workers bytes f h

counted_script : (workers : ℕ) (bytes : List ℕ) (f : Fault) → IsScriptFault workers bytes f → IsCounted f
counted_script workers bytes (BadScript line check) h = counted_from workers 1 (lines_of bytes) line check h
counted_script workers bytes (Illegal line) h = absurd h
counted_script workers bytes Limit h = tt
counted_script workers bytes NoMemory h = tt
counted_script workers bytes Read h = tt
counted_script workers bytes Write h = tt

pub counted_bad : {A : Type 0} (workers : ℕ) (bytes : List ℕ) (r : Result A Fault) (f : Fault) → r ≡ Err f → IsScriptFault workers bytes f → IfErr r IsCounted
counted_bad {A = A} workers bytes r f is h = subst (λ (q : Result A Fault). IfErr q IsCounted) (sym is) (counted_script workers bytes f h)
