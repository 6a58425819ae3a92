-- The fault that is due comes.
use Rattle.std.proofs.Common.{◌≡◌, ◌⊎◌, ℕ, List, Option, Some, None, Result, Ok, Err, inl, inr, refl, sym, ap, ◌∙◌, subst, arith}
use Rattle.std.specs.Result.{IsErrOf}
use Rattle.kmem_text.specs.Grammar.{Plain}
use Rattle.run_engine.specs.declared.plan.RunPlan.{RunPlan}
use Rattle.kmem_text.specs.declared.spelling.LineFault.{LineFault}
use Rattle.run_check.specs.declared.fault.Fault.{Fault}
use Rattle.run_check.specs.declared.fault.Fault.TheVariants.{BadScript, Read, Write, Limit, NoMemory, Illegal}
use Rattle.run_serve.specs.Served.{HasGoodScript, IsInputFault, IsInputOrFree, IsDueAt}

some-one : (a b : ℕ × LineFault) → ◌≡◌ {A = Option (ℕ × LineFault)} (Some a) (Some b) → a ≡ b
some-one a b e = cc

none-some : {X : Type 0} (a : X) → ◌≡◌ {A = Option X} None (Some a) → ⊥
none-some a e = cc

-- at most one fault is due
one_due : (workers : ℕ) (bytes : List ℕ) (f due : Fault) → IsInputFault workers bytes f → IsInputFault workers bytes due → f ≡ due
one_due workers bytes (BadScript line x) (BadScript row y) h d = let same = some-one (line, x) (row, y) (sym h.1 ∙ d.1) in ap (λ (p : ℕ × LineFault). BadScript p.0 p.1) same
one_due workers bytes (BadScript line x) Limit h (inl far) = absurd (omega (arith, far, h.0))
one_due workers bytes (BadScript line x) Limit h (inr d) = absurd (none-some (line, x) (sym d.1 ∙ h.1))
one_due workers bytes Limit (BadScript row y) (inl far) d = absurd (omega (arith, far, d.0))
one_due workers bytes Limit (BadScript row y) (inr h) d = absurd (none-some (row, y) (sym h.1 ∙ d.1))
one_due workers bytes Limit Limit h d = refl
one_due workers bytes f Read h d = absurd d
one_due workers bytes f Write h d = absurd d
one_due workers bytes f NoMemory h d = absurd d
one_due workers bytes f (Illegal line) h d = absurd d
one_due workers bytes Read due h d = absurd h
one_due workers bytes Write due h d = absurd h
one_due workers bytes NoMemory due h d = absurd h
one_due workers bytes (Illegal line) due h d = absurd h

free_or_due : (workers : ℕ) (bytes : List ℕ) (f : Fault) → IsInputOrFree workers bytes f → (f ≡ NoMemory) ⊎ IsInputFault workers bytes f
free_or_due workers bytes NoMemory h = inl refl
free_or_due workers bytes (BadScript line check) h = inr h
free_or_due workers bytes Limit h = inr h
free_or_due workers bytes (Illegal line) h = inr h
free_or_due workers bytes Read h = inr h
free_or_due workers bytes Write h = inr h

-- a fault of the bytes that were read is the one that is due
pub due_at : {A : Type 0} (workers : ℕ) (bytes read : List ℕ) (r : Result A Fault) (f due : Fault) → r ≡ Err f → read ≡ bytes → IsInputOrFree workers read f →
    IsInputFault workers bytes due → IsDueAt r due
due_at workers bytes read r f due is same h d = elim (free_or_due workers bytes f (subst (λ xs. IsInputOrFree workers xs f) same h)) [
  | inl none ↦ inr (inl (is ∙ ap Err none))
  | inr found ↦ inl (is ∙ ap Err (one_due workers bytes f due found d))
]

-- where a script is good no fault is due
pub none_due : (workers : ℕ) (bytes : List ℕ) (f : Fault) → HasGoodScript workers bytes → IsInputFault workers bytes f → ⊥
none_due workers bytes (BadScript line x) good h = none-some (line, x) (sym good.good ∙ h.1)
none_due workers bytes Limit good (inl far) = omega (arith, far, good.size)
none_due workers bytes Limit good (inr h) = omega (arith, good.few, h.2)
none_due workers bytes Read good h = h
none_due workers bytes Write good h = h
none_due workers bytes NoMemory good h = h
none_due workers bytes (Illegal line) good h = h

-- a call that ended well has no fault
pub ok_err : {A : Type 0} (x : A) (f : Fault) → IsErrOf {T = A} (Ok x) f → ⊥
ok_err x f e = cc

-- what holds of a run holds of the plan and the script that it was opened for
pub at_plan : (P : RunPlan → Plain → Type 0) (p q : RunPlan) (s t : Plain) → p ≡ q → s ≡ t → P p s → P q t
at_plan P p q s t same alike h = subst (λ (x : Plain). P q x) alike (subst (λ (y : RunPlan). P y s) same h)
