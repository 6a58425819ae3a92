-- The entries of all passes are the shares of the workers.
use Rattle.std.proofs.Common.{◌≡◌, ◌==◌, ◌<◌, ◌≤◌, ℕ, List, [], ◌∷◌, map, filter, refl, sym, ap, ◌∙◌, ⊎_elim, arith}
use Rattle.std.specs.List.{All, AllByRecursion}
use Rattle.std.proofs.lemmas.Bool.{cases_lt, cond-false, ne_eqb}
use Rattle.std.proofs.lemmas.List.Elements.{recursion_from_All}
use Rattle.kmem_text.specs.declared.command.Line.{Line}
use Rattle.kmem_text.specs.Scripts.{IsWorker}
use Rattle.kmem_model.specs.declared.record_entry.RecordEntry.{RecordEntry}
use Rattle.kmem_model.specs.History.{worker_of, numbered, commands_of, asked_by, IsShared}
use Rattle.hist_lock.specs.History.{entries_of}
use Rattle.run_workers.specs.Workers.{asked_of}

asked_both : (entries : List (ℕ × RecordEntry)) → asked_of (map (λ (e : ℕ × RecordEntry). e.1) entries) ≡ map (λ (e : ℕ × RecordEntry). (e.1.number, e.1.command)) entries
asked_both [] = refl
asked_both (e ∷ entries) = ap (λ es. (e.1.number, e.1.command) ∷ es) (asked_both entries)

others : (pass workers : ℕ) (history : List (ℕ × RecordEntry)) → workers ≤ pass → AllByRecursion (λ (e : ℕ × RecordEntry). e.0 < workers) history → filter (λ (e : ℕ × RecordEntry). e.0 == pass) history ≡ []
others pass workers [] far h = refl
others pass workers (e ∷ history) far h = cond-false (e.0 == pass) _ _ (ne_eqb e.0 pass (λ same. omega (arith, same, far, h.0))) ∙ others pass workers history far h.1

no_lines : (pass workers : ℕ) (lines : List Line) → workers ≤ pass → AllByRecursion (λ (line : Line). IsWorker workers line.worker) lines → filter (λ (line : Line). line.worker == worker_of pass) lines ≡ []
no_lines pass workers [] far h = refl
no_lines pass workers (line ∷ lines) far h =
    cond-false (line.worker == worker_of pass) _ _ (ne_eqb line.worker (worker_of pass) (λ same. omega (arith, same, far, h.0.1))) ∙ no_lines pass workers lines far h.1

-- where none of a pass's entries is left, none was there
unmapped : {X Y : Type 0} (f : X → Y) (xs : List X) → map f xs ≡ [] → xs ≡ []
unmapped f [] e = refl
unmapped f (x ∷ xs) e = absurd (cc)

pub shared_by : (workers passes : ℕ) (lines : List Line) (history : List (ℕ × RecordEntry)) → All (λ (line : Line). IsWorker workers line.worker) lines →
    All (λ (e : ℕ × RecordEntry). e.0 < passes) history → ((pass : ℕ) → workers ≤ pass → pass < passes → entries_of pass history ≡ []) →
    ((pass : ℕ) → pass < workers → asked_of (entries_of pass history) ≡ numbered 1 (commands_of (worker_of pass) lines)) → IsShared history lines
shared_by workers passes lines history few within silent each pass = ⊎_elim mine (λ far. nobody far) (cases_lt pass workers)
  where
    mine : pass < workers → asked_by pass history ≡ numbered 1 (commands_of (worker_of pass) lines)
    mine small = sym (asked_both (filter (λ (e : ℕ × RecordEntry). e.0 == pass) history)) ∙ each pass small

    absent : workers ≤ pass → filter (λ (e : ℕ × RecordEntry). e.0 == pass) history ≡ []
    absent far =
        ⊎_elim (λ small. unmapped (λ (e : ℕ × RecordEntry). e.1) (filter (λ (e : ℕ × RecordEntry). e.0 == pass) history) (silent pass far small))
        (λ beyond. others pass passes history beyond (recursion_from_All (λ (e : ℕ × RecordEntry). e.0 < passes) history within))
        (cases_lt pass passes)

    nobody : workers ≤ pass → asked_by pass history ≡ numbered 1 (commands_of (worker_of pass) lines)
    nobody far =
        ap (map (λ (e : ℕ × RecordEntry). (e.1.number, e.1.command))) (absent far)
        ∙ sym (ap (λ (ls : List Line). numbered 1 (map (λ (line : Line). line.command) ls)) (no_lines pass workers lines far (recursion_from_All (λ (line : Line). IsWorker workers line.worker) lines few)))
