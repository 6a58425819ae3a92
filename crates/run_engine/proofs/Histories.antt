-- The history of the records is one of the script.
use Rattle.std.proofs.Common.{◌≡◌, ◌+◌, ◌<◌, ◌≤◌, ℕ, List, [], map, count_by, All, true, sym, ap, ◌∙◌, subst, ⊎_elim, arith}
use Rattle.std.specs.List.{range_with_len}
use Rattle.std.proofs.lemmas.Bool.{cases_lt}
use Rattle.kmem_text.specs.declared.command.Line.{Line}
use Rattle.kmem_text.specs.Scripts.{IsWorker}
use Rattle.kmem_model.specs.declared.record_entry.RecordEntry.{RecordEntry}
use Rattle.kmem_model.specs.declared.cache_entry.CacheEntry.{CacheEntry}
use Rattle.kmem_model.specs.History.{worker_of, numbered, commands_of, IsShared}
use Rattle.kmem_model.specs.CacheCounts.{entries_by}
use Rattle.hist_lock.specs.History.{entries_of}
use Rattle.record_table.specs.Runs.{is_put, asks_slabs}
use Rattle.run_workers.specs.declared.worker.Worker.{Worker}
use Rattle.run_workers.specs.Workers.{asked_of, is_refused, is_full_entry, is_of_worker}
use Rattle.run_engine.specs.declared.shared.Shared.{Shared}
use Rattle.run_engine.specs.Opened.{pass_of}
use Rattle.run_engine.specs.Done.{IsWorkerDone}
use Rattle.run_engine.proofs.Rows.{found}
use Rattle.run_engine.proofs.Taken.{all_both}

-- histories are shared by a script, by the law of it
abbrev pub SharedLaw : Type 0
SharedLaw = (workers passes : ℕ) (lines : List Line) (history : List (ℕ × RecordEntry)) →
    All (λ line. IsWorker workers line.worker) lines → All (λ e. e.0 < passes) history →
    ((pass : ℕ) → workers ≤ pass → pass < passes → entries_of pass history ≡ []) →
    ((pass : ℕ) → pass < workers → asked_of (entries_of pass history) ≡ numbered 1 (commands_of (worker_of pass) lines)) →
    IsShared history lines

-- the entries of the worker in both histories are its own
abbrev pub Exact : List (ℕ × RecordEntry) → List (ℕ × CacheEntry) → Worker → Type 0
Exact records history w = (entries_of w.session.pass.number records ≡ w.session.pass.mine) × (entries_of w.seat.pass.number history ≡ w.seat.pass.mine)

-- a done worker whose entries these are
pub record Owner (shared : Shared) (lines : List Line) (records : List (ℕ × RecordEntry)) (history : List (ℕ × CacheEntry)) (pass : ℕ) : Type 0 where
  pub worker : Worker
  pub is : pass_of worker ≡ pass
  pub done : IsWorkerDone shared lines worker
  pub mine : entries_of pass records ≡ worker.session.pass.mine
  pub cached : entries_by pass history ≡ worker.seat.pass.mine

module _ (shared : Shared) (lines : List Line) (records : List (ℕ × RecordEntry)) (history : List (ℕ × CacheEntry)) (workers : List Worker) (count : ℕ)
    (done : All (IsWorkerDone shared lines) workers) (passes : map pass_of workers ≡ range_with_len 0 count) (exact : All (Exact records history) workers) where
  pub owner : (pass : ℕ) → pass < count → Owner shared lines records history pass
  owner pass small =
      let Both : Worker → Type 0 = λ w. IsWorkerDone shared lines w × Exact records history w in
      let at = found Both pass_of workers count pass (all_both (IsWorkerDone shared lines) (Exact records history) workers done exact) passes small in
      let seat : at.0.seat.pass.number ≡ pass =
      at.2.0.worked.seat_number ∙ (at.2.0.starting.seat ∙ (sym at.2.0.worked.number ∙ at.1)) in
      record {
        worker = at.0;
        is = at.1;
        done = at.2.0;
        mine = ap (λ n. entries_of n records) (sym at.1) ∙ at.2.1.0;
        cached = ap (λ n. entries_by n history) (sym seat) ∙ at.2.1.1;
      }

  commands_are : (pass : ℕ) (o : Owner shared lines records history pass) → o.done.before.commands.items ≡ commands_of (worker_of pass) lines
  commands_are pass o = o.done.starting.commands ∙ ap (λ n. commands_of (worker_of n) lines) (sym o.done.worked.number ∙ o.is)

  asked_by_owner : (pass : ℕ) → pass < count → asked_of (entries_of pass records) ≡ numbered 1 (commands_of (worker_of pass) lines)
  asked_by_owner pass small = let o = owner pass small in ap asked_of o.mine ∙ (o.done.worked.asked ∙ ap (numbered 1) (commands_are pass o))

  pub shared_all : SharedLaw → All (λ (line : Line). IsWorker count line.worker) lines → All (λ (e : ℕ × RecordEntry). e.0 < count + 2) records →
      entries_of count records ≡ [] → entries_of (count + 1) records ≡ [] → IsShared records lines
  shared_all law few within first second = law count (count + 2) lines records few within silent asked_by_owner
    where
      silent : (pass : ℕ) → count ≤ pass → pass < count + 2 → entries_of pass records ≡ []
      silent pass far small =
          ⊎_elim
          (λ low. let is : count ≡ pass = omega (arith, far, low) in subst (λ (n : ℕ). entries_of n records ≡ []) is first)
          (λ high. let is : count + 1 ≡ pass = omega (arith, high, small) in subst (λ (n : ℕ). entries_of n records ≡ []) is second)
          (cases_lt pass (count + 1))

  pub of_workers : (pass : ℕ) → pass < count → All (λ (e : CacheEntry). is_of_worker e ≡ true) (entries_by pass history)
  of_workers pass small = let o = owner pass small in subst (All (λ (e : CacheEntry). is_of_worker e ≡ true)) (sym o.cached) o.done.worked.kinds

  pub found_full : (pass : ℕ) → pass < count → count_by is_refused (entries_of pass records) ≤ count_by is_full_entry (entries_by pass history)
  found_full pass small =
      let o = owner pass small in omega (arith, o.done.worked.refusals, ap (count_by is_refused) o.mine, ap (count_by is_full_entry) o.cached)

  pub asked_slabs : (pass : ℕ) → pass < count → count_by asks_slabs (entries_by pass history) ≤ count_by is_put (commands_of (worker_of pass) lines)
  asked_slabs pass small =
      let o = owner pass small in omega (arith, o.done.worked.asks, ap (count_by asks_slabs) o.cached, ap (count_by is_put) (commands_are pass o))
