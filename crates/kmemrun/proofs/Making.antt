-- How a made run ends, by what the call that carries it out says.
use Rattle.std.proofs.Common.{◌≡◌, ◌≢◌, ◌⊎◌, ◌↔◌, ◌<◌, ℕ, List, Option, Some, Result, Ok, Err, inl, inr, refl, sym, ap, ◌∙◌, arith}
use Rattle.std.specs.Option.{IsNone}
use Rattle.std.specs.Result.{IfOk, IfErr, IsErrOf}
use Rattle.std.specs.Io.KnownBytes.{Appends, Keeps}
use Rattle.kmem_text.specs.declared.spelling.LineFault.{LineFault}
use Rattle.generator.specs.Made.{made}
use Rattle.command_line.specs.declared.program.Program.TheVariants as program
use Rattle.run_check.specs.declared.fault.Fault.{Fault}
use Rattle.run_check.specs.declared.fault.Fault.TheVariants.{BadScript, Read, Write, Limit, NoMemory, Illegal}
use Rattle.run_engine.specs.declared.ran.Ran.{Ran}
use Rattle.run_engine.specs.Ran.{IsRan}
use Rattle.run_made.specs.Making.{made_plan, summary_of, IsSummaryFront}
use Rattle.kmemrun.specs.declared.status.Ending.TheVariants.{Fine, Failed}
use Rattle.kmemrun.specs.Answers.{IsMadeText}
use Rattle.kmemrun.specs.Runs.{Stream, still, IsDueEnding, Ends}
use Rattle.kmemrun.proofs.Running.{ok_err, fine_failed, failed_usage, fine_usage, failed_one, err_one, one_err}

-- what the call says
pub record MakingRun (seed workers commands : ℕ) (out : Stream) (result : Result Ran Fault) : Type 0 where
  pub ran : IfOk result (λ r. IsRan (made_plan workers) (made seed workers commands) r)
  pub text : IfOk result (λ r. Appends out.known out.known_after (summary_of workers (made seed workers commands) r.records.entries))
  pub write : IsErrOf result Write ↔ (out.faults < out.faults_after)
  pub fault : IfErr result (λ f. f ≢ Write → f ≡ NoMemory)
  pub front : IsErrOf result Write → IsSummaryFront workers (made seed workers commands) out.known out.known_after
  pub untouched : IfErr result (λ f. f ≢ Write → Keeps out.known out.known_after)

none_making : (seed workers commands : ℕ) → IsNone (Some (program.Gen seed workers commands)) → ⊥
none_making seed workers commands e = cc

module _ (seed workers commands : ℕ) (out : Stream) (left : Option (List ℕ)) (faults : ℕ) where
  rises : faults < faults → ⊥
  rises less = omega (arith, less)

  pub ok_made : (r : Ran) → MakingRun seed workers commands out (Ok r) → Ends (Some (program.Gen seed workers commands)) (still left faults) out Fine
  ok_made r s =
      let text = summary_of workers (made seed workers commands) r.records.entries in
      let one : IsMadeText workers (made seed workers commands) text = record { records = r.records.entries; of = s.ran.records; is = refl } in
      record {
        text = λ fine. (text, one, (s.text, one));
        end = λ fine. tt;
        unread = λ making. (refl, refl);
        usage = (λ e. absurd (fine_usage e), λ none. absurd (none_making seed workers commands none));
        read_fault = (λ e. absurd (fine_failed Read e), λ rose. absurd (rises rose));
        limit = λ e. absurd (fine_failed Limit e);
        bad_script = λ line x e. absurd (fine_failed (BadScript line x) e);
        first_bad = λ line x e. absurd (fine_failed (BadScript line x) e);
        illegal = λ line e. absurd (fine_failed (Illegal line) e);
        counted = λ line x e. absurd (fine_failed (BadScript line x) e);
        counted_illegal = λ line e. absurd (fine_failed (Illegal line) e);
        write_fault = (λ e. absurd (fine_failed Write e), λ rose. absurd (ok_err r Write (s.write.1 rose)));
        due = λ k found. absurd found;
        fine = λ due. inr (inl refl);
        front = λ e. absurd (fine_failed Write e);
        untouched = λ other e. absurd (other refl);
      }

  pub err_made : (f : Fault) → MakingRun seed workers commands out (Err f) → Ends (Some (program.Gen seed workers commands)) (still left faults) out (Failed f)
  err_made f s =
      record {
        text = λ e. absurd (fine_failed f (sym e));
        end = λ e. absurd (fine_failed f (sym e));
        unread = λ making. (refl, refl);
        usage = (λ e. absurd (failed_usage f e), λ none. absurd (none_making seed workers commands none));
        read_fault = (λ e. absurd (other Read (failed_one f Read e) read_write read_memory), λ rose. absurd (rises rose));
        limit = λ e. absurd (other Limit (failed_one f Limit e) limit_write limit_memory);
        bad_script = λ line x e. absurd (other (BadScript line x) (failed_one f (BadScript line x) e) (bad_write line x) (bad_memory line x));
        first_bad = λ line x e. absurd (other (BadScript line x) (failed_one f (BadScript line x) e) (bad_write line x) (bad_memory line x));
        illegal = λ line e. absurd (other (Illegal line) (failed_one f (Illegal line) e) (illegal_write line) (illegal_memory line));
        counted = λ line x e. absurd (other (BadScript line x) (failed_one f (BadScript line x) e) (bad_write line x) (bad_memory line x));
        counted_illegal = λ line e. absurd (other (Illegal line) (failed_one f (Illegal line) e) (illegal_write line) (illegal_memory line));
        write_fault = (λ e. s.write.0 (one_err f Write (failed_one f Write e)), λ rose. ap Failed (err_one f Write (s.write.1 rose)));
        due = λ k found. absurd found;
        fine = λ due. served f s.fault;
        front = λ e.
            let h = s.front (one_err f Write (failed_one f Write e)) in
            (summary_of workers (made seed workers commands) h.records, record { records = h.records; of = h.of; is = refl }, h.front);
        untouched = λ fine other. s.untouched (λ e. other (ap Failed e));
      }
    where
      other : (k : Fault) → f ≡ k → (k ≡ Write → ⊥) → (k ≡ NoMemory → ⊥) → ⊥
      other k is not_write not_memory = not_memory (sym is ∙ s.fault (λ e. not_write (sym is ∙ e)))

      read_write : Read ≡ Write → ⊥
      read_write e = cc

      read_memory : Read ≡ NoMemory → ⊥
      read_memory e = cc

      limit_write : Limit ≡ Write → ⊥
      limit_write e = cc

      limit_memory : Limit ≡ NoMemory → ⊥
      limit_memory e = cc

      bad_write : (line : ℕ) (x : LineFault) → BadScript line x ≡ Write → ⊥
      bad_write line x e = cc

      bad_memory : (line : ℕ) (x : LineFault) → BadScript line x ≡ NoMemory → ⊥
      bad_memory line x e = cc

      illegal_write : (line : ℕ) → Illegal line ≡ Write → ⊥
      illegal_write line e = cc

      illegal_memory : (line : ℕ) → Illegal line ≡ NoMemory → ⊥
      illegal_memory line e = cc

      served : (g : Fault) → (g ≢ Write → g ≡ NoMemory) → (Failed g ≡ Failed Write) ⊎ IsDueEnding (Failed g) Fine
      served Write h = inl refl
      served NoMemory h = inr (inr (inl refl))
      served Read h = absurd (read_memory (h read_write))
      served Limit h = absurd (limit_memory (h limit_write))
      served (BadScript line x) h = absurd (bad_memory line x (h (bad_write line x)))
      served (Illegal line) h = absurd (illegal_memory line (h (illegal_write line)))
