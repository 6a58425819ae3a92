-- How a run on threads ends, by what the call that carries it out says.
use Rattle.std.proofs.Common.{◌≡◌, ◌≢◌, ◌⊎◌, ◌↔◌, ◌<◌, ℕ, List, Option, Some, None, Result, Ok, Err, inl, inr, refl, sym, ap, ◌∙◌, subst}
use Rattle.std.specs.Option.{IfSome, IsNone}
use Rattle.std.specs.Result.{IfOk, OnOk, IfErr, IsErrOf}
use Rattle.std.specs.Io.KnownBytes.{Appends, Keeps, IsAtEnd}
use Rattle.kmem_io.specs.Streams.{AppendsFront}
use Rattle.kmem_text.specs.Grammar.{script_of}
use Rattle.kmem_text.specs.declared.spelling.LineFault.{LineFault}
use Rattle.kmem_model.specs.Report.{report_text}
use Rattle.kmem_model.specs.RunLines.{run_text}
use Rattle.command_line.specs.declared.program.Program.{Program}
use Rattle.command_line.specs.declared.program.Program.TheVariants as program
use Rattle.run_check.specs.declared.fault.Fault.{Fault}
use Rattle.run_check.specs.declared.fault.Fault.TheVariants.{BadScript, Read, Write, Limit, NoMemory, Illegal}
use Rattle.run_check.specs.Verdicts.{IsCounted}
use Rattle.run_engine.specs.declared.plan.RunPlan.{RunPlan}
use Rattle.run_engine.specs.declared.ran.Ran.{Ran}
use Rattle.run_engine.specs.Ran.{IsRan, IsPrinted, IsPrintedFront}
use Rattle.run_serve.specs.Served.{HasGoodScript, IsInputFault, IsInputOrFree, IsDueAt, IsServed}
use Rattle.kmemrun.specs.declared.status.Ending.TheVariants.{Fine, Usage, Failed}
use Rattle.kmemrun.specs.Answers.{Writes, IsPlanText, IsRunText}
use Rattle.kmemrun.specs.Runs.{Stream, IsDueEnding, Ends}

-- what the call says
pub record Serving (plan : RunPlan) (input out : Stream) (result : Result Ran Fault) : Type 0 where
  pub ran : IfOk result (λ r. IfSome input.known (λ bytes. HasGoodScript plan.workers bytes × IsRan plan (script_of plan.workers bytes) r))
  pub text : IfOk result (λ r. IfSome input.known (λ bytes. IsPrinted plan (script_of plan.workers bytes) r out.known out.known_after))
  pub end : OnOk result (IsAtEnd input.known_after)
  pub read : IsErrOf result Read ↔ (input.faults < input.faults_after)
  pub write : IsErrOf result Write ↔ (out.faults < out.faults_after)
  pub fault : IfErr result (λ f. f ≢ Read → f ≢ Write → IfSome input.known (λ bytes. IsInputOrFree plan.workers bytes f))
  pub counted : IfErr result IsCounted
  pub none_illegal : IfErr result (λ f. (line : ℕ) → f ≢ Illegal line)
  pub due : IfSome input.known (λ bytes. (due : Fault) → IsInputFault plan.workers bytes due → IsDueAt result due)
  pub fine : IfSome input.known (λ bytes. HasGoodScript plan.workers bytes → IsServed result)
  pub front : IsErrOf result Write → IfSome input.known (λ bytes. HasGoodScript plan.workers bytes
      × IsPrintedFront plan (script_of plan.workers bytes) out.known out.known_after)
  pub untouched : IfErr result (λ f. f ≢ Write → Keeps out.known out.known_after)

abbrev pub running : RunPlan → Option Program
running plan = Some (program.Run plan.slabs plan.chunks plan.workers plan.scans plan.desperate)

-- Known bytes

pub map_some : {X : Type 0} (o : Option X) (P Q : X → Type 0) → ((x : X) → P x → Q x) → IfSome o P → IfSome o Q
map_some None P Q on p = tt
map_some (Some x) P Q on p = on x p

both_some : {X : Type 0} (o : Option X) (P Q R : X → Type 0) → ((x : X) → P x → Q x → R x) → IfSome o P → IfSome o Q → IfSome o R
both_some None P Q R on p q = tt
both_some (Some x) P Q R on p q = on x p q

-- Endings and results

pub ok_err : (r : Ran) (f : Fault) → IsErrOf {T = Ran} (Ok r) f → ⊥
ok_err r f e = cc

pub fine_failed : (f : Fault) → Fine ≡ Failed f → ⊥
fine_failed f e = cc

pub failed_usage : (f : Fault) → Failed f ≡ Usage → ⊥
failed_usage f e = cc

pub fine_usage : Fine ≡ Usage → ⊥
fine_usage e = cc

none_running : (plan : RunPlan) → IsNone (running plan) → ⊥
none_running plan e = cc

pub failed_one : (f k : Fault) → Failed f ≡ Failed k → f ≡ k
failed_one f k e = cc

pub err_one : (f k : Fault) → IsErrOf {T = Ran} (Err f) k → f ≡ k
err_one f k e = cc

pub one_err : (f k : Fault) → f ≡ k → IsErrOf {T = Ran} (Err f) k
one_err f k e = ap Err e

limit_read : Limit ≡ Read → ⊥
limit_read e = cc

limit_write : Limit ≡ Write → ⊥
limit_write e = cc

bad_read : (line : ℕ) (x : LineFault) → BadScript line x ≡ Read → ⊥
bad_read line x e = cc

bad_write : (line : ℕ) (x : LineFault) → BadScript line x ≡ Write → ⊥
bad_write line x e = cc

-- Where it ended well

module _ (plan : RunPlan) (input out : Stream) where
  pub ok_ends : (r : Ran) → Serving plan input out (Ok r) → Ends (running plan) input out Fine
  ok_ends r s =
      record {
        text = λ fine. both_some input.known _ _ _ written s.ran s.text;
        end = λ fine. s.end;
        unread = λ making. absurd making;
        usage = (λ e. absurd (fine_usage e), λ none. absurd (none_running plan none));
        read_fault = (λ e. absurd (fine_failed Read e), λ rose. absurd (ok_err r Read (s.read.1 rose)));
        limit = λ e. absurd (fine_failed Limit e);
        bad_script = λ line x e. absurd (fine_failed (BadScript line x) e);
        first_bad = λ line x e. absurd (fine_failed (BadScript line x) e);
        illegal = λ line e. absurd (fine_failed (Illegal line) e);
        counted = λ line x e. absurd (fine_failed (BadScript line x) e);
        counted_illegal = λ line e. absurd (fine_failed (Illegal line) e);
        write_fault = (λ e. absurd (fine_failed Write e), λ rose. absurd (ok_err r Write (s.write.1 rose)));
        due = map_some input.known _ _ (λ bytes due k found. none k (due k found)) s.due;
        fine = map_some input.known _ _ (λ bytes fine good. inr (inl refl)) s.fine;
        front = λ e. absurd (fine_failed Write e);
        untouched = λ other e. absurd (other refl);
      }
    where
      written : (bytes : List ℕ) → HasGoodScript plan.workers bytes × IsRan plan (script_of plan.workers bytes) r →
          IsPrinted plan (script_of plan.workers bytes) r out.known out.known_after →
          Writes (running plan) bytes (λ text. Appends out.known out.known_after text × IsPlanText (running plan) bytes text)
      written bytes is printed =
          let script = script_of plan.workers bytes in
          let whole = run_text plan.workers script.names r.records.entries (report_text printed.0) in
          let one : IsRunText plan script whole = record { records = r.records.entries; history = r.cache.entries; report = printed.0; of = is.1.records; on = printed.1; is = refl } in
          (is.0, (whole, one, (printed.2, one)))

      none : (k : Fault) → IsDueAt {A = Ran} (Ok r) k → IsDueEnding Fine (Failed k)
      none k (inl e) = absurd (ok_err r k e)
      none k (inr (inl e)) = absurd (ok_err r NoMemory e)
      none k (inr (inr e)) = absurd (ok_err r Read e)

  -- Where it failed

  pub err_ends : (f : Fault) → Serving plan input out (Err f) → Ends (running plan) input out (Failed f)
  err_ends f s =
      record {
        text = λ e. absurd (fine_failed f (sym e));
        end = λ e. absurd (fine_failed f (sym e));
        unread = λ making. absurd making;
        usage = (λ e. absurd (failed_usage f e), λ none. absurd (none_running plan none));
        read_fault = (λ e. s.read.0 (one_err f Read (failed_one f Read e)), λ rose. ap Failed (err_one f Read (s.read.1 rose)));
        limit = λ e. at Limit (failed_one f Limit e) limit_read limit_write;
        bad_script = λ line x e. at (BadScript line x) (failed_one f (BadScript line x) e) (bad_read line x) (bad_write line x);
        first_bad = λ line x e. map_some input.known _ _ (λ bytes h. h.1)
            (at (BadScript line x) (failed_one f (BadScript line x) e) (bad_read line x) (bad_write line x));
        illegal = λ line e. absurd (s.none_illegal line (failed_one f (Illegal line) e));
        counted = λ line x e. subst IsCounted (failed_one f (BadScript line x) e) s.counted;
        counted_illegal = λ line e. absurd (s.none_illegal line (failed_one f (Illegal line) e));
        write_fault = (λ e. s.write.0 (one_err f Write (failed_one f Write e)), λ rose. ap Failed (err_one f Write (s.write.1 rose)));
        due = map_some input.known _ _ (λ bytes due k found. one k (due k found)) s.due;
        fine = map_some input.known _ _ (λ bytes fine good. served (fine good)) s.fine;
        front = λ e. map_some input.known _ _ fronts (s.front (one_err f Write (failed_one f Write e)));
        untouched = λ fine other. s.untouched (λ e. other (ap Failed e));
      }
    where
      at : (k : Fault) → f ≡ k → (k ≡ Read → ⊥) → (k ≡ Write → ⊥) → IfSome input.known (λ bytes. IsInputOrFree plan.workers bytes k)
      at k is not_read not_write =
          subst (λ (x : Fault). IfSome input.known (λ bytes. IsInputOrFree plan.workers bytes x)) is (s.fault (λ e. not_read (sym is ∙ e)) (λ e. not_write (sym is ∙ e)))

      one : (k : Fault) → IsDueAt {A = Ran} (Err f) k → IsDueEnding (Failed f) (Failed k)
      one k (inl e) = inl (ap Failed (err_one f k e))
      one k (inr (inl e)) = inr (inl (ap Failed (err_one f NoMemory e)))
      one k (inr (inr e)) = inr (inr (ap Failed (err_one f Read e)))

      served : IsServed {A = Ran} (Err f) → (Failed f ≡ Failed Write) ⊎ IsDueEnding (Failed f) Fine
      served (inl ok) = absurd (cc)
      served (inr (inl e)) = inl (ap Failed (err_one f Write e))
      served (inr (inr (inl e))) = inr (inr (inl (ap Failed (err_one f NoMemory e))))
      served (inr (inr (inr e))) = inr (inr (inr (ap Failed (err_one f Read e))))

      fronts : (bytes : List ℕ) → HasGoodScript plan.workers bytes × IsPrintedFront plan (script_of plan.workers bytes) out.known out.known_after →
          Writes (running plan) bytes (λ text. AppendsFront out.known out.known_after text)
      fronts bytes h =
          let script = script_of plan.workers bytes in (
            h.0,
            (
              run_text plan.workers script.names h.1.records (report_text h.1.report),
              record { records = h.1.records; history = h.1.history; report = h.1.report; of = h.1.of; on = h.1.on; is = refl },
              h.1.front,
            ),
          )
