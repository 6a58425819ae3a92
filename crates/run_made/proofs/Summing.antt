-- What a made run hands out and writes, by what the calls that it makes say.
use Rattle.std.proofs.Common.{◌≡◌, ◌<◌, ◌≤◌, ℕ, false, List, All, length, sym, ap, ap₂, ◌∙◌, subst, arith}
use Rattle.std.proofs.lemmas.List.{length-map}
use Rattle.std.proofs.lemmas.List.FromFn.{length-map-range_with_len}
use Rattle.std.proofs.lemmas.List.Sums.{count_by-le-length}
use Rattle.std.proofs.lemmas.List.Elements.{recursion_from_All}
use Rattle.kmem_text.specs.Grammar.{Plain}
use Rattle.kmem_text.specs.Scripts.{IsScript}
use Rattle.kmem_text.specs.declared.command.Line.{Line}
use Rattle.kmem_model.specs.declared.record_entry.RecordEntry.{RecordEntry}
use Rattle.kmem_model.specs.Records.{no_records, live_count}
use Rattle.kmem_model.specs.History.{commands_of}
use Rattle.generator.specs.Made.{made, made_line, made_lines}
use Rattle.record_table.specs.Runs.{is_put}
use Rattle.run_workers.specs.Workers.{is_refused}
use Rattle.run_summary.specs.Summary.{summary_text}
use Rattle.run_engine.specs.declared.plan.RunPlan.{RunPlan}
use Rattle.run_engine.specs.declared.ran.Ran.{Ran}
use Rattle.run_engine.specs.Ran.{IsRan, last_map}
use Rattle.run_made.specs.Making.{made_plan, alone_records, summary_of}
use Rattle.run_made.proofs.Alone.{alone_so}
use Rattle.run_made.proofs.Totals.{as_many}

-- the run is that of the plan and the script that were opened
pub ran_is : (p q : RunPlan) (s t : Plain) (r r' : Ran) → p ≡ q → s ≡ t → r' ≡ r → IsRan p s r → IsRan q t r'
ran_is p q s t r r' plan script same is =
    subst (λ (x : RunPlan). IsRan x t r') plan (subst (λ (x : Plain). IsRan p x r') script (subst (λ (x : Ran). IsRan p s x) (sym same) is))

-- the text that was written is the summary of what is handed out
pub text_is : (workers : ℕ) (p : RunPlan) (s t : Plain) (r r' : Ran) (entries : List (ℕ × RecordEntry)) (live : ℕ) → p ≡ made_plan workers → s ≡ t → r' ≡ r → entries ≡ r.records.entries →
    live ≡ live_count (last_map p s r.records.entries) → summary_text (length entries) entries live ≡ summary_of workers t r'.records.entries
text_is workers p s t r r' entries live plan script same is many =
    ap₂ (λ (xs : List (ℕ × RecordEntry)) n. summary_text (length xs) xs n) is
    (many ∙ ap₂ (λ (x : RunPlan) (y : Plain). live_count (last_map x y r.records.entries)) plan script)
    ∙ ap (λ (x : Ran). summary_of workers t x.records.entries) (sym same)

module _ (seed workers commands : ℕ) where
  lines_many : length (made seed workers commands).lines ≡ commands
  lines_many = length-map (made_lines seed workers commands) _ ∙ length-map-range_with_len (made_line seed workers) 0 commands

  -- each command has its entry
  pub many_so : (r : Ran) → IsScript workers (made seed workers commands) → IsRan (made_plan workers) (made seed workers commands) r → length r.records.entries ≡ commands
  many_so r of is = as_many workers r.records.entries (made seed workers commands).lines is.within of.workers is.records.shared ∙ lines_many

  -- there is room for all puts
  pub roomy_so : (r : Ran) → commands ≤ 60000 → IsRan (made_plan workers) (made seed workers commands) r → All (λ (e : ℕ × RecordEntry). is_refused e.1 ≡ false) r.records.entries
  roomy_so r small is = is.fulls.room (omega (arith, small, lines_many, count_by-le-length (λ (line : Line). is_put line.command) (made seed workers commands).lines))

-- one worker's history
pub alone_made : (seed commands : ℕ) (r : Ran) → commands ≤ 60000 → IsRan (made_plan 1) (made seed 1 commands) r → r.records.entries ≡ alone_records (made seed 1 commands)
alone_made seed commands r small is =
    alone_so (no_records (length (made seed 1 commands).names) 1) (commands_of 1 (made seed 1 commands).lines) r.records.entries
    (recursion_from_All (λ (e : ℕ × RecordEntry). e.0 < 1) r.records.entries is.within)
    (recursion_from_All (λ (e : ℕ × RecordEntry). is_refused e.1 ≡ false) r.records.entries (roomy_so seed 1 commands r small is))
    is.records.legal (is.records.shared 0)
