-- The report of a bench is that of `one`.
use Rattle.std.proofs.Common.{◌≡◌, ◌++◌, ℕ, true, List, [], Option, Some, None, is_some, refl, sym, ap, ◌∙◌}
use Rattle.std.specs.Io.KnownBytes.{Appends}
use Rattle.std.proofs.lemmas.List.{append-nil}
use Rattle.kmem_io.specs.Streams.{AppendsFront, AppendsFront-behind}
use Rattle.kmem_model.specs.CacheState.{CacheState}
use Rattle.kmem_model.specs.Records.{live_count}
use Rattle.kmem_model.specs.Report.{MoveCounts, Report, report_text}
use Rattle.kmem_model.specs.OneRun.{OneRun, run_ended, report_of, report_after}
use Rattle.kmem_model.specs.Report.{ends_in}
use Rattle.kmem_model.specs.SettleEntries.{moves_entries}
use Rattle.kmem_report.specs.Reported.{counts_of, reported}
use Rattle.object_cache.specs.declared.tally.Tally.{Tally}
use Rattle.consolidator.specs.Tallies.{tally_of}

-- counts that agree one by one
pub counts_are : (t : Tally) (c : MoveCounts) → t.yes ≡ c.yes → t.no ≡ c.no → t.later ≡ c.later → t.dont_need ≡ c.dont_need → t.dont_know ≡ c.dont_know → t.gone ≡ c.gone → counts_of t ≡ c
counts_are t c a b d e f h =
    ap (λ n. record { yes = n; no = t.no; later = t.later; dont_need = t.dont_need; dont_know = t.dont_know; gone = t.gone }) a
    ∙ (ap (λ n. record { yes = c.yes; no = n; later = t.later; dont_need = t.dont_need; dont_know = t.dont_know; gone = t.gone }) b
    ∙ (ap (λ n. record { yes = c.yes; no = c.no; later = n; dont_need = t.dont_need; dont_know = t.dont_know; gone = t.gone }) d
    ∙ (ap (λ n. record { yes = c.yes; no = c.no; later = c.later; dont_need = n; dont_know = t.dont_know; gone = t.gone }) e
    ∙ (ap (λ n. record { yes = c.yes; no = c.no; later = c.later; dont_need = c.dont_need; dont_know = n; gone = t.gone }) f
    ∙ ap (λ n. record { yes = c.yes; no = c.no; later = c.later; dont_need = c.dont_need; dont_know = c.dont_know; gone = n }) h))))

abbrev with_settled : Report → MoveCounts → Report
with_settled r k = record r { settled = k }

pub report_is : (run : OneRun) (live : ℕ) (moves settled : Tally) (state : CacheState) → live ≡ live_count run.state.map → moves ≡ tally_of [] → counts_of settled ≡ ends_in (moves_entries run.moves) → state ≡ run.state.cache → reported live 0 moves settled state ≡ report_of run
report_is run live moves settled state lives none counts same =
    ap (λ l. reported l 0 moves settled state) lives
    ∙ (ap (λ t. reported (live_count run.state.map) 0 t settled state) none
    ∙ (ap (λ s. reported (live_count run.state.map) 0 (tally_of []) settled s) same
    ∙ ap (λ (k : MoveCounts). with_settled (reported (live_count run.state.map) 0 (tally_of []) settled run.state.cache) k) counts))

-- what follows the replies
pub after_some : (every : Option ℕ) (run : OneRun) → is_some every ≡ true → report_after every run ≡ report_text (report_of (run_ended run))
after_some (Some n) run e = refl
after_some None run e = absurd (cc)

nothing : (b : Option (List ℕ)) → Appends b b []
nothing None = tt
nothing (Some xs) = sym (append-nil xs)

-- a front of a text is one of a longer text
pub front_of_more : (a b : Option (List ℕ)) (xs ys : List ℕ) → AppendsFront a b xs → AppendsFront a b (xs ++ ys)
front_of_more a b xs ys front = AppendsFront-behind a a b [] xs ys (xs ++ ys) (nothing a) refl front

-- a front behind a whole text
pub front_behind : (a b c : Option (List ℕ)) (xs ys : List ℕ) → Appends a b xs → AppendsFront b c ys → AppendsFront a c (xs ++ ys)
front_behind a b c xs ys before front = AppendsFront-behind a b c xs ys [] (xs ++ ys) before (ap (λ zs. xs ++ zs) (append-nil ys)) front
