-- Numbers of commands, entries and scans.
use Rattle.std.proofs.Common.{◌≡◌, ◌+◌, ◌*◌, ◌≤◌, ◌<◌, ◌^◌, ℕ, List, [], ◌∷◌, length, sum, All, refl, arith}
use Rattle.std.specs.List.{range_with_len}
use Rattle.std.proofs.lemmas.List.{length-map, length-append}
use Rattle.std.proofs.lemmas.List.FromFn.{length-map-range_with_len}
use Rattle.std.proofs.lemmas.List.Elements.{All-nil, All-cons, All-head, All-tail, All-map}
use Rattle.kmem_text.specs.declared.command.Line.{Line}
use Rattle.kmem_model.specs.History.{commands_of}
use Rattle.run_engine.specs.declared.plan.RunPlan.{RunPlan}
use Rattle.std.proofs.lemmas.List.Sums.{sum_by-cons, sum_by-append}
use Rattle.run_engine.specs.Quotas.{IsInPlan, odd_scans, even_scans, worker_entries, mover_entries, cache_quotas, command_counts}
use Rattle.run_engine.proofs.Dealing.{commands_few}

pub sum_most : (most : ℕ) (xs : List ℕ) → All (λ n. n ≤ most) xs → sum xs ≤ most * length xs
sum_most most [] all = omega arith
sum_most most (x ∷ xs) all =
    let P : ℕ → Type 0 = λ n. n ≤ most in
    omega (arith, All-head P x xs all, sum_most most xs (All-tail P x xs all), sum_by-cons (λ (n : ℕ). n) x xs)

pub sum_double : (xs : List ℕ) → sum (worker_entries xs) ≡ 2 * sum xs
sum_double [] = refl
sum_double (x ∷ xs) = omega (arith, sum_double xs, sum_by-cons (λ (n : ℕ). n) x xs, sum_by-cons (λ (n : ℕ). n) (2 * x) (worker_entries xs))

-- both movers' scans together
pub halves : (n : ℕ) → odd_scans n + even_scans n ≡ n
halves n = grind arith

-- The counts of a script's commands

all_any : {A : Type 0} (P : A → Type 0) → ((x : A) → P x) → (xs : List A) → All P xs
all_any P each [] = All-nil P
all_any P each (x ∷ xs) = All-cons P x xs (each x) (all_any P each xs)

pub counts_many : (n : ℕ) (lines : List Line) → length (command_counts n lines) ≡ n
counts_many n lines = length-map-range_with_len (λ w. length (commands_of w lines)) 1 n

pub counts_few : (n : ℕ) (lines : List Line) → length lines ≤ 100000 → All (λ c. c ≤ 100000) (command_counts n lines)
counts_few n lines few =
    All-map (λ c. c ≤ 100000) (λ w. length (commands_of w lines)) (range_with_len 1 n)
    (all_any (λ w. length (commands_of w lines) ≤ 100000) (λ w. omega (arith, commands_few w lines, few)) (range_with_len 1 n))

pub counts_sum : (n : ℕ) (lines : List Line) → length lines ≤ 100000 → n ≤ 16 → sum (command_counts n lines) ≤ 1600000
counts_sum n lines few small =
    omega (arith, sum_most 100000 (command_counts n lines) (counts_few n lines few), counts_many n lines, small)

-- The quotas of a run

pub quotas_many : (plan : RunPlan) (counts : List ℕ) → length (cache_quotas plan counts) ≡ length counts + 2
quotas_many plan counts =
    omega (arith, length-append (worker_entries counts) (mover_entries plan ∷ mover_entries plan ∷ []), length-map counts (λ n. 2 * n))

pub quotas_sum : (plan : RunPlan) (counts : List ℕ) → IsInPlan plan → sum counts ≤ 1600000 → sum (cache_quotas plan counts) < 2 ^ 32
quotas_sum plan counts in_plan few =
    omega (
      arith,
      few,
      in_plan.scans.1,
      in_plan.workers.1,
      sum_double counts,
      sum_by-append (λ (n : ℕ). n) (worker_entries counts) (mover_entries plan ∷ mover_entries plan ∷ []),
      sum_by-cons (λ (n : ℕ). n) (mover_entries plan) (mover_entries plan ∷ []),
      sum_by-cons (λ (n : ℕ). n) (mover_entries plan) [],
    )
