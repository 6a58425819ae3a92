-- How often buffers are asked for in a run, and where no `full` is replied.
use Rattle.std.proofs.Common.{◌≡◌, ◌⊎◌, ◌+◌, ◌<◌, ◌≤◌, ◌==◌, ◌++◌, ℕ, zero, suc, Bool, true, false, cond, List, [], ◌∷◌, map, filter, count_by, inl, inr, refl, ap, ⊎_elim, arith}
use Rattle.std.specs.List.{All, AllByRecursion}
use Rattle.std.proofs.lemmas.Bool.{cond_both, cond-true, cond-false, eqb-true, ne_eqb}
use Rattle.std.proofs.lemmas.List.Sums.{sum_by-cons}
use Rattle.std.proofs.lemmas.List.Elements.{recursion_from_All}
use Rattle.kmem_text.specs.declared.command.Command.{Command}
use Rattle.kmem_text.specs.declared.command.Line.{Line}
use Rattle.kmem_model.specs.declared.record_entry.RecordEntry.{RecordEntry}
use Rattle.kmem_model.specs.declared.cache_entry.CacheEntry.{CacheEntry}
use Rattle.kmem_model.specs.declared.cache_entry.CacheEntry.TheVariants.{Alloc, Full, Free, Scan, Begin, Idle, Gone, End, Forget}
use Rattle.kmem_model.specs.History.{worker_of, commands_of}
use Rattle.kmem_model.specs.CacheCounts.{total, total_before, entries_in, entries_by}
use Rattle.hist_lock.specs.History.{entries_of}
use Rattle.record_table.specs.Runs.{is_put, asks_slabs}
use Rattle.consolidator.specs.Rounds.{IsOfMover}
use Rattle.run_workers.specs.Workers.{is_refused, is_full_entry}
use Rattle.run_engine.proofs.Fulls.{is_alloc}
use Rattle.run_engine.proofs.Scans.{weight_of, total_is}

abbrev one_put : Line → ℕ
one_put line = cond (is_put line.command) 1 0

-- the puts of the first workers
abbrev puts_by : ℕ → List Line → ℕ
puts_by zero lines = 0
puts_by (suc n) lines = puts_by n lines + count_by is_put (commands_of (worker_of n) lines)

puts_cons : (worker : ℕ) (line : Line) (lines : List Line) →
    count_by is_put (commands_of worker (line ∷ lines)) ≡ cond (line.worker == worker) (one_put line) 0 + count_by is_put (commands_of worker lines)
puts_cons worker line lines =
    cond_both (line.worker == worker) (line ∷ filter (λ (l : Line). l.worker == worker) lines) (filter (λ (l : Line). l.worker == worker) lines)
    (λ (ls : List Line). count_by is_put (map (λ (l : Line). l.command) ls) ≡ cond (line.worker == worker) (cond (is_put line.command) 1 0) 0 + count_by is_put (commands_of worker lines))
    (λ is. omega (
      arith,
      sum_by-cons (λ (c : Command). cond {A = ℕ} (is_put c) 1 0) line.command (commands_of worker lines),
      cond-true (line.worker == worker) (cond {A = ℕ} (is_put line.command) 1 0) 0 is,
    ))
    (λ other. omega (arith, cond-false (line.worker == worker) (cond {A = ℕ} (is_put line.command) 1 0) 0 other))

puts_far : (n : ℕ) (line : Line) (lines : List Line) → n < line.worker → puts_by n (line ∷ lines) ≡ puts_by n lines
puts_far zero line lines far = refl
puts_far (suc n) line lines far =
    omega (
      arith,
      puts_far n line lines (omega (arith, far)),
      puts_cons (worker_of n) line lines,
      cond-false (line.worker == worker_of n) (one_put line) 0 (ne_eqb line.worker (worker_of n) (λ same. omega (arith, same, far))),
    )

puts_most : (n : ℕ) (line : Line) (lines : List Line) → puts_by n (line ∷ lines) ≤ puts_by n lines + one_put line
puts_most zero line lines = omega arith
puts_most (suc n) line lines =
    cond_both (line.worker == worker_of n) (one_put line) 0
    (λ (k : ℕ). count_by is_put (commands_of (worker_of n) (line ∷ lines)) ≡ k + count_by is_put (commands_of (worker_of n) lines) → puts_by (suc n) (line ∷ lines) ≤ puts_by (suc n) lines + one_put line)
    (λ is e. omega (arith, e, puts_far n line lines (omega (arith, eqb-true line.worker (worker_of n) is))))
    (λ other e. omega (arith, e, puts_most n line lines))
    (puts_cons (worker_of n) line lines)

puts_none : (n : ℕ) → puts_by n [] ≡ 0
puts_none zero = refl
puts_none (suc n) = omega (arith, puts_none n)

-- they are puts of the script
puts_all : (n : ℕ) (lines : List Line) → puts_by n lines ≤ count_by (λ line. is_put line.command) lines
puts_all n [] = omega (arith, puts_none n)
puts_all n (line ∷ lines) = omega (arith, puts_most n line lines, puts_all n lines, sum_by-cons (λ (l : Line). cond {A = ℕ} (is_put l.command) 1 0) line lines)

-- Who asks for buffers

mover_asks : (es : List CacheEntry) → AllByRecursion IsOfMover es → total (weight_of asks_slabs) es ≡ 0
mover_asks [] h = refl
mover_asks (Alloc b ∷ es) h = absurd h.0
mover_asks (Full ∷ es) h = absurd h.0
mover_asks (Free b ∷ es) h = omega (arith, mover_asks es h.1)
mover_asks (Scan d ∷ es) h = omega (arith, mover_asks es h.1)
mover_asks (Begin j b c ∷ es) h = omega (arith, mover_asks es h.1)
mover_asks (Idle ∷ es) h = omega (arith, mover_asks es h.1)
mover_asks (Gone j ∷ es) h = omega (arith, mover_asks es h.1)
mover_asks (End j a ∷ es) h = omega (arith, mover_asks es h.1)
mover_asks (Forget ∷ es) h = absurd h.0

worker_asks : (workers : ℕ) (lines : List Line) (history : List (ℕ × CacheEntry)) →
    ((pass : ℕ) → pass < workers → count_by asks_slabs (entries_by pass history) ≤ count_by is_put (commands_of (worker_of pass) lines)) →
    (n : ℕ) → n ≤ workers → total_before n (weight_of asks_slabs) history ≤ puts_by n lines
worker_asks workers lines history asked zero le = omega arith
worker_asks workers lines history asked (suc n) le =
    omega (
      arith,
      worker_asks workers lines history asked n (omega (arith, le)),
      asked n (omega (arith, le)),
      total_is asks_slabs (entries_by n history),
    )

-- all that is asked for is asked for puts
pub asks_most : (workers : ℕ) (lines : List Line) (history : List (ℕ × CacheEntry)) →
    ((pass : ℕ) → pass < workers → count_by asks_slabs (entries_by pass history) ≤ count_by is_put (commands_of (worker_of pass) lines)) →
    total_before (workers + 2) (weight_of asks_slabs) history ≡ total (weight_of asks_slabs) (entries_in history) →
    All IsOfMover (entries_by workers history) → All IsOfMover (entries_by (workers + 1) history) →
    total (weight_of asks_slabs) (entries_in history) ≤ count_by (λ line. is_put line.command) lines
asks_most workers lines history asked sums first second =
    let more : workers + 2 ≡ suc (suc workers) = omega arith in
    let next : suc workers ≡ workers + 1 = omega arith in
    omega (
      arith,
      sums,
      ap (λ k. total_before k (weight_of asks_slabs) history) more,
      ap (λ k. total (weight_of asks_slabs) (entries_by k history)) next,
      worker_asks workers lines history asked workers (omega arith),
      mover_asks (entries_by workers history) (recursion_from_All IsOfMover (entries_by workers history) first),
      mover_asks (entries_by (workers + 1) history) (recursion_from_All IsOfMover (entries_by (workers + 1) history) second),
      puts_all workers lines,
    )

-- an allocation asks
alloc_asks : (es : List CacheEntry) → total is_alloc es ≤ total (weight_of asks_slabs) es
alloc_asks [] = omega arith
alloc_asks (Alloc b ∷ es) = omega (arith, alloc_asks es)
alloc_asks (Full ∷ es) = omega (arith, alloc_asks es)
alloc_asks (Free b ∷ es) = omega (arith, alloc_asks es)
alloc_asks (Scan d ∷ es) = omega (arith, alloc_asks es)
alloc_asks (Begin j b c ∷ es) = omega (arith, alloc_asks es)
alloc_asks (Idle ∷ es) = omega (arith, alloc_asks es)
alloc_asks (Gone j ∷ es) = omega (arith, alloc_asks es)
alloc_asks (End j a ∷ es) = omega (arith, alloc_asks es)
alloc_asks (Forget ∷ es) = omega (arith, alloc_asks es)

-- so before a Full fewer were allocated than were asked for in all
pub before_full : (front rest : List (ℕ × CacheEntry)) (pass : ℕ) → total is_alloc (entries_in front) + 1 ≤ total (weight_of asks_slabs) (entries_in (front ++ (pass, Full) ∷ rest))
before_full [] rest pass = omega arith
before_full (x ∷ xs) rest pass = omega (arith, before_full xs rest pass, alloc_one x.1)
  where
    alloc_one : (e : CacheEntry) → is_alloc e ≤ weight_of asks_slabs e
    alloc_one (Alloc b) = omega arith
    alloc_one Full = omega arith
    alloc_one (Free b) = omega arith
    alloc_one (Scan d) = omega arith
    alloc_one (Begin j b c) = omega arith
    alloc_one Idle = omega arith
    alloc_one (Gone j) = omega arith
    alloc_one (End j a) = omega arith
    alloc_one Forget = omega arith

-- A history with a Full, or without

pub record HasFull (history : List (ℕ × CacheEntry)) : Type 0 where
  pub front : List (ℕ × CacheEntry)
  pub pass : ℕ
  pub rest : List (ℕ × CacheEntry)
  pub is : history ≡ front ++ (pass, Full) ∷ rest

full_or : (e : CacheEntry) → (e ≡ Full) ⊎ (is_full_entry e ≡ false)
full_or (Alloc b) = inr refl
full_or Full = inl refl
full_or (Free b) = inr refl
full_or (Scan d) = inr refl
full_or (Begin j b c) = inr refl
full_or Idle = inr refl
full_or (Gone j) = inr refl
full_or (End j a) = inr refl
full_or Forget = inr refl

pub find_full : (history : List (ℕ × CacheEntry)) → AllByRecursion (λ (e : ℕ × CacheEntry). is_full_entry e.1 ≡ false) history ⊎ HasFull history
find_full [] = inl tt
find_full (x ∷ xs) =
    ⊎_elim (λ is. inr (record { front = []; pass = x.0; rest = xs; is = ap (λ e. (x.0, e) ∷ xs) is }))
    (λ not. ⊎_elim (λ none. inl (not, none)) (λ found. inr (record { front = x ∷ found.front; pass = found.pass; rest = found.rest; is = ap (λ l. x ∷ l) found.is })) (find_full xs))
    (full_or x.1)

pub none_by : (pass : ℕ) (history : List (ℕ × CacheEntry)) → AllByRecursion (λ (e : ℕ × CacheEntry). is_full_entry e.1 ≡ false) history → count_by is_full_entry (entries_by pass history) ≡ 0
none_by pass [] h = refl
none_by pass (x ∷ xs) h =
    cond_both (x.0 == pass) (x ∷ filter (λ (e : ℕ × CacheEntry). e.0 == pass) xs) (filter (λ (e : ℕ × CacheEntry). e.0 == pass) xs)
    (λ (es : List (ℕ × CacheEntry)). count_by is_full_entry (entries_in es) ≡ 0)
    (λ is. omega (
      arith,
      sum_by-cons (λ (e : CacheEntry). cond {A = ℕ} (is_full_entry e) 1 0) x.1 (entries_by pass xs),
      ap (λ (b : Bool). cond {A = ℕ} b 1 0) h.0,
      none_by pass xs h.1,
    ))
    (λ other. none_by pass xs h.1)

-- Replies

refused_cons : (pass : ℕ) (e : ℕ × RecordEntry) (h : List (ℕ × RecordEntry)) →
    count_by is_refused (entries_of pass (e ∷ h)) ≡ cond (e.0 == pass) (cond (is_refused e.1) 1 0) 0 + count_by is_refused (entries_of pass h)
refused_cons pass e h =
    cond_both (e.0 == pass) (e ∷ filter (λ (x : ℕ × RecordEntry). x.0 == pass) h) (filter (λ (x : ℕ × RecordEntry). x.0 == pass) h)
    (λ (es : List (ℕ × RecordEntry)). count_by is_refused (map (λ (x : ℕ × RecordEntry). x.1) es) ≡ cond (e.0 == pass) (cond (is_refused e.1) 1 0) 0 + count_by is_refused (entries_of pass h))
    (λ is. omega (
      arith,
      sum_by-cons (λ (x : RecordEntry). cond {A = ℕ} (is_refused x) 1 0) e.1 (entries_of pass h),
      cond-true (e.0 == pass) (cond {A = ℕ} (is_refused e.1) 1 0) 0 is,
    ))
    (λ other. omega (arith, cond-false (e.0 == pass) (cond {A = ℕ} (is_refused e.1) 1 0) 0 other))

zero_no : (b : Bool) → ◌≡◌ {A = ℕ} (cond b 1 0) 0 → b ≡ false
zero_no true e = absurd (omega (arith, e))
zero_no false e = refl

same_pass : (n : ℕ) → (n == n) ≡ true
same_pass n = grind arith

pub none_refused : (workers : ℕ) (h : List (ℕ × RecordEntry)) → AllByRecursion (λ (e : ℕ × RecordEntry). e.0 < workers) h →
    ((pass : ℕ) → pass < workers → count_by is_refused (entries_of pass h) ≡ 0) → AllByRecursion (λ (e : ℕ × RecordEntry). is_refused e.1 ≡ false) h
none_refused workers [] within none = tt
none_refused workers (e ∷ h) within none = (
  zero_no (is_refused e.1)
      (omega (arith, none e.0 within.0, refused_cons e.0 e h, cond-true (e.0 == e.0) (cond {A = ℕ} (is_refused e.1) 1 0) 0 (same_pass e.0))),
  none_refused workers h within.1 (λ pass small. omega (arith, none pass small, refused_cons pass e h)),
)
