-- What the entries of a mover add to its tally.
use Rattle.std.proofs.Common.{◌≡◌, ℕ, ◌+◌, ◌-◌, ◌^◌, ◌≤◌, min, cond, Bool, ◌++◌, List, [], ◌∷◌, count_by, refl, sym, ◌∙◌, ap, subst, arith}
use Rattle.std.proofs.lemmas.List.Sums.{sum_by-cons, sum_by-append}
use Rattle.kmem_model.specs.CacheScans.{is_begin}
use Rattle.kmem_model.specs.Report.{is_yes, is_no, is_later, is_dont_need, is_dont_know, is_end_by, is_gone_entry, counted_in}
use Rattle.kmem_model.specs.declared.cache_entry.CacheEntry.{CacheEntry}
use Rattle.kmem_model.specs.declared.cache_entry.CacheEntry.TheVariants.{Alloc, Full, Free, Scan, Begin, Idle, Gone, End, Forget}
use Rattle.kmem_model.specs.declared.cache_entry.Said.TheVariants.{Yes, No, Later, DontNeed, DontKnow}
use Rattle.object_cache.specs.declared.tally.Tally.{Tally}
use Rattle.consolidator.specs.Notes.{Notes, noted, noted_all}
use Rattle.consolidator.specs.Tallies.{capped_sum}
use Rattle.consolidator.proofs.Sums.{capped, cap_twice, cap_none}

-- a count that grows by one with each such entry, and with no other
abbrev pub CountsEntries : (Tally → ℕ) → (CacheEntry → Bool) → Type 0
CountsEntries f is = (e : CacheEntry) (n : Notes) → f n.tally ≤ 2 ^ 64 - 1 → f (noted e n).tally ≡ min (f n.tally + cond (is e) 1 0) (2 ^ 64 - 1)

pub begun_noted : CountsEntries (λ t. t.begun) is_begin
begun_noted (End j Yes) n h = omega arith
begun_noted (End j No) n h = omega arith
begun_noted (End j Later) n h = omega arith
begun_noted (End j DontNeed) n h = omega arith
begun_noted (End j DontKnow) n h = omega arith
begun_noted (Alloc b) n h = omega arith
begun_noted Full n h = omega arith
begun_noted (Free b) n h = omega arith
begun_noted (Scan d) n h = omega arith
begun_noted (Begin i from to) n h = refl
begun_noted Idle n h = omega arith
begun_noted (Gone i) n h = omega arith
begun_noted Forget n h = omega arith

pub yes_noted : CountsEntries (λ t. t.yes) (is_end_by is_yes)
yes_noted (End j Yes) n h = refl
yes_noted (End j No) n h = omega arith
yes_noted (End j Later) n h = omega arith
yes_noted (End j DontNeed) n h = omega arith
yes_noted (End j DontKnow) n h = omega arith
yes_noted (Alloc b) n h = omega arith
yes_noted Full n h = omega arith
yes_noted (Free b) n h = omega arith
yes_noted (Scan d) n h = omega arith
yes_noted (Begin i from to) n h = omega arith
yes_noted Idle n h = omega arith
yes_noted (Gone i) n h = omega arith
yes_noted Forget n h = omega arith

pub no_noted : CountsEntries (λ t. t.no) (is_end_by is_no)
no_noted (End j Yes) n h = omega arith
no_noted (End j No) n h = refl
no_noted (End j Later) n h = omega arith
no_noted (End j DontNeed) n h = omega arith
no_noted (End j DontKnow) n h = omega arith
no_noted (Alloc b) n h = omega arith
no_noted Full n h = omega arith
no_noted (Free b) n h = omega arith
no_noted (Scan d) n h = omega arith
no_noted (Begin i from to) n h = omega arith
no_noted Idle n h = omega arith
no_noted (Gone i) n h = omega arith
no_noted Forget n h = omega arith

pub later_noted : CountsEntries (λ t. t.later) (is_end_by is_later)
later_noted (End j Yes) n h = omega arith
later_noted (End j No) n h = omega arith
later_noted (End j Later) n h = refl
later_noted (End j DontNeed) n h = omega arith
later_noted (End j DontKnow) n h = omega arith
later_noted (Alloc b) n h = omega arith
later_noted Full n h = omega arith
later_noted (Free b) n h = omega arith
later_noted (Scan d) n h = omega arith
later_noted (Begin i from to) n h = omega arith
later_noted Idle n h = omega arith
later_noted (Gone i) n h = omega arith
later_noted Forget n h = omega arith

pub dont_need_noted : CountsEntries (λ t. t.dont_need) (is_end_by is_dont_need)
dont_need_noted (End j Yes) n h = omega arith
dont_need_noted (End j No) n h = omega arith
dont_need_noted (End j Later) n h = omega arith
dont_need_noted (End j DontNeed) n h = refl
dont_need_noted (End j DontKnow) n h = omega arith
dont_need_noted (Alloc b) n h = omega arith
dont_need_noted Full n h = omega arith
dont_need_noted (Free b) n h = omega arith
dont_need_noted (Scan d) n h = omega arith
dont_need_noted (Begin i from to) n h = omega arith
dont_need_noted Idle n h = omega arith
dont_need_noted (Gone i) n h = omega arith
dont_need_noted Forget n h = omega arith

pub dont_know_noted : CountsEntries (λ t. t.dont_know) (is_end_by is_dont_know)
dont_know_noted (End j Yes) n h = omega arith
dont_know_noted (End j No) n h = omega arith
dont_know_noted (End j Later) n h = omega arith
dont_know_noted (End j DontNeed) n h = omega arith
dont_know_noted (End j DontKnow) n h = refl
dont_know_noted (Alloc b) n h = omega arith
dont_know_noted Full n h = omega arith
dont_know_noted (Free b) n h = omega arith
dont_know_noted (Scan d) n h = omega arith
dont_know_noted (Begin i from to) n h = omega arith
dont_know_noted Idle n h = omega arith
dont_know_noted (Gone i) n h = omega arith
dont_know_noted Forget n h = omega arith

pub gone_noted : CountsEntries (λ t. t.gone) is_gone_entry
gone_noted (End j Yes) n h = omega arith
gone_noted (End j No) n h = omega arith
gone_noted (End j Later) n h = omega arith
gone_noted (End j DontNeed) n h = omega arith
gone_noted (End j DontKnow) n h = omega arith
gone_noted (Alloc b) n h = omega arith
gone_noted Full n h = omega arith
gone_noted (Free b) n h = omega arith
gone_noted (Scan d) n h = omega arith
gone_noted (Begin i from to) n h = omega arith
gone_noted Idle n h = omega arith
gone_noted (Gone i) n h = refl
gone_noted Forget n h = omega arith

-- All entries

cap_both : (a b cap : ℕ) → min (min a cap + min b cap) cap ≡ min (a + b) cap
cap_both a b cap = omega arith

pub all_counted : (f : Tally → ℕ) (is : CacheEntry → Bool) → CountsEntries f is → (es : List CacheEntry) (n : Notes) → f n.tally ≤ 2 ^ 64 - 1 →
    f (noted_all es n).tally ≡ min (f n.tally + count_by is es) (2 ^ 64 - 1)
all_counted f is by [] n h = cap_none (f n.tally) (2 ^ 64 - 1) h
all_counted f is by (e ∷ es) n h =
    let one : f (noted e n).tally ≡ min (f n.tally + cond (is e) 1 0) (2 ^ 64 - 1) = by e n h in
    let small : f (noted e n).tally ≤ 2 ^ 64 - 1 = subst (λ m. m ≤ 2 ^ 64 - 1) (sym one) (capped (f n.tally + cond (is e) 1 0) (2 ^ 64 - 1)) in
    all_counted f is by es (noted e n) small
    ∙ (ap (λ m. min (m + count_by is es) (2 ^ 64 - 1)) one
    ∙ (cap_twice (f n.tally) (cond (is e) 1 0) (count_by is es) (2 ^ 64 - 1)
    ∙ ap (λ m. min (f n.tally + m) (2 ^ 64 - 1)) (sym (sum_by-cons (λ x. cond (is x) 1 0) e es))))

-- no move
abbrev none : Tally
none = record { begun = 0; yes = 0; no = 0; later = 0; dont_need = 0; dont_know = 0; gone = 0 }

pub fresh_counted : (f : Tally → ℕ) (is : CacheEntry → Bool) → CountsEntries f is → f none ≡ 0 → (es : List CacheEntry) (n : Notes) → n.tally ≡ none →
    f (noted_all es n).tally ≡ counted_in es is
fresh_counted f is by zero es n fresh =
    let at : f n.tally ≡ 0 = ap f fresh ∙ zero in
    all_counted f is by es n (subst (λ m. m ≤ 2 ^ 64 - 1) (sym at) (omega arith))
    ∙ ap (λ m. min m (2 ^ 64 - 1)) (ap (λ m. m + count_by is es) at ∙ omega arith)

pub both_counted : (f : Tally → ℕ) (is : CacheEntry → Bool) → CountsEntries f is → f none ≡ 0 → (es fs : List CacheEntry) (n m : Notes) → n.tally ≡ none → m.tally ≡ none →
    capped_sum (f (noted_all es n).tally) (f (noted_all fs m).tally) ≡ counted_in (es ++ fs) is
both_counted f is by zero es fs n m fresh fresh' =
    let a = fresh_counted f is by zero es n fresh in let b = fresh_counted f is by zero fs m fresh' in
    ap (λ x. min (x + f (noted_all fs m).tally) (2 ^ 64 - 1)) a
    ∙ (ap (λ x. min (min (count_by is es) (2 ^ 64 - 1) + x) (2 ^ 64 - 1)) b
    ∙ (cap_both (count_by is es) (count_by is fs) (2 ^ 64 - 1) ∙ ap (λ x. min x (2 ^ 64 - 1)) (sym (sum_by-append (λ x. cond (is x) 1 0) es fs))))
