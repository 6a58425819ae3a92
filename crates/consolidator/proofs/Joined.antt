-- Rounds that are joined are rounds as a whole history has them.
use Rattle.std.proofs.Common.{◌≡◌, ℕ, Bool, true, false, not, cond, ◌||◌, ◌&&◌, ◌==◌, List, [], ◌∷◌, ◌++◌, length, filter, replicate, All, refl, sym, ap, ◌∙◌}
use Rattle.std.specs.List.{flat_map, list_all, take_while}
use Rattle.std.proofs.lemmas.List.Sums.{take_while-cons}
use Rattle.std.proofs.lemmas.List.Elements.{All-head, All-tail, filter-append}
use Rattle.kmem_model.specs.CacheScans.{is_scan, is_begin, is_idle_entry, scanning, ends_idle, is_round, has_rounds}
use Rattle.kmem_model.specs.declared.cache_entry.CacheEntry.{CacheEntry}
use Rattle.kmem_model.specs.declared.cache_entry.CacheEntry.TheVariants.{Alloc, Full, Free, Scan, Begin, Idle, Gone, End, Forget}
use Rattle.consolidator.specs.Rounds.{IsRound, AreRounds}

-- none of these entries starts a scan
abbrev HaveNoScan : List CacheEntry → Type 0
HaveNoScan [] = Unit {0}
HaveNoScan (e ∷ es) = (is_scan e ≡ false) × HaveNoScan es

begin_is_no_scan : (e : CacheEntry) → is_begin e ≡ true → is_scan e ≡ false
begin_is_no_scan (Scan d) is = absurd cc
begin_is_no_scan (Begin j from to) is = refl
begin_is_no_scan (Alloc b) is = refl
begin_is_no_scan Full is = refl
begin_is_no_scan (Free b) is = refl
begin_is_no_scan Idle is = refl
begin_is_no_scan (Gone j) is = refl
begin_is_no_scan (End j said) is = refl
begin_is_no_scan Forget is = refl

idle_is_no_scan : (e : CacheEntry) → is_idle_entry e ≡ true → is_scan e ≡ false
idle_is_no_scan (Scan d) is = absurd cc
idle_is_no_scan (Begin j from to) is = refl
idle_is_no_scan (Alloc b) is = refl
idle_is_no_scan Full is = refl
idle_is_no_scan (Free b) is = refl
idle_is_no_scan Idle is = refl
idle_is_no_scan (Gone j) is = refl
idle_is_no_scan (End j said) is = refl
idle_is_no_scan Forget is = refl

-- both of two tests
both : (a b : Bool) → (a && b) ≡ true → (a ≡ true) × (b ≡ true)
both true b is = (refl, is)
both false b is = absurd cc

idle_ends : (es : List CacheEntry) → ends_idle es ≡ true → HaveNoScan es
idle_ends [] is = tt
idle_ends (e ∷ []) is = (idle_is_no_scan e is, tt)
idle_ends (e ∷ (f ∷ es)) is =
    let parts = both (is_begin e) (ends_idle (f ∷ es)) is in (begin_is_no_scan e parts.0, idle_ends (f ∷ es) parts.1)

all_begins : (es : List CacheEntry) → list_all is_begin es ≡ true → HaveNoScan es
all_begins [] is = tt
all_begins (e ∷ es) is =
    let parts = both (is_begin e) (list_all is_begin es) is in (begin_is_no_scan e parts.0, all_begins es parts.1)

round_rest : (es : List CacheEntry) → is_round es ≡ true → HaveNoScan es
round_rest es is = cases (ends_idle es) refl
  where
    cases : (b : Bool) → ends_idle es ≡ b → HaveNoScan es
    cases true ends = idle_ends es ends
    cases false ends =
        let begun : (list_all is_begin es && length es == 64) ≡ true = ap (λ c. c || (list_all is_begin es && length es == 64)) (sym ends) ∙ is in
        all_begins es (both (list_all is_begin es) (length es == 64) begun).0

-- The entries up to the next Scan

take_rest : (rest more : List CacheEntry) → HaveNoScan rest → take_while (λ x. not (is_scan x)) more ≡ [] → take_while (λ x. not (is_scan x)) (rest ++ more) ≡ rest
take_rest [] more none ends = ends
take_rest (e ∷ es) more none ends =
    take_while-cons (λ x. not (is_scan x)) e (es ++ more)
    ∙ (ap (λ b. cond (not b) (e ∷ take_while (λ x. not (is_scan x)) (es ++ more)) []) none.0
    ∙ ap (λ l. e ∷ l) (take_rest es more none.1 ends))

skip_rest : (rest more : List CacheEntry) → HaveNoScan rest → has_rounds (rest ++ more) ≡ has_rounds more
skip_rest [] more none = refl
skip_rest (e ∷ es) more none =
    ap (λ b. cond b (is_round (take_while (λ x. not (is_scan x)) (es ++ more))) true && has_rounds (es ++ more)) none.0
    ∙ skip_rest es more none.1

no_scan_in : (rest : List CacheEntry) → HaveNoScan rest → filter is_scan rest ≡ []
no_scan_in [] none = refl
no_scan_in (e ∷ es) none = ap (λ b. cond b (e ∷ filter is_scan es) (filter is_scan es)) none.0 ∙ no_scan_in es none.1

-- Joined rounds

starts : (desperate : Bool) (rounds : List (List CacheEntry)) → All (IsRound desperate) rounds → take_while (λ x. not (is_scan x)) (flat_map (λ round. round) rounds) ≡ []
starts desperate [] each = refl
starts desperate (r ∷ rs) each =
    let one = All-head (IsRound desperate) r rs each in
    ap (λ l. take_while (λ x. not (is_scan x)) (l ++ flat_map (λ round. round) rs)) one.is

have_rounds : (desperate : Bool) (rounds : List (List CacheEntry)) → All (IsRound desperate) rounds → has_rounds (flat_map (λ round. round) rounds) ≡ true
have_rounds desperate [] each = refl
have_rounds desperate (r ∷ rs) each =
    let one = All-head (IsRound desperate) r rs each in let later = All-tail (IsRound desperate) r rs each in let more = flat_map (λ round. round) rs in
    let none = round_rest one.rest one.round in
    ap (λ l. has_rounds (l ++ more)) one.is
    ∙ (ap (λ l. is_round l && has_rounds (one.rest ++ more)) (take_rest one.rest more none (starts desperate rs later))
    ∙ (ap (λ b. b && has_rounds (one.rest ++ more)) one.round ∙ (skip_rest one.rest more none ∙ have_rounds desperate rs later)))

scans_in : (desperate : Bool) (rounds : List (List CacheEntry)) → All (IsRound desperate) rounds →
    filter is_scan (flat_map (λ round. round) rounds) ≡ replicate (length rounds) (Scan desperate)
scans_in desperate [] each = refl
scans_in desperate (r ∷ rs) each =
    let one = All-head (IsRound desperate) r rs each in let later = All-tail (IsRound desperate) r rs each in let more = flat_map (λ round. round) rs in
    filter-append is_scan r more
    ∙ (ap (λ l. filter is_scan l ++ filter is_scan more) one.is
    ∙ (ap (λ l. Scan desperate ∷ (l ++ filter is_scan more)) (no_scan_in one.rest (round_rest one.rest one.round))
    ∙ ap (λ l. Scan desperate ∷ l) (scans_in desperate rs later)))

-- the Scan entries are among those of scans
scans_kept : (es : List CacheEntry) → filter is_scan (scanning es) ≡ filter is_scan es
scans_kept [] = refl
scans_kept (Scan d ∷ es) = ap (λ l. Scan d ∷ l) (scans_kept es)
scans_kept (Begin j from to ∷ es) = scans_kept es
scans_kept (Idle ∷ es) = scans_kept es
scans_kept (Alloc b ∷ es) = scans_kept es
scans_kept (Full ∷ es) = scans_kept es
scans_kept (Free b ∷ es) = scans_kept es
scans_kept (Gone j ∷ es) = scans_kept es
scans_kept (End j said ∷ es) = scans_kept es
scans_kept (Forget ∷ es) = scans_kept es

pub rounds_whole : (desperate : Bool) (count : ℕ) (es : List CacheEntry) → AreRounds desperate count es → has_rounds (scanning es) ≡ true
rounds_whole desperate count es are = ap has_rounds are.joined ∙ have_rounds desperate are.rounds are.each

pub scans_whole : (desperate : Bool) (count : ℕ) (es : List CacheEntry) → AreRounds desperate count es → filter is_scan es ≡ replicate count (Scan desperate)
scans_whole desperate count es are =
    sym (scans_kept es) ∙ (ap (filter is_scan) are.joined ∙ (scans_in desperate are.rounds are.each ∙ ap (λ n. replicate n (Scan desperate)) are.many))
