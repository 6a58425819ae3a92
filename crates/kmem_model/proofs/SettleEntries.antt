-- The entries of a settle lead to where its course ends, and end just its moves.
use Rattle.std.proofs.Common.{◌≡◌, ℕ, zero, suc, ◌+◌, ◌-◌, ◌^◌, ◌++◌, ◌&&◌, ◌||◌, ◌==◌, not, take_while, min, Bool, true, false, cond, List, [], ◌∷◌, length, map, count_by, Option, Some, None, option_map, option_and_then, append_assoc, ⊎_elim, sym, ◌∙◌, ap, ap₂, refl, subst, arith}
use Rattle.std.specs.List.{list_all}
use Rattle.std.proofs.lemmas.List.Elements.{filter-append}
use Rattle.std.proofs.lemmas.List.Sums.{take_while-cons}
use Rattle.kmem_model.specs.CacheScans.{is_scan, is_begin, is_idle_entry, scanning, ends_idle, is_round, has_rounds}
use Rattle.std.specs.Bool.{then_some}
use Rattle.std.specs.Option.{option_map_or}
use Rattle.std.proofs.lemmas.Bool.{cases_Bool}
use Rattle.std.proofs.lemmas.List.{append-nil}
use Rattle.std.proofs.lemmas.Grind.{flat_map-append}
use Rattle.kmem_model.proofs.CacheLists.{count-cons}
use Rattle.kmem_model.proofs.PlacesKept.{and_then_says}
use Rattle.kmem_model.proofs.SettleWhole.{enter_whole}
use Rattle.kmem_model.proofs.SettleScan.{with_ended, moved_keeps, scan_whole, scan_from}
use Rattle.kmem_model.proofs.SettleScanned.{IsScanned, scan_says, scan_ends}
use Rattle.kmem_model.proofs.SettleEnds.{scanned_last, scanned_more, settled_from, forget_inside}
use Rattle.kmem_model.specs.CacheState.{CacheState}
use Rattle.kmem_model.specs.CacheEnter.{unmarked, scan_started, enter}
use Rattle.kmem_model.specs.CacheHistory.{entered_all, Follows}
use Rattle.kmem_model.specs.Settle.{Stage, EndedMove, Course, says_after, after_move, cache_after_move, scanned, is_done, with_scan, scanned_in}
use Rattle.kmem_model.specs.SettleWhole.{IsWhole, IsWholeStage, enough}
use Rattle.kmem_model.specs.SettleMeasure.{IsInSettle, settled}
use Rattle.kmem_model.specs.SettleTurns.{with_cache, course_at}
use Rattle.kmem_model.specs.SettleEntries.{move_entries, moves_entries, scan_made, scans_made, AreEntriesOf}
use Rattle.kmem_model.specs.Report.{is_yes, is_no, is_later, is_dont_need, is_dont_know, is_end_by, is_gone_entry, counted_in, ends_in}
use Rattle.kmem_model.specs.declared.cache_entry.Said.{Said}
use Rattle.kmem_model.specs.declared.cache_entry.CacheEntry.{CacheEntry}
use Rattle.kmem_model.specs.declared.cache_entry.CacheEntry.TheVariants.{Scan, Begin, Idle, End, Forget}

-- Chains

pub follows-append : (xs ys : List CacheEntry) (s t u : CacheState) → Follows s xs t → Follows t ys u → Follows s (xs ++ ys) u
follows-append [] ys s t u first second = let same : Some s ≡ Some t = first in let is : s ≡ t = cc in subst (λ x. Follows x ys u) (sym is) second
follows-append (x ∷ xs) ys s t u first second =
    let (n, e, rest) = and_then_says (λ next. entered_all next xs) (enter s x) t first in
    ap (option_and_then (λ next. entered_all next (xs ++ ys))) e ∙ follows-append xs ys n t u rest second

-- entries keep a cache whole
pub follows_whole : (es : List CacheEntry) (s t : CacheState) → IsWhole s → Follows s es t → IsWhole t
follows_whole [] s t whole e = let both : Some s ≡ Some t = e in let same : s ≡ t = cc in subst IsWhole same whole
follows_whole (x ∷ xs) s t whole e =
    let (n, e1, e2) = and_then_says (λ next. entered_all next xs) (enter s x) t e in
    follows_whole xs n t (enter_whole s n x whole e1) e2

-- One scan

-- the moves since a course, whose entries lead from there
record HasMoved (start course : Course) : Type 0 where
  moves : List EndedMove
  more : course.moves ≡ start.moves ++ moves
  leads : Follows start.stage.cache (moves_entries moves) course.stage.cache

-- a move that was made is its two entries
move_follows : (stage t : Stage) (move : EndedMove) → after_move stage move ≡ Some t → Follows stage.cache (move_entries move) t.cache
move_follows stage t move e = by_cache (cache_after_move stage.cache move) refl e
  where
    by_begun : (o : Option CacheState) → enter stage.cache (Begin 0 move.from move.to) ≡ o → (c : CacheState) → option_and_then (λ begun. enter begun (End 0 move.said)) o ≡ Some c → option_and_then (λ next. entered_all next (End 0 move.said ∷ [])) o ≡ Some c
    by_begun None is c h = absurd (cc)
    by_begun (Some begun) is c h = ap (option_and_then (λ next. entered_all next [])) h

    by_cache : (o : Option CacheState) → cache_after_move stage.cache move ≡ o → option_map (λ cache. record { cache = cache; says = says_after move.said move.from move.to stage.says }) o ≡ Some t → Follows stage.cache (move_entries move) t.cache
    by_cache None is h = absurd (cc)
    by_cache (Some c) is h =
        let same : c ≡ t.cache = ap (λ (o : Option Stage). option_map_or (λ (x : Stage). x.cache) o c) h in
        by_begun (enter stage.cache (Begin 0 move.from move.to)) refl t.cache (is ∙ ap Some same)

moved_more_on : (start course : Course) (move : EndedMove) (t : Stage) → HasMoved start course → after_move course.stage move ≡ Some t → HasMoved start (with_ended course move t)
moved_more_on start course move t so after =
    record {
      moves = so.moves ++ move ∷ [];
      more = ap (λ ms. ms ++ move ∷ []) so.more ∙ append_assoc start.moves so.moves (move ∷ []);
      leads =
          subst (λ es. Follows start.stage.cache es t.cache) (sym (flat_map-append move_entries so.moves (move ∷ []) ∙ ap (λ es. moves_entries so.moves ++ es) (append-nil (move_entries move))))
          (follows-append (moves_entries so.moves) (move_entries move) start.stage.cache course.stage.cache t.cache so.leads (move_follows course.stage t move after));
    }

pub scan_follows : (stage : Stage) (scan : Course) → IsWholeStage stage → scanned stage ≡ Some scan → Follows stage.cache (scan_made scan) scan.stage.cache
scan_follows stage scan whole e =
    let kept = moved_keeps (HasMoved start) (λ course move t old so next on. moved_more_on start course move t so on.after) (length started.asked + 1) start scan
    (scan_whole stage started whole refl) (record { moves = []; more = refl; leads = refl }) (sym (scan_from stage started refl) ∙ e) in
    let so = kept.1 in
    subst (λ ms. Follows stage.cache (Scan true ∷ (moves_entries ms ++ Idle ∷ [])) scan.stage.cache) (sym so.more)
    (follows-append (moves_entries so.moves) (Idle ∷ []) started scan.stage.cache scan.stage.cache so.leads
    (ap (option_and_then (λ next. entered_all next [])) (ap (λ b. then_some b scan.stage.cache) kept.2)))
  where
    started : CacheState
    started = scan_started stage.cache true

    start : Course
    start = course_at (with_cache stage started)

-- All scans

-- a test that no entry passes but those of moves
record IsOfMoves (is : CacheEntry → Bool) : Type 0 where
  scan : is (Scan true) ≡ false
  idle : is Idle ≡ false
  forget : is Forget ≡ false

count-append : {X : Type 0} (p : X → Bool) (xs ys : List X) → count_by p (xs ++ ys) ≡ count_by p xs + count_by p ys
count-append p [] ys = omega arith
count-append p (x ∷ xs) ys = omega (arith, count-cons p x (xs ++ ys), count-cons p x xs, count-append p xs ys)

scan_counts : (is : CacheEntry → Bool) (scan : Course) → IsOfMoves is → count_by is (scan_made scan) ≡ count_by is (moves_entries scan.moves)
scan_counts is scan of =
    let first : ◌≡◌ {A = ℕ} (cond (is (Scan true)) 1 0) 0 = ap {B = ℕ} (λ b. cond b 1 0) of.scan in
    let last : ◌≡◌ {A = ℕ} (cond (is Idle) 1 0) 0 = ap {B = ℕ} (λ b. cond b 1 0) of.idle in
    omega (arith, first, last, count-cons is (Scan true) (moves_entries scan.moves ++ Idle ∷ []), count-append is (moves_entries scan.moves) (Idle ∷ []), count-cons is Idle [])

-- Rounds

-- an entry that doesn't start a scan
abbrev within_scan : CacheEntry → Bool
within_scan e = not (is_scan e)

-- what a scan makes after its start
abbrev turns : List EndedMove → List CacheEntry
turns moves = scanning (moves_entries moves ++ Idle ∷ [])

turns_idle : (moves : List EndedMove) → ends_idle (turns moves) ≡ true
turns_idle [] = refl
turns_idle (move ∷ []) = refl
turns_idle (move ∷ (next ∷ moves)) = turns_idle (next ∷ moves)

turns_taken : (moves : List EndedMove) (rest : List CacheEntry) → take_while within_scan (turns moves ++ rest) ≡ turns moves ++ take_while within_scan rest
turns_taken [] rest = take_while-cons within_scan Idle rest
turns_taken (move ∷ moves) rest = take_while-cons within_scan (Begin 0 move.from move.to) (turns moves ++ rest) ∙ ap (λ es. Begin 0 move.from move.to ∷ es) (turns_taken moves rest)

turns_skipped : (moves : List EndedMove) (rest : List CacheEntry) → has_rounds (turns moves ++ rest) ≡ has_rounds rest
turns_skipped [] rest = refl
turns_skipped (move ∷ moves) rest = turns_skipped moves rest

-- a scan before others, which begin with a start
scan_rounds : (scan : Course) (rest : List CacheEntry) → take_while within_scan (scanning rest) ≡ [] → has_rounds (scanning rest) ≡ true → has_rounds (scanning (scan_made scan ++ rest)) ≡ true
scan_rounds scan rest anew rounds =
    ap (λ es. has_rounds (Scan true ∷ es)) (filter-append (λ e. is_scan e || is_begin e || is_idle_entry e) (moves_entries scan.moves ++ Idle ∷ []) rest)
    ∙ (ap (λ b. b && has_rounds (turns scan.moves ++ scanning rest)) round ∙ (turns_skipped scan.moves (scanning rest) ∙ rounds))
  where
    round : is_round (take_while within_scan (turns scan.moves ++ scanning rest)) ≡ true
    round =
        ap is_round (turns_taken scan.moves (scanning rest) ∙ (ap (λ es. turns scan.moves ++ es) anew ∙ append-nil (turns scan.moves)))
        ∙ ap (λ b. b || (list_all is_begin (turns scan.moves) && length (turns scan.moves) == 64)) (turns_idle scan.moves)

-- the scans from a course on, with their entries
record HasScanned (n : ℕ) (course result : Course) : Type 0 where
  entries : List CacheEntry
  moves : List EndedMove
  made : scans_made n course.stage ≡ Some entries
  leads : Follows course.stage.cache entries result.stage.cache
  anew : take_while within_scan (scanning entries) ≡ []
  rounds : has_rounds (scanning entries) ≡ true
  more : result.moves ≡ course.moves ++ moves
  counts : (is : CacheEntry → Bool) → IsOfMoves is → count_by is entries ≡ count_by is (moves_entries moves)

scans_turned : (n : ℕ) (stage : Stage) (scan : Course) (b : Bool) → scanned stage ≡ Some scan → is_done scan ≡ b →
    scans_made (suc n) stage ≡ elim b [ true ↦ Some (scan_made scan) | false ↦ option_map (λ es. scan_made scan ++ es) (scans_made n scan.stage) ]
scans_turned n stage scan b e done =
    ap (option_and_then (λ scan. elim (is_done scan) [ true ↦ Some (scan_made scan) | false ↦ option_map (λ es. scan_made scan ++ es) (scans_made n scan.stage) ])) e
    ∙ ap (λ x. elim x [ true ↦ Some (scan_made scan) | false ↦ option_map (λ es. scan_made scan ++ es) (scans_made n scan.stage) ]) done

has_scanned : (n : ℕ) (course result : Course) → IsInSettle course.stage → scanned_in n course ≡ Some result → HasScanned n course result
has_scanned zero course result inside h = absurd (cc)
has_scanned (suc n) course result inside h =
    let (scan, e) = scan_ends course.stage inside.whole in
    let says : IsScanned course.stage scan = scan_says course.stage scan inside e in
    let leads : Follows course.stage.cache (scan_made scan) scan.stage.cache = scan_follows course.stage scan inside.whole e in
    ⊎_elim
    (λ done.
    let both : Some (with_scan course.moves scan) ≡ Some result = sym (scanned_last n course scan e done) ∙ h in
    let same : with_scan course.moves scan ≡ result = cc in
    subst (HasScanned (suc n) course) same
    (record {
      entries = scan_made scan;
      moves = scan.moves;
      made = scans_turned n course.stage scan true e done;
      leads = leads;
      anew = refl;
      rounds = subst (λ es. has_rounds (scanning es) ≡ true) (append-nil (scan_made scan)) (scan_rounds scan [] refl refl);
      more = refl;
      counts = λ is of. scan_counts is scan of;
    }))
    (λ more. scanned_first n course result scan e more leads (has_scanned n (with_scan course.moves scan) result says.inside (sym (scanned_more n course scan e more) ∙ h)))
    (cases_Bool (is_done scan))
  where
    scanned_first : (k : ℕ) (from to scan : Course) → scanned from.stage ≡ Some scan → is_done scan ≡ false → Follows from.stage.cache (scan_made scan) scan.stage.cache → HasScanned k (with_scan from.moves scan) to → HasScanned (suc k) from to
    scanned_first k from to scan e more leads rest =
        record {
          entries = scan_made scan ++ rest.entries;
          moves = scan.moves ++ rest.moves;
          made = scans_turned k from.stage scan false e more ∙ ap (option_map (λ es. scan_made scan ++ es)) rest.made;
          leads = follows-append (scan_made scan) rest.entries from.stage.cache scan.stage.cache to.stage.cache leads rest.leads;
          anew = refl;
          rounds = scan_rounds scan rest.entries rest.anew rest.rounds;
          more = rest.more ∙ append_assoc from.moves scan.moves rest.moves;
          counts = λ is of.
              count-append is (scan_made scan) rest.entries
              ∙ (ap₂ {A = ℕ} {B = ℕ} (λ a b. a + b) (scan_counts is scan of) (rest.counts is of)
              ∙ (sym (count-append is (moves_entries scan.moves) (moves_entries rest.moves)) ∙ sym (ap (count_by is) (flat_map-append move_entries scan.moves rest.moves))));
        }

-- Settle

pub settle_has : (stage : Stage) (course : Course) → IsWholeStage stage → settled stage ≡ Some course → (entries : List CacheEntry) × AreEntriesOf stage course entries
settle_has stage course whole e =
    let so = has_scanned (enough stage) (course_at (with_cache stage cleared)) course (forget_inside stage cleared whole refl) (sym (settled_from (enough stage) stage cleared refl) ∙ e) in (
      Forget ∷ so.entries,
      record {
        made = ap (option_map (λ es. Forget ∷ es)) so.made;
        follows = so.leads;
        rounds = so.rounds;
        ends = ends_same so.entries so.moves course.moves so.more so.counts;
      },
    )
  where
    cleared : CacheState
    cleared = record stage.cache { slabs = map unmarked stage.cache.slabs }

    capped : ℕ → ℕ
    capped n = min n (2 ^ 64 - 1)

    ends_same : (entries : List CacheEntry) (moves all : List EndedMove) → all ≡ [] ++ moves →
        ((is : CacheEntry → Bool) → IsOfMoves is → count_by is entries ≡ count_by is (moves_entries moves)) → ends_in (Forget ∷ entries) ≡ ends_in (moves_entries all)
    ends_same entries moves all same counts =
        let of : (is : CacheEntry → Bool) → IsOfMoves is → counted_in (Forget ∷ entries) is ≡ counted_in (moves_entries all) is = λ is only.
        let first : ◌≡◌ {A = ℕ} (cond (is Forget) 1 0) 0 = ap {B = ℕ} (λ b. cond b 1 0) only.forget in
        let here : count_by is (Forget ∷ entries) ≡ count_by is entries = omega (arith, first, count-cons is Forget entries) in
        ap (λ n. min n (2 ^ 64 - 1)) (here ∙ (counts is only ∙ ap (λ ms. count_by is (moves_entries ms)) (sym same))) in
        let a = of (is_end_by is_yes) (record { scan = refl; idle = refl; forget = refl }) in
        let b = of (is_end_by is_no) (record { scan = refl; idle = refl; forget = refl }) in
        let c = of (is_end_by is_later) (record { scan = refl; idle = refl; forget = refl }) in
        let d = of (is_end_by is_dont_need) (record { scan = refl; idle = refl; forget = refl }) in
        let f = of (is_end_by is_dont_know) (record { scan = refl; idle = refl; forget = refl }) in
        let g = of is_gone_entry (record { scan = refl; idle = refl; forget = refl }) in
        cc

-- Moves, counted by their entries

pub ends_are : (is : Said → Bool) (moves : List EndedMove) → count_by (is_end_by is) (moves_entries moves) ≡ count_by (λ (move : EndedMove). is move.said) moves
ends_are is [] = refl
ends_are is (move ∷ moves) =
    omega (arith, ends_are is moves, count-cons (λ (m : EndedMove). is m.said) move moves, count-cons (is_end_by is) (Begin 0 move.from move.to) (End 0 move.said ∷ moves_entries moves), count-cons (is_end_by is) (End 0 move.said) (moves_entries moves))

pub none_gone : (moves : List EndedMove) → count_by is_gone_entry (moves_entries moves) ≡ 0
none_gone [] = refl
none_gone (move ∷ moves) =
    omega (arith, none_gone moves, count-cons is_gone_entry (Begin 0 move.from move.to) (End 0 move.said ∷ moves_entries moves), count-cons is_gone_entry (End 0 move.said) (moves_entries moves))
