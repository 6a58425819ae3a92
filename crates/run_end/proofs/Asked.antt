-- How the moves of a settle are answered, by what its client says.
use Rattle.std.proofs.Common.{◌≡◌, ℕ, zero, suc, ◌+◌, ◌++◌, Bool, true, false, List, [], ◌∷◌, get_or, set, length, All, Option, Some, is_none, option_map, ⊎_elim, not, refl, sym, ap, ◌∙◌, subst}
use Rattle.std.proofs.lemmas.Bool.{cases_lt, cases_eq, cases_Bool, cond-true, cond-false}
use Rattle.std.proofs.lemmas.List.{get_or-set_same, get_or-set_other, set_past}
use Rattle.std.proofs.lemmas.List.Elements.{All-cons, All-append, All-nil, All-head, All-tail}
use Rattle.kmem_model.specs.Settle.{Stage, EndedMove, Course, said_at, says_after, next_move, cache_after_move, after_move, one_move_on, moved_in, moved, scan_begun, scanned, is_done, with_scan, scanned_in, forgotten, settled_in}
use Rattle.kmem_model.specs.CacheState.{CacheState}
use Rattle.kmem_model.specs.Report.{is_no, is_later, is_dont_need}
use Rattle.kmem_model.specs.CacheEnter.{enter}
use Rattle.kmem_model.specs.declared.cache_entry.Said.{Said}
use Rattle.kmem_model.specs.declared.cache_entry.Said.TheVariants.{Yes, No, Later, DontNeed, DontKnow}
use Rattle.kmem_model.specs.declared.cache_entry.CacheEntry.TheVariants.{Scan, Forget}
use Rattle.kmem_model.proofs.CacheChoices.{map_says}
use Rattle.kmem_model.proofs.PlacesKept.{and_then_says}
use Rattle.kmem_model.proofs.SettleKept.{IsNext, next_says}
use Rattle.object_cache.specs.declared.tally.Tally.{Tally}
use Rattle.consolidator.specs.Tallies.{counted, counted_all, tally_of}

-- every answer of the client is among these
abbrev pub AreAmong : (Said → Bool) → Stage → Type 0
AreAmong among stage = (b : ℕ) → among (said_at stage b) ≡ true

-- the answers of these moves are
abbrev pub WereAmong : (Said → Bool) → List EndedMove → Type 0
WereAmong among moves = All (λ (m : EndedMove). among m.said ≡ true) moves

module _ (among : Said → Bool) (unknown : among DontKnow ≡ true) where
  among_set : (says : List Said) (i b : ℕ) (said : Said) → among said ≡ true → among (get_or says b DontKnow) ≡ true → among (get_or (set says i said) b DontKnow) ≡ true
  among_set says i b said new old =
      ⊎_elim
      (λ same.
      ⊎_elim (λ below. ap (λ n. among (get_or (set says i said) n DontKnow)) same ∙ (ap among (get_or-set_same says i said DontKnow below) ∙ new))
      (λ past. ap (λ xs. among (get_or xs b DontKnow)) (set_past says i said past) ∙ old)
      (cases_lt i (length says)))
      (λ other. ap among (get_or-set_other says i b said DontKnow other) ∙ old)
      (cases_eq b i)

  among_after : (said : Said) (from to : ℕ) (says : List Said) → ((b : ℕ) → among (get_or says b DontKnow) ≡ true) →
      (b : ℕ) → among (get_or (says_after said from to says) b DontKnow) ≡ true
  among_after Yes from to says all b =
      among_set (set says to (get_or says from DontKnow)) from b DontKnow unknown (among_set says to b (get_or says from DontKnow) (all from) (all b))
  among_after No from to says all b = all b
  among_after Later from to says all b = all b
  among_after DontNeed from to says all b = among_set says from b DontKnow unknown (all b)
  among_after DontKnow from to says all b = all b

  -- a course so far
  pub record IsAmong (course : Course) : Type 0 where
    pub next : AreAmong among course.stage
    pub made : WereAmong among course.moves

  one_among : (course next : Course) → IsAmong course → one_move_on course ≡ Some next → IsAmong next
  one_among course next on e =
      let (move, chosen, g) = and_then_says (λ (move : EndedMove). option_map (λ (stage : Stage). record { stage = stage; moves = course.moves ++ move ∷ [] }) (after_move course.stage move)) (next_move course.stage) next e in
      let (stage, after, same) = map_says (λ (stage : Stage). with_move course move stage) (after_move course.stage move) next g in
      let (cache, there, is) = map_says (λ (cache : CacheState). told course move cache) (cache_after_move course.stage.cache move) stage after in
      let n : IsNext course.stage move.from move.to move.said = next_says course.stage move chosen in
      let said : among move.said ≡ true = ap among n.answer ∙ on.next move.from in
      subst IsAmong same
      (record {
        next = λ b. ap (λ (x : Stage). among (said_at x b)) (sym is) ∙ among_after move.said move.from move.to course.stage.says on.next b;
        made = All-append (λ (m : EndedMove). among m.said ≡ true) course.moves (move ∷ []) on.made (All-cons (λ (m : EndedMove). among m.said ≡ true) move [] said (All-nil (λ (m : EndedMove). among m.said ≡ true)));
      })
    where
      with_move : Course → EndedMove → Stage → Course
      with_move course move stage = record { stage = stage; moves = course.moves ++ move ∷ [] }

      told : Course → EndedMove → CacheState → Stage
      told course move cache = record { cache = cache; says = says_after move.said move.from move.to course.stage.says }

  moved_among : (n : ℕ) (course r : Course) → IsAmong course → moved_in n course ≡ Some r → IsAmong r
  moved_among zero course r on e = absurd (cc)
  moved_among (suc n) course r on e =
      ⊎_elim (λ (stop : is_none (next_move course.stage) ≡ true).
      let same : Some course ≡ Some r = sym (cond-true (is_none (next_move course.stage)) (Some course) _ stop) ∙ e in
      let is : course ≡ r = cc in
      subst IsAmong is on)
      (λ (go : is_none (next_move course.stage) ≡ false).
      let (next, one, rest) = and_then_says (λ (next : Course). moved_in n next) (one_move_on course) r (sym (cond-false (is_none (next_move course.stage)) (Some course) _ go) ∙ e) in
      moved_among n next r (one_among course next on one) rest)
      (cases_Bool (is_none (next_move course.stage)))

  scan_among : (stage : Stage) (scan : Course) → AreAmong among stage → scanned stage ≡ Some scan → IsAmong scan
  scan_among stage scan next e =
      let (begun, start, rest) = and_then_says moved (scan_begun stage) scan e in
      let (cache, there, is) = map_says (λ (cache : CacheState). record { stage = record stage { cache = cache }; moves = [] }) (enter stage.cache (Scan true)) begun start in
      moved_among (length begun.stage.cache.asked + 1) begun scan
      (subst IsAmong is (record { next = next; made = All-nil (λ (m : EndedMove). among m.said ≡ true) })) rest

  scans_among : (n : ℕ) (course r : Course) → IsAmong course → scanned_in n course ≡ Some r → IsAmong r
  scans_among zero course r on e = absurd (cc)
  scans_among (suc n) course r on e =
      let (scan, one, rest) = and_then_says (λ (scan : Course). elim (is_done scan) [ true ↦ Some (with_scan course.moves scan) | false ↦ scanned_in n (with_scan course.moves scan) ]) (scanned course.stage) r e in
      let s : IsAmong scan = scan_among course.stage scan on.next one in
      let all : IsAmong (with_scan course.moves scan) = record { next = s.next; made = All-append (λ (m : EndedMove). among m.said ≡ true) course.moves scan.moves on.made s.made } in
      ended r (with_scan course.moves scan) all (scanned_in n (with_scan course.moves scan)) (λ h. scans_among n (with_scan course.moves scan) r all h) (is_done scan) rest
    where
      ended : (r next : Course) → IsAmong next → (more : Option Course) → (more ≡ Some r → IsAmong r) → (b : Bool) → (elim b [ true ↦ Some next | false ↦ more ]) ≡ Some r → IsAmong r
      ended r next on more goes true h = let is : next ≡ r = cc in subst IsAmong is on
      ended r next on more goes false h = goes h

  -- where all answers are among these before a settle, all moves of it are answered so
  pub settled_among : (n : ℕ) (stage : Stage) (r : Course) → AreAmong among stage → settled_in n stage ≡ Some r → WereAmong among r.moves
  settled_among n stage r next e =
      let (course, start, rest) = and_then_says (λ (course : Course). scanned_in n course) (forgotten stage) r e in
      let (cache, there, is) = map_says (λ (cache : CacheState). record { stage = record stage { cache = cache }; moves = [] }) (enter stage.cache Forget) course start in
      (scans_among n course r (subst IsAmong is (record { next = next; made = All-nil (λ (m : EndedMove). among m.said ≡ true) })) rest).made

-- a count that none of these answers raises stands still
module _ (among : Said → Bool) (field : Tally → ℕ) (keeps : (t : Tally) (said : Said) → among said ≡ true → field (counted t said) ≡ field t) where
  kept_all : (t : Tally) (moves : List EndedMove) → WereAmong among moves → field (counted_all t moves) ≡ field t
  kept_all t [] all = refl
  kept_all t (m ∷ moves) all =
      kept_all (counted t m.said) moves (All-tail (λ (x : EndedMove). among x.said ≡ true) m moves all)
      ∙ keeps t m.said (All-head (λ (x : EndedMove). among x.said ≡ true) m moves all)

-- the answers but one
abbrev pub is_other_than : (Said → Bool) → Said → Bool
is_other_than is said = not (is said)

pub none_later : (moves : List EndedMove) → WereAmong (is_other_than is_later) moves → (tally_of moves).later ≡ 0
none_later moves all = kept_all (is_other_than is_later) (λ t. t.later) keeps (tally_of []) moves all
  where
    keeps : (t : Tally) (said : Said) → is_other_than is_later said ≡ true → (counted t said).later ≡ t.later
    keeps t Yes e = refl
    keeps t No e = refl
    keeps t Later e = absurd (cc)
    keeps t DontNeed e = refl
    keeps t DontKnow e = refl

pub none_refused : (moves : List EndedMove) → WereAmong (is_other_than is_no) moves → (tally_of moves).no ≡ 0
none_refused moves all = kept_all (is_other_than is_no) (λ t. t.no) keeps (tally_of []) moves all
  where
    keeps : (t : Tally) (said : Said) → is_other_than is_no said ≡ true → (counted t said).no ≡ t.no
    keeps t Yes e = refl
    keeps t No e = absurd (cc)
    keeps t Later e = refl
    keeps t DontNeed e = refl
    keeps t DontKnow e = refl

pub none_unneeded : (moves : List EndedMove) → WereAmong (is_other_than is_dont_need) moves → (tally_of moves).dont_need ≡ 0
none_unneeded moves all = kept_all (is_other_than is_dont_need) (λ t. t.dont_need) keeps (tally_of []) moves all
  where
    keeps : (t : Tally) (said : Said) → is_other_than is_dont_need said ≡ true → (counted t said).dont_need ≡ t.dont_need
    keeps t Yes e = refl
    keeps t No e = refl
    keeps t Later e = refl
    keeps t DontNeed e = absurd (cc)
    keeps t DontKnow e = refl
