-- One scan of settle: that it ends, and what it leaves.
use Rattle.std.proofs.Common.{◌≡◌, ℕ, zero, suc, ◌+◌, ◌<◌, ◌&&◌, ◌++◌, not, Bool, true, false, cond, [], ◌∷◌, length, Option, Some, None, is_some, is_none, option_map, option_and_then, inl, inr, ◌⊎◌, ⊎_elim, sym, ◌∙◌, ap, ap₂, refl, subst, arith, add-one}
use Rattle.std.specs.Bool.{then_some}
use Rattle.std.proofs.lemmas.Bool.{cond-true, cond-false, and_parts, not-true}
use Rattle.std.proofs.lemmas.List.Sums.{count_by-le-length}
use Rattle.kmem_model.proofs.PlacesKept.{then_some_says, and_then_says}
use Rattle.kmem_model.proofs.CacheChoices.{is_the_says}
use Rattle.kmem_model.proofs.CacheNext.{begin_or_idle}
use Rattle.kmem_model.proofs.SettleWhole.{enter_whole}
use Rattle.kmem_model.proofs.SettleMove.{Chosen, choice_says, slabs_after, moved_on, move_is, free_number_zero, out_begun}
use Rattle.kmem_model.proofs.SettleKept.{IsNext, next_says, next_from, IsMovedOn, MovesOn, moves_on, next_known}
use Rattle.kmem_model.specs.CacheState.{CacheState, is_out}
use Rattle.kmem_model.specs.CacheOrder.{is_the, first_partial_free, chosen, free_number, is_idle}
use Rattle.kmem_model.specs.CacheEnter.{with_move, scan_started, may_begin, enter}
use Rattle.kmem_model.specs.CacheHistory.{MayEnter, MayBegin}
use Rattle.kmem_model.specs.Settle.{Stage, EndedMove, Course, said_at, next_move, after_move, cache_after_move, one_move_on, moved_in, moved, scanned}
use Rattle.kmem_model.specs.SettleWhole.{IsWholeStage, is_known}
use Rattle.kmem_model.specs.SettleMeasure.{moves_left}
use Rattle.kmem_model.specs.SettleTurns.{with_cache, course_at, stage_moved, course_moved, IsMoveOn}
use Rattle.kmem_model.specs.declared.cache_state.PendingMove.{PendingMove}
use Rattle.kmem_model.specs.declared.cache_entry.Said.{Said}
use Rattle.kmem_model.specs.declared.cache_entry.CacheEntry.TheVariants.{Scan, Begin, End}

-- A move that begins

-- what a legal Begin says
pub begin_next : (stage : Stage) (j from to : ℕ) (begun : CacheState) → IsWholeStage stage → enter stage.cache (Begin j from to) ≡ Some begun →
    (j ≡ 0) × IsNext stage from to (said_at stage from)
begin_next stage j from to begun whole e =
    (number, record { busy = not-true (is_idle s) (and_parts _ _ more.0).0; old = is_the_says (chosen s) from more.1; new = is_the_says (first_partial_free s.chunks s.slabs) to parts.1; answer = refl })
  where
    s : CacheState
    s = stage.cache

    m : PendingMove
    m = record { from = from; to = to }

    parts : ((not (is_idle s) && is_the (free_number s) j && is_the (chosen s) from) ≡ true)
        × (is_the (first_partial_free s.chunks s.slabs) to ≡ true)
    parts = and_parts _ _ (then_some_says (may_begin s j m) (with_move s j m) begun e).0

    more : ((not (is_idle s) && is_the (free_number s) j) ≡ true) × (is_the (chosen s) from ≡ true)
    more = and_parts _ _ parts.0

    number : j ≡ 0
    number =
        let same : Some j ≡ Some 0 = sym (is_the_says (free_number s) j (and_parts (not (is_idle s)) (is_the (free_number s) j) more.0).1) ∙ free_number_zero s whole.cache whole.calm in
        cc

-- where there is no next move the cache is idle
pub idle_from_none : (stage : Stage) → IsWholeStage stage → next_move stage ≡ None → is_idle stage.cache ≡ true
idle_from_none stage whole none =
    ⊎_elim begins (λ idle. legal_idle (is_idle s) stage.cache idle) (begin_or_idle s).one
  where
    s : CacheState
    s = stage.cache

    legal_idle : (b : Bool) (t : CacheState) → is_some (then_some b t) ≡ true → b ≡ true
    legal_idle true t e = refl
    legal_idle false t e = absurd (cc)

    some_of : (o : Option CacheState) → is_some o ≡ true → (t : CacheState) × (o ≡ Some t)
    some_of None e = absurd (cc)
    some_of (Some t) e = (t, refl)

    none_some : (move : EndedMove) → None ≡ Some move → ⊥
    none_some move e = cc

    begins : MayBegin s → is_idle s ≡ true
    begins (j, from, to, legal) =
        let (begun, e) = some_of (enter s (Begin j from to)) legal in
        absurd
        (none_some (record { from = from; to = to; said = said_at stage from })
        (sym none ∙ next_from stage from to (said_at stage from) (begin_next stage j from to begun whole e).1))

pub none_from_idle : (stage : Stage) → is_idle stage.cache ≡ true → next_move stage ≡ None
none_from_idle stage idle = cond-true (is_idle stage.cache) None _ idle

-- Turns

move_cases : (o : Option EndedMove) → ((move : EndedMove) × (o ≡ Some move)) ⊎ (o ≡ None)
move_cases None = inr refl
move_cases (Some move) = inl (move, refl)

-- the scan stops
moved_none : (n : ℕ) (course : Course) → next_move course.stage ≡ None → moved_in (suc n) course ≡ Some course
moved_none n course none = cond-true (is_none (next_move course.stage)) (Some course) _ (ap is_none none)

-- by this move more
abbrev pub with_ended : Course → EndedMove → Stage → Course
with_ended course move t = record { stage = t; moves = course.moves ++ move ∷ [] }

-- the scan goes on
moved_more : (n : ℕ) (course : Course) (move : EndedMove) (t : Stage) → next_move course.stage ≡ Some move → after_move course.stage move ≡ Some t →
    moved_in (suc n) course ≡ moved_in n (with_ended course move t)
moved_more n course move t next after =
    cond-false (is_none (next_move course.stage)) (Some course) (option_and_then (λ c. moved_in n c) (one_move_on course)) (ap is_none next)
    ∙ ap (option_and_then (λ c. moved_in n c)) one
  where
    one : one_move_on course ≡ Some (with_ended course move t)
    one =
        ap
        (option_and_then
        (λ m. option_map (λ stage. record { stage = stage; moves = course.moves ++ m ∷ [] }) (after_move course.stage m)))
        next
        ∙ ap (option_map (λ stage. record { stage = stage; moves = course.moves ++ move ∷ [] })) after

-- the next move of a whole stage, with what it leaves
pub turn : (stage : Stage) (move : EndedMove) → IsWholeStage stage → next_move stage ≡ Some move → MovesOn stage move.from move.to move.said
turn stage move whole next = moves_on stage move.from move.to move.said whole (next_says stage move next)

-- any numbers of turns that are enough do the same
pub moved_enough : (m n : ℕ) (course : Course) → IsWholeStage course.stage → moves_left course.stage < m → moves_left course.stage < n →
    moved_in m course ≡ moved_in n course
moved_enough zero n course whole a b = absurd (omega arith)
moved_enough (suc m) zero course whole a b = absurd (omega arith)
moved_enough (suc m) (suc n) course whole a b =
    ⊎_elim
    (λ (move, next).
    let on : MovesOn course.stage move.from move.to move.said = turn course.stage move whole next in
    moved_more m course move on.stage_after next on.moved.after
    ∙ (moved_enough m n (with_ended course move on.stage_after) on.moved.whole (omega (arith, on.moved.fewer)) (omega (arith, on.moved.fewer))
    ∙ sym (moved_more n course move on.stage_after next on.moved.after)))
    (λ none. moved_none m course none ∙ sym (moved_none n course none))
    (move_cases (next_move course.stage))

-- enough turns come to an end
pub moved_ends : (n : ℕ) (course : Course) → IsWholeStage course.stage → moves_left course.stage < n → (r : Course) × (moved_in n course ≡ Some r)
moved_ends zero course whole a = absurd (omega arith)
moved_ends (suc n) course whole a =
    ⊎_elim
    (λ (move, next).
    let on : MovesOn course.stage move.from move.to move.said = turn course.stage move whole next in
    let (r, e) = moved_ends n (with_ended course move on.stage_after) on.moved.whole (omega (arith, on.moved.fewer)) in
    (r, moved_more n course move on.stage_after next on.moved.after ∙ e))
    (λ none. (course, moved_none n course none))
    (move_cases (next_move course.stage))

-- what each move keeps holds at the end
pub moved_keeps : (P : Course → Type 0) →
    ((course : Course) (move : EndedMove) (t : Stage) → IsWholeStage course.stage → P course → IsNext course.stage move.from move.to move.said →
    IsMovedOn course.stage t move.from move.to move.said → P (with_ended course move t)) →
    (n : ℕ) (course r : Course) → IsWholeStage course.stage → P course → moved_in n course ≡ Some r →
    IsWholeStage r.stage × P r × (is_idle r.stage.cache ≡ true)
moved_keeps P step zero course r whole p e = absurd (cc)
moved_keeps P step (suc n) course r whole p e =
    ⊎_elim
    (λ (move, next).
    let on : MovesOn course.stage move.from move.to move.said = turn course.stage move whole next in
    moved_keeps P step n (with_ended course move on.stage_after) r on.moved.whole
    (step course move on.stage_after whole p (next_says course.stage move next) on.moved)
    (sym (moved_more n course move on.stage_after next on.moved.after) ∙ e))
    (λ none.
    let same : Some course ≡ Some r = sym (moved_none n course none) ∙ e in
    let is : course ≡ r = cc in
    subst (λ c. IsWholeStage c.stage × P c × (is_idle c.stage.cache ≡ true)) is (whole, p, idle_from_none course.stage whole none))
    (move_cases (next_move course.stage))

pub moves_fit : (stage : Stage) → moves_left stage < length stage.cache.asked + 1
moves_fit stage = omega (arith, count_by-le-length (λ asked. cond asked false true) stage.cache.asked)

-- The laws of a scan's loop

pub idle_stops : (course : Course) → is_idle course.stage.cache ≡ true → moved course ≡ Some course
idle_stops course idle =
    ap (λ n. moved_in n course) (add-one (length course.stage.cache.asked))
    ∙ moved_none (length course.stage.cache.asked) course (none_from_idle course.stage idle)

pub move_goes_on : (course : Course) (move : EndedMove) (t : Stage) → IsWholeStage course.stage → next_move course.stage ≡ Some move →
    IsMovedOn course.stage t move.from move.to move.said → IsMoveOn course (with_ended course move t)
move_goes_on course move t whole next on =
    record {
      whole = on.whole;
      fewer = on.fewer;
      same =
          moved_enough (length t.cache.asked + 1) (length course.stage.cache.asked) (with_ended course move t) on.whole (moves_fit t)
          (omega (arith, on.fewer, moves_fit course.stage))
          ∙ (sym (moved_more (length course.stage.cache.asked) course move t next on.after)
          ∙ sym (ap (λ n. moved_in n course) (add-one (length course.stage.cache.asked))));
    }

pub scan_whole : (stage : Stage) (t : CacheState) → IsWholeStage stage → enter stage.cache (Scan true) ≡ Some t → IsWholeStage (with_cache stage t)
scan_whole stage t whole e =
    let same : scan_started stage.cache true ≡ t = cc in
    subst (λ x. IsWholeStage (with_cache stage x)) same
    (record {
      cache = enter_whole stage.cache (scan_started stage.cache true) (Scan true) whole.cache refl;
      calm = whole.calm;
      says = whole.says;
      known = whole.known;
    })

pub scan_from : (stage : Stage) (t : CacheState) → enter stage.cache (Scan true) ≡ Some t → scanned stage ≡ moved (course_at (with_cache stage t))
scan_from stage t e = ap (λ o. option_and_then moved (option_map (λ cache. course_at (with_cache stage cache)) o)) e

-- the move that begins and ends in the cache is the next one
pub move_made : (course : Course) (j from to : ℕ) (begun ended : CacheState) → IsWholeStage course.stage →
    enter course.stage.cache (Begin j from to) ≡ Some begun → enter begun (End j (said_at course.stage from)) ≡ Some ended →
    IsMoveOn course (course_moved course from to ended)
move_made course j from to begun ended whole begins ends =
    subst (λ t. IsMoveOn course (with_ended course move t)) same
    (move_goes_on course move on.stage_after whole (next_from course.stage from to said (begin_next course.stage j from to begun whole begins).1) on.moved)
  where
    said : Said
    said = said_at course.stage from

    move : EndedMove
    move = record { from = from; to = to; said = said }

    number : j ≡ 0
    number = (begin_next course.stage j from to begun whole begins).0

    on : MovesOn course.stage from to said
    on = moves_on course.stage from to said whole (begin_next course.stage j from to begun whole begins).1

    cache : cache_after_move course.stage.cache move ≡ Some ended
    cache =
        ap (option_and_then (λ b. enter b (End 0 said))) (ap (λ i. enter course.stage.cache (Begin i from to)) (sym number) ∙ begins)
        ∙ (ap (λ i. enter begun (End i said)) (sym number) ∙ ends)

    after : after_move course.stage move ≡ Some (stage_moved course.stage from to ended)
    after = ap (option_map (λ c. stage_moved course.stage from to c)) cache

    same : on.stage_after ≡ stage_moved course.stage from to ended
    same = let both : Some on.stage_after ≡ Some (stage_moved course.stage from to ended) = sym on.moved.after ∙ after in cc

-- any answer may end the move that begins
pub end_legal : (stage : Stage) (j from to : ℕ) (begun : CacheState) (said : Said) → IsWholeStage stage →
    enter stage.cache (Begin j from to) ≡ Some begun → MayEnter begun (End j said)
end_legal stage j from to begun said whole begins =
    let next : IsNext stage from to (said_at stage from) = (begin_next stage j from to begun whole begins).1 in
    let chosen : Chosen stage.cache from to = choice_says stage.cache from to next.old next.new in
    let (b, e1, e2) = and_then_says (λ b. enter b (End 0 said)) (enter stage.cache (Begin 0 from to)) (ended chosen) (ended_is next chosen) in
    let number : j ≡ 0 = (begin_next stage j from to begun whole begins).0 in
    let both : Some b ≡ Some begun = sym e1 ∙ (ap (λ i. enter stage.cache (Begin i from to)) (sym number) ∙ begins) in
    let same : b ≡ begun = cc in
    ap₂ (λ (c : CacheState) i. is_some (enter c (End i said))) (sym same) number ∙ ap is_some e2
  where
    ended : Chosen stage.cache from to → CacheState
    ended chosen = moved_on stage.cache from to (slabs_after said stage.cache.slabs chosen.x chosen.kx chosen.f chosen.kf)

    ended_is : IsNext stage from to (said_at stage from) → (chosen : Chosen stage.cache from to) →
        cache_after_move stage.cache (record { from = from; to = to; said = said }) ≡ Some (ended chosen)
    ended_is next chosen =
        move_is stage.cache whole.cache whole.calm from to chosen.x chosen.kx chosen.f chosen.kf chosen.choice said next.busy next.old next.new

-- the client knows the object at the old buffer
pub begin_known : (stage : Stage) (j from to : ℕ) (begun : CacheState) → IsWholeStage stage →
    enter stage.cache (Begin j from to) ≡ Some begun → is_known (said_at stage from) ≡ true
begin_known stage j from to begun whole begins =
    let next : IsNext stage from to (said_at stage from) = (begin_next stage j from to begun whole begins).1 in
    next_known stage from to (said_at stage from) whole next

-- the old buffer stays out when the move begins
pub begin_out : (stage : Stage) (j from to : ℕ) (begun : CacheState) → IsWholeStage stage →
    enter stage.cache (Begin j from to) ≡ Some begun → is_out begun from ≡ true
begin_out stage j from to begun whole begins =
    let next : IsNext stage from to (said_at stage from) = (begin_next stage j from to begun whole begins).1 in
    let chosen : Chosen stage.cache from to = choice_says stage.cache from to next.old next.new in
    out_begun stage.cache whole.cache whole.calm from to chosen.x chosen.kx chosen.f chosen.kf chosen.choice begun next.busy next.old next.new
    (ap (λ i. enter stage.cache (Begin i from to)) (sym (begin_next stage j from to begun whole begins).0) ∙ begins)
