-- What the entries of a mover say of the counts of its work.
use Rattle.std.proofs.Common.{◌≡◌, ℕ, ◌+◌, ◌≤◌, Bool, true, false, List, [], ◌∷◌, length, All, IfSome, Option, Some, None, refl, sym, ap, ◌∙◌, subst, arith, length-append}
use Rattle.std.proofs.lemmas.List.Elements.{All-nil, All-cons}
use Rattle.hist_lock.specs.History.{listed}
use Rattle.hist_lock.specs.Passes.{PassState}
use Rattle.kmem_buf.specs.Answers.{Flags}
use Rattle.kmem_model.specs.CacheScans.{scanning}
use Rattle.kmem_model.specs.CacheCounts.{moves_begun, moves_ended, total}
use Rattle.kmem_model.specs.declared.cache_entry.CacheEntry.{CacheEntry}
use Rattle.kmem_model.specs.declared.cache_entry.CacheEntry.TheVariants.{Alloc, Full, Free, Scan, Begin, Idle, Gone, End, Forget}
use Rattle.kmem_model.specs.declared.cache_entry.Said.TheVariants.{Yes, No, Later, DontNeed, DontKnow}
use Rattle.object_cache.specs.Moves.{JobState}
use Rattle.object_cache.specs.declared.tally.Tally.{Tally}
use Rattle.kmem_cache.specs.declared.locked.CacheHome.{CacheHome}
use Rattle.kmem_cache.specs.Seats.{CacheSite}
use Rattle.move_queue.specs.Queue.{QueueSeatState, HasPopped}
use Rattle.consolidator.specs.Notes.{Notes, noted, noted_all}
use Rattle.consolidator.specs.Rounds.{IsEndOf, IsOfMoves}
use Rattle.consolidator.specs.Works.{HasEnded, HasQueued, HasCarried, Work, HasWorked, AreKept, CountsGiven, IsBalanced}
use Rattle.consolidator.proofs.Working.{entered_same}

-- The entry that ends a job

-- it ends one move and begins none
pub record EndsOne (e : CacheEntry) : Type 0 where
  pub begun : moves_begun e ≡ 0
  pub ended : moves_ended e ≡ 1
  pub kind : IsOfMoves e
  pub calm : scanning (e ∷ []) ≡ []

pub ends_one : (j : ℕ) (e : CacheEntry) → IsEndOf j e → EndsOne e
ends_one j (Alloc b) is = absurd is
ends_one j Full is = absurd is
ends_one j (Free b) is = absurd is
ends_one j (Scan d) is = absurd is
ends_one j (Begin i from to) is = absurd is
ends_one j Idle is = absurd is
ends_one j (Gone i) is = record { begun = refl; ended = refl; kind = tt; calm = refl }
ends_one j (End i said) is = record { begun = refl; ended = refl; kind = tt; calm = refl }
ends_one j Forget is = absurd is

pub ended_is : {X : Type 0} (site : CacheSite) (old new : PassState CacheEntry CacheHome) (job : JobState X) (e : CacheEntry) → HasEnded site old new job e → IsEndOf job.move.no e
ended_is site old new job (Alloc b) is = absurd is
ended_is site old new job Full is = absurd is
ended_is site old new job (Free b) is = absurd is
ended_is site old new job (Scan d) is = absurd is
ended_is site old new job (Begin i from to) is = absurd is
ended_is site old new job Idle is = absurd is
ended_is site old new job (Gone i) is = is
ended_is site old new job (End i said) is = is.0
ended_is site old new job Forget is = absurd is

-- what came back was ended
pub record CameBack (j : ℕ) (back : Option CacheEntry) : Type 0 where
  pub begun : total moves_begun (listed back) ≡ 0
  pub ended : total moves_ended (listed back) ≡ length (listed back)
  pub few : length (listed back) ≤ 1

pub came_back : (j : ℕ) (back : Option CacheEntry) → IfSome back (IsEndOf j) → CameBack j back
came_back j None is = record { begun = refl; ended = refl; few = omega arith }
came_back j (Some e) is =
    let one = ends_one j e is in
    record { begun = omega (arith, one.begun); ended = omega (arith, one.ended); few = omega arith }

-- Counts of the client

-- each grew by so much at most
pub record GrowsLittle (n m : Notes) (by : ℕ) : Type 0 where
  pub brought : m.brought ≤ n.brought + by
  pub fetched : m.fetched ≤ n.fetched + by

pub one_little : (e : CacheEntry) (n : Notes) → GrowsLittle n (noted e n) (moves_ended e)
one_little (End j Yes) n = record { brought = omega arith; fetched = omega arith }
one_little (End j No) n = record { brought = omega arith; fetched = omega arith }
one_little (End j Later) n = record { brought = omega arith; fetched = omega arith }
one_little (End j DontNeed) n = record { brought = omega arith; fetched = omega arith }
one_little (End j DontKnow) n = record { brought = omega arith; fetched = omega arith }
one_little (Alloc b) n = record { brought = omega arith; fetched = omega arith }
one_little Full n = record { brought = omega arith; fetched = omega arith }
one_little (Free b) n = record { brought = omega arith; fetched = omega arith }
one_little (Scan d) n = record { brought = omega arith; fetched = omega arith }
one_little (Begin i from to) n = record { brought = omega arith; fetched = omega arith }
one_little Idle n = record { brought = omega arith; fetched = omega arith }
one_little (Gone i) n = record { brought = omega arith; fetched = omega arith }
one_little Forget n = record { brought = omega arith; fetched = omega arith }

pub all_little : (es : List CacheEntry) (n : Notes) → GrowsLittle n (noted_all es n) (total moves_ended es)
all_little [] n = record { brought = omega arith; fetched = omega arith }
all_little (e ∷ es) n =
    let one = one_little e n in let rest = all_little es (noted e n) in
    record { brought = omega (arith, one.brought, rest.brought); fetched = omega (arith, one.fetched, rest.fetched) }

-- Sums

pub record AddUp (n m : Notes) (begun ended : ℕ) : Type 0 where
  pub lent : m.lent ≡ n.lent + begun
  pub others : m.returned + m.brought + n.fetched ≡ n.returned + n.brought + m.fetched + ended

one_adds : (e : CacheEntry) (n : Notes) → AddUp n (noted e n) (moves_begun e) (moves_ended e)
one_adds (End j Yes) n = record { lent = omega arith; others = omega arith }
one_adds (End j No) n = record { lent = omega arith; others = omega arith }
one_adds (End j Later) n = record { lent = omega arith; others = omega arith }
one_adds (End j DontNeed) n = record { lent = omega arith; others = omega arith }
one_adds (End j DontKnow) n = record { lent = omega arith; others = omega arith }
one_adds (Alloc b) n = record { lent = omega arith; others = omega arith }
one_adds Full n = record { lent = omega arith; others = omega arith }
one_adds (Free b) n = record { lent = omega arith; others = omega arith }
one_adds (Scan d) n = record { lent = omega arith; others = omega arith }
one_adds (Begin i from to) n = record { lent = omega arith; others = omega arith }
one_adds Idle n = record { lent = omega arith; others = omega arith }
one_adds (Gone i) n = record { lent = omega arith; others = omega arith }
one_adds Forget n = record { lent = omega arith; others = omega arith }

pub all_add : (es : List CacheEntry) (n : Notes) → AddUp n (noted_all es n) (total moves_begun es) (total moves_ended es)
all_add [] n = record { lent = omega arith; others = omega arith }
all_add (e ∷ es) n =
    let one = one_adds e n in let rest = all_add es (noted e n) in
    record { lent = omega (arith, one.lent, rest.lent); others = omega (arith, one.others, rest.others) }

pub balance_of : {X : Type 0} (old new : Work X) (es : List CacheEntry) → HasWorked old new es → IsBalanced old new
balance_of old new es worked =
    let sums = all_add es old.notes in let is = worked.entered.noted in
    omega (
      arith,
      sums.lent,
      sums.others,
      ap (λ (n : Notes). n.lent) is,
      ap (λ (n : Notes). n.returned) is,
      ap (λ (n : Notes). n.brought) is,
      ap (λ (n : Notes). n.fetched) is,
      worked.queued.begun,
      worked.queued.ended,
    )

-- Flags

kept_same : (f : Flags) → AreKept f f
kept_same f = record { yes = λ h. h; no = λ h. h; later = λ h. h; dont_need = λ h. h; dont_know = λ h. h }

pub kept_chain : (f g h : Flags) → AreKept f g → AreKept g h → AreKept f h
kept_chain f g h first second =
    record {
      yes = λ x. second.yes (first.yes x);
      no = λ x. second.no (first.no x);
      later = λ x. second.later (first.later x);
      dont_need = λ x. second.dont_need (first.dont_need x);
      dont_know = λ x. second.dont_know (first.dont_know x);
    }

one_kept : (e : CacheEntry) (n : Notes) → AreKept n.flags (noted e n).flags
one_kept (End j Yes) n = record { yes = λ h. refl; no = λ h. h; later = λ h. h; dont_need = λ h. h; dont_know = λ h. h }
one_kept (End j No) n = record { yes = λ h. h; no = λ h. refl; later = λ h. h; dont_need = λ h. h; dont_know = λ h. h }
one_kept (End j Later) n = record { yes = λ h. h; no = λ h. h; later = λ h. refl; dont_need = λ h. h; dont_know = λ h. h }
one_kept (End j DontNeed) n = record { yes = λ h. h; no = λ h. h; later = λ h. h; dont_need = λ h. refl; dont_know = λ h. h }
one_kept (End j DontKnow) n = record { yes = λ h. h; no = λ h. h; later = λ h. h; dont_need = λ h. h; dont_know = λ h. refl }
one_kept (Alloc b) n = kept_same n.flags
one_kept Full n = kept_same n.flags
one_kept (Free b) n = kept_same n.flags
one_kept (Scan d) n = kept_same n.flags
one_kept (Begin i from to) n = kept_same n.flags
one_kept Idle n = kept_same n.flags
one_kept (Gone i) n = kept_same n.flags
one_kept Forget n = kept_same n.flags

pub all_kept : (es : List CacheEntry) (n : Notes) → AreKept n.flags (noted_all es n).flags
all_kept [] n = kept_same n.flags
all_kept (e ∷ es) n = kept_chain n.flags (noted e n).flags (noted_all es (noted e n)).flags (one_kept e n) (all_kept es (noted e n))

given_same : (f : Flags) (t : Tally) → CountsGiven f t t
given_same f t = record { yes = λ h. refl; no = λ h. refl; later = λ h. refl; dont_need = λ h. refl; dont_know = λ h. refl }

one_given : (e : CacheEntry) (n : Notes) → CountsGiven (noted e n).flags n.tally (noted e n).tally
one_given (End j Yes) n = record { yes = λ h. absurd cc; no = λ h. refl; later = λ h. refl; dont_need = λ h. refl; dont_know = λ h. refl }
one_given (End j No) n = record { yes = λ h. refl; no = λ h. absurd cc; later = λ h. refl; dont_need = λ h. refl; dont_know = λ h. refl }
one_given (End j Later) n = record { yes = λ h. refl; no = λ h. refl; later = λ h. absurd cc; dont_need = λ h. refl; dont_know = λ h. refl }
one_given (End j DontNeed) n = record { yes = λ h. refl; no = λ h. refl; later = λ h. refl; dont_need = λ h. absurd cc; dont_know = λ h. refl }
one_given (End j DontKnow) n = record { yes = λ h. refl; no = λ h. refl; later = λ h. refl; dont_need = λ h. refl; dont_know = λ h. absurd cc }
one_given (Alloc b) n = given_same n.flags n.tally
one_given Full n = given_same n.flags n.tally
one_given (Free b) n = given_same n.flags n.tally
one_given (Scan d) n = given_same n.flags n.tally
one_given (Begin i from to) n = record { yes = λ h. refl; no = λ h. refl; later = λ h. refl; dont_need = λ h. refl; dont_know = λ h. refl }
one_given Idle n = given_same n.flags n.tally
one_given (Gone i) n = record { yes = λ h. refl; no = λ h. refl; later = λ h. refl; dont_need = λ h. refl; dont_know = λ h. refl }
one_given Forget n = given_same n.flags n.tally

still_false : (a b : Bool) → (a ≡ true → b ≡ true) → b ≡ false → a ≡ false
still_false true b kept is = absurd (let now = kept refl in cc)
still_false false b kept is = refl

given_chain : (f g : Flags) (t u v : Tally) → AreKept f g → CountsGiven f t u → CountsGiven g u v → CountsGiven g t v
given_chain f g t u v kept first second =
    record {
      yes = λ h. second.yes h ∙ first.yes (still_false f.yes g.yes kept.yes h);
      no = λ h. second.no h ∙ first.no (still_false f.no g.no kept.no h);
      later = λ h. second.later h ∙ first.later (still_false f.later g.later kept.later h);
      dont_need = λ h. second.dont_need h ∙ first.dont_need (still_false f.dont_need g.dont_need kept.dont_need h);
      dont_know = λ h. second.dont_know h ∙ first.dont_know (still_false f.dont_know g.dont_know kept.dont_know h);
    }

pub all_given : (es : List CacheEntry) (n : Notes) → CountsGiven (noted_all es n).flags n.tally (noted_all es n).tally
all_given [] n = given_same n.flags n.tally
all_given (e ∷ es) n =
    let m = noted e n in let o = noted_all es m in
    given_chain m.flags o.flags n.tally m.tally o.tally (all_kept es m) (one_given e n) (all_given es m)

-- the same of a mover's work
pub kept_of : {X : Type 0} (old new : Work X) (es : List CacheEntry) → HasWorked old new es → AreKept old.notes.flags new.notes.flags
kept_of old new es worked = subst (λ (n : Notes). AreKept old.notes.flags n.flags) (sym worked.entered.noted) (all_kept es old.notes)

pub given_of : {X : Type 0} (old new : Work X) (es : List CacheEntry) → HasWorked old new es → CountsGiven new.notes.flags old.notes.tally new.notes.tally
given_of old new es worked = subst (λ (n : Notes). CountsGiven n.flags old.notes.tally n.tally) (sym worked.entered.noted) (all_given es old.notes)

-- A job that was carried, or none

pub record HasCalmly {X : Type 0} (old new : Work X) : Type 0 where
  pub entries : List CacheEntry
  pub worked : HasWorked old new entries
  pub moves : All IsOfMoves entries
  pub calm : scanning entries ≡ []

queued_same : {X : Type 0} (place place' : QueueSeatState X) → place' ≡ record place { done = true } → HasQueued place place' []
queued_same place place' is = record {
  begun = omega (arith, ap (λ p. length p.pushed) is, ap (λ p. p.refused) is);
  ended = omega (arith, ap (λ p. length p.popped) is, ap (λ p. p.refused) is);
  left = omega (arith, ap (λ p. length p.pushed) is, ap (λ p. p.left) is);
  same = (ap (λ p. p.ring) is, ap (λ p. p.count) is, ap (λ p. p.terms) is);
}

queued_popped : {X : Type 0} (place place' : QueueSeatState X) (job : JobState X) (e : CacheEntry) → HasPopped job place place' → EndsOne e → HasQueued place place' (e ∷ [])
queued_popped place place' job e popped one = record {
  begun = omega (arith, one.begun, ap (λ p. length p.pushed) popped.seat, ap (λ p. p.refused) popped.seat);
  ended = omega (
    arith,
    one.ended,
    ap (λ p. length p.popped) popped.seat,
    length-append place.popped ((popped.number, job) ∷ []),
    ap (λ p. p.refused) popped.seat,
  );
  left = omega (arith, ap (λ p. length p.pushed) popped.seat, ap (λ p. p.left) popped.seat);
  same = (ap (λ p. p.ring) popped.seat, ap (λ p. p.count) popped.seat, ap (λ p. p.terms) popped.seat);
}

pub carried_calmly : {X : Type 0} (site : CacheSite) (old new : Work X) (came : Bool) → HasCarried site old new came → HasCalmly old new
carried_calmly site old new true carried =
    let job = carried.0 in let finished = carried.2 in let e = finished.entry in
    let one = ends_one job.move.no e (ended_is site old.seat.pass new.seat.pass job e finished.ended) in
    record {
      entries = e ∷ [];
      worked = record { entered = finished.entered; queued = queued_popped old.place new.place job e carried.1 one };
      moves = All-cons IsOfMoves e [] one.kind (All-nil IsOfMoves);
      calm = one.calm;
    }
carried_calmly site old new false same =
    record {
      entries = [];
      worked = record {
        entered = entered_same old.seat.pass new.seat.pass old.notes new.notes (ap (λ w. w.seat.pass) same) (ap (λ w. w.notes) same);
        queued = queued_same old.place new.place (ap (λ w. w.place) same);
      };
      moves = All-nil IsOfMoves;
      calm = refl;
    }
