-- The moves of a scan, one after another.
use Rattle.std.proofs.Common.{◌≡◌, ℕ, ◌+◌, ◌≤◌, ◌<◌, Bool, true, false, List, [], ◌∷◌, ◌++◌, length, All, Some, None, refl, sym, ap, ◌∙◌, subst, inl, inr, arith, length-append}
use Rattle.std.specs.List.{flat_map}
use Rattle.std.proofs.lemmas.List.{append-nil}
use Rattle.std.proofs.lemmas.List.Concat.{flat_map-append}
use Rattle.std.proofs.lemmas.List.Elements.{All-nil, All-cons, All-append}
use Rattle.hist_lock.specs.History.{listed}
use Rattle.kmem_model.specs.declared.cache_entry.CacheEntry.{CacheEntry}
use Rattle.kmem_model.specs.declared.cache_entry.CacheEntry.TheVariants.{Scan, Begin, Idle}
use Rattle.object_cache.specs.Moves.{JobState}
use Rattle.kmem_cache.specs.Seats.{CacheSite, CacheSeatState, HasActed}
use Rattle.move_queue.specs.Queue.{HasPushed}
use Rattle.consolidator.specs.Notes.{Notes, noted}
use Rattle.consolidator.specs.Rounds.{IsEndOf}
use Rattle.consolidator.specs.Works.{HasQueued, HasSameMagazines, HasFinished, Work, HasWorked, Tried, IsTried, entries_of_try, HasScanned}
use Rattle.consolidator.specs.Tries.{HasPut, HasTried}
use Rattle.consolidator.proofs.Working.{entered_chain, entered_one, entered_same, worked_chain}
use Rattle.consolidator.proofs.Counts.{ends_one, ended_is, came_back, one_little}

-- One move

-- the queue took the job
pub put_pushed : {X : Type 0} (old new : Work X) (job : JobState X) → 1 ≤ old.place.left → HasPushed job old.place new.place → new.seat ≡ old.seat → new.notes ≡ old.notes → HasPut job.move.no old new
put_pushed old new job some pushed seat notes = record {
  back = None;
  tried = tt;
  entered = entered_same old.seat.pass new.seat.pass old.notes new.notes (ap (λ (s : CacheSeatState). s.pass) seat) notes;
  pushed = omega (arith, ap (λ p. length p.pushed) pushed.seat, length-append old.place.pushed ((pushed.number, job) ∷ []));
  refused = omega (arith, ap (λ p. p.refused) pushed.seat);
  popped = ap (λ p. p.popped) pushed.seat;
  left = omega (
    arith,
    some,
    ap (λ p. p.left) pushed.seat,
    ap (λ p. length p.pushed) pushed.seat,
    length-append old.place.pushed ((pushed.number, job) ∷ []),
  );
  same = (ap (λ p. p.ring) pushed.seat, ap (λ p. p.count) pushed.seat, ap (λ p. p.terms) pushed.seat);
  magazines = (ap (λ (s : CacheSeatState). s.rounds) seat, ap (λ (s : CacheSeatState). s.depot) seat);
  brought = omega (arith, ap (λ (n : Notes). n.brought) notes);
  fetched = omega (arith, ap (λ (n : Notes). n.fetched) notes);
}

-- the queue handed the job back, and it was ended
pub put_back : {X : Type 0} (site : CacheSite) (old new : Work X) (job back : JobState X) → back ≡ job → new.place ≡ record old.place { refused = old.place.refused + 1 } →
    HasFinished site old.seat new.seat old.notes new.notes back → HasPut job.move.no old new
put_back site old new job back is place finished =
    let e = finished.entry in let little = one_little e old.notes in
    let is_end = ended_is site old.seat.pass new.seat.pass back e finished.ended in let one = ends_one back.move.no e is_end in
    record {
      back = Some e;
      tried = subst (λ j. IsEndOf j.move.no e) is is_end;
      entered = finished.entered;
      pushed = omega (arith, ap (λ p. length p.pushed) place);
      refused = omega (arith, ap (λ p. p.refused) place);
      popped = ap (λ p. p.popped) place;
      left = omega (arith, ap (λ p. length p.pushed) place, ap (λ p. p.left) place);
      same = (ap (λ p. p.ring) place, ap (λ p. p.count) place, ap (λ p. p.terms) place);
      magazines = finished.magazines;
      brought = omega (arith, one.ended, little.brought, ap (λ (n : Notes). n.brought) finished.entered.noted);
      fetched = omega (arith, one.ended, little.fetched, ap (λ (n : Notes). n.fetched) finished.entered.noted);
    }

-- a move was begun, and its job was put
pub tried_one : {X : Type 0} (old mid new : Work X) (j from to : ℕ) → HasActed old.seat.pass mid.seat.pass (Some (Begin j from to)) →
    mid.seat ≡ record old.seat { pass = mid.seat.pass; lent = old.seat.lent + 1 } → mid.place ≡ old.place → mid.notes ≡ noted (Begin j from to) old.notes →
    HasPut j mid new → HasTried old new true
tried_one old mid new j from to acted seat place notes put =
    let t : Tried = record { no = j; from = from; to = to; back = put.back } in
    let back = came_back j put.back put.tried in
    let entered = entered_chain old.seat.pass mid.seat.pass new.seat.pass old.notes mid.notes new.notes (Begin j from to ∷ []) (listed put.back)
    (entered_one old.seat.pass mid.seat.pass old.notes mid.notes (Begin j from to) acted tt notes) put.entered in
    let queued : HasQueued old.place new.place (entries_of_try t) = record {
      begun = omega (arith, put.pushed, put.refused, back.begun, ap (λ p. length p.pushed) place, ap (λ p. p.refused) place);
      ended = omega (arith, put.refused, back.ended, ap length put.popped, ap (λ p. length p.popped) place, ap (λ p. p.refused) place);
      left = omega (arith, put.left, ap (λ p. length p.pushed) place, ap (λ p. p.left) place);
      same = (put.same.0 ∙ ap (λ p. p.ring) place, put.same.1 ∙ ap (λ p. p.count) place, put.same.2 ∙ ap (λ p. p.terms) place);
    } in (
      t,
      put.tried,
      record { entered = entered; queued = queued },
      put.popped ∙ ap (λ p. p.popped) place,
      (put.magazines.0 ∙ ap (λ (s : CacheSeatState). s.rounds) seat, put.magazines.1 ∙ ap (λ (s : CacheSeatState). s.depot) seat),
      record {
        seat = omega (arith, entered.left, back.few);
        place = omega (arith, put.left, put.pushed, ap (λ p. length p.pushed) place, ap (λ p. p.left) place);
        refused = omega (arith, put.refused, back.few, ap (λ p. p.refused) place);
        brought = omega (arith, put.brought, ap (λ (n : Notes). n.brought) notes);
        fetched = omega (arith, put.fetched, ap (λ (n : Notes). n.fetched) notes);
      },
    )

-- A scan so far

-- so many moves were begun
pub record HasTriedAll {X : Type 0} (desperate : Bool) (count : ℕ) (old new : Work X) : Type 0 where
  pub moves : List Tried
  pub each : All IsTried moves
  pub many : length moves ≡ count
  pub worked : HasWorked old new (Scan desperate ∷ flat_map entries_of_try moves)
  pub popped : new.place.popped ≡ old.place.popped
  pub magazines : HasSameMagazines old.seat new.seat

pub tried_start : {X : Type 0} (desperate : Bool) (old new : Work X) → HasActed old.seat.pass new.seat.pass (Some (Scan desperate)) →
    new.seat ≡ record old.seat { pass = new.seat.pass } → new.place ≡ old.place → new.notes ≡ old.notes → HasTriedAll desperate 0 old new
tried_start desperate old new acted seat place notes = record {
  moves = [];
  each = All-nil IsTried;
  many = refl;
  worked = record {
    entered = entered_one old.seat.pass new.seat.pass old.notes new.notes (Scan desperate) acted tt notes;
    queued = record {
      begun = omega (arith, ap (λ p. length p.pushed) place, ap (λ p. p.refused) place);
      ended = omega (arith, ap (λ p. length p.popped) place, ap (λ p. p.refused) place);
      left = omega (arith, ap (λ p. length p.pushed) place, ap (λ p. p.left) place);
      same = (ap (λ p. p.ring) place, ap (λ p. p.count) place, ap (λ p. p.terms) place);
    };
  };
  popped = ap (λ p. p.popped) place;
  magazines = (ap (λ (s : CacheSeatState). s.rounds) seat, ap (λ (s : CacheSeatState). s.depot) seat);
}

-- the entries of one move more
one_more_try : (moves : List Tried) (t : Tried) → flat_map entries_of_try (moves ++ t ∷ []) ≡ flat_map entries_of_try moves ++ entries_of_try t
one_more_try moves t = flat_map-append entries_of_try moves (t ∷ []) ∙ ap (λ l. flat_map entries_of_try moves ++ l) (append-nil (entries_of_try t))

module _ {X : Type 0} (desperate : Bool) (count : ℕ) (old mid new : Work X) (before : HasTriedAll desperate count old mid) where
  pub tried_more : HasTried mid new true → HasTriedAll desperate (count + 1) old new
  tried_more tried = record {
    moves = before.moves ++ tried.0 ∷ [];
    each = All-append IsTried before.moves (tried.0 ∷ []) before.each (All-cons IsTried tried.0 [] tried.1 (All-nil IsTried));
    many = omega (arith, before.many, length-append before.moves (tried.0 ∷ []));
    worked = subst (λ (l : List CacheEntry). HasWorked old new (Scan desperate ∷ l)) (sym (one_more_try before.moves tried.0))
        (worked_chain old mid new (Scan desperate ∷ flat_map entries_of_try before.moves) (entries_of_try tried.0) before.worked tried.2);
    popped = tried.3 ∙ before.popped;
    magazines = (tried.4.0 ∙ before.magazines.0, tried.4.1 ∙ before.magazines.1);
  }

  pub scanned_idle : count < 64 → HasTried mid new false → HasScanned desperate old new
  scanned_idle few idle = record {
    moves = before.moves;
    last = Idle ∷ [];
    each = before.each;
    ended = inl (refl, omega (arith, few, before.many));
    worked = worked_chain old mid new (Scan desperate ∷ flat_map entries_of_try before.moves) (Idle ∷ []) before.worked idle.0;
    popped = idle.1 ∙ before.popped;
    magazines = (idle.2.0 ∙ before.magazines.0, idle.2.1 ∙ before.magazines.1);
  }

pub scanned_full : {X : Type 0} (desperate : Bool) (old new : Work X) → HasTriedAll desperate 64 old new → HasScanned desperate old new
scanned_full desperate old new all = record {
  moves = all.moves;
  last = [];
  each = all.each;
  ended = inr (refl, all.many);
  worked = subst (λ (l : List CacheEntry). HasWorked old new (Scan desperate ∷ l)) (sym (append-nil (flat_map entries_of_try all.moves))) all.worked;
  popped = all.popped;
  magazines = all.magazines;
}
