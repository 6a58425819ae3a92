-- A mover's rounds, and the room that they leave.
use Rattle.std.proofs.Common.{◌≡◌, ℕ, zero, suc, ◌+◌, ◌*◌, ◌<◌, ◌≤◌, ◌⊎◌, ⊎_elim, Bool, true, false, ◌||◌, ◌&&◌, ◌==◌, List, [], ◌∷◌, ◌++◌, length, map, All, IfSome, Option, Some, None, refl, sym, ap, ◌∙◌, subst, arith, length-append}
use Rattle.std.specs.List.{flat_map, list_all}
use Rattle.std.proofs.lemmas.List.{append-nil, length-map}
use Rattle.std.proofs.lemmas.List.Concat.{flat_map-append}
use Rattle.std.proofs.lemmas.List.Elements.{All-nil, All-cons, All-head, All-tail, All-append, filter-append}
use mathlib.Core.Logic.{dite}
use native.Mathlib.Decide.{ℕ_discrete}
use Rattle.hist_lock.specs.History.{listed}
use Rattle.object_cache.specs.declared.tally.Tally.{Tally}
use Rattle.kmem_model.specs.CacheScans.{is_scan, is_begin, is_idle_entry, scanning, ends_idle, is_round}
use Rattle.kmem_model.specs.CacheCounts.{moves_begun, moves_ended, total}
use Rattle.kmem_model.specs.declared.cache_entry.CacheEntry.{CacheEntry}
use Rattle.kmem_model.specs.declared.cache_entry.CacheEntry.TheVariants.{Free, Scan, Begin, Idle}
use Rattle.kmem_cache.specs.Closing.{frees_of}
use Rattle.kmem_cache.specs.Reaping.{rounds_in}
use Rattle.kmem_cache.specs.Seats.{CacheSite, CacheSeatState}
use Rattle.move_queue.specs.Queue.{QueueSeatState}
use Rattle.consolidator.specs.Notes.{Notes, noted_all}
use Rattle.consolidator.specs.Rounds.{IsEndOf, IsOfMoves, IsOfMover, IsRound, AreRounds}
use Rattle.consolidator.specs.Works.{HasCarried, Work, HasWorked, Tried, IsTried, entries_of_try, entries_of_scan, HasScanned}
use Rattle.consolidator.specs.Drives.{reap_room, HasRoom, HasDrained, HasRounds, ArePaced, HasReapedSeat, HasReapedIf, HasDriven, IsWholeDrive}
use Rattle.consolidator.proofs.Working.{entered_same, worked_chain}
use Rattle.consolidator.proofs.Joined.{rounds_whole, scans_whole}
use Rattle.consolidator.proofs.Counts.{ends_one, ended_is, came_back, one_little, all_little, HasCalmly, carried_calmly}

-- what `scanning` keeps
abbrev of_scans : CacheEntry → Bool
of_scans = λ e. is_scan e || is_begin e || is_idle_entry e

-- Rounds, one after another

pub rounds_none : (desperate : Bool) (es : List CacheEntry) → scanning es ≡ [] → AreRounds desperate 0 es
rounds_none desperate es calm = record { rounds = []; each = All-nil (IsRound desperate); many = refl; joined = calm }

pub rounds_chain : (desperate : Bool) (m n : ℕ) (es fs : List CacheEntry) → AreRounds desperate m es → AreRounds desperate n fs → AreRounds desperate (m + n) (es ++ fs)
rounds_chain desperate m n es fs first second = record {
  rounds = first.rounds ++ second.rounds;
  each = All-append (IsRound desperate) first.rounds second.rounds first.each second.each;
  many = omega (arith, first.many, second.many, length-append first.rounds second.rounds);
  joined = filter-append of_scans es fs
      ∙ (ap (λ l. l ++ scanning fs) first.joined
      ∙ (ap (λ l. flat_map (λ r. r) first.rounds ++ l) second.joined ∙ sym (flat_map-append (λ r. r) first.rounds second.rounds)));
}

-- The entries of a scan

calm_back : (j : ℕ) (back : Option CacheEntry) → IfSome back (IsEndOf j) → scanning (listed back) ≡ []
calm_back j None is = refl
calm_back j (Some e) is = let one = ends_one j e is in one.calm

begins_of : (moves : List Tried) → All IsTried moves → scanning (flat_map entries_of_try moves) ≡ map (λ t. Begin t.no t.from t.to) moves
begins_of [] each = refl
begins_of (t ∷ ts) each =
    filter-append of_scans (entries_of_try t) (flat_map entries_of_try ts)
    ∙ (ap (λ l. Begin t.no t.from t.to ∷ (l ++ scanning (flat_map entries_of_try ts))) (calm_back t.no t.back (All-head IsTried t ts each))
    ∙ ap (λ l. Begin t.no t.from t.to ∷ l) (begins_of ts (All-tail IsTried t ts each)))

ends_here : (moves : List Tried) → ends_idle (map (λ t. Begin t.no t.from t.to) moves ++ Idle ∷ []) ≡ true
ends_here [] = refl
ends_here (t ∷ []) = refl
ends_here (t ∷ (u ∷ ts)) = ends_here (u ∷ ts)

all_begin : (moves : List Tried) → list_all is_begin (map (λ t. Begin t.no t.from t.to) moves) ≡ true
all_begin [] = refl
all_begin (t ∷ ts) = all_begin ts

or_true : (a b : Bool) → b ≡ true → (a || b) ≡ true
or_true true b is = refl
or_true false b is = is

-- what one scan begins is a round
begun_round : (moves : List Tried) (last : List CacheEntry) → ((last ≡ Idle ∷ []) × (length moves < 64)) ⊎ ((last ≡ []) × (length moves ≡ 64)) →
    is_round (map (λ t. Begin t.no t.from t.to) moves ++ last) ≡ true
begun_round moves last ended =
    let begun = map (λ t. Begin t.no t.from t.to) moves in
    ⊎_elim
    (λ (is : (last ≡ Idle ∷ []) × (length moves < 64)).
    subst (λ l. is_round (begun ++ l) ≡ true) (sym is.0) (ap (λ b. b || (list_all is_begin (begun ++ Idle ∷ []) && length (begun ++ Idle ∷ []) == 64)) (ends_here moves)))
    (λ (is : (last ≡ []) × (length moves ≡ 64)).
    subst (λ l. is_round l ≡ true) (sym (ap (λ l. begun ++ l) is.0 ∙ append-nil begun))
    (or_true (ends_idle begun) (list_all is_begin begun && length begun == 64)
    (ap (λ b. b && length begun == 64) (all_begin moves) ∙ ap (λ n. n == 64) (length-map moves (λ t. Begin t.no t.from t.to) ∙ is.1))))
    ended

-- how many entries these moves have, and how many of them begin and end one
record TriesCount (moves : List Tried) : Type 0 where
  begun : total moves_begun (flat_map entries_of_try moves) ≡ length moves
  ended : total moves_ended (flat_map entries_of_try moves) ≤ length moves
  long : length (flat_map entries_of_try moves) ≤ 2 * length moves

total-app : (weight : CacheEntry → ℕ) (xs ys : List CacheEntry) → total weight (xs ++ ys) ≡ total weight xs + total weight ys
total-app weight [] ys = omega arith
total-app weight (x ∷ xs) ys = omega (arith, total-app weight xs ys)

tries_count : (moves : List Tried) → All IsTried moves → TriesCount moves
tries_count [] each = record { begun = refl; ended = omega arith; long = omega arith }
tries_count (t ∷ ts) each =
    let rest = tries_count ts (All-tail IsTried t ts each) in let back = came_back t.no t.back (All-head IsTried t ts each) in
    let more = flat_map entries_of_try ts in
    record {
      begun = omega (arith, rest.begun, back.begun, total-app moves_begun (listed t.back) more);
      ended = omega (arith, rest.ended, back.ended, back.few, total-app moves_ended (listed t.back) more);
      long = omega (arith, rest.long, back.few, length-append (listed t.back) more);
    }

-- a scan's last entry, if it has one, is Idle
record LastCount (moves : List Tried) (last : List CacheEntry) : Type 0 where
  begun : total moves_begun last ≡ 0
  ended : total moves_ended last ≡ 0
  long : 2 * length moves + length last ≤ 128
  few : length moves ≤ 64
  scanning : scanning last ≡ last

last_count : (moves : List Tried) (last : List CacheEntry) → ((last ≡ Idle ∷ []) × (length moves < 64)) ⊎ ((last ≡ []) × (length moves ≡ 64)) → LastCount moves last
last_count moves last ended = ⊎_elim
    (λ (is : (last ≡ Idle ∷ []) × (length moves < 64)).
    record {
      begun = ap (total moves_begun) is.0;
      ended = ap (total moves_ended) is.0;
      long = omega (arith, is.1, ap length is.0);
      few = omega (arith, is.1);
      scanning = ap (λ l. scanning l) is.0 ∙ sym is.0;
    })
    (λ (is : (last ≡ []) × (length moves ≡ 64)).
    record {
      begun = ap (total moves_begun) is.0;
      ended = ap (total moves_ended) is.0;
      long = omega (arith, is.1, ap length is.0);
      few = omega (arith, is.1);
      scanning = ap (λ l. scanning l) is.0 ∙ sym is.0;
    })
    ended

scan_moves : (desperate : Bool) (moves : List Tried) (last : List CacheEntry) → All IsTried moves → ((last ≡ Idle ∷ []) × (length moves < 64)) ⊎ ((last ≡ []) × (length moves ≡ 64)) →
    All IsOfMoves (entries_of_scan desperate moves last)
scan_moves desperate moves last each ended =
    All-cons IsOfMoves (Scan desperate) (flat_map entries_of_try moves ++ last) tt (All-append IsOfMoves (flat_map entries_of_try moves) last (tries moves each) (lasts last ended))
  where
    backs : (j : ℕ) (back : Option CacheEntry) → IfSome back (IsEndOf j) → All IsOfMoves (listed back)
    backs j None is = All-nil IsOfMoves
    backs j (Some e) is = let one = ends_one j e is in All-cons IsOfMoves e [] one.kind (All-nil IsOfMoves)

    tries : (moves : List Tried) → All IsTried moves → All IsOfMoves (flat_map entries_of_try moves)
    tries [] each = All-nil IsOfMoves
    tries (t ∷ ts) each = All-append IsOfMoves (entries_of_try t) (flat_map entries_of_try ts)
        (All-cons IsOfMoves (Begin t.no t.from t.to) (listed t.back) tt (backs t.no t.back (All-head IsTried t ts each)))
        (tries ts (All-tail IsTried t ts each))

    lasts : (last : List CacheEntry) → ((last ≡ Idle ∷ []) × (length moves < 64)) ⊎ ((last ≡ []) × (length moves ≡ 64)) → All IsOfMoves last
    lasts last ended = ⊎_elim
        (λ (is : (last ≡ Idle ∷ []) × (length moves < 64)). subst (λ l. All IsOfMoves l) (sym is.0) (All-cons IsOfMoves Idle [] tt (All-nil IsOfMoves)))
        (λ (is : (last ≡ []) × (length moves ≡ 64)). subst (λ l. All IsOfMoves l) (sym is.0) (All-nil IsOfMoves))
        ended

module _ {X : Type 0} where
  scan_round : (desperate : Bool) (old new : Work X) (s : HasScanned desperate old new) → AreRounds desperate 1 (entries_of_scan desperate s.moves s.last)
  scan_round desperate old new s =
      let tries = flat_map entries_of_try s.moves in let begun = map (λ t. Begin t.no t.from t.to) s.moves in let last = last_count s.moves s.last s.ended in
      let round = Scan desperate ∷ (begun ++ s.last) in
      let is : IsRound desperate round = record { rest = begun ++ s.last; is = refl; round = begun_round s.moves s.last s.ended } in
      record {
        rounds = round ∷ [];
        each = All-cons (IsRound desperate) round [] is (All-nil (IsRound desperate));
        many = refl;
        joined = ap (λ l. Scan desperate ∷ l) (filter-append of_scans tries s.last ∙ (ap (λ l. l ++ scanning s.last) (begins_of s.moves s.each) ∙ ap (λ l. begun ++ l) last.scanning))
            ∙ sym (append-nil round);
      }

  -- a scan, and what was carried after it
  pub round_of : (desperate : Bool) (old mid new : Work X) → HasScanned desperate old mid → HasDrained mid new → HasRounds desperate 1 old new
  round_of desperate old mid new s drained =
      let entries = entries_of_scan desperate s.moves s.last in
      record {
        entries = entries ++ drained.entries;
        worked = worked_chain old mid new entries drained.entries s.worked drained.worked;
        moves = All-append IsOfMoves entries drained.entries (scan_moves desperate s.moves s.last s.each s.ended) drained.moves;
        rounds = rounds_chain desperate 1 0 entries drained.entries (scan_round desperate old mid s) (rounds_none desperate drained.entries drained.calm);
      }

  pub more_rounds : (desperate : Bool) (m n : ℕ) (a b c : Work X) → HasRounds desperate m a b → HasRounds desperate n b c → HasRounds desperate (m + n) a c
  more_rounds desperate m n a b c first second = record {
    entries = first.entries ++ second.entries;
    worked = worked_chain a b c first.entries second.entries first.worked second.worked;
    moves = All-append IsOfMoves first.entries second.entries first.moves second.moves;
    rounds = rounds_chain desperate m n first.entries second.entries first.rounds second.rounds;
  }

  worked_same : (a : Work X) → HasWorked a a []
  worked_same a = record {
    entered = entered_same a.seat.pass a.seat.pass a.notes a.notes refl refl;
    queued = record { begun = omega arith; ended = omega arith; left = omega arith; same = (refl, refl, refl) };
  }

  pub no_rounds : (desperate : Bool) (a : Work X) → HasRounds desperate 0 a a
  no_rounds desperate a = record { entries = []; worked = worked_same a; moves = All-nil IsOfMoves; rounds = rounds_none desperate [] refl }

  pub calm_same : (a : Work X) → HasCalmly a a
  calm_same a = record { entries = []; worked = worked_same a; moves = All-nil IsOfMoves; calm = refl }

  pub calm_chain : (a b c : Work X) → HasCalmly a b → HasCalmly b c → HasCalmly a c
  calm_chain a b c first second = record {
    entries = first.entries ++ second.entries;
    worked = worked_chain a b c first.entries second.entries first.worked second.worked;
    moves = All-append IsOfMoves first.entries second.entries first.moves second.moves;
    calm = filter-append of_scans first.entries second.entries ∙ (ap (λ l. l ++ scanning second.entries) first.calm ∙ second.calm);
  }

-- Room

module _ {X : Type 0} (quotas scans others : ℕ) where
  pub room_carried : (site : CacheSite) (old new : Work X) (came : Bool) → HasCarried site old new came → length new.place.popped ≤ quotas →
      HasRoom quotas scans others old → HasRoom quotas scans others new
  room_carried site old new true carried few room =
      let job = carried.0 in let popped = carried.1 in let finished = carried.2 in let e = finished.entry in
      let one = ends_one job.move.no e (ended_is site old.seat.pass new.seat.pass job e finished.ended) in
      let little = one_little e old.notes in
      let longer = ap (λ p. length p.popped) popped.seat ∙ length-append old.place.popped ((popped.number, job) ∷ []) in
      record {
        few = few;
        entries = omega (arith, room.entries, finished.entered.left, longer);
        pushes = omega (arith, room.pushes, ap (λ p. p.left) popped.seat);
        refused = omega (arith, room.refused, ap (λ p. p.refused) popped.seat);
        brought = omega (arith, room.brought, longer, one.ended, little.brought, ap (λ (n : Notes). n.brought) finished.entered.noted);
        fetched = omega (arith, room.fetched, longer, one.ended, little.fetched, ap (λ (n : Notes). n.fetched) finished.entered.noted);
      }
  room_carried site old new false same few room =
      record {
        few = few;
        entries = omega (arith, room.entries, ap (λ w. w.seat.pass.left) same, ap (λ w. length w.place.popped) same);
        pushes = omega (arith, room.pushes, ap (λ w. w.place.left) same);
        refused = omega (arith, room.refused, ap (λ w. w.place.refused) same);
        brought = omega (arith, room.brought, ap (λ w. w.notes.brought) same, ap (λ w. length w.place.popped) same);
        fetched = omega (arith, room.fetched, ap (λ w. w.notes.fetched) same, ap (λ w. length w.place.popped) same);
      }

  pub room_scanned : (desperate : Bool) (old new : Work X) → HasScanned desperate old new → HasRoom quotas (scans + 1) others old → HasRoom quotas scans others new
  room_scanned desperate old new s room =
      let tries = flat_map entries_of_try s.moves in let count = tries_count s.moves s.each in let last = last_count s.moves s.last s.ended in
      let entries = entries_of_scan desperate s.moves s.last in
      let begun = total-app moves_begun tries s.last in let ended = total-app moves_ended tries s.last in let queued = s.worked.queued in
      let popped = ap length s.popped in let little = all_little entries old.notes in let noted = s.worked.entered.noted in
      record {
        few = omega (arith, room.few, popped);
        entries = omega (arith, room.entries, popped, s.worked.entered.left, length-append tries s.last, count.long, last.long);
        pushes = omega (arith, room.pushes, popped, queued.begun, queued.ended, queued.left, begun, count.begun, last.begun, last.few);
        refused = omega (arith, room.refused, popped, queued.ended, ended, count.ended, last.ended, last.few);
        brought = omega (arith, room.brought, popped, little.brought, ended, count.ended, last.ended, last.few, ap (λ (n : Notes). n.brought) noted);
        fetched = omega (arith, room.fetched, popped, little.fetched, ended, count.ended, last.ended, last.few, ap (λ (n : Notes). n.fetched) noted);
      }

-- room for more is room for fewer
pub room_less : {X : Type 0} (quotas scans more others : ℕ) (work : Work X) → HasRoom quotas (scans + more) others work → HasRoom quotas scans 0 work
room_less quotas scans more others work room = record {
  few = room.few;
  entries = omega (arith, room.entries);
  pushes = omega (arith, room.pushes);
  refused = omega (arith, room.refused);
  brought = omega (arith, room.brought);
  fetched = omega (arith, room.fetched);
}

-- Reaped magazines

frees_calm : (ns : List ℕ) → scanning (frees_of ns) ≡ []
frees_calm [] = refl
frees_calm (n ∷ ns) = frees_calm ns

frees_begin : (ns : List ℕ) → total moves_begun (frees_of ns) ≡ 0
frees_begin [] = refl
frees_begin (n ∷ ns) = omega (arith, frees_begin ns)

frees_end : (ns : List ℕ) → total moves_ended (frees_of ns) ≡ 0
frees_end [] = refl
frees_end (n ∷ ns) = omega (arith, frees_end ns)

frees_kinds : (ns : List ℕ) → All IsOfMover (frees_of ns)
frees_kinds [] = All-nil IsOfMover
frees_kinds (n ∷ ns) = All-cons IsOfMover (Free n) (frees_of ns) tt (frees_kinds ns)

frees_noted : (ns : List ℕ) (n : Notes) → noted_all (frees_of ns) n ≡ n
frees_noted [] n = refl
frees_noted (x ∷ xs) n = frees_noted xs n

rounds_long : (ms : List (ℕ × List ℕ)) → All (λ m. length m.1 ≡ 8) ms → length (rounds_in ms) ≡ 8 * length ms
rounds_long [] all = refl
rounds_long (m ∷ ms) all =
    let P : ℕ × List ℕ → Type 0 = λ m. length m.1 ≡ 8 in
    omega (arith, length-append m.1 (rounds_in ms), All-head P m ms all, rounds_long ms (All-tail P m ms all))

-- the entries of a reap, or of none
pub record AfterReap {X : Type 0} (old new : Work X) (room : ℕ) : Type 0 where
  pub entries : List CacheEntry
  pub worked : HasWorked old new entries
  pub calm : scanning entries ≡ []
  pub long : length entries ≤ room

pub after_reap : {X : Type 0} (reaps : Bool) (places : ℕ) (old new : Work X) → HasReapedIf reaps places old new → AfterReap old new (reap_room reaps places)
after_reap false places old new is = record {
  entries = [];
  worked = subst (λ w. HasWorked old w []) (sym (is.1 ∙ ap (λ s. record old { seat = s }) is.0)) (worked_same old);
  calm = refl;
  long = omega arith;
}
after_reap true places old new is =
    let reaped = is.0 in let numbers = rounds_in reaped.magazines in let freed = reaped.reaped.freed in let entries = frees_of numbers in
    let place = ap (λ w. w.place) is.1 in let notes = ap (λ w. w.notes) is.1 in
    let long : length entries ≡ length numbers = length-map numbers (λ n. Free n) in
    record {
      entries = entries;
      worked = record {
        entered = record {
          front = freed.front;
          mine = freed.mine;
          left = omega (arith, freed.left, long);
          site = freed.site;
          number = freed.number;
          kinds = frees_kinds numbers;
          noted = notes ∙ sym (frees_noted numbers old.notes);
        };
        queued = record {
          begun = omega (arith, frees_begin numbers, ap (λ p. length p.pushed) place, ap (λ p. p.refused) place);
          ended = omega (arith, frees_end numbers, ap (λ p. length p.popped) place, ap (λ p. p.refused) place);
          left = omega (arith, ap (λ p. length p.pushed) place, ap (λ p. p.left) place);
          same = (ap (λ p. p.ring) place, ap (λ p. p.count) place, ap (λ p. p.terms) place);
        };
      };
      calm = frees_calm numbers;
      long = omega (arith, long, rounds_long reaped.magazines reaped.reaped.full, reaped.few);
    }

module _ {X : Type 0} (quotas scans : ℕ) where
  pub room_reaped : (reaps : Bool) (places : ℕ) (old new : Work X) → HasReapedIf reaps places old new → HasRoom quotas scans (reap_room reaps places) old → HasRoom quotas scans 0 new
  room_reaped reaps places old new is room =
      let done = after_reap reaps places old new is in let place = ap (λ w. w.place) is.1 in let notes = ap (λ w. w.notes) is.1 in
      let popped = ap (λ p. length p.popped) place in
      record {
        few = omega (arith, room.few, popped);
        entries = omega (arith, room.entries, popped, done.long, done.worked.entered.left);
        pushes = omega (arith, room.pushes, ap (λ p. p.left) place);
        refused = omega (arith, room.refused, ap (λ p. p.refused) place);
        brought = omega (arith, room.brought, popped, ap (λ (n : Notes). n.brought) notes);
        fetched = omega (arith, room.fetched, popped, ap (λ (n : Notes). n.fetched) notes);
      }

-- The whole run

pub whole_drive : {X : Type 0} (reaps : Bool) (places : ℕ) (desperate : Bool) (scans : ℕ) (old new : Work X) → HasDriven reaps places desperate scans old new → new.place.done ≡ true →
    IsWholeDrive desperate scans old new
whole_drive reaps places desperate zero old new drained done =
    let rounds = rounds_none desperate drained.entries drained.calm in
    record {
      entries = drained.entries;
      worked = drained.worked;
      scans_are = scans_whole desperate 0 drained.entries rounds;
      rounds = rounds_whole desperate 0 drained.entries rounds;
      done = done;
    }
whole_drive reaps places desperate (suc scans) old new driven done =
    let before = driven.0 in let after = driven.1 in let early = driven.2 in let reap = after_reap reaps places before after driven.3 in let late = driven.4 in
    let entries = (early.entries ++ reap.entries) ++ late.entries in
    let at : (scans + 0) + 1 ≡ suc scans = omega arith in
    let rounds = subst (λ n. AreRounds desperate n entries) at
    (rounds_chain desperate (scans + 0) 1 (early.entries ++ reap.entries) late.entries
    (rounds_chain desperate scans 0 early.entries reap.entries early.rounds (rounds_none desperate reap.entries reap.calm)) late.rounds) in
    record {
      entries = entries;
      worked = worked_chain old after new (early.entries ++ reap.entries) late.entries (worked_chain old before after early.entries reap.entries early.worked reap.worked) late.worked;
      scans_are = scans_whole desperate (suc scans) entries rounds;
      rounds = rounds_whole desperate (suc scans) entries rounds;
      done = done;
    }

-- the last look, at which no job came
pub drained_of : {X : Type 0} (site : CacheSite) (old mid new : Work X) → HasCalmly old mid → HasCarried site mid new false → HasDrained old new
drained_of site old mid new calm same =
    let all = calm_chain old mid new calm (carried_calmly site mid new false same) in
    record { entries = all.entries; worked = all.worked; moves = all.moves; calm = all.calm; done = ap (λ w. w.place.done) same }

-- A reap, as the caller sees it

works_are : {X : Type 0} (seat : CacheSeatState) (p q : QueueSeatState X) (n m : Notes) → p ≡ q → n ≡ m →
    ◌≡◌ {A = Work X} (record { seat = seat; place = p; notes = n }) (record { seat = seat; place = q; notes = m })
works_are seat p q n m places notes = cc

pub record SameCounts (old new : CacheSeatState) : Type 0 where
  pub lent : new.lent ≡ old.lent
  pub returned : new.returned ≡ old.returned

pub reaped_counts : (reaps : Bool) (places : ℕ) (old new : CacheSeatState) → HasReapedSeat reaps places old new → SameCounts old new
reaped_counts true places old new reaped = record { lent = reaped.reaped.same.lent; returned = reaped.reaped.same.returned }
reaped_counts false places old new same = record { lent = ap (λ s. s.lent) same; returned = ap (λ s. s.returned) same }

pub reaped_work : {X : Type 0} (reaps : Bool) (places : ℕ) (old new : Work X) → HasReapedSeat reaps places old.seat new.seat → new.place ≡ old.place → new.notes ≡ old.notes →
    HasReapedIf reaps places old new
reaped_work reaps places old new reaped place notes = (reaped, works_are new.seat new.place old.place new.notes old.notes place notes)

-- Scans that wait for their shares

module _ {X C : Type 0} (notes : CacheSeatState → Tally → C → Notes) (seen : C → ℕ) (share : ℕ → ℕ) (desperate : Bool) where
  pub paced_more : (n : ℕ) (old : Work X) → ArePaced notes seen share desperate n old → (before : Work X) (client : C) (tally : Tally) →
      HasRounds desperate n old before → before.notes ≡ notes before.seat tally client → share n ≤ seen client →
      ArePaced notes seen share desperate (n + 1) old
  paced_more n old paced before client tally rounds is waited i lt = dite (ℕ_discrete i n)
      (λ e. (before, client, tally, subst (λ k. HasRounds desperate k old before) (sym e) rounds, is, subst (λ k. share k ≤ seen client) (sym e) waited))
      (λ ne. paced i (omega arith))
