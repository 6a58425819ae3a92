-- The movers of a run that was opened.
use Rattle.std.proofs.Common.{◌≡◌, ◌+◌, ◌*◌, ◌≤◌, ℕ, Bool, true, false, List, [], ◌∷◌, ◌++◌, length, map, All, Some, append_assoc, sym, ap, ◌∙◌, arith}
use Rattle.std.proofs.lemmas.List.{length-map, length-append}
use Rattle.std.proofs.lemmas.List.Elements.{All-pop}
use Rattle.kmem_model.specs.Heap.{Object}
use Rattle.kmem_model.specs.declared.record_entry.RecordEntry.{RecordEntry}
use Rattle.kmem_model.specs.declared.cache_entry.CacheEntry.{CacheEntry}
use Rattle.hist_lock.specs.Passes.{PassState, fresh, fresh_passes}
use Rattle.kmem_cache.specs.Seats.{CacheSeatState, IsCacheSeat, fresh_cache_seat}
use Rattle.record_table.specs.Tables.{TableHome}
use Rattle.record_table.specs.Asks.{MoverState, IsMoverOf, IsFreshMover}
use Rattle.move_queue.specs.Queue.{QueueSeatState, fresh_queue_seat}
use Rattle.consolidator.specs.declared.driving.MoverPlan.{MoverPlan}
use Rattle.consolidator.specs.Drives.{reap_room}
use Rattle.consolidator.specs.Tallies.{tally_of}
use Rattle.run_movers.specs.declared.mover.MoverTask.{MoverTask}
use Rattle.run_engine.specs.declared.plan.RunPlan.{RunPlan}
use Rattle.run_engine.specs.declared.shared.Shared.{Shared}
use Rattle.run_engine.specs.declared.opening.Dealt.{Dealt}
use Rattle.run_engine.specs.Quotas.{IsInPlan, worker_entries, mover_entries, cache_quotas, odd_scans, even_scans, first_plan, second_plan}
use Rattle.run_engine.specs.Opened.{IsShared, IsWaiting}
use Rattle.run_engine.specs.Openings.{AreDealt, HasDealt}
use Rattle.run_engine.proofs.Rows.{same_front, map-push, fresh-first, length-fresh}

odd_most : (n : ℕ) → 2 * odd_scans n ≤ n + 1
odd_most n = grind arith

even_most : (n : ℕ) → 2 * even_scans n ≤ n + 1
even_most n = grind arith

reap_most : (reaps : Bool) (places : ℕ) → reap_room reaps places ≤ 8 * places
reap_most true places = omega arith
reap_most false places = omega arith

-- a mover with what it was dealt
waiting : (plan : RunPlan) (names : ℕ) (shared : Shared) → IsInPlan plan → IsShared plan names shared → (pass : ℕ) (p : MoverPlan) (t : MoverTask) →
    t.plan ≡ p → t.tally ≡ tally_of [] → IsMoverOf shared.table t.mover → IsFreshMover t.mover → t.mover.pass.number ≡ pass → IsCacheSeat shared.cache t.seat →
    t.seat ≡ fresh_cache_seat shared.cache.depot (fresh shared.cache.lock pass (mover_entries plan)) → t.place ≡ fresh_queue_seat shared.queue (64 * p.scans) →
    2 * p.scans ≤ plan.scans + 1 → p.first ≤ 2 → IsWaiting shared pass p t
waiting plan names shared in_plan is pass p t plan_is tally of is_fresh number seat_of seat place half low =
    record {
      ready = record {
        of = of;
        fresh = is_fresh;
        seat_of = seat_of;
        seat_none = (ap (λ (s : CacheSeatState). s.pass.mine) seat, ap (λ (s : CacheSeatState). s.lent) seat, ap (λ (s : CacheSeatState). s.returned) seat);
        place_of = record {
          ring = ap (λ (s : QueueSeatState Object). s.ring) place;
          count = ap (λ (s : QueueSeatState Object). s.count) place;
          terms = ap (λ (s : QueueSeatState Object). s.terms) place;
        };
        place_none = (
          ap (λ (s : QueueSeatState Object). s.pushed) place,
          ap (λ (s : QueueSeatState Object). s.popped) place,
          ap (λ (s : QueueSeatState Object). s.refused) place,
        );
        tally_none = tally;
        entries =
            omega (
              arith,
              half,
              scans,
              reap_most t.plan.reaps shared.cache.depot.places,
              is.places,
              is.pushes,
              in_plan.scans.0,
              ap {B = ℕ} (λ (s : CacheSeatState). s.pass.left) seat,
            );
        pushes = omega (arith, scans, ap {B = ℕ} (λ (s : QueueSeatState Object). s.left) place);
        small = omega (arith, scans, half, is.pushes, in_plan.scans.1);
        numbers = omega (arith, scans, half, low, ap {B = ℕ} (λ (q : MoverPlan). q.first) plan_is, in_plan.scans.1);
      };
      plan_is = plan_is;
      seat = ap (λ (s : CacheSeatState). s.pass.number) seat;
      mover = number;
    }
  where
    scans : t.plan.scans ≡ p.scans
    scans = ap (λ (q : MoverPlan). q.scans) plan_is

-- both movers, and what is left for the workers
pub record BothMovers (plan : RunPlan) (shared : Shared) (counts : List ℕ) (dealt : Dealt) (seats : List CacheSeatState) (first second : MoverTask) : Type 0 where
  pub first_waits : IsWaiting shared plan.workers (first_plan plan) first
  pub second_waits : IsWaiting shared (plan.workers + 1) (second_plan plan) second
  pub rest : AreDealt shared counts dealt.sessions.items seats

pub both_movers : (plan : RunPlan) (names : ℕ) (counts : List ℕ) (dealt : Dealt) (movers others : List MoverState) (seats more : List CacheSeatState)
    (places further : List (QueueSeatState Object)) (first second : MoverTask) → IsInPlan plan → IsShared plan names dealt.shared → length counts ≡ plan.workers → HasDealt plan counts dealt →
    second.plan ≡ second_plan plan → second.tally ≡ tally_of [] → first.plan ≡ first_plan plan → first.tally ≡ tally_of [] →
    dealt.movers.items ≡ others ++ second.mover ∷ [] → others ≡ movers ++ first.mover ∷ [] →
    dealt.seats.items ≡ more ++ second.seat ∷ [] → more ≡ seats ++ first.seat ∷ [] →
    dealt.places.items ≡ further ++ second.place ∷ [] → further ≡ places ++ first.place ∷ [] → BothMovers plan dealt.shared counts dealt seats first second
both_movers plan names counts dealt movers others seats more places further first second in_plan is many d second_is second_none first_is first_none ends ends' sits sits' stands stands' =
    record {
      first_waits =
          waiting plan names dealt.shared in_plan is plan.workers (first_plan plan) first first_is first_none of_first.1 fresh_first.1
          (ap (λ (p : PassState RecordEntry TableHome). p.number) passes'.1) seats_first.1 seat_first place_first (odd_most plan.scans) (omega arith);
      second_waits =
          waiting plan names dealt.shared in_plan is (plan.workers + 1) (second_plan plan) second second_is second_none of_second.1 fresh_second.1
          (ap (λ (p : PassState RecordEntry TableHome). p.number) passes.1) seats_second.1 seat_second place_second (even_most plan.scans) (omega arith);
      rest = record { passes = d.passes; fresh = d.fresh; of = d.of; seats_are = seat_rows'.0; seats_of = seats_first.0 };
    }
  where
    of_second : All (IsMoverOf dealt.shared.table) others × IsMoverOf dealt.shared.table second.mover
    of_second = All-pop (IsMoverOf dealt.shared.table) dealt.movers.items others (Some second.mover) ends d.movers_of

    of_first : All (IsMoverOf dealt.shared.table) movers × IsMoverOf dealt.shared.table first.mover
    of_first = All-pop (IsMoverOf dealt.shared.table) others movers (Some first.mover) ends' of_second.0

    fresh_second : All IsFreshMover others × IsFreshMover second.mover
    fresh_second = All-pop IsFreshMover dealt.movers.items others (Some second.mover) ends d.movers_fresh

    fresh_first : All IsFreshMover movers × IsFreshMover first.mover
    fresh_first = All-pop IsFreshMover others movers (Some first.mover) ends' fresh_second.0

    seats_second : All (IsCacheSeat dealt.shared.cache) more × IsCacheSeat dealt.shared.cache second.seat
    seats_second = All-pop (IsCacheSeat dealt.shared.cache) dealt.seats.items more (Some second.seat) sits d.seats_of

    seats_first : All (IsCacheSeat dealt.shared.cache) seats × IsCacheSeat dealt.shared.cache first.seat
    seats_first = All-pop (IsCacheSeat dealt.shared.cache) more seats (Some first.seat) sits' seats_second.0

    passes : (map (λ (m : MoverState). m.pass) others ≡ fresh dealt.shared.table plan.workers 0 ∷ []) × (second.mover.pass ≡ fresh dealt.shared.table (plan.workers + 1) 0)
    passes =
        same_front (map (λ (m : MoverState). m.pass) others) (fresh dealt.shared.table plan.workers 0 ∷ []) second.mover.pass (fresh dealt.shared.table (plan.workers + 1) 0)
        (sym (map-push (λ (m : MoverState). m.pass) others second.mover) ∙ (ap (map (λ (m : MoverState). m.pass)) (sym ends) ∙ d.movers))

    passes' : (map (λ (m : MoverState). m.pass) movers ≡ []) × (first.mover.pass ≡ fresh dealt.shared.table plan.workers 0)
    passes' =
        same_front (map (λ (m : MoverState). m.pass) movers) [] first.mover.pass (fresh dealt.shared.table plan.workers 0)
        (sym (map-push (λ (m : MoverState). m.pass) movers first.mover) ∙ (ap (map (λ (m : MoverState). m.pass)) (sym ends') ∙ passes.0))

    places_second : (further ≡ fresh_queue_seat dealt.shared.queue (64 * odd_scans plan.scans) ∷ []) × (second.place ≡ fresh_queue_seat dealt.shared.queue (64 * even_scans plan.scans))
    places_second =
        same_front further (fresh_queue_seat dealt.shared.queue (64 * odd_scans plan.scans) ∷ []) second.place (fresh_queue_seat dealt.shared.queue (64 * even_scans plan.scans)) (sym stands ∙ d.places)

    place_second : second.place ≡ fresh_queue_seat dealt.shared.queue (64 * even_scans plan.scans)
    place_second = places_second.1

    place_first : first.place ≡ fresh_queue_seat dealt.shared.queue (64 * odd_scans plan.scans)
    place_first = (same_front places [] first.place (fresh_queue_seat dealt.shared.queue (64 * odd_scans plan.scans)) (sym stands' ∙ places_second.0)).1

    long : length (worker_entries counts) ≡ plan.workers
    long = length-map counts (λ n. 2 * n) ∙ many

    longer : length (worker_entries counts ++ mover_entries plan ∷ []) ≡ plan.workers + 1
    longer = omega (arith, long, length-append (worker_entries counts) (mover_entries plan ∷ []))

    -- the seats with these quotas and one more
    row : (quotas : List ℕ) (quota : ℕ) →
        map (fresh_cache_seat dealt.shared.cache.depot) (fresh_passes dealt.shared.cache.lock 0 (quotas ++ quota ∷ []))
        ≡ map (fresh_cache_seat dealt.shared.cache.depot) (fresh_passes dealt.shared.cache.lock 0 quotas)
        ++ fresh_cache_seat dealt.shared.cache.depot (fresh dealt.shared.cache.lock (length quotas) quota) ∷ []
    row quotas quota =
        ap (map (fresh_cache_seat dealt.shared.cache.depot)) (fresh-first dealt.shared.cache.lock quotas quota)
        ∙ map-push (fresh_cache_seat dealt.shared.cache.depot) (fresh_passes dealt.shared.cache.lock 0 quotas) (fresh dealt.shared.cache.lock (length quotas) quota)

    split : cache_quotas plan counts ≡ (worker_entries counts ++ mover_entries plan ∷ []) ++ mover_entries plan ∷ []
    split = sym (append_assoc (worker_entries counts) (mover_entries plan ∷ []) (mover_entries plan ∷ []))

    seat_rows : (more ≡ map (fresh_cache_seat dealt.shared.cache.depot) (fresh_passes dealt.shared.cache.lock 0 (worker_entries counts ++ mover_entries plan ∷ [])))
        × (second.seat ≡ fresh_cache_seat dealt.shared.cache.depot (fresh dealt.shared.cache.lock (length (worker_entries counts ++ mover_entries plan ∷ [])) (mover_entries plan)))
    seat_rows =
        same_front more (map (fresh_cache_seat dealt.shared.cache.depot) (fresh_passes dealt.shared.cache.lock 0 (worker_entries counts ++ mover_entries plan ∷ [])))
        second.seat (fresh_cache_seat dealt.shared.cache.depot (fresh dealt.shared.cache.lock (length (worker_entries counts ++ mover_entries plan ∷ [])) (mover_entries plan)))
        (sym sits ∙ (d.seats_are ∙ (ap (λ (qs : List ℕ). map (fresh_cache_seat dealt.shared.cache.depot) (fresh_passes dealt.shared.cache.lock 0 qs)) split
        ∙ row (worker_entries counts ++ mover_entries plan ∷ []) (mover_entries plan))))

    seat_second : second.seat ≡ fresh_cache_seat dealt.shared.cache.depot (fresh dealt.shared.cache.lock (plan.workers + 1) (mover_entries plan))
    seat_second = seat_rows.1 ∙ ap (λ n. fresh_cache_seat dealt.shared.cache.depot (fresh dealt.shared.cache.lock n (mover_entries plan))) longer

    seat_rows' : (seats ≡ map (fresh_cache_seat dealt.shared.cache.depot) (fresh_passes dealt.shared.cache.lock 0 (worker_entries counts)))
        × (first.seat ≡ fresh_cache_seat dealt.shared.cache.depot (fresh dealt.shared.cache.lock (length (worker_entries counts)) (mover_entries plan)))
    seat_rows' =
        same_front seats (map (fresh_cache_seat dealt.shared.cache.depot) (fresh_passes dealt.shared.cache.lock 0 (worker_entries counts)))
        first.seat (fresh_cache_seat dealt.shared.cache.depot (fresh dealt.shared.cache.lock (length (worker_entries counts)) (mover_entries plan)))
        (sym sits' ∙ (seat_rows.0 ∙ row (worker_entries counts) (mover_entries plan)))

    seat_first : first.seat ≡ fresh_cache_seat dealt.shared.cache.depot (fresh dealt.shared.cache.lock plan.workers (mover_entries plan))
    seat_first = seat_rows'.1 ∙ ap (λ n. fresh_cache_seat dealt.shared.cache.depot (fresh dealt.shared.cache.lock n (mover_entries plan))) long

-- there is one for each mover
pub dealt_some : (plan : RunPlan) (counts : List ℕ) (dealt : Dealt) → HasDealt plan counts dealt →
    (length dealt.movers.items ≡ 2) × (2 ≤ length dealt.seats.items) × (length dealt.places.items ≡ 2)
dealt_some plan counts dealt d = (
  sym (length-map dealt.movers.items (λ (m : MoverState). m.pass)) ∙ ap length d.movers,
  omega (
    arith,
    ap length d.seats_are,
    length-map (fresh_passes dealt.shared.cache.lock 0 (cache_quotas plan counts)) (fresh_cache_seat dealt.shared.cache.depot),
    length-fresh CacheEntry dealt.shared.cache.lock 0 (cache_quotas plan counts),
    length-append (worker_entries counts) (mover_entries plan ∷ mover_entries plan ∷ []),
  ),
  ap length d.places,
)
