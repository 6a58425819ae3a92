-- What is dealt to the workers, taken from its end.
use Rattle.std.proofs.Common.{◌≡◌, ◌+◌, ◌*◌, ◌≤◌, ◌==◌, ℕ, suc, List, [], ◌∷◌, ◌++◌, length, map, filter, reverse, All, Some, append_assoc, sym, ap, ◌∙◌, subst, arith}
use Rattle.std.specs.List.{range_with_len}
use Rattle.std.proofs.lemmas.Bool.{cond_both}
use Rattle.std.proofs.lemmas.List.{length-map, reverse-append}
use Rattle.std.proofs.lemmas.List.Elements.{All-nil, All-cons, All-head, All-tail, All-pop}
use Rattle.std.proofs.lemmas.List.FromFn.{map-range_with_len_more}
use Rattle.kmem_text.specs.Grammar.{IsWithinNames}
use Rattle.kmem_text.specs.declared.command.Line.{Line}
use Rattle.kmem_model.specs.declared.record_entry.RecordEntry.{RecordEntry}
use Rattle.kmem_model.specs.declared.cache_entry.CacheEntry.{CacheEntry}
use Rattle.kmem_model.specs.History.{worker_of, commands_of}
use Rattle.hist_lock.specs.Passes.{PassState, fresh, fresh_passes}
use Rattle.kmem_cache.specs.Seats.{CacheSeatState, IsCacheSeat, fresh_cache_seat}
use Rattle.record_table.specs.Tables.{TableHome}
use Rattle.record_table.specs.Sessions.{SessionState, IsFreshSession}
use Rattle.run_workers.specs.declared.worker.Worker.{Worker}
use Rattle.run_engine.specs.declared.shared.Shared.{Shared}
use Rattle.run_engine.specs.Quotas.{command_counts, worker_entries}
use Rattle.run_engine.specs.Opened.{pass_of, IsStarting}
use Rattle.run_engine.specs.Openings.{AreDealt}
use Rattle.run_engine.proofs.Rows.{same_front, map-push, range-first, fresh-first, length-fresh}

-- the last session and seat, and the others
pub record Last (shared : Shared) (counts : List ℕ) (count : ℕ) (sessions : List SessionState) (session : SessionState) (seats : List CacheSeatState) (seat : CacheSeatState) : Type 0 where
  pub dealt : AreDealt shared counts sessions seats
  pub pass : session.pass ≡ fresh shared.table (length counts) count
  pub is_fresh : IsFreshSession session
  pub of : session.pass.site ≡ shared.table
  pub seat_is : seat ≡ fresh_cache_seat shared.cache.depot (fresh shared.cache.lock (length counts) (2 * count))
  pub seat_of : IsCacheSeat shared.cache seat

pub dealt_many : (shared : Shared) (counts : List ℕ) (sessions : List SessionState) (seats : List CacheSeatState) → AreDealt shared counts sessions seats →
    (length sessions ≡ length counts) × (length seats ≡ length counts)
dealt_many shared counts sessions seats d = (
  sym (length-map sessions (λ (s : SessionState). s.pass)) ∙ (ap length d.passes ∙ length-fresh RecordEntry shared.table 0 counts),
  ap length d.seats_are ∙ (length-map (fresh_passes shared.cache.lock 0 (worker_entries counts)) (fresh_cache_seat shared.cache.depot)
      ∙ (length-fresh CacheEntry shared.cache.lock 0 (worker_entries counts) ∙ length-map counts (λ n. 2 * n))),
)

pub dealt_last : (shared : Shared) (counts : List ℕ) (count : ℕ) (sessions all : List SessionState) (session : SessionState) (seats every : List CacheSeatState) (seat : CacheSeatState) →
    AreDealt shared (counts ++ count ∷ []) all every → all ≡ sessions ++ session ∷ [] → every ≡ seats ++ seat ∷ [] → Last shared counts count sessions session seats seat
dealt_last shared counts count sessions all session seats every seat d ends finishes =
    record {
      dealt = record { passes = passes.0; fresh = freshes.0; of = sites.0; seats_are = places.0; seats_of = of.0 };
      pass = passes.1;
      is_fresh = freshes.1;
      of = sites.1;
      seat_is = places.1;
      seat_of = of.1;
    }
  where
    passes : (map (λ (s : SessionState). s.pass) sessions ≡ fresh_passes shared.table 0 counts) × (session.pass ≡ fresh shared.table (length counts) count)
    passes =
        same_front (map (λ (s : SessionState). s.pass) sessions) (fresh_passes shared.table 0 counts) session.pass (fresh shared.table (length counts) count)
        (sym (map-push (λ (s : SessionState). s.pass) sessions session) ∙ (ap (map (λ (s : SessionState). s.pass)) (sym ends) ∙ (d.passes ∙ fresh-first shared.table counts count)))

    freshes : All IsFreshSession sessions × IsFreshSession session
    freshes = All-pop IsFreshSession all sessions (Some session) ends d.fresh

    sites : All (λ (s : SessionState). s.pass.site ≡ shared.table) sessions × (session.pass.site ≡ shared.table)
    sites = All-pop (λ (s : SessionState). s.pass.site ≡ shared.table) all sessions (Some session) ends d.of

    long : worker_entries (counts ++ count ∷ []) ≡ worker_entries counts ++ 2 * count ∷ []
    long = map-push (λ (n : ℕ). 2 * n) counts count

    split : every ≡ map (fresh_cache_seat shared.cache.depot) (fresh_passes shared.cache.lock 0 (worker_entries counts))
        ++ fresh_cache_seat shared.cache.depot (fresh shared.cache.lock (length (worker_entries counts)) (2 * count)) ∷ []
    split =
        d.seats_are ∙ (ap (λ (qs : List ℕ). map (fresh_cache_seat shared.cache.depot) (fresh_passes shared.cache.lock 0 qs)) long
        ∙ (ap (map (fresh_cache_seat shared.cache.depot)) (fresh-first shared.cache.lock (worker_entries counts) (2 * count))
        ∙ map-push (fresh_cache_seat shared.cache.depot) (fresh_passes shared.cache.lock 0 (worker_entries counts)) (fresh shared.cache.lock (length (worker_entries counts)) (2 * count))))

    places : (seats ≡ map (fresh_cache_seat shared.cache.depot) (fresh_passes shared.cache.lock 0 (worker_entries counts)))
        × (seat ≡ fresh_cache_seat shared.cache.depot (fresh shared.cache.lock (length counts) (2 * count)))
    places =
        let both = same_front seats (map (fresh_cache_seat shared.cache.depot) (fresh_passes shared.cache.lock 0 (worker_entries counts))) seat
        (fresh_cache_seat shared.cache.depot (fresh shared.cache.lock (length (worker_entries counts)) (2 * count))) (sym finishes ∙ split) in
        (both.0, both.1 ∙ ap (λ k. fresh_cache_seat shared.cache.depot (fresh shared.cache.lock k (2 * count))) (length-map counts (λ (n : ℕ). 2 * n)))

    of : All (IsCacheSeat shared.cache) seats × IsCacheSeat shared.cache seat
    of = All-pop (IsCacheSeat shared.cache) every seats (Some seat) finishes d.seats_of

-- the counts but for the last one
pub counts_last : (lines : List Line) (n : ℕ) → command_counts (suc n) lines ≡ command_counts n lines ++ length (commands_of (worker_of n) lines) ∷ []
counts_last lines n =
    let more : suc n ≡ n + 1 = omega arith in let is : 1 + n ≡ worker_of n = omega arith in
    ap (λ k. command_counts k lines) more ∙ map-range_with_len_more (λ w. length (commands_of w lines)) 1 n (worker_of n) is

-- a worker's commands are of the lines
pub commands_within : (names worker : ℕ) (lines : List Line) → All (λ (line : Line). IsWithinNames names line.command) lines → All (IsWithinNames names) (commands_of worker lines)
commands_within names worker [] all = All-nil (IsWithinNames names)
commands_within names worker (line ∷ lines) all =
    let P : Line → Type 0 = λ line. IsWithinNames names line.command in
    let rest = commands_within names worker lines (All-tail P line lines all) in
    cond_both (line.worker == worker) (line ∷ filter (λ (l : Line). l.worker == worker) lines) (filter (λ (l : Line). l.worker == worker) lines)
    (λ (ls : List Line). All (IsWithinNames names) (map (λ (l : Line). l.command) ls))
    (λ is. All-cons (IsWithinNames names) line.command (commands_of worker lines) (All-head P line lines all) rest)
    (λ other. rest)

pub commands_few : (worker : ℕ) (lines : List Line) → length (commands_of worker lines) ≤ length lines
commands_few worker [] = omega arith
commands_few worker (line ∷ lines) =
    let rest = commands_few worker lines in
    cond_both (line.worker == worker) (line ∷ filter (λ (l : Line). l.worker == worker) lines) (filter (λ (l : Line). l.worker == worker) lines)
    (λ (ls : List Line). length (map (λ (l : Line). l.command) ls) ≤ suc (length lines))
    (λ is. omega (arith, rest))
    (λ other. omega (arith, rest))

-- the worker that is made of the last ones
pub starting : (shared : Shared) (lines : List Line) (counts : List ℕ) (count : ℕ) (sessions : List SessionState) (seats : List CacheSeatState) (w : Worker) →
    Last shared counts count sessions w.session seats w.seat → count ≡ length (commands_of (worker_of (length counts)) lines) →
    All (λ (line : Line). IsWithinNames shared.table.home.names line.command) lines → length lines ≤ 100000 →
    w.number ≡ worker_of (length counts) → w.commands.items ≡ commands_of (worker_of (length counts)) lines → IsStarting shared lines w
starting shared lines counts count sessions seats w last is within few number commands =
    record {
      ready = record {
        of = last.of;
        seat_of = last.seat_of;
        names = subst (All (IsWithinNames shared.table.home.names)) (sym commands) (commands_within shared.table.home.names (worker_of (length counts)) lines within);
        few = omega (arith, ap length commands, commands_few (worker_of (length counts)) lines, few);
        fresh = last.is_fresh;
        none = ap (λ (p : PassState RecordEntry TableHome). p.mine) last.pass;
        left = omega (arith, ap length commands, is, ap {B = ℕ} (λ (p : PassState RecordEntry TableHome). p.left) last.pass);
        seat_none = ap (λ (s : CacheSeatState). s.pass.mine) last.seat_is;
        seat_left = omega (arith, ap length commands, is, ap {B = ℕ} (λ (s : CacheSeatState). s.pass.left) last.seat_is);
        counts = (ap (λ (s : CacheSeatState). s.lent) last.seat_is, ap (λ (s : CacheSeatState). s.returned) last.seat_is);
      };
      number = number ∙ ap worker_of (sym at);
      commands = commands ∙ ap (λ k. commands_of (worker_of k) lines) (sym at);
      seat = ap (λ (s : CacheSeatState). s.pass.number) last.seat_is ∙ sym at;
    }
  where
    at : pass_of w ≡ length counts
    at = ap (λ (p : PassState RecordEntry TableHome). p.number) last.pass

-- the passes with one more worker in front
pub passes_on : (n all : ℕ) (done : List Worker) (w : Worker) → pass_of w ≡ n → range_with_len 0 (suc n) ++ map pass_of (reverse done) ≡ range_with_len 0 all →
    range_with_len 0 n ++ map pass_of (reverse (done ++ w ∷ [])) ≡ range_with_len 0 all
passes_on n all done w at e = ap (λ l. range_with_len 0 n ++ l) (ap (map pass_of) (turned done w) ∙ ap (λ k. k ∷ map pass_of (reverse done)) at)
    ∙ (sym (append_assoc (range_with_len 0 n) (n ∷ []) (map pass_of (reverse done))) ∙ (ap (λ l. l ++ map pass_of (reverse done)) (sym pushed) ∙ e))
  where
    pushed : range_with_len 0 (suc n) ≡ range_with_len 0 n ++ n ∷ []
    pushed = range-first n

    turned : (xs : List Worker) (x : Worker) → reverse (xs ++ x ∷ []) ≡ x ∷ reverse xs
    turned xs x = reverse-append xs (x ∷ [])
