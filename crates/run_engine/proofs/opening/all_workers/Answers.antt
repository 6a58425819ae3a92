use Rattle.std.proofs.Common.{◌≡◌, ◌∷◌, ◌++◌, [], ℕ, suc, List, map, length, reverse, ap, sym, ◌∙◌, subst, arith}
use Rattle.std.specs.List.{range_with_len}
use Rattle.std.proofs.lemmas.List.{length-append, append-nil}
use Rattle.std.proofs.lemmas.List.Elements.{All-nil, All-cons, All-append, All-same}
use Rattle.kmem_model.specs.History.{worker_of, commands_of}
use Rattle.hist_lock.specs.Passes.{PassState}
use Rattle.kmem_model.specs.declared.record_entry.RecordEntry.{RecordEntry}
use Rattle.record_table.specs.Tables.{TableHome}
use Rattle.record_table.specs.Sessions.{SessionState}
use Rattle.kmem_cache.specs.Seats.{CacheSeatState}
use Rattle.run_workers.specs.declared.worker.Worker.{Worker}
use Rattle.run_engine.specs.Quotas.{command_counts}
use Rattle.run_engine.specs.Opened.{pass_of, IsStarting}
use Rattle.run_engine.specs.Openings.{AreDealt}
use Rattle.run_engine.proofs.Rows.{same_front}
use Rattle.run_engine.proofs.Dealing.{Last, dealt_many, dealt_last, counts_last, starting, passes_on}
use Rattle.run_engine.proofs.opening.all_workers.Goals as goal

pub loop-count-init : goal.loop-count-init
loop-count-init c =
    let many = dealt_many c.args.shared.now c.args.counts.items c.args.sessions.items c.args.seats.items c.requires.dealt in
    let none = c.in_ok-workers.ensures.items in
    record {
      dealt = c.requires.dealt;
      counts = c.requires.counts;
      workers = All-same (IsStarting c.args.shared.now c.args.lines.now) c.in_ok-workers.workers.items [] none (All-nil (IsStarting c.args.shared.now c.args.lines.now));
      passes = ap (λ (ws : List Worker). range_with_len 0 (length c.args.counts.items) ++ map pass_of (reverse ws)) none ∙ append-nil (range_with_len 0 (length c.args.counts.items));
      room = omega (arith, c.in_ok-workers.ensures.len, c.in_ok-workers.ensures.capacity);
      many = omega (arith, c.args.counts.ok, c.requires.many);
      many_sessions = omega (arith, many.0, c.args.counts.ok, c.args.sessions.ok);
      many_seats = omega (arith, many.1, c.args.counts.ok, c.args.seats.ok);
    }

pub loop-count-preserved : goal.loop-count-preserved
loop-count-preserved c =
    let inv = c.loop-count.invariant in
    let shared = c.args.shared.now in
    let lines = c.args.lines.now in
    let left = c.pop.new.self.items in
    let count = c.in-Some.count in
    let w = c.in_ok-worker_of.field-0 in
    let made = c.in_ok-worker_of.ensures in
    let sessions = c.pop-in-Some.new.self.items in
    let seats = c.pop-in-Some-2.new.self.items in
    let long : length c.loop-count.counts.items ≡ suc (length left) = omega (arith, ap length c.in-Some.ensures.items, length-append left (count ∷ [])) in
    let rows = same_front left (command_counts (length left) lines) count (length (commands_of (worker_of (length left)) lines))
    (sym c.in-Some.ensures.items ∙ (inv.counts ∙ (ap (λ n. command_counts n lines) long ∙ counts_last lines (length left)))) in
    let last : Last shared left count sessions w.session seats w.seat = dealt_last shared left count sessions c.loop-count.sessions.items w.session seats c.loop-count.seats.items w.seat
    (subst (λ (cs : List ℕ). AreDealt shared cs c.loop-count.sessions.items c.loop-count.seats.items) c.in-Some.ensures.items inv.dealt)
    (c.in-Some-pop.ensures.items ∙ ap (λ (s : SessionState). sessions ++ s ∷ []) (sym made.2))
    (c.in-Some-pop-2.ensures.items ∙ ap (λ (s : CacheSeatState). seats ++ s ∷ []) (sym made.3)) in
    let number : w.number ≡ worker_of (length left) = omega (arith, made.0, c.pop.new.self.ok) in
    let start = starting shared lines left count sessions seats w last rows.1 c.requires.names c.requires.few number (made.1 ∙ ap (λ n. commands_of n lines) (sym made.0 ∙ number)) in
    record {
      dealt = last.dealt;
      counts = rows.0;
      workers =
          All-same (IsStarting shared lines) c.push_reserved.new.self.items (c.loop-count.workers.items ++ w ∷ []) c.push_reserved.ensures.items
          (All-append (IsStarting shared lines) c.loop-count.workers.items (w ∷ []) inv.workers (All-cons (IsStarting shared lines) w [] start (All-nil (IsStarting shared lines))));
      passes =
          ap (λ (ws : List Worker). range_with_len 0 (length left) ++ map pass_of (reverse ws)) c.push_reserved.ensures.items
          ∙ passes_on (length left) (length c.args.counts.items) c.loop-count.workers.items w (ap (λ (p : PassState RecordEntry TableHome). p.number) last.pass)
          (ap (λ n. range_with_len 0 n ++ map pass_of (reverse c.loop-count.workers.items)) (sym long) ∙ inv.passes);
      room = omega (arith, inv.room, c.in-Some.ensures.len, c.push_reserved.ensures.len, c.push_reserved.ensures.capacity);
      many = omega (arith, inv.many, c.in-Some.ensures.len);
      many_sessions = omega (arith, inv.many_sessions, c.in-Some.ensures.len, c.in-Some-pop.ensures.len);
      many_seats = omega (arith, inv.many_seats, c.in-Some.ensures.len, c.in-Some-pop-2.ensures.len);
    }
