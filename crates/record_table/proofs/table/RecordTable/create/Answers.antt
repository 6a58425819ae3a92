use Rattle.std.proofs.Common.{◌≡◌, ℕ, ◌+◌, ◌-◌, ◌++◌, List, length, map, replicate, All, ap, sym, ◌∙◌, subst, arith}
use Rattle.std.proofs.lemmas.List.{length-append, length-replicate}
use Rattle.std.proofs.lemmas.List.Elements.{All-same}
use Rattle.kmem_model.specs.declared.record_entry.RecordEntry.{RecordEntry}
use Rattle.marks.specs.Words.{fresh_mark_seat}
use Rattle.hist_lock.specs.Passes.{PassState, fresh_passes}
use Rattle.record_table.specs.Shares.{fresh_shares}
use Rattle.record_table.specs.Tables.{TableHome, home_of}
use Rattle.record_table.specs.Turns.{IsWordsOf}
use Rattle.record_table.specs.Sessions.{SessionState}
use Rattle.record_table.specs.Asks.{MoverState}
use Rattle.record_table.specs.Openings.{IsFreshPass, IsFreshShare}
use Rattle.kmem_cache.proofs.Partings.{all_unmap}
use Rattle.record_table.proofs.Ends.{fresh_all, fresh_sites, fresh_long, shares_all, shares_long, split_passes, turned_back}
use Rattle.record_table.proofs.table.RecordTable.create.Goals as goal

pub all_movers-asking-requires-clause-fresh : goal.all_movers-asking-requires-clause-fresh
all_movers-asking-requires-clause-fresh c =
    let lock = c.in_ok-lock.lock in
    let quotas = c.deref.result.now in
    All-same (IsFreshPass lock lock.count) c.in_ok-lock.passes.items (fresh_passes lock 0 quotas) c.in_ok-lock.ensures.passes
    (fresh_all lock 0 lock.count quotas (omega (arith, c.in_ok-lock.ensures.count)))

pub all_movers-asking-requires-clause-shares : goal.all_movers-asking-requires-clause-shares
all_movers-asking-requires-clause-shares c =
    let homes = (home_of c.in_ok-records.records).shares in
    subst (λ (home : TableHome). All (IsFreshShare home.shares) c.in_ok-records.shares.items) (sym c.in_ok-lock.ensures.home)
    (All-same (IsFreshShare homes) c.in_ok-records.shares.items (fresh_shares 0 homes) c.in_ok-records.ensures.shares.1 (shares_all homes))

-- the quotas are those of the scripts, and none for each mover
quotas_are : (quotas scripts made : List ℕ) (movers : ℕ) → quotas ≡ made → made ≡ scripts ++ replicate (length scripts + movers - length scripts) 0 →
    quotas ≡ scripts ++ replicate movers 0
quotas_are quotas scripts made movers is as_made =
    let same : length scripts + movers - length scripts ≡ movers = omega arith in
    is ∙ (as_made ∙ ap (λ n. scripts ++ replicate n 0) same)

quotas_long : (quotas scripts : List ℕ) (movers : ℕ) → quotas ≡ scripts ++ replicate movers 0 → length quotas ≡ length scripts + movers
quotas_long quotas scripts movers is = omega (arith, ap length is, length-append scripts (replicate movers 0), length-replicate {A = ℕ} movers 0)

pub all_movers-asking-requires-clause-count : goal.all_movers-asking-requires-clause-count
all_movers-asking-requires-clause-count c =
    let lock = c.in_ok-lock.lock in
    let quotas = c.deref.result.now in
    let scripts = c.args.scripts.now in
    let homes = (home_of c.in_ok-records.records).shares in
    let long = quotas_long quotas scripts c.args.movers (quotas_are quotas scripts c.in_ok-quotas.quotas.items c.args.movers c.deref.ensures.value c.in_ok-quotas.ensures.items) in
    let passes : length c.in_ok-lock.passes.items ≡ length scripts + c.args.movers = ap length c.in_ok-lock.ensures.passes ∙ (fresh_long lock 0 quotas ∙ long) in
    let shares : length c.in_ok-records.shares.items ≡ length scripts + c.args.movers = ap length c.in_ok-records.ensures.shares.1 ∙ (shares_long 0 homes ∙ c.in_ok-records.ensures.shares.0) in
    let seats : length c.in_ok-records.seats.items ≡ c.args.movers = ap length c.in_ok-records.ensures.seats ∙ length-replicate c.args.movers (fresh_mark_seat c.in_ok-records.marks.home) in
    (shares ∙ sym passes, omega (arith, passes, seats))

pub all_sessions-requires-clause-fresh : goal.all_sessions-requires-clause-fresh
all_sessions-requires-clause-fresh c =
    let lock = c.in_ok-lock.lock in
    let quotas = c.deref.result.now in
    let scripts = c.args.scripts.now in
    let movers = c.all_movers-asking.ensures.passes in
    let seats : length c.in_ok-records.seats.items ≡ c.args.movers = ap length c.in_ok-records.ensures.seats ∙ length-replicate c.args.movers (fresh_mark_seat c.in_ok-records.marks.home) in
    let split = split_passes lock scripts quotas c.args.movers c.in_ok-lock.passes.items c.all_movers-asking.new.passes.items movers.0 c.in_ok-lock.ensures.passes
    (quotas_are quotas scripts c.in_ok-quotas.quotas.items c.args.movers c.deref.ensures.value c.in_ok-quotas.ensures.items) movers.1 (movers.2 ∙ seats) in
    let workers : lock.home.workers ≡ length scripts = ap (λ (home : TableHome). home.workers) c.in_ok-lock.ensures.home ∙ c.in_ok-records.ensures.sizes.1 in
    All-same (IsFreshPass lock lock.home.workers) c.all_movers-asking.new.passes.items (fresh_passes lock 0 scripts) split.0
    (fresh_all lock 0 lock.home.workers scripts (omega (arith, workers)))

pub all_sessions-requires-clause-room : goal.all_sessions-requires-clause-room
all_sessions-requires-clause-room c =
    let lock = c.in_ok-lock.lock in
    let quotas = c.deref.result.now in
    let scripts = c.args.scripts.now in
    let movers = c.all_movers-asking.ensures.passes in
    let seats : length c.in_ok-records.seats.items ≡ c.args.movers = ap length c.in_ok-records.ensures.seats ∙ length-replicate c.args.movers (fresh_mark_seat c.in_ok-records.marks.home) in
    let split = split_passes lock scripts quotas c.args.movers c.in_ok-lock.passes.items c.all_movers-asking.new.passes.items movers.0 c.in_ok-lock.ensures.passes
    (quotas_are quotas scripts c.in_ok-quotas.quotas.items c.args.movers c.deref.ensures.value c.in_ok-quotas.ensures.items) movers.1 (movers.2 ∙ seats) in
    let long : length c.all_movers-asking.new.passes.items ≡ length scripts = ap length split.0 ∙ fresh_long lock 0 scripts in
    omega (arith, long, c.in_ok-sessions.ensures.capacity)

pub invariant_of-table : goal.invariant_of-table
invariant_of-table c =
    let lock = c.in_ok-lock.lock in
    let quotas = c.deref.result.now in
    let scripts = c.args.scripts.now in
    let long = quotas_long quotas scripts c.args.movers (quotas_are quotas scripts c.in_ok-quotas.quotas.items c.args.movers c.deref.ensures.value c.in_ok-quotas.ensures.items) in
    let count : lock.count ≡ length scripts + c.args.movers = c.in_ok-lock.ensures.count ∙ long in
    record {
      words_of = subst (λ (home : TableHome). IsWordsOf home c.in_ok-records.marks) (sym c.in_ok-lock.ensures.home) c.in_ok-records.ensures.words;
      home_is = sym (ap (λ (home : TableHome). home.cache) c.in_ok-lock.ensures.home ∙ (c.in_ok-records.ensures.home ∙ c.again.ensures));
      room = (c.in_ok-room.ensures ∙ sym count, c.in_ok-share_room.ensures ∙ sym count);
      shared = ap (λ (home : TableHome). length home.shares) c.in_ok-lock.ensures.home ∙ (c.in_ok-records.ensures.shares.0 ∙ sym count);
    }

pub returns-clause-sessions : goal.returns-clause-sessions
returns-clause-sessions c =
    let lock = c.in_ok-lock.lock in
    let quotas = c.deref.result.now in
    let scripts = c.args.scripts.now in
    let movers = c.all_movers-asking.ensures.passes in
    let seats : length c.in_ok-records.seats.items ≡ c.args.movers = ap length c.in_ok-records.ensures.seats ∙ length-replicate c.args.movers (fresh_mark_seat c.in_ok-records.marks.home) in
    let split = split_passes lock scripts quotas c.args.movers c.in_ok-lock.passes.items c.all_movers-asking.new.passes.items movers.0 c.in_ok-lock.ensures.passes
    (quotas_are quotas scripts c.in_ok-quotas.quotas.items c.args.movers c.deref.ensures.value c.in_ok-quotas.ensures.items) movers.1 (movers.2 ∙ seats) in
    ap (map (λ (s : SessionState). s.pass)) c.reverse-2.ensures.items
    ∙ (turned_back (λ (s : SessionState). s.pass) c.in_ok-sessions-2.sessions.items c.all_movers-asking.new.passes.items c.in_ok-sessions-2.ensures.passes ∙ split.0)

pub returns-clause-of : goal.returns-clause-of
returns-clause-of c =
    let lock = c.in_ok-lock.lock in
    let quotas = c.deref.result.now in
    let scripts = c.args.scripts.now in
    let movers = c.all_movers-asking.ensures.passes in
    let seats : length c.in_ok-records.seats.items ≡ c.args.movers = ap length c.in_ok-records.ensures.seats ∙ length-replicate c.args.movers (fresh_mark_seat c.in_ok-records.marks.home) in
    let split = split_passes lock scripts quotas c.args.movers c.in_ok-lock.passes.items c.all_movers-asking.new.passes.items movers.0 c.in_ok-lock.ensures.passes
    (quotas_are quotas scripts c.in_ok-quotas.quotas.items c.args.movers c.deref.ensures.value c.in_ok-quotas.ensures.items) movers.1 (movers.2 ∙ seats) in
    let P : PassState RecordEntry TableHome → Type 0 = λ p. p.site ≡ lock in
    let is : map (λ (s : SessionState). s.pass) c.reverse-2.new.self.items ≡ fresh_passes lock 0 scripts =
    ap (map (λ (s : SessionState). s.pass)) c.reverse-2.ensures.items
    ∙ (turned_back (λ (s : SessionState). s.pass) c.in_ok-sessions-2.sessions.items c.all_movers-asking.new.passes.items c.in_ok-sessions-2.ensures.passes ∙ split.0) in
    all_unmap P (λ (s : SessionState). s.pass) c.reverse-2.new.self.items
    (All-same P (map (λ (s : SessionState). s.pass) c.reverse-2.new.self.items) (fresh_passes lock 0 scripts) is (fresh_sites lock 0 scripts))

pub returns-clause-movers : goal.returns-clause-movers
returns-clause-movers c =
    let lock = c.in_ok-lock.lock in
    let quotas = c.deref.result.now in
    let scripts = c.args.scripts.now in
    let movers = c.all_movers-asking.ensures.passes in
    let seats : length c.in_ok-records.seats.items ≡ c.args.movers = ap length c.in_ok-records.ensures.seats ∙ length-replicate c.args.movers (fresh_mark_seat c.in_ok-records.marks.home) in
    let split = split_passes lock scripts quotas c.args.movers c.in_ok-lock.passes.items c.all_movers-asking.new.passes.items movers.0 c.in_ok-lock.ensures.passes
    (quotas_are quotas scripts c.in_ok-quotas.quotas.items c.args.movers c.deref.ensures.value c.in_ok-quotas.ensures.items) movers.1 (movers.2 ∙ seats) in
    ap (map (λ (m : MoverState). m.pass)) c.reverse.ensures.items
    ∙ (turned_back (λ (m : MoverState). m.pass) c.all_movers-asking.result.items movers.0 movers.3 ∙ split.1)
