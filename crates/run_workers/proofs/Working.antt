-- A worker between two of its commands.
use Rattle.std.proofs.Common.{◌≡◌, ◌+◌, ◌*◌, ◌<◌, ◌≤◌, ◌++◌, ◌||◌, ℕ, Bool, true, false, cond, List, [], ◌∷◌, length, take, count_by, get_or, Option, Some, None, refl, sym, ap, ap₂, ◌∙◌, subst, arith}
use Rattle.std.specs.List.{All}
use Rattle.std.specs.Option.{IfSome}
use Rattle.std.proofs.lemmas.List.{take_more, map-append, length-take-le}
use Rattle.std.proofs.lemmas.List.Elements.{All-nil, All-cons, All-append}
use Rattle.std.proofs.lemmas.List.Sums.{sum_by-append}
use Rattle.kmem_text.specs.declared.command.Command.{Command}
use Rattle.kmem_text.specs.declared.command.Reply.{Reply}
use Rattle.kmem_text.specs.declared.command.Reply.TheVariants as said
use Rattle.kmem_model.specs.declared.record_entry.RecordEntry.{RecordEntry}
use Rattle.kmem_model.specs.declared.cache_entry.CacheEntry.{CacheEntry}
use Rattle.kmem_model.specs.declared.cache_entry.CacheEntry.TheVariants.{Alloc, Full, Free, Scan, Begin, Idle, Gone, End, Forget}
use Rattle.kmem_model.specs.History.{numbered, is_refusal}
use Rattle.hist_lock.specs.History.{listed}
use Rattle.hist_lock.specs.Passes.{Site}
use Rattle.kmem_cache.specs.Seats.{CacheSite}
use Rattle.record_table.specs.Tables.{TableHome}
use Rattle.record_table.specs.Sessions.{FoundAbsent}
use Rattle.record_table.specs.Runs.{is_put, is_del, asks_slabs, frees_slab, HasCarriedOut}
use Rattle.run_workers.specs.declared.worker.Worker.{Worker}
use Rattle.run_workers.specs.Workers.{asked_of, is_refused, is_full_entry, is_of_worker, IsReady, HasDone}

-- some of its commands are done, and there is room for the others
pub record IsWorking (cache : CacheSite) (old : Worker) (i : ℕ) (w : Worker) : Type 0 where
  pub done : HasDone cache (take i old.commands.items) old w
  pub made : w.session.made ≡ i
  pub left : w.session.pass.left + i ≡ old.session.pass.left
  pub seat_left : old.seat.pass.left ≤ w.seat.pass.left + 2 * i
  pub small : (w.session.share.brought ≤ i) × (w.session.share.fetched ≤ i)

pub working_none : (table : Site TableHome) (cache : CacheSite) (w : Worker) → IsReady table cache w → IsWorking cache w 0 w
working_none table cache w ready = record {
  done = record {
    asked = ap asked_of ready.none;
    site = refl;
    number = refl;
    kinds = subst (All (λ e. is_of_worker e ≡ true)) (sym ready.seat_none) (All-nil (λ e. is_of_worker e ≡ true));
    asks = omega (arith, ap (count_by asks_slabs) ready.seat_none);
    refusals = omega (arith, ap (count_by is_refused) ready.none);
    seat_of = ready.seat_of;
    seat_number = refl;
    balance = omega (arith, ready.counts.0, ready.counts.1, ready.fresh.counts.0, ready.fresh.counts.1);
    same = (refl, refl);
  };
  made = ready.fresh.made;
  left = omega arith;
  seat_left = omega arith;
  small = (omega (arith, ready.fresh.counts.0), omega (arith, ready.fresh.counts.1));
}

-- Counts over lists

count_both : {X : Type 0} (test : X → Bool) (xs ys : List X) → count_by test (xs ++ ys) ≡ count_by test xs + count_by test ys
count_both test xs ys = sum_by-append (λ x. cond (test x) 1 0) xs ys

at_most_one : (b : Bool) → cond {A = ℕ} b 1 0 ≤ 1
at_most_one true = omega arith
at_most_one false = omega arith

count_one : {X : Type 0} (test : X → Bool) (x : X) → count_by test (x ∷ []) ≡ cond {A = ℕ} (test x) 1 0
count_one test x = omega arith

numbered_more : (start : ℕ) (xs : List Command) (x : Command) → numbered start (xs ++ x ∷ []) ≡ numbered start xs ++ (start + length xs, x) ∷ []
numbered_more start [] x = ap (λ n. (n, x) ∷ []) (omega arith)
numbered_more start (y ∷ xs) x = ap (λ es. (start, y) ∷ es) (numbered_more (start + 1) xs x ∙ ap (λ n. numbered (start + 1) xs ++ (n, x) ∷ []) (omega arith))

-- The entries of one command

listed_short : {X : Type 0} (o : Option X) → length (listed o) ≤ 1
listed_short None = omega arith
listed_short (Some x) = omega arith

either_left : (a b : Bool) → a ≡ true → (a || b) ≡ true
either_left true b e = refl
either_left false b e = absurd (cc)

either_right : (a b : Bool) → b ≡ true → (a || b) ≡ true
either_right true b e = refl
either_right false b e = e

of_asked : (o : Option CacheEntry) (put : Bool) (absent : Type 0) → IfSome o (λ e. (put ≡ true) × (asks_slabs e ≡ true) × absent) → All (λ e. is_of_worker e ≡ true) (listed o)
of_asked None put absent h = All-nil (λ e. is_of_worker e ≡ true)
of_asked (Some e) put absent h = All-cons (λ e. is_of_worker e ≡ true) e [] (either_left (asks_slabs e) (frees_slab e) h.1) (All-nil (λ e. is_of_worker e ≡ true))

of_freed : (o : Option CacheEntry) (may : Bool) → IfSome o (λ e. (may ≡ true) × (frees_slab e ≡ true)) → All (λ e. is_of_worker e ≡ true) (listed o)
of_freed None may h = All-nil (λ e. is_of_worker e ≡ true)
of_freed (Some e) may h = All-cons (λ e. is_of_worker e ≡ true) e [] (either_right (asks_slabs e) (frees_slab e) h.1) (All-nil (λ e. is_of_worker e ≡ true))

-- a buffer is asked for only by a put
asks_of : (o : Option CacheEntry) (put : Bool) (absent : Type 0) → IfSome o (λ e. (put ≡ true) × (asks_slabs e ≡ true) × absent) → count_by asks_slabs (listed o) ≤ cond put 1 0
asks_of None put absent h = omega arith
asks_of (Some e) true absent h = omega (arith, count_one asks_slabs e, at_most_one (asks_slabs e))
asks_of (Some e) false absent h = absurd (no h.0)
  where
    no : false ≡ true → ⊥
    no e = cc

-- an entry that frees asks for none
no_asks : (o : Option CacheEntry) (may : Bool) → IfSome o (λ e. (may ≡ true) × (frees_slab e ≡ true)) → count_by asks_slabs (listed o) ≡ 0
no_asks None may h = refl
no_asks (Some e) may h = by e h.1
  where
    no : false ≡ true → ⊥
    no e = cc

    by : (e : CacheEntry) → frees_slab e ≡ true → count_by asks_slabs (e ∷ []) ≡ 0
    by (Alloc b) f = absurd (no f)
    by Full f = absurd (no f)
    by (Free b) f = refl
    by (Scan d) f = absurd (no f)
    by (Begin j b c) f = absurd (no f)
    by Idle f = absurd (no f)
    by (Gone j) f = absurd (no f)
    by (End j a) f = absurd (no f)
    by Forget f = absurd (no f)

-- the count of `full` grows only with a Full
full_grows : (reply : Reply) (before after : ℕ) → (reply ≡ said.Full → after ≡ before + 1) → before ≤ after → before + cond (is_refusal reply) 1 0 ≤ after
full_grows said.Full before after due more = omega (arith, due refl)
full_grows said.New before after due more = omega (arith, more)
full_grows (said.Was v) before after due more = omega (arith, more)
full_grows (said.Gone v) before after due more = omega (arith, more)
full_grows (said.Val v) before after due more = omega (arith, more)
full_grows said.Absent before after due more = omega (arith, more)
full_grows (said.At n v) before after due more = omega (arith, more)
full_grows (said.Number n) before after due more = omega (arith, more)
full_grows said.Done before after due more = omega (arith, more)
full_grows said.Taken before after due more = omega (arith, more)
full_grows said.Many before after due more = omega (arith, more)
full_grows said.Used before after due more = omega (arith, more)
full_grows said.Idle before after due more = omega (arith, more)

-- one command more
pub working_on : (cache : CacheSite) (old w w' : Worker) (i : ℕ) (command : Command) (reply : Reply) → i < length old.commands.items → command ≡ get_or old.commands.items i command →
    IsWorking cache old i w → HasCarriedOut cache command reply w.session w'.session w.seat w'.seat → w'.commands.items ≡ w.commands.items → w'.number ≡ w.number → IsWorking cache old (i + 1) w'
working_on cache old w w' i command reply small is at does commands number =
    let used = does.used in
    let mine = w.seat.pass.mine in
    let more : take (i + 1) old.commands.items ≡ take i old.commands.items ++ command ∷ [] = take_more old.commands.items i command small ∙ ap (λ c. take i old.commands.items ++ c ∷ []) (sym is) in
    let long : length (take i old.commands.items) ≡ i = length-take-le i old.commands.items (omega (arith, small)) in
    let full : count_by is_full_entry w'.seat.pass.mine ≡ count_by is_full_entry mine + count_by is_full_entry (listed used.asked) + count_by is_full_entry (listed used.freed) =
    ap (count_by is_full_entry) used.mine ∙ (count_both is_full_entry (mine ++ listed used.asked) (listed used.freed) ∙ ap (λ n. n + count_by is_full_entry (listed used.freed)) (count_both is_full_entry mine (listed used.asked))) in
    let asks : count_by asks_slabs w'.seat.pass.mine ≡ count_by asks_slabs mine + count_by asks_slabs (listed used.asked) + count_by asks_slabs (listed used.freed) =
    ap (count_by asks_slabs) used.mine ∙ (count_both asks_slabs (mine ++ listed used.asked) (listed used.freed) ∙ ap (λ n. n + count_by asks_slabs (listed used.freed)) (count_both asks_slabs mine (listed used.asked))) in
    let puts : count_by is_put (take (i + 1) old.commands.items) ≡ count_by is_put (take i old.commands.items) + cond (is_put command) 1 0 =
    ap (count_by is_put) more ∙ (count_both is_put (take i old.commands.items) (command ∷ []) ∙ ap (λ n. count_by is_put (take i old.commands.items) + n) (count_one is_put command)) in
    let refused : count_by is_refused w'.session.pass.mine ≡ count_by is_refused w.session.pass.mine + cond (is_refusal reply) 1 0 =
    ap (count_by is_refused) does.added.mine
    ∙ (count_both is_refused w.session.pass.mine (record { number = w.session.made + 1; command = command; reply = reply } ∷ [])
    ∙ ap (λ n. count_by is_refused w.session.pass.mine + n) (count_one is_refused (record { number = w.session.made + 1; command = command; reply = reply }))) in
    let due : reply ≡ said.Full → count_by is_full_entry w'.seat.pass.mine ≡ count_by is_full_entry mine + 1 = λ f.
    ap (count_by is_full_entry) (does.full f).mine ∙ count_both is_full_entry mine (Full ∷ []) in
    let grown = full_grows reply (count_by is_full_entry mine) (count_by is_full_entry w'.seat.pass.mine) due (omega (arith, full)) in
    let balance = does.balanced.balance in
    record {
      done = record {
        asked = ap asked_of does.added.mine
            ∙ (map-append (λ (e : RecordEntry). (e.number, e.command)) w.session.pass.mine (record { number = w.session.made + 1; command = command; reply = reply } ∷ [])
            ∙ (ap₂ (λ es n. es ++ (n, command) ∷ []) at.done.asked (omega (arith, at.made, long))
            ∙ (sym (numbered_more 1 (take i old.commands.items) command) ∙ ap (numbered 1) (sym more))));
        site = does.added.site ∙ at.done.site;
        number = does.added.number ∙ at.done.number;
        kinds = subst (All (λ e. is_of_worker e ≡ true)) (sym used.mine)
            (All-append (λ e. is_of_worker e ≡ true) (mine ++ listed used.asked) (listed used.freed)
            (All-append (λ e. is_of_worker e ≡ true) mine (listed used.asked) at.done.kinds (of_asked used.asked (is_put command) (FoundAbsent w.session.pass w'.session.pass command) used.asks))
            (of_freed used.freed (is_put command || is_del command) used.frees));
        asks = omega (arith, asks, puts, at.done.asks, asks_of used.asked (is_put command) (FoundAbsent w.session.pass w'.session.pass command) used.asks, no_asks used.freed (is_put command || is_del command) used.frees);
        refusals = omega (arith, refused, grown, at.done.refusals);
        seat_of = does.of;
        seat_number = used.number ∙ at.done.seat_number;
        balance = omega (arith, balance, at.done.balance);
        same = (commands ∙ at.done.same.0, number ∙ at.done.same.1);
      };
      made = omega (arith, does.made, at.made);
      left = omega (arith, does.added.left, at.left);
      seat_left = omega (arith, used.left, at.seat_left, listed_short used.asked, listed_short used.freed);
      small = (omega (arith, does.balanced.brought.1, at.small.0), omega (arith, does.balanced.fetched.1, at.small.1));
    }
