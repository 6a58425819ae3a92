-- A mover's entries, one after another.
use Rattle.std.proofs.Common.{◌≡◌, ℕ, ◌+◌, List, [], ◌∷◌, ◌++◌, Option, Some, None, refl, sym, ap, ◌∙◌, subst, arith, append_assoc, length-append}
use Rattle.std.proofs.lemmas.List.{append-nil}
use Rattle.std.proofs.lemmas.List.Elements.{All-nil, All-cons, All-append}
use Rattle.hist_lock.specs.History.{IsFront}
use Rattle.hist_lock.specs.Passes.{PassState}
use Rattle.kmem_answers.specs.Words.{said_of}
use Rattle.kmem_buf.specs.Answers.{Flags}
use Rattle.kmem_buf.specs.declared.client.Verdict.{Verdict}
use Rattle.kmem_buf.specs.declared.client.Verdict.TheVariants as verdict
use Rattle.kmem_model.specs.CacheCounts.{handed_by, moves_begun, moves_ended, total}
use Rattle.kmem_model.specs.declared.cache_entry.CacheEntry.{CacheEntry}
use Rattle.kmem_model.specs.declared.cache_entry.CacheEntry.TheVariants.{End}
use Rattle.kmem_model.specs.declared.cache_entry.Said.{Said}
use Rattle.object_cache.specs.Moves.{JobState}
use Rattle.object_cache.specs.declared.tally.Tally.{Tally}
use Rattle.kmem_cache.specs.declared.locked.CacheHome.{CacheHome}
use Rattle.kmem_cache.specs.Calls.{IsOutAfter}
use Rattle.kmem_cache.specs.Seats.{CacheSite, CacheSeatState, HasActed}
use Rattle.move_queue.specs.Queue.{QueueSeatState}
use Rattle.consolidator.specs.Notes.{notes_by, Notes, verdict_in, noted, noted_all}
use Rattle.consolidator.specs.Rounds.{IsOfMover}
use Rattle.consolidator.specs.Works.{work_by, HasEntered, HasQueued, HasFinished, Work, HasWorked}

pub verdict_said : (v : Verdict) → verdict_in (said_of v) ≡ v
verdict_said verdict.Yes = refl
verdict_said verdict.No = refl
verdict_said verdict.Later = refl
verdict_said verdict.DontNeed = refl
verdict_said verdict.DontKnow = refl

-- notes that are equal part by part are equal
parts_are : (a a' b b' : ℕ) (t t' : Tally) (f f' : Flags) (l l' : Option Verdict) (c c' d d' e e' : ℕ) → a ≡ a' → b ≡ b' → t ≡ t' → f ≡ f' → l ≡ l' → c ≡ c' → d ≡ d' → e ≡ e' →
    ◌≡◌ {A = Notes} (record { lent = a; returned = b; tally = t; flags = f; last = l; answered = c; brought = d; fetched = e })
    (record { lent = a'; returned = b'; tally = t'; flags = f'; last = l'; answered = c'; brought = d'; fetched = e' })
parts_are a a' b b' t t' f f' l l' c c' d d' e e' lent returned tally flags last answered brought fetched = cc

pub notes_are : (n m : Notes) → n.lent ≡ m.lent → n.returned ≡ m.returned → n.tally ≡ m.tally → n.flags ≡ m.flags → n.last ≡ m.last →
    n.answered ≡ m.answered → n.brought ≡ m.brought → n.fetched ≡ m.fetched → n ≡ m
notes_are n m lent returned tally flags last answered brought fetched =
    parts_are n.lent m.lent n.returned m.returned n.tally m.tally n.flags m.flags n.last m.last n.answered m.answered n.brought m.brought n.fetched m.fetched
    lent returned tally flags last answered brought fetched

-- a client of whose answers nothing has changed leaves the work as it was
pub work_waited : {C X : Type 0} (flags : C → Flags) (last : C → Option Verdict) (answered brought fetched : C → ℕ) (seat : CacheSeatState) (place : QueueSeatState X) (tally : Tally)
    (old new : C) → flags new ≡ flags old → last new ≡ last old → answered new ≡ answered old → brought new ≡ brought old → fetched new ≡ fetched old →
    work_by flags last answered brought fetched seat place tally new ≡ work_by flags last answered brought fetched seat place tally old
work_waited {X = X} flags last answered brought fetched seat place tally old new same_flags same_last same_answered same_brought same_fetched =
    let notes = notes_by flags last answered brought fetched seat tally in
    let put : Notes → Work X = λ n. record { seat = seat; place = place; notes = n } in
    ap put (notes_are (notes new) (notes old) refl refl refl same_flags same_last same_answered same_brought same_fetched)

pub noted_append : (es fs : List CacheEntry) (n : Notes) → noted_all (es ++ fs) n ≡ noted_all fs (noted_all es n)
noted_append [] fs n = refl
noted_append (e ∷ es) fs n = noted_append es fs (noted e n)

pub total-append : (weight : CacheEntry → ℕ) (xs ys : List CacheEntry) → total weight (xs ++ ys) ≡ total weight xs + total weight ys
total-append weight [] ys = omega arith
total-append weight (x ∷ xs) ys = omega (arith, total-append weight xs ys)

pub front_chain : (xs ys zs : List (ℕ × CacheEntry)) → IsFront xs ys → IsFront ys zs → IsFront xs zs
front_chain xs ys zs first second =
    (first.0 ++ second.0, sym (append_assoc xs first.0 second.0) ∙ (ap (λ l. l ++ second.0) first.1 ∙ second.1))

pub entered_chain : (a b c : PassState CacheEntry CacheHome) (n m o : Notes) (es fs : List CacheEntry) → HasEntered a b n m es → HasEntered b c m o fs →
    HasEntered a c n o (es ++ fs)
entered_chain a b c n m o es fs first second = record {
  front = front_chain a.seen b.seen c.seen first.front second.front;
  mine = second.mine ∙ (ap (λ l. l ++ fs) first.mine ∙ append_assoc a.mine es fs);
  left = omega (arith, first.left, second.left, length-append es fs);
  site = second.site ∙ first.site;
  number = second.number ∙ first.number;
  kinds = All-append IsOfMover es fs first.kinds second.kinds;
  noted = second.noted ∙ (ap (noted_all fs) first.noted ∙ sym (noted_append es fs n));
}

module _ {X : Type 0} where
  pub queued_chain : (a b c : QueueSeatState X) (es fs : List CacheEntry) → HasQueued a b es → HasQueued b c fs → HasQueued a c (es ++ fs)
  queued_chain a b c es fs first second = record {
    begun = omega (arith, first.begun, second.begun, total-append moves_begun es fs);
    ended = omega (arith, first.ended, second.ended, total-append moves_ended es fs);
    left = omega (arith, first.left, second.left);
    same = (second.same.0 ∙ first.same.0, second.same.1 ∙ first.same.1, second.same.2 ∙ first.same.2);
  }

  pub worked_chain : (a b c : Work X) (es fs : List CacheEntry) → HasWorked a b es → HasWorked b c fs → HasWorked a c (es ++ fs)
  worked_chain a b c es fs first second = record {
    entered = entered_chain a.seat.pass b.seat.pass c.seat.pass a.notes b.notes c.notes es fs first.entered second.entered;
    queued = queued_chain a.place b.place c.place es fs first.queued second.queued;
  }

acted_front : (old new : PassState CacheEntry CacheHome) (entry : Option CacheEntry) → HasActed old new entry → IsFront old.seen new.seen
acted_front old new None acted = subst (λ (l : List (ℕ × CacheEntry)). IsFront old.seen l) (sym acted.seen) acted.front
acted_front old new (Some e) acted =
    front_chain old.seen acted.history new.seen acted.front ((old.number, e) ∷ [], sym acted.seen)

-- a call of the pass that made no entry
pub entered_none : (old new : PassState CacheEntry CacheHome) (n m : Notes) → HasActed old new None → m ≡ n → HasEntered old new n m []
entered_none old new n m acted same = record {
  front = acted_front old new None acted;
  mine = acted.mine;
  left = acted.left;
  site = acted.site;
  number = acted.number;
  kinds = All-nil IsOfMover;
  noted = same;
}

-- a call of the pass that made this entry
pub entered_one : (old new : PassState CacheEntry CacheHome) (n m : Notes) (e : CacheEntry) → HasActed old new (Some e) → IsOfMover e → m ≡ noted e n →
    HasEntered old new n m (e ∷ [])
entered_one old new n m e acted kind says = record {
  front = acted_front old new (Some e) acted;
  mine = acted.mine;
  left = acted.left;
  site = acted.site;
  number = acted.number;
  kinds = All-cons IsOfMover e [] kind (All-nil IsOfMover);
  noted = says;
}

-- a job whose old buffer was still out, and that an answer ended then
pub finished_asked : {X : Type 0} (site : CacheSite) (seat mid seat' : CacheSeatState) (n m : Notes) (job : JobState X) (j : ℕ) (said : Said) →
    HasActed seat.pass mid.pass None → mid ≡ record seat { pass = mid.pass } → IsOutAfter site.lock.home mid.pass.seen job.move.from → j ≡ job.move.no →
    HasActed mid.pass seat'.pass (Some (End j said)) → seat' ≡ record mid { pass = seat'.pass; returned = mid.returned + handed_by said } →
    m ≡ noted (End j said) n → HasFinished site seat seat' n m job
finished_asked site seat mid seat' n m job j said looked same out is acted after says = record {
  entry = End j said;
  entered = entered_chain seat.pass mid.pass seat'.pass n n m [] (End j said ∷ []) (entered_none seat.pass mid.pass n n looked refl)
      (entered_one mid.pass seat'.pass n m (End j said) acted tt says);
  ended = (is, (mid.pass.seen, acted_front seat.pass mid.pass None looked, acted_front mid.pass seat'.pass (Some (End j said)) acted, out));
  magazines = (
    ap (λ (s : CacheSeatState). s.rounds) after ∙ ap (λ (s : CacheSeatState). s.rounds) same,
    ap (λ (s : CacheSeatState). s.depot) after ∙ ap (λ (s : CacheSeatState). s.depot) same,
  );
}

-- nothing was done
pub entered_same : (old new : PassState CacheEntry CacheHome) (n m : Notes) → new ≡ old → m ≡ n → HasEntered old new n m []
entered_same old new n m same is = record {
  front = ([], append-nil old.seen ∙ sym (ap (λ (p : PassState CacheEntry CacheHome). p.seen) same));
  mine = ap (λ (p : PassState CacheEntry CacheHome). p.mine) same ∙ sym (append-nil old.mine);
  left = omega (arith, ap (λ (p : PassState CacheEntry CacheHome). p.left) same);
  site = ap (λ (p : PassState CacheEntry CacheHome). p.site) same;
  number = ap (λ (p : PassState CacheEntry CacheHome). p.number) same;
  kinds = All-nil IsOfMover;
  noted = is;
}
