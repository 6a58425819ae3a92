-- How moves ended, by what the script asks for.
use Rattle.std.proofs.Common.{◌≡◌, ◌+◌, ◌==◌, ◌&&◌, ◌||◌, ℕ, suc, Bool, true, false, List, [], ◌∷◌, map, filter, get_or, count_by, Option, Some, None, is_some, cond, refl, sym, ap, ap₂, ◌∙◌, subst, arith}
use Rattle.std.specs.List.{All, AllByRecursion, list_any}
use Rattle.std.proofs.lemmas.Bool.{cond_both, false_from_ne_true, both_ways, eq-eqb}
use Rattle.std.proofs.lemmas.List.Sums.{sum_by-cons}
use Rattle.std.proofs.lemmas.List.Elements.{recursion_from_All, All-from_recursion}
use Rattle.std.proofs.lemmas.List.Folds.{list_any_none, list_any-append}
use Rattle.kmem_text.specs.declared.command.Command.{Command}
use Rattle.kmem_text.specs.declared.command.Line.{Line}
use Rattle.kmem_model.specs.declared.record_entry.RecordEntry.{RecordEntry}
use Rattle.kmem_model.specs.Records.{RecordMap, tag_count, held_at, no_records}
use Rattle.kmem_model.specs.CacheOrder.{is_the}
use Rattle.kmem_model.specs.History.{worker_of, commands_of, numbered, asked_by, map_after, IsLegalHistory, IsShared, is_done, is_hold, is_fix, has_held, has_fixed}
use Rattle.kmem_model.specs.OneRun.{is_fixed}
use Rattle.hist_lock.specs.History.{IsFront}
use Rattle.kmem_buf.specs.Answers.{Flags}
use Rattle.object_cache.specs.declared.tally.Tally.{Tally}
use Rattle.record_table.specs.Ended.{is_drop, has_dropped}
use Rattle.record_table.specs.Asks.{AreFlagsDue}
use Rattle.consolidator.specs.Tallies.{tally_of, capped_sum, tally_sum, ends_of}
use Rattle.consolidator.specs.Works.{CountsGiven}
use Rattle.run_end.specs.Ends.{AreEndsDue}
use Rattle.run_engine.specs.Ran.{AreAnswersDue}

module _ (is : Command → Bool) where
  none_numbered : (n : ℕ) (cs : List Command) → AllByRecursion (λ c. is c ≡ false) cs → AllByRecursion (λ (a : ℕ × Command). is a.1 ≡ false) (numbered n cs)
  none_numbered n [] none = none
  none_numbered n (c ∷ cs) none = (none.0, none_numbered (n + 1) cs none.1)

  none_of : (worker : ℕ) (lines : List Line) → AllByRecursion (λ (l : Line). is l.command ≡ false) lines → AllByRecursion (λ c. is c ≡ false) (commands_of worker lines)
  none_of worker [] none = none
  none_of worker (l ∷ lines) none =
      cond_both (l.worker == worker) (l ∷ filter (λ (x : Line). x.worker == worker) lines) (filter (λ (x : Line). x.worker == worker) lines)
      (λ (ls : List Line). AllByRecursion (λ c. is c ≡ false) (map (λ (x : Line). x.command) ls))
      (λ own. (none.0, none_of worker lines none.1))
      (λ other. none_of worker lines none.1)

  abbrev Asks : List (ℕ × RecordEntry) → List (ℕ × Command)
  Asks es = map (λ (e : ℕ × RecordEntry). (e.1.number, e.1.command)) es

  none_entries : (h : List (ℕ × RecordEntry)) → ((pass : ℕ) → AllByRecursion (λ (a : ℕ × Command). is a.1 ≡ false) (asked_by pass h)) →
      AllByRecursion (λ (e : ℕ × RecordEntry). is e.1.command ≡ false) h
  none_entries [] each = tt
  none_entries (e ∷ h) each = ((own (e.0 == e.0) (same e.0) (each e.0)).0, none_entries h (λ pass. rest pass (e.0 == pass) (each pass)))
    where
      same : (n : ℕ) → (n == n) ≡ true
      same n = eq-eqb n n refl

      own : (b : Bool) → b ≡ true →
          AllByRecursion (λ (a : ℕ × Command). is a.1 ≡ false) (map (λ (x : ℕ × RecordEntry). (x.1.number, x.1.command)) (cond b (e ∷ filter (λ x. x.0 == e.0) h) (filter (λ x. x.0 == e.0) h))) →
          (is e.1.command ≡ false) × AllByRecursion (λ (a : ℕ × Command). is a.1 ≡ false) (asked_by e.0 h)
      own true t all = (all.0, all.1)
      own false t all = absurd (cc)

      rest : (pass : ℕ) (b : Bool) →
          AllByRecursion (λ (a : ℕ × Command). is a.1 ≡ false) (map (λ (x : ℕ × RecordEntry). (x.1.number, x.1.command)) (cond b (e ∷ filter (λ x. x.0 == pass) h) (filter (λ x. x.0 == pass) h))) →
          AllByRecursion (λ (a : ℕ × Command). is a.1 ≡ false) (asked_by pass h)
      rest pass true all = all.1
      rest pass false all = all

  -- no entry with `ok`, where no line is such a command
  pub none_done : (h : List (ℕ × RecordEntry)) (lines : List Line) → IsShared h lines → All (λ (l : Line). is l.command ≡ false) lines →
      list_any (λ (e : ℕ × RecordEntry). is_done e.1.reply && is e.1.command) h ≡ false
  none_done h lines shared none =
      list_any_none (λ (e : ℕ × RecordEntry). is_done e.1.reply && is e.1.command) h
      (All-from_recursion (λ (e : ℕ × RecordEntry). (is_done e.1.reply && is e.1.command) ≡ false) h (both h
      (none_entries h (λ pass.
      subst (AllByRecursion (λ (a : ℕ × Command). is a.1 ≡ false)) (sym (shared pass))
      (none_numbered 1 (commands_of (worker_of pass) lines)
      (none_of (worker_of pass) lines (recursion_from_All (λ (l : Line). is l.command ≡ false) lines none)))))))
    where
      no_both : (b : Bool) → (b && false) ≡ false
      no_both true = refl
      no_both false = refl

      both : (h : List (ℕ × RecordEntry)) → AllByRecursion (λ (e : ℕ × RecordEntry). is e.1.command ≡ false) h →
          AllByRecursion (λ (e : ℕ × RecordEntry). (is_done e.1.reply && is e.1.command) ≡ false) h
      both [] all = tt
      both (e ∷ h) all = (ap (λ x. is_done e.1.reply && x) all.0 ∙ no_both (is_done e.1.reply), both h all.1)

-- a record has no tag where none is in use
pub no_tags : (m : RecordMap) (id : ℕ) → ((place : ℕ) → is_some (held_at m place) ≡ false) → tag_count m id ≡ 0
no_tags m id none = counted m.tags none
  where
    never : (o : Option ℕ) → is_some o ≡ false → is_the o id ≡ false
    never None e = refl
    never (Some n) e = absurd (cc)

    counted : (tags : List (Option ℕ)) → ((place : ℕ) → is_some (get_or tags place None) ≡ false) → count_by (λ other. is_the other id) tags ≡ 0
    counted [] none = refl
    counted (t ∷ tags) none =
        let head : ◌≡◌ {A = ℕ} (cond (is_the t id) 1 0) 0 = ap {B = ℕ} (λ b. cond b 1 0) (never t (none 0)) in
        omega (arith, head, counted tags (λ place. none (suc place)), sum_by-cons (λ (other : Option ℕ). cond {A = ℕ} (is_the other id) 1 0) t tags)

-- what a front has, the whole has
on_front : (p : ℕ × RecordEntry → Bool) (h k : List (ℕ × RecordEntry)) → IsFront h k → list_any p h ≡ true → list_any p k ≡ true
on_front p h k front is = subst (λ xs. list_any p xs ≡ true) front.1 (list_any-append p h front.0 ∙ ap (λ b. b || list_any p front.0) is)

-- the flags of a mover, which are due by a front of this history, stand for no answer that isn't due by the script
module _ (h : List (ℕ × RecordEntry)) (lines : List Line) (shared : IsShared h lines) where
  pub one_due : (flags : Flags) (seen : List (ℕ × RecordEntry)) (old new : Tally) → old ≡ tally_of [] → AreFlagsDue flags seen → IsFront seen h → CountsGiven flags old new →
      AreAnswersDue lines (ends_of new)
  one_due flags seen old new fresh due front given =
      record {
        later = λ none. given.later (false_from_ne_true (flags.later) (λ e. both_ways (has_held h) (none_done is_hold h lines shared none) (on.later e))) ∙ ap (λ (t : Tally). t.later) fresh;
        refused = λ none. given.no (false_from_ne_true (flags.no) (λ e. both_ways (has_fixed h) (none_done is_fix h lines shared none) (on.never e))) ∙ ap (λ (t : Tally). t.no) fresh;
        unneeded = λ none. given.dont_need (false_from_ne_true (flags.dont_need) (λ e. both_ways (has_dropped h) (none_done is_drop h lines shared none) (on.unneeded e))) ∙ ap (λ (t : Tally). t.dont_need) fresh;
      }
    where
      on : AreFlagsDue flags h
      on =
          record {
            later = λ e. on_front (λ (x : ℕ × RecordEntry). is_done x.1.reply && is_hold x.1.command) seen h front (due.later e);
            never = λ e. on_front (λ (x : ℕ × RecordEntry). is_done x.1.reply && is_fix x.1.command) seen h front (due.never e);
            unneeded = λ e. on_front (λ (x : ℕ × RecordEntry). is_done x.1.reply && is_drop x.1.command) seen h front (due.unneeded e);
          }

  -- the settle's, by the map after the history
  pub settle_due : (names workers : ℕ) (tally : Tally) → IsLegalHistory (no_records names workers) h →
      ((place : ℕ) → is_some (held_at (map_after (no_records names workers) h) place) ≡ true → has_held h ≡ true) →
      ((id : ℕ) → is_fixed (map_after (no_records names workers) h) id ≡ true → has_fixed h ≡ true) →
      AreEndsDue (map_after (no_records names workers) h) tally → AreAnswersDue lines (ends_of tally)
  settle_due names workers tally legal held fixed due =
      record {
        later = λ none. due.later (λ id live. no_tags m id (λ place. false_from_ne_true (is_some (held_at m place)) (λ e. both_ways (has_held h) (none_done is_hold h lines shared none) (held place e))));
        refused = λ none. due.refused (λ id live. false_from_ne_true (is_fixed m id) (λ e. both_ways (has_fixed h) (none_done is_fix h lines shared none) (fixed id e)));
        unneeded = λ none. due.unneeded;
      }
    where
      m : RecordMap
      m = map_after (no_records names workers) h

-- what is due of two tallies is due of their sum
pub sum_due : (lines : List Line) (a b : Tally) → AreAnswersDue lines (ends_of a) → AreAnswersDue lines (ends_of b) → AreAnswersDue lines (ends_of (tally_sum a b))
sum_due lines a b first second =
    record {
      later = λ none. ap₂ capped_sum (first.later none) (second.later none);
      refused = λ none. ap₂ capped_sum (first.refused none) (second.refused none);
      unneeded = λ none. ap₂ capped_sum (first.unneeded none) (second.unneeded none);
    }
