-- Which holds a session has after a command.
use Rattle.std.proofs.Common.{◌≡◌, ℕ, ◌<◌, ◌==◌, ◌&&◌, Bool, true, false, cond, List, [], ◌∷◌, ◌++◌, length, get_or, set, Option, Some, None, is_some, ⊎_elim, sym, ap, ◌∙◌, refl, subst, arith}
use Rattle.std.specs.Option.{IfSome}
use Rattle.std.proofs.lemmas.Bool.{both_ways, cases_eq, eq-eqb, ne_eqb}
use Rattle.std.proofs.lemmas.List.{get_or-set_same, get_or-set_other, length-set}
use Rattle.kmem_text.specs.declared.command.NameId.{NameId}
use Rattle.kmem_text.specs.declared.command.Command.{Command}
use Rattle.kmem_text.specs.declared.command.Command.TheVariants.{Hold, Drop}
use Rattle.kmem_text.specs.declared.command.Reply.{Reply}
use Rattle.kmem_text.specs.declared.command.Reply.TheVariants.{Done}
use Rattle.kmem_model.specs.RecordStep.{leaves_tags}
use Rattle.kmem_model.specs.History.{is_done, is_hold_of, is_drop_of, takes_tag, drops_tag, in_use}
use Rattle.kmem_model.specs.declared.record_entry.RecordEntry.{RecordEntry}
use Rattle.record_heap.specs.View.{HoldState}
use Rattle.record_table.specs.Tables.{TableHome}
use Rattle.record_table.specs.Turns.{entry_of}
use Rattle.record_table.specs.Holds.{IsHeldBy}
use Rattle.record_table.specs.Sessions.{HasHolds, kept_at}

-- what one entry makes of a tag of its own worker
abbrev pub tag_next : ℕ → Bool → RecordEntry → Bool
tag_next tag before e = cond (takes_tag tag e) true (cond (drops_tag tag e) false before)

in_use_last : (tag : ℕ) (b : Bool) (es : List RecordEntry) (e : RecordEntry) → in_use tag b (es ++ e ∷ []) ≡ tag_next tag (in_use tag b es) e
in_use_last tag b [] e = refl
in_use_last tag b (x ∷ xs) e = in_use_last tag (tag_next tag b x) xs e

-- an entry without `ok` leaves each tag
undone : (tag : ℕ) (b : Bool) (e : RecordEntry) → is_done e.reply ≡ false → tag_next tag b e ≡ b
undone tag b e undone_is = ap (λ d. cond (d && is_hold_of tag e.command) true (cond (d && is_drop_of tag e.command) false b)) undone_is

-- and so does one of a command that leaves the tags
quiet : (tag : ℕ) (b : Bool) (number : ℕ) (command : Command) (reply : Reply) → leaves_tags command ≡ true → tag_next tag b (entry_of number command reply) ≡ b
quiet tag b number (Hold t name) reply leaves = absurd (cc)
quiet tag b number (Drop t) reply leaves = absurd (cc)
quiet tag b number _ reply leaves = no_and (is_done reply)
  where
    no_and : (d : Bool) → cond (d && false) true (cond (d && false) false b) ≡ b
    no_and true = refl
    no_and false = refl

module _ (home : TableHome) (who : ℕ) (mine : List RecordEntry) (holds : List (Option HoldState)) (it : HasHolds home who mine holds) where
  holding_on : (e : RecordEntry) (then : List (Option HoldState)) → length then ≡ 8 →
      ((tag : ℕ) → tag < 8 → is_some (get_or then tag None) ≡ tag_next tag (is_some (get_or holds tag None)) e) →
      ((tag : ℕ) → tag < 8 → IfSome (get_or then tag None) (IsHeldBy home who tag)) → HasHolds home who (mine ++ e ∷ []) then
  holding_on e then size used held =
      record {
        size = size;
        used = λ tag low. used tag low ∙ (ap (λ b. tag_next tag b e) (it.used tag low) ∙ sym (in_use_last tag false mine e));
        held = held;
      }

  -- as before
  pub same_quiet : (number : ℕ) (command : Command) (reply : Reply) → leaves_tags command ≡ true → HasHolds home who (mine ++ entry_of number command reply ∷ []) holds
  same_quiet number command reply leaves =
      holding_on (entry_of number command reply) holds it.size (λ tag low. sym (quiet tag (is_some (get_or holds tag None)) number command reply leaves)) it.held

  pub same_undone : (e : RecordEntry) → is_done e.reply ≡ false → HasHolds home who (mine ++ e ∷ []) holds
  same_undone e undone_is = holding_on e holds it.size (λ tag low. sym (undone tag (is_some (get_or holds tag None)) e undone_is)) it.held

  -- one tag has another hold, or none
  written : (e : RecordEntry) (tag : ℕ) (x : Option HoldState) → tag < 8 → ((t : ℕ) (b : Bool) → tag_next t b e ≡ cond (tag == t) (is_some x) b) →
      IfSome x (IsHeldBy home who tag) → HasHolds home who (mine ++ e ∷ []) (set holds tag x)
  written e tag x low next held =
      holding_on e (set holds tag x) (length-set holds tag x ∙ it.size)
      (λ t small. ⊎_elim
      (λ (same : tag ≡ t).
      ap (λ n. is_some (get_or (set holds tag x) n None)) (sym same)
      ∙ (ap is_some (get_or-set_same holds tag x None below)
      ∙ (sym (ap (λ b. cond b (is_some x) (is_some (get_or holds t None))) (eq-eqb tag t same)) ∙ sym (next t (is_some (get_or holds t None))))))
      (λ (other : tag ≡ t → ⊥).
      ap is_some (get_or-set_other holds tag t x None (λ e. other (sym e)))
      ∙ (sym (ap (λ b. cond b (is_some x) (is_some (get_or holds t None))) (ne_eqb tag t other)) ∙ sym (next t (is_some (get_or holds t None)))))
      (cases_eq tag t))
      (λ t small. ⊎_elim
      (λ (same : tag ≡ t).
      subst (λ n. IfSome (get_or (set holds tag x) n None) (IsHeldBy home who n)) same
      (subst (λ y. IfSome y (IsHeldBy home who tag)) (sym (get_or-set_same holds tag x None below)) held))
      (λ (other : tag ≡ t → ⊥). subst (λ y. IfSome y (IsHeldBy home who t)) (sym (get_or-set_other holds tag t x None (λ e. other (sym e)))) (it.held t small))
      (cases_eq tag t))
    where
      below : tag < length holds
      below = omega (arith, low, it.size)

  pub held_now : (number tag : ℕ) (name : NameId) (hold : HoldState) → tag < 8 → IsHeldBy home who tag hold →
      HasHolds home who (mine ++ entry_of number (Hold tag name) Done ∷ []) (set holds tag (Some hold))
  held_now number tag name hold low held = written (entry_of number (Hold tag name) Done) tag (Some hold) low (λ t b. refl) held

  pub let_go : (number tag : ℕ) → tag < 8 → HasHolds home who (mine ++ entry_of number (Drop tag) Done ∷ []) (set holds tag None)
  let_go number tag low = written (entry_of number (Drop tag) Done) tag None low (λ t b. refl) tt

  -- a `hold`: with `ok` it gives a hold, and else none
  pub held_or_not : (number tag : ℕ) (name : NameId) (reply : Reply) (hold : Option HoldState) → tag < 8 →
      (reply ≡ Done → is_some hold ≡ true) → (is_some hold ≡ true → reply ≡ Done) → IfSome hold (IsHeldBy home who tag) →
      HasHolds home who (mine ++ entry_of number (Hold tag name) reply ∷ []) (kept_at holds tag hold)
  held_or_not number tag name reply None low gives from held =
      same_undone (entry_of number (Hold tag name) reply) (undone_by reply (λ e. both_ways false refl (gives e)))
    where
      undone_by : (r : Reply) → (r ≡ Done → ⊥) → is_done r ≡ false
      undone_by Done other = absurd (other refl)
      undone_by _ other = refl
  held_or_not number tag name reply (Some hold) low gives from held =
      subst (λ (r : Reply). HasHolds home who (mine ++ entry_of number (Hold tag name) r ∷ []) (set holds tag (Some hold))) (sym (from refl)) (held_now number tag name hold low held)
