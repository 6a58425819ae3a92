-- A worker's tags are left alone by the others.
use Rattle.std.proofs.Common.{◌≡◌, ℕ, ◌<◌, Bool, true, false, List, [], ◌∷◌, ◌++◌, All, Option, None, Some, get_or, map, ◌==◌, set, arith, sym, ap, ◌∙◌, refl}
use Rattle.std.specs.Option.{is_some}
use Rattle.std.proofs.lemmas.Bool.{cond-true, cond-false, both_ways, eq-eqb}
use Rattle.std.proofs.lemmas.List.{get_or-set_other}
use Rattle.std.proofs.lemmas.List.Elements.{All-head, All-tail}
use Rattle.kmem_text.specs.declared.command.Command.{Command}
use Rattle.kmem_text.specs.declared.command.Command.TheVariants.{Put, Get, Del, First, Next, Count, Link, Hold, Read, Write, Drop, Fix, Loose}
use Rattle.kmem_text.specs.declared.command.Reply.{Reply}
use Rattle.kmem_text.specs.declared.command.Reply.TheVariants.{Done}
use Rattle.kmem_text.specs.Grammar.{IsWithinTags}
use Rattle.kmem_model.specs.Records.{RecordMap, held_at, tag_place}
use Rattle.kmem_model.specs.RecordStep.{step, drop_step, leaves_tags}
use Rattle.kmem_model.specs.History.{worker_of, is_refusal, is_done, map_next, map_after, IsEntryWithin, own_entries}
use Rattle.kmem_model.specs.declared.record_entry.RecordEntry.{RecordEntry}
use Rattle.kmem_model.proofs.StepTags.{tags_stay, tag_held, tag_not_held, tag_dropped}

-- two workers' tags have two places
apart : (p q t u : ℕ) → t < 8 → u < 8 → (p ≡ q → ⊥) → (tag_place (worker_of p) t ≡ tag_place (worker_of q) u) → ⊥
apart p q t u small less other same = other (omega (arith, small, less, same))

-- a step of another worker
step_keeps : (m : RecordMap) (p q t : ℕ) (command : Command) → t < 8 → IsWithinTags command → (p ≡ q → ⊥) →
    held_at (step m (worker_of q) command).map (tag_place (worker_of p) t) ≡ held_at m (tag_place (worker_of p) t)
step_keeps m p q t command small within other = by_command command within
  where
    place : ℕ
    place = tag_place (worker_of p) t

    stays : (k : Command) → leaves_tags k ≡ true → held_at (step m (worker_of q) k).map place ≡ held_at m place
    stays k leaves = ap (λ xs. get_or xs place None) (tags_stay m (worker_of q) k leaves)

    written : (k : Command) (u : ℕ) (x : Option ℕ) → u < 8 → (step m (worker_of q) k).map.tags ≡ set m.tags (tag_place (worker_of q) u) x →
        held_at (step m (worker_of q) k).map place ≡ held_at m place
    written k u x less e =
        ap (λ xs. get_or xs place None) e
        ∙ get_or-set_other m.tags (tag_place (worker_of q) u) place x None (λ same. apart p q t u small less other same)

    by_command : (k : Command) → IsWithinTags k → held_at (step m (worker_of q) k).map place ≡ held_at m place
    by_command (Put n v) w = stays (Put n v) refl
    by_command (Get n) w = stays (Get n) refl
    by_command (Del n) w = stays (Del n) refl
    by_command First w = stays First refl
    by_command (Next n) w = stays (Next n) refl
    by_command Count w = stays Count refl
    by_command (Link n o) w = stays (Link n o) refl
    by_command (Read u) w = stays (Read u) refl
    by_command (Write u v) w = stays (Write u v) refl
    by_command (Fix n) w = stays (Fix n) refl
    by_command (Loose n) w = stays (Loose n) refl
    by_command (Hold u n) w = by_done (is_done (step m (worker_of q) (Hold u n)).reply) refl
      where
        done_is : (r : Reply) → is_done r ≡ true → r ≡ Done
        done_is Done e = refl
        done_is _ e = absurd (cc)

        by_done : (b : Bool) → is_done (step m (worker_of q) (Hold u n)).reply ≡ b → held_at (step m (worker_of q) (Hold u n)).map place ≡ held_at m place
        by_done true is =
            let held = tag_held m (worker_of q) u n (done_is _ is) in
            written (Hold u n) u (Some held.0) w held.1
        by_done false is = ap (λ xs. get_or xs place None) (tag_not_held m (worker_of q) u n (λ e. both_ways _ is (ap is_done e)))
    by_command (Drop u) w = by_held (held_at m (tag_place (worker_of q) u)) refl
      where
        by_held : (x : Option ℕ) → held_at m (tag_place (worker_of q) u) ≡ x → held_at (step m (worker_of q) (Drop u)).map place ≡ held_at m place
        by_held None is = ap (λ x. held_at (drop_step m (tag_place (worker_of q) u) x).map place) is
        by_held (Some id) is = written (Drop u) u None w (tag_dropped m (worker_of q) u (ap is_some is))

-- an entry of another worker
next_keeps : (m : RecordMap) (p t : ℕ) (e : ℕ × RecordEntry) → t < 8 → IsWithinTags e.1.command → (p ≡ e.0 → ⊥) →
    held_at (map_next m e) (tag_place (worker_of p) t) ≡ held_at m (tag_place (worker_of p) t)
next_keeps m p t e small within other = by_refusal (is_refusal e.1.reply) refl
  where
    place : ℕ
    place = tag_place (worker_of p) t

    by_refusal : (b : Bool) → is_refusal e.1.reply ≡ b → held_at (map_next m e) place ≡ held_at m place
    by_refusal true is = ap (λ (x : RecordMap). held_at x place) (cond-true (is_refusal e.1.reply) m _ is)
    by_refusal false is =
        ap (λ (x : RecordMap). held_at x place) (cond-false (is_refusal e.1.reply) m _ is) ∙ step_keeps m p e.0 t e.1.command small within other

own_next : (pass : ℕ) (e : ℕ × RecordEntry) (es : List (ℕ × RecordEntry)) → own_entries pass (e ∷ es) ≡ [] → (e.0 == pass ≡ false) × (own_entries pass es ≡ [])
own_next pass e es none = by_pass (e.0 == pass) refl
  where
    by_pass : (b : Bool) → (e.0 == pass) ≡ b → (e.0 == pass ≡ false) × (own_entries pass es ≡ [])
    by_pass true is =
        absurd (not_empty (sym (ap (map (λ (x : ℕ × RecordEntry). x.1)) (cond-true (e.0 == pass) _ _ is)) ∙ none))
      where
        not_empty : {X : Type 0} {x : X} {xs : List X} → x ∷ xs ≡ [] → ⊥
        not_empty e = absurd (cc)
    by_pass false is = (is, sym (ap (map (λ (x : ℕ × RecordEntry). x.1)) (cond-false (e.0 == pass) _ _ is)) ∙ none)

-- entries of other workers
pub rest_keeps : (names workers p t : ℕ) (m : RecordMap) (rest : List (ℕ × RecordEntry)) → t < 8 → All (IsEntryWithin names workers) rest → own_entries p rest ≡ [] →
    held_at (map_after m rest) (tag_place (worker_of p) t) ≡ held_at m (tag_place (worker_of p) t)
rest_keeps names workers p t m [] small within none = refl
rest_keeps names workers p t m (e ∷ es) small within none =
    let next = own_next p e es none in
    let head = All-head (IsEntryWithin names workers) e es within in
    rest_keeps names workers p t (map_next m e) es small (All-tail (IsEntryWithin names workers) e es within) next.1
    ∙ next_keeps m p t e small head.tagged (λ same. both_ways (e.0 == p) next.0 (eq-eqb e.0 p (sym same)))

-- what holds of all entries holds of the later ones
pub later : {X : Type 0} (P : X → Type 0) (xs ys : List X) → All P (xs ++ ys) → All P ys
later P [] ys all = all
later P (x ∷ xs) ys all = later P xs ys (All-tail P x (xs ++ ys) all)
