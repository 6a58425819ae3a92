-- The replies of a legal history tell names of the script.
use Rattle.std.proofs.Common.{◌≡◌, ◌*◌, ◌&&◌, ℕ, Bool, true, false, List, [], ◌∷◌, length, All, None, refl, sym, ap, ◌∙◌, subst, ⊎_elim, arith}
use Rattle.std.specs.List.{AllByRecursion}
use Rattle.std.proofs.lemmas.Bool.{cond_both, cond-false}
use Rattle.std.proofs.lemmas.List.{length-replicate}
use Rattle.std.proofs.lemmas.List.Elements.{recursion_from_All, All-from_recursion}
use Rattle.kmem_text.specs.declared.command.Command.{Command}
use Rattle.kmem_text.specs.Grammar.{IsWithinNames}
use Rattle.kmem_text.specs.Replies.{IsReplyWithinNames}
use Rattle.kmem_model.specs.declared.record_entry.RecordEntry.{RecordEntry}
use Rattle.kmem_model.specs.CacheState.{sizes_of, opening}
use Rattle.kmem_model.specs.Records.{RecordMap, IsValid, no_records}
use Rattle.kmem_model.specs.RecordStep.{step, IsInRange, IsValidAs}
use Rattle.kmem_model.specs.History.{worker_of, is_refusal, map_next, is_put_of_absent, IsLegalHistory, IsEntryWithin}
use Rattle.kmem_model.specs.One.{OneState, OneStep, one_step, is_refused}
use Rattle.kmem_model.proofs.Legal.{placed_is}

-- the laws of the step
abbrev pub ValidLaw : Type 0
ValidLaw = (map : RecordMap) (worker : ℕ) (command : Command) → IsValid map → IsInRange map worker command → IsValidAs map (step map worker command).map

abbrev pub WithinLaw : Type 0
WithinLaw = (s : OneState) (worker : ℕ) (command : Command) → IsReplyWithinNames (length s.map.names) (one_step s worker command).reply

-- a valid map of so many names and workers
record Sized (names workers : ℕ) (m : RecordMap) : Type 0 where
  valid : IsValid m
  names_are : length m.names ≡ names
  tags_are : length m.tags ≡ 8 * workers

never : (b : Bool) → (b && false) ≡ false
never true = refl
never false = refl

-- in a cache with room every command takes its step
with_room : RecordMap → OneState
with_room m = record { map = m; cache = opening (sizes_of 1 1 1); addresses = [] }

tells : WithinLaw → (m : RecordMap) (worker : ℕ) (command : Command) → IsReplyWithinNames (length m.names) (step m worker command).reply
unfolding with_room
tells law m worker command =
    subst (IsReplyWithinNames (length m.names))
    (ap (λ (made : OneStep). made.reply) (cond-false (is_refused (with_room m) command) _ _ (never (is_put_of_absent m command)))
    ∙ (placed_is (with_room m) command (step m worker command)).reply)
    (law (with_room m) worker command)

next_sized : ValidLaw → (names workers : ℕ) (m : RecordMap) (e : ℕ × RecordEntry) → Sized names workers m → IsEntryWithin names workers e → Sized names workers (map_next m e)
next_sized law names workers m e sized within =
    cond_both (is_refusal e.1.reply) m (step m (worker_of e.0) e.1.command).map (Sized names workers) (λ full. sized) (λ taken. stepped)
  where
    made : IsValidAs m (step m (worker_of e.0) e.1.command).map
    made =
        law m (worker_of e.0) e.1.command sized.valid
        (record {
          names = subst (λ n. IsWithinNames n e.1.command) (sym sized.names_are) within.named;
          tags = within.tagged;
          first = omega arith;
          last = omega (arith, within.pass, sized.tags_are);
        })

    stepped : Sized names workers (step m (worker_of e.0) e.1.command).map
    stepped = record { valid = made.valid; names_are = made.names ∙ sized.names_are; tags_are = made.tags ∙ sized.tags_are }

all_tell : ValidLaw → WithinLaw → (names workers : ℕ) (m : RecordMap) (h : List (ℕ × RecordEntry)) → Sized names workers m → IsLegalHistory m h →
    AllByRecursion (IsEntryWithin names workers) h → AllByRecursion (λ (e : ℕ × RecordEntry). IsReplyWithinNames names e.1.reply) h
all_tell valid told names workers m [] sized legal within = tt
all_tell valid told names workers m (e ∷ h) sized legal within = (
  ⊎_elim (λ full. subst (IsReplyWithinNames names) (sym full.0) tt)
      (λ right. subst (IsReplyWithinNames names) (sym right) (subst (λ n. IsReplyWithinNames n (step m (worker_of e.0) e.1.command).reply) sized.names_are (tells told m (worker_of e.0) e.1.command)))
      legal.0,
  all_tell valid told names workers (map_next m e) h (next_sized valid names workers m e sized within.0) legal.1 within.1,
)

pub replies_within : ValidLaw → WithinLaw → ((names workers : ℕ) → IsValid (no_records names workers)) → (names workers : ℕ) (h : List (ℕ × RecordEntry)) →
    IsLegalHistory (no_records names workers) h → All (IsEntryWithin names workers) h → All (λ (e : ℕ × RecordEntry). IsReplyWithinNames names e.1.reply) h
replies_within valid told start names workers h legal within =
    All-from_recursion (λ (e : ℕ × RecordEntry). IsReplyWithinNames names e.1.reply) h
    (all_tell valid told names workers (no_records names workers) h
    (record { valid = start names workers; names_are = length-replicate names None; tags_are = length-replicate (8 * workers) None })
    legal (recursion_from_All (IsEntryWithin names workers) h within))
