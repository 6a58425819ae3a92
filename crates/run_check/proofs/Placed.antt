-- A place line tells its pass, and an entry taken off its share.
use Rattle.std.proofs.Common.{◌≡◌, ◌≢◌, ◌==◌, ◌⊎◌, ℕ, ◌+◌, ◌*◌, ◌^◌, ◌<◌, ◌≤◌, zero, suc, Bool, true, false, cond, List, [], ◌∷◌, ◌++◌, Option, Some, None, map, length, get_or, drop, refl, sym, ap, ◌∙◌, subst, arith, inl, inr}
use Rattle.std.specs.Prelude.{All, slice_get}
use Rattle.std.specs.Fmt.{decimal}
use Rattle.std.specs.Str.Parse.{AllDigits}
use Rattle.std.proofs.Math.ListN.{set, length-set}
use Rattle.std.proofs.lemmas.Bool.{true≢false}
use Rattle.std.proofs.lemmas.Bool.Decides.{nat_tests}
use Rattle.std.proofs.lemmas.Option.{same_Some}
use Rattle.std.proofs.lemmas.List.{get_or_default}
use Rattle.std.proofs.lemmas.Fmt.{decimal_is_IsNumeral, decimal_injective}
use Rattle.std.proofs.lemmas.Str.Parse.{digit_from_value}
use Rattle.kmem_text.specs.declared.command.Command.{Command}
use Rattle.kmem_model.specs.declared.record_entry.RecordEntry.{RecordEntry}
use Rattle.kmem_model.specs.History.{worker_of}
use Rattle.kmem_model.specs.Records.{RecordMap}
use Rattle.kmem_model.specs.RunLines.{place_line}
use Rattle.kmem_model.specs.Checked.{answered}
use Rattle.run_check.specs.Told.{entry_of, IsWithin}
use Rattle.run_check.specs.Replays.{IsTaken, IsWrong}
use Rattle.kmem_text.specs.Grammar.{IsWithinNames}
use Rattle.kmem_model.specs.RecordStep.{IsInRange}
use Rattle.run_check.specs.Shares.{left_of, left_in, IsShareWithin}
use Rattle.run_check.specs.Turns.{TakesTurn, TakesPlace, RefusesPlace}
use Rattle.run_check.specs.declared.share.Share.{Share}
use Rattle.run_check.specs.declared.told.Told.{Told}
use Rattle.run_check.proofs.KeptMaps.{same_or_not}
use Rattle.run_check.proofs.ShareLists.{same_head, no_cons, left_at, left_within}

-- digits before a space are the same where all is
digit_no_space : (d : ℕ) (xs : List ℕ) → AllDigits 10 (d ∷ xs) → d ≢ 32
digit_no_space d xs h e = omega (arith, digit_from_value d h.0)

first_is : (a b : ℕ) (xs ys : List ℕ) → a ∷ xs ≡ b ∷ ys → (a ≡ b) × (xs ≡ ys)
first_is a b xs ys h = (cc, cc)

digits_same : (a b xs ys : List ℕ) → AllDigits 10 a → AllDigits 10 b → a ++ 32 ∷ xs ≡ b ++ 32 ∷ ys → a ≡ b
digits_same [] [] xs ys h k e = refl
digits_same [] (y ∷ b) xs ys h k e = absurd (digit_no_space y b k (sym (first_is 32 y xs (b ++ 32 ∷ ys) e).0))
digits_same (x ∷ a) [] xs ys h k e = absurd (digit_no_space x a h (first_is x 32 (a ++ 32 ∷ xs) ys e).0)
digits_same (x ∷ a) (y ∷ b) xs ys h k e =
    let parts = first_is x y (a ++ 32 ∷ xs) (b ++ 32 ∷ ys) e in
    λ i. parts.0 i ∷ digits_same a b xs ys h.1 k.1 parts.1 i

-- the same line has the same pass
pub pass_same : (p q : ℕ) (e f : RecordEntry) → p < 16 → q < 16 → place_line (answered (p, e)) ≡ place_line (answered (q, f)) → p ≡ q
pass_same p q e f small small' same =
    let digits = digits_same (decimal (p + 1)) (decimal (q + 1)) _ _ (decimal_is_IsNumeral (p + 1) (omega arith)).0.1 (decimal_is_IsNumeral (q + 1) (omega arith)).0.1 same in
    omega (arith, decimal_injective (p + 1) (q + 1) (omega arith) (omega arith) digits)

-- there is a next entry
pub has_next : (told : List Told) (next : ℕ) (e : RecordEntry) (rest : List RecordEntry) → map entry_of (drop next told) ≡ e ∷ rest → next < length told
has_next [] zero e rest h = absurd (no_cons e rest h)
has_next [] (suc next) e rest h = absurd (no_cons e rest h)
has_next (t ∷ told) zero e rest h = omega arith
has_next (t ∷ told) (suc next) e rest h = omega (arith, has_next told next e rest h)

-- after the next entry of a pass is taken
set_left_same : (shares : List Share) (pass : ℕ) (s : Share) → pass < length shares → left_in (set shares pass s) pass ≡ left_of s
set_left_same [] pass s small = absurd (omega arith)
set_left_same (x ∷ shares) zero s small = refl
set_left_same (x ∷ shares) (suc pass) s small = set_left_same shares pass s (omega arith)

set_left_other : (shares : List Share) (pass q : ℕ) (s : Share) → q ≢ pass → left_in (set shares pass s) q ≡ left_in shares q
set_left_other [] pass q s other = refl
set_left_other (x ∷ shares) zero zero s other = absurd (other refl)
set_left_other (x ∷ shares) zero (suc q) s other = refl
set_left_other (x ∷ shares) (suc pass) zero s other = refl
set_left_other (x ∷ shares) (suc pass) (suc q) s other = set_left_other shares pass q s (λ e. other (ap suc e))

pub turn_taken : (shares : List Share) (pass : ℕ) (s s' : Share) (e : RecordEntry) → pass < length shares → s ≡ get_or shares pass s → left_of s ≡ e ∷ left_of s' → TakesTurn (left_in shares) (pass, e) (left_in (set shares pass s'))
turn_taken shares pass s s' e small at next q =
    elim (same_or_not q pass) [
      | inl k ↦
          ap (left_in shares) k.0 ∙ left_at shares pass s small at ∙ next
          ∙ ap (λ xs. e ∷ xs) (sym (ap (left_in (set shares pass s')) k.0 ∙ set_left_same shares pass s' small))
          ∙ sym (ap (λ b. cond b (e ∷ left_in (set shares pass s') q) (left_in (set shares pass s') q)) k.1)
      | inr k ↦
          sym (set_left_other shares pass q s' k.0)
          ∙ sym (ap (λ b. cond b (e ∷ left_in (set shares pass s') q) (left_in (set shares pass s') q)) k.1)
    ]

-- the command of an entry that is told is within the script
pub told_range : (names : ℕ) (m : RecordMap) (shares : List Share) (pass : ℕ) (s : Share) (t : Told) → All (IsShareWithin names) shares → pass < length shares → s ≡ get_or shares pass s → s.next < length s.told.items → t ≡ get_or s.told.items s.next t → length m.names ≡ names → length m.tags ≡ 8 * length shares → IsInRange m (pass + 1) t.command
told_range names m shares pass s t all small at next is same room =
    let within : IsWithin names t.command = subst (λ (x : Told). IsWithin names x.command) (sym is) (subst (IsShareWithin names) (sym at) (all pass s small) s.next t next) in
    record {
      names = subst (λ n. IsWithinNames n t.command) (sym same) within.0;
      tags = within.1;
      first = omega arith;
      last = omega arith;
    }

-- the entry that was found is the only one that the line can place, so where it is wrong, none is right
pub refuses : (m : RecordMap) (shares : List Share) (lines after : List (List ℕ)) (line : List ℕ) (pass : ℕ) (s : Share) (t : Told) (e0 : RecordEntry) (more more' : List RecordEntry) → length shares ≤ 16 → pass < length shares → s ≡ get_or shares pass s → lines ≡ line ∷ after → left_in shares pass ≡ e0 ∷ more → line ≡ place_line (answered (pass, e0)) → left_of s ≡ entry_of t ∷ more' → IsWrong m (pass + 1) t.command t.reply → RefusesPlace m (left_in shares) lines
refuses m shares lines after line pass s t e0 more more' few small at lines_are left place next wrong e rest first mine =
    let here : line ≡ place_line (answered e) = same_Some line (place_line (answered e)) (sym (ap (λ xs. slice_get xs 0) lines_are) ∙ first) in
    let within = left_within shares e.0 e.1 rest mine in
    let same : e.0 ≡ pass = pass_same e.0 pass e.1 e0 (omega arith) (omega arith) (sym here ∙ place) in
    let told : entry_of t ≡ e.1 = same_head (entry_of t) e.1 more' rest (sym next ∙ sym (left_at shares pass s small at) ∙ ap (left_in shares) (sym same) ∙ mine) in
    subst (λ p. IsWrong m (worker_of p) e.1.command e.1.reply) (sym same) (subst (λ x. IsWrong m (pass + 1) x.command x.reply) told wrong)

pub takes_place : (m m' : RecordMap) (shares : List Share) (lines after : List (List ℕ)) (line : List ℕ) (pass : ℕ) (s s' : Share) (t : Told) (e0 : RecordEntry) (more : List RecordEntry) → pass < length shares → s ≡ get_or shares pass s → lines ≡ line ∷ after → left_in shares pass ≡ e0 ∷ more → line ≡ place_line (answered (pass, e0)) → left_of s ≡ entry_of t ∷ left_of s' → IsInRange m (pass + 1) t.command → IsTaken m (pass + 1) t.command t.reply m' → TakesPlace m shares lines m' (set shares pass s') after
takes_place m m' shares lines after line pass s s' t e0 more small at lines_are left place next range taken =
    let told : entry_of t ≡ e0 = same_head (entry_of t) e0 (left_of s') more (sym next ∙ sym (left_at shares pass s small at) ∙ left) in
    record {
      entry = (pass, entry_of t);
      line = lines_are ∙ ap (λ x. x ∷ after) (place ∙ ap (λ x. place_line (answered (pass, x))) (sym told));
      range = range;
      taken = taken;
      turn = turn_taken shares pass s s' (entry_of t) small at next;
    }

pub same_share : (shares : List Share) (pass : ℕ) (s x : Share) → pass < length shares → s ≡ get_or shares pass s → x ≡ get_or shares pass x → s ≡ x
same_share shares pass s x small is and = is ∙ get_or_default shares pass s x small ∙ sym and
