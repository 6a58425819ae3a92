-- The counts of a summary.
use Rattle.std.proofs.Common.{◌≡◌, ◌⊎◌, ℕ, ◌+◌, false, cond, List, [], ◌∷◌, ◌++◌, length, map, sum, refl, ap, ◌∙◌, inl, inr, codes, arith, All}
use Rattle.std.specs.Str.{bytes_eq}
use Rattle.std.proofs.lemmas.List.Sums.{sum_by-cons}
use Rattle.std.proofs.lemmas.List.Elements.{All-head, All-tail}
use Rattle.kmem_text.specs.Replies.{reply_text}
use Rattle.kmem_text.specs.declared.command.Reply.{Reply}
use Rattle.kmem_text.specs.declared.command.Reply.TheVariants.{New, Was, Full, Gone, Val, Absent, At, Number, Done, Taken, Many, Used, Idle}
use Rattle.kmem_model.specs.declared.record_entry.RecordEntry.{RecordEntry}
use Rattle.kmem_model.specs.History.{is_refusal}
use Rattle.run_summary.specs.Summary.{first_word, kinds, count_of}

-- a reply is of one kind
one_kind : (often : List ℕ → ℕ) (reply : Reply) → sum (map (λ kind. cond (bytes_eq (first_word reply) kind) 1 0 + often kind) kinds) ≡ 1 + sum (map often kinds)
one_kind often New = omega arith
one_kind often (Was value) = omega arith
one_kind often Full = omega arith
one_kind often (Gone value) = omega arith
one_kind often (Val value) = omega arith
one_kind often Absent = omega arith
one_kind often (At name value) = omega arith
one_kind often (Number count) = omega arith
one_kind often Done = omega arith
one_kind often Taken = omega arith
one_kind often Many = omega arith
one_kind often Used = omega arith
one_kind often Idle = omega arith

-- an entry before others counts at its kind
count_before : (e : ℕ × RecordEntry) (history : List (ℕ × RecordEntry)) (kind : List ℕ) → count_of kind (e ∷ history) ≡ cond (bytes_eq (first_word e.1.reply) kind) 1 0 + count_of kind history
count_before e history kind = sum_by-cons (λ (x : ℕ × RecordEntry). cond (bytes_eq (first_word x.1.reply) kind) 1 0) e history

pub all_counted : (history : List (ℕ × RecordEntry)) → sum (map (λ kind. count_of kind history) kinds) ≡ length history
all_counted [] = refl
all_counted (e ∷ history) =
    (λ j. sum (map (λ kind. count_before e history kind j) kinds)) ∙ (one_kind (λ kind. count_of kind history) e.1.reply ∙ omega (arith, all_counted history))

is_full : (reply : Reply) → bytes_eq (first_word reply) (codes "full") ≡ is_refusal reply
is_full New = refl
is_full (Was value) = refl
is_full Full = refl
is_full (Gone value) = refl
is_full (Val value) = refl
is_full Absent = refl
is_full (At name value) = refl
is_full (Number count) = refl
is_full Done = refl
is_full Taken = refl
is_full Many = refl
is_full Used = refl
is_full Idle = refl

pub none_full : (history : List (ℕ × RecordEntry)) → All (λ e. is_refusal e.1.reply ≡ false) history → count_of (codes "full") history ≡ 0
none_full [] none = refl
none_full (e ∷ history) none =
    let here = is_full e.1.reply ∙ All-head (λ (x : ℕ × RecordEntry). is_refusal x.1.reply ≡ false) e history none in
    let behind = none_full history (All-tail (λ (x : ℕ × RecordEntry). is_refusal x.1.reply ≡ false) e history none) in
    count_before e history (codes "full") ∙ (ap (λ b. cond b 1 0 + count_of (codes "full") history) here ∙ omega (arith, behind))

pub begins : (names : List (List ℕ)) (reply : Reply) → (reply_text names reply ≡ first_word reply) ⊎ ((rest : List ℕ) × (reply_text names reply ≡ first_word reply ++ codes " " ++ rest))
begins names New = inl refl
begins names (Was value) = inr (_, refl)
begins names Full = inl refl
begins names (Gone value) = inr (_, refl)
begins names (Val value) = inr (_, refl)
begins names Absent = inl refl
begins names (At name value) = inr (_, refl)
begins names (Number count) = inr (_, refl)
begins names Done = inl refl
begins names Taken = inl refl
begins names Many = inl refl
begins names Used = inl refl
begins names Idle = inl refl
