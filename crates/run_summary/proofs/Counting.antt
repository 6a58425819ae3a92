-- Counting goes on by one reply.
use Rattle.std.proofs.Common.{◌≡◌, ℕ, ◌+◌, ◌<◌, Bool, true, false, cond, List, [], ◌∷◌, ◌++◌, length, map, take, get_or, refl, sym, ap, ◌∙◌, append_assoc, append-nil, codes}
use Rattle.std.specs.List.{flat_map}
use Rattle.std.specs.Str.{bytes_eq}
use Rattle.std.proofs.lemmas.List.Sums.{count_by_more_yes, count_by_more_no}
use Rattle.kmem_text.specs.declared.command.Reply.{Reply}
use Rattle.kmem_text.specs.declared.command.Reply.TheVariants.{New, Was, Full, Gone, Val, Absent, At, Number, Done, Taken, Many, Used, Idle}
use Rattle.kmem_model.specs.declared.record_entry.RecordEntry.{RecordEntry}
use Rattle.kmem_model.specs.Report.{number_line}
use Rattle.run_summary.specs.Summary.{first_word, kinds, count_of}
use Rattle.run_summary.specs.Counts.{counts_by, counts_in, count_at, counted, counts_text}

-- one more at the kind of a reply
abbrev pub one_more : Reply → (List ℕ → ℕ) → List ℕ → ℕ
one_more reply often kind = cond (bytes_eq (first_word reply) kind) (often kind + 1) (often kind)

adds : (often : List ℕ → ℕ) (reply : Reply) → counts_by (one_more reply often) ≡ counted (counts_by often) reply
adds often New = refl
adds often (Was value) = refl
adds often Full = refl
adds often (Gone value) = refl
adds often (Val value) = refl
adds often Absent = refl
adds often (At name value) = refl
adds often (Number count) = refl
adds often Done = refl
adds often Taken = refl
adds often Many = refl
adds often Used = refl
adds often Idle = refl

-- the count of a reply's kind, in the counts
pub counts_at : (often : List ℕ → ℕ) (reply : Reply) → count_at (counts_by often) reply ≡ often (first_word reply)
counts_at often New = refl
counts_at often (Was value) = refl
counts_at often Full = refl
counts_at often (Gone value) = refl
counts_at often (Val value) = refl
counts_at often Absent = refl
counts_at often (At name value) = refl
counts_at often (Number count) = refl
counts_at often Done = refl
counts_at often Taken = refl
counts_at often Many = refl
counts_at often Used = refl
counts_at often Idle = refl

module _ (history : List (ℕ × RecordEntry)) (i : ℕ) (e : ℕ × RecordEntry) (small : i < length history) (is : e ≡ get_or history i e) where
  by_kind : (kind : List ℕ) → count_of kind (take (i + 1) history) ≡ one_more e.1.reply (λ k. count_of k (take i history)) kind
  by_kind kind = by (bytes_eq (first_word e.1.reply) kind) refl
    where
      by : (b : Bool) → bytes_eq (first_word e.1.reply) kind ≡ b → count_of kind (take (i + 1) history) ≡ cond b (count_of kind (take i history) + 1) (count_of kind (take i history))
      by true is_kind = count_by_more_yes (λ (x : ℕ × RecordEntry). bytes_eq (first_word x.1.reply) kind) history i e small (ap (λ (x : ℕ × RecordEntry). bytes_eq (first_word x.1.reply) kind) (sym is) ∙ is_kind)
      by false differs = count_by_more_no (λ (x : ℕ × RecordEntry). bytes_eq (first_word x.1.reply) kind) history i e small (ap (λ (x : ℕ × RecordEntry). bytes_eq (first_word x.1.reply) kind) (sym is) ∙ differs)

  pub counts_more : counts_in (take (i + 1) history) ≡ counted (counts_in (take i history)) e.1.reply
  counts_more = (λ j. counts_by (λ kind. by_kind kind j)) ∙ adds (λ kind. count_of kind (take i history)) e.1.reply

-- texts, each put behind those before it or before those behind it

behind : List ℕ → List (List ℕ) → List ℕ
behind text [] = text
behind text (next ∷ further) = behind (text ++ next) further

before : (text : List ℕ) (further : List (List ℕ)) → behind text further ≡ text ++ flat_map (λ next. next) further
unfolding behind
before text [] = sym (append-nil text)
before text (next ∷ further) = before (text ++ next) further ∙ append_assoc text next (flat_map (λ next. next) further)

-- the lines of the counts are those of the kinds
pub kinds_text : (often : List ℕ → ℕ) → counts_text (counts_by often) ≡ flat_map (λ kind. number_line kind (often kind)) kinds
unfolding behind
kinds_text often = before (number_line (codes "new") (often (codes "new")))
    (map (λ kind. number_line kind (often kind))
    (codes "was" ∷ codes "full" ∷ codes "del" ∷ codes "val" ∷ codes "none" ∷ codes "at" ∷ codes "n" ∷ codes "ok" ∷ codes "taken"
    ∷ codes "many" ∷ codes "used" ∷ codes "idle" ∷ []))
