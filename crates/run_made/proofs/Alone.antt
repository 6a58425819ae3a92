-- The history of a worker that is alone.
use Rattle.std.proofs.Common.{◌≡◌, ◌+◌, ◌<◌, ℕ, zero, suc, true, false, List, [], ◌∷◌, map, cond, inl, inr, refl, sym, ap, ap₂, ◌∙◌, subst, arith}
use Rattle.std.specs.List.{AllByRecursion}
use Rattle.kmem_text.specs.declared.command.Command.{Command}
use Rattle.kmem_text.specs.declared.command.Reply.{Reply}
use Rattle.kmem_model.specs.declared.record_entry.RecordEntry.{RecordEntry}
use Rattle.kmem_model.specs.Records.{RecordMap}
use Rattle.kmem_model.specs.RecordStep.{step}
use Rattle.kmem_model.specs.History.{worker_of, is_refusal, map_next, numbered, asked_by, IsRight, IsLegalHistory}
use Rattle.run_made.specs.Making.{alone_history}

abbrev Mine : List (ℕ × RecordEntry) → Type 0
Mine h = AllByRecursion (λ (e : ℕ × RecordEntry). e.0 < 1) h

abbrev Given : List (ℕ × RecordEntry) → Type 0
Given h = AllByRecursion (λ (e : ℕ × RecordEntry). is_refusal e.1.reply ≡ false) h

asked_all : (h : List (ℕ × RecordEntry)) → Mine h → asked_by 0 h ≡ map (λ e. (e.1.number, e.1.command)) h
asked_all [] mine = refl
asked_all (e ∷ h) mine = by_pass e.0 mine.0 (asked_all h mine.1)
  where
    by_pass : (p : ℕ) → p < 1 → asked_by 0 h ≡ map (λ (x : ℕ × RecordEntry). (x.1.number, x.1.command)) h → asked_by 0 ((p, e.1) ∷ h) ≡ (e.1.number, e.1.command) ∷ map (λ (x : ℕ × RecordEntry). (x.1.number, x.1.command)) h
    by_pass zero small rest = ap (λ xs. (e.1.number, e.1.command) ∷ xs) rest
    by_pass (suc p) small rest = absurd (omega arith)

-- a reply that isn't a refusal is the step's
reply_is : (m : RecordMap) (e : ℕ × RecordEntry) → is_refusal e.1.reply ≡ false → IsRight m e → e.1.reply ≡ (step m (worker_of e.0) e.1.command).reply
reply_is m e given (inl refused) = absurd (apart (sym (ap is_refusal refused.0) ∙ given))
  where
    apart : true ≡ false → ⊥
    apart x = cc
reply_is m e given (inr is) = is

in_turn : (m : RecordMap) (n : ℕ) (cs : List Command) (h : List (ℕ × RecordEntry)) → Mine h → Given h → IsLegalHistory m h → map (λ e. (e.1.number, e.1.command)) h ≡ numbered n cs →
    h ≡ alone_history m n cs
in_turn m n [] [] mine given legal is = refl
in_turn m n [] (e ∷ h) mine given legal is = absurd (cc)
in_turn m n (c ∷ cs) [] mine given legal is = absurd (cc)
in_turn m n (c ∷ cs) (e ∷ h) mine given legal is =
    let head : ◌≡◌ {A = ℕ × Command} (e.1.number, e.1.command) (n, c) = cc in
    let rest : map (λ (x : ℕ × RecordEntry). (x.1.number, x.1.command)) h ≡ numbered (n + 1) cs = cc in
    let number : e.1.number ≡ n = ap (λ x. x.0) head in
    let command : e.1.command ≡ c = ap (λ x. x.1) head in
    let first : e.0 ≡ 0 = omega (arith, mine.0) in
    let worker : worker_of e.0 ≡ 1 = omega (arith, first) in
    let taken : step m (worker_of e.0) e.1.command ≡ step m 1 c = ap₂ (λ w x. step m w x) worker command in
    let reply : e.1.reply ≡ (step m 1 c).reply = reply_is m e given.0 legal.0 ∙ ap (λ s. s.reply) taken in
    let next : map_next m e ≡ (step m 1 c).map = ap (λ b. cond b m (step m (worker_of e.0) e.1.command).map) given.0 ∙ ap (λ s. s.map) taken in
    ap₂ (λ x xs. x ∷ xs) (entry e n c first number command reply)
    (in_turn (step m 1 c).map (n + 1) cs h mine.1 given.1 (subst (λ x. IsLegalHistory x h) next legal.1) rest)
  where
    entry : (e : ℕ × RecordEntry) (n : ℕ) (c : Command) {r : Reply} → e.0 ≡ 0 → e.1.number ≡ n → e.1.command ≡ c → e.1.reply ≡ r → e ≡ (0, record { number = n; command = c; reply = r })
    entry e n c first number command reply = λ i. (first i, record { number = number i; command = command i; reply = reply i })

pub alone_so : (m : RecordMap) (cs : List Command) (h : List (ℕ × RecordEntry)) → Mine h → Given h → IsLegalHistory m h → asked_by 0 h ≡ numbered 1 cs → h ≡ alone_history m 1 cs
alone_so m cs h mine given legal asked = in_turn m 1 cs h mine given legal (sym (asked_all h mine) ∙ asked)
