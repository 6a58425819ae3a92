use Rattle.std.proofs.Common.{◌≡◌, ℕ, ◌∷◌, ◌++◌, [], All, ap, sym, ◌∙◌}
use Rattle.std.proofs.lemmas.List.Elements.{All-head, All-tail, All-same}
use Rattle.hist_lock.specs.History.{IsFront, entries_of}
use Rattle.hist_lock.specs.Passes.{PassState, fresh}
use Rattle.hist_lock.specs.Tally.{sums_before}
use Rattle.hist_lock.proofs.Tallies.{two_popped, found_whole}
use Rattle.hist_lock.proofs.tests.two_threads.Goals as goal

pub returns-clause-first : goal.returns-clause-first
returns-clause-first g c =
    let site = c.in_ok-lock.lock in let quota = c.args.quota in let some_two = c.in-Some-Some in
    let popped = two_popped (fresh {E = ℕ} site 0 quota) (fresh site 1 quota) some_two.a some_two.b c.in_ok-lock.passes.items c.pop.new.self.items c.pop-2.new.self.items
    c.in_ok-lock.ensures.passes some_two.ensures.items some_two.ensures'.items in
    let a = c.add_both-a.result.0 in let b = c.add_both-a.result.1 in let history = c.close-history.result.1.items in let closed = c.close-history.ensures in
    let items : c.push_reserved-2.new.self.items ≡ a.pass ∷ b.pass ∷ [] = c.push_reserved-2.ensures.items ∙ (ap (λ l. l ++ b.pass ∷ []) c.push_reserved.ensures.items ∙ ap (λ l. (l ++ a.pass ∷ []) ++ b.pass ∷ []) popped.2) in
    let P : PassState ℕ ℕ → Type 0 = λ p. IsFront p.seen history in let Q : PassState ℕ ℕ → Type 0 = λ p. entries_of p.number history ≡ p.mine in
    let fronts : All P (a.pass ∷ b.pass ∷ []) = All-same P (a.pass ∷ b.pass ∷ []) c.push_reserved-2.new.self.items (sym items) closed.fronts in
    let exact : All Q (a.pass ∷ b.pass ∷ []) = All-same Q (a.pass ∷ b.pass ∷ []) c.push_reserved-2.new.self.items (sym items) closed.exact in
    found_whole site some_two.a.number a.pass a.found.items history c.add_both-a.ensures.a (All-head P a.pass (b.pass ∷ []) fronts) (All-head Q a.pass (b.pass ∷ []) exact)
    ∙ ap (λ n. sums_before 0 n history) (ap (λ p. p.number) popped.0)

pub returns-clause-second : goal.returns-clause-second
returns-clause-second g c =
    let site = c.in_ok-lock.lock in let quota = c.args.quota in let some_two = c.in-Some-Some in
    let popped = two_popped (fresh {E = ℕ} site 0 quota) (fresh site 1 quota) some_two.a some_two.b c.in_ok-lock.passes.items c.pop.new.self.items c.pop-2.new.self.items
    c.in_ok-lock.ensures.passes some_two.ensures.items some_two.ensures'.items in
    let a = c.add_both-a.result.0 in let b = c.add_both-a.result.1 in let history = c.close-history.result.1.items in let closed = c.close-history.ensures in
    let items : c.push_reserved-2.new.self.items ≡ a.pass ∷ b.pass ∷ [] = c.push_reserved-2.ensures.items ∙ (ap (λ l. l ++ b.pass ∷ []) c.push_reserved.ensures.items ∙ ap (λ l. (l ++ a.pass ∷ []) ++ b.pass ∷ []) popped.2) in
    let P : PassState ℕ ℕ → Type 0 = λ p. IsFront p.seen history in let Q : PassState ℕ ℕ → Type 0 = λ p. entries_of p.number history ≡ p.mine in
    let fronts : All P (a.pass ∷ b.pass ∷ []) = All-same P (a.pass ∷ b.pass ∷ []) c.push_reserved-2.new.self.items (sym items) closed.fronts in
    let exact : All Q (a.pass ∷ b.pass ∷ []) = All-same Q (a.pass ∷ b.pass ∷ []) c.push_reserved-2.new.self.items (sym items) closed.exact in
    found_whole site some_two.b.number b.pass b.found.items history c.add_both-a.ensures.b (All-head P b.pass [] (All-tail P a.pass (b.pass ∷ []) fronts)) (All-head Q b.pass [] (All-tail Q a.pass (b.pass ∷ []) exact))
    ∙ ap (λ n. sums_before 0 n history) (ap (λ p. p.number) popped.1)
