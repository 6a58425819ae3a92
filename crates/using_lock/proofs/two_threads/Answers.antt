use Rattle.std.proofs.Common.{◌≡◌, ℕ, ◌∷◌, ◌++◌, [], All, ap, sym, ◌∙◌, refl}
use Rattle.std.proofs.lemmas.List.Elements.{All-head, All-tail, All-same}
use Rattle.hist_lock.specs.History.{entries_of}
use Rattle.hist_lock.specs.Passes.{PassState, fresh}
use Rattle.using_lock.proofs.Counting.{two_popped, got_alone}
use Rattle.using_lock.proofs.two_threads.Goals as goal

pub returns-clause-one : goal.returns-clause-one
returns-clause-one g c =
    let site = c.in_ok-lock.lock in let some_two = c.in-Some-Some in let a = c.draw_both-a.result.0 in let b = c.draw_both-a.result.1 in
    let history = c.close-history.result.1.items in
    let popped = two_popped (fresh {E = ℕ} site 0 1) (fresh site 1 1) some_two.a some_two.b c.in_ok-lock.passes.items c.pop.new.self.items c.pop-2.new.self.items
    c.in_ok-lock.ensures.passes some_two.ensures.items some_two.ensures'.items in
    let items : c.push_reserved-2.new.self.items ≡ a.pass ∷ b.pass ∷ [] = c.push_reserved-2.ensures.items ∙ (ap (λ l. l ++ b.pass ∷ []) c.push_reserved.ensures.items ∙ ap (λ l. (l ++ a.pass ∷ []) ++ b.pass ∷ []) popped.2) in
    let Q : PassState ℕ ℕ → Type 0 = λ p. entries_of p.number history ≡ p.mine in
    let exact : All Q (a.pass ∷ b.pass ∷ []) = All-same Q (a.pass ∷ b.pass ∷ []) c.push_reserved-2.new.self.items (sym items) c.close-history.ensures.exact in
    got_alone (fresh {E = ℕ} site 0 1) some_two.a a.pass a.number history popped.0 refl c.draw_both-a.ensures.a (All-head Q a.pass (b.pass ∷ []) exact)

pub returns-clause-other : goal.returns-clause-other
returns-clause-other g c =
    let site = c.in_ok-lock.lock in let some_two = c.in-Some-Some in let a = c.draw_both-a.result.0 in let b = c.draw_both-a.result.1 in
    let history = c.close-history.result.1.items in
    let popped = two_popped (fresh {E = ℕ} site 0 1) (fresh site 1 1) some_two.a some_two.b c.in_ok-lock.passes.items c.pop.new.self.items c.pop-2.new.self.items
    c.in_ok-lock.ensures.passes some_two.ensures.items some_two.ensures'.items in
    let items : c.push_reserved-2.new.self.items ≡ a.pass ∷ b.pass ∷ [] = c.push_reserved-2.ensures.items ∙ (ap (λ l. l ++ b.pass ∷ []) c.push_reserved.ensures.items ∙ ap (λ l. (l ++ a.pass ∷ []) ++ b.pass ∷ []) popped.2) in
    let Q : PassState ℕ ℕ → Type 0 = λ p. entries_of p.number history ≡ p.mine in
    let exact : All Q (a.pass ∷ b.pass ∷ []) = All-same Q (a.pass ∷ b.pass ∷ []) c.push_reserved-2.new.self.items (sym items) c.close-history.ensures.exact in
    got_alone (fresh {E = ℕ} site 1 1) some_two.b b.pass b.number history popped.1 refl c.draw_both-a.ensures.b (All-head Q b.pass [] (All-tail Q a.pass (b.pass ∷ []) exact))
