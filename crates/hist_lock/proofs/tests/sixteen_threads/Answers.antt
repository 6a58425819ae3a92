use Rattle.std.proofs.Common.{◌≡◌, ℕ, ◌++◌, ◌∷◌, []}
use Rattle.std.proofs.lemmas.List.Elements.{All-push, All-same}
use Rattle.hist_lock.specs.Passes.{PassState}
use Rattle.hist_lock.proofs.tests.sixteen_threads.Goals as goal

pub close-history-requires-clause-of : goal.close-history-requires-clause-of
close-history-requires-clause-of g c =
    let both = c.add_and_look-found.result in let done = c.add_and_look-found.ensures in
    let P : PassState ℕ ℕ → Type 0 = λ p. p.site ≡ c.in_ok-lock.lock in
    All-same P c.push_reserved.new.self.items (both.1.items ++ both.0.1 ∷ []) c.push_reserved.ensures.items
    (All-push P both.1.items both.0.1 done.passes done.last)
