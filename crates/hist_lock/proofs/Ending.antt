-- What the end of the lock shows, in terms of its passes.
use Rattle.std.proofs.Common.{◌≡◌, ◌≤◌, ℕ, List, map, length, All, Contains, ap, sym, ◌∙◌, subst}
use Rattle.std.specs.List.{sum_by, range_with_len}
use Rattle.std.proofs.lemmas.List.{length-map}
use Rattle.std.proofs.lemmas.List.Elements.{All-weaker}
use mathlib.Core.Option.{some}
use lib.ListN.{get_elem?}
use Rattle.atomic_table.specs.Table.{Final, Seen}
use Rattle.hist_lock.specs.declared.rule.Held.{Held}
use Rattle.hist_lock.specs.declared.rule.Bounds.{Bounds}
use Rattle.hist_lock.specs.declared.rule.Claim.{Claim}
use Rattle.hist_lock.specs.History.{IsFront, entries_of}
use Rattle.hist_lock.specs.Passes.{PassState}
use Rattle.hist_lock.specs.Rule.{FitsClaim, OneLog}
use Rattle.hist_lock.specs.Steps.{Sat}
use Rattle.hist_lock.specs.Seats.{claim_of, HasGathered}
use Rattle.hist_lock.proofs.Shares.{closes}
use Rattle.hist_lock.proofs.Passes.{All-of_map, map_twice}

pub record IsEnd {O E H : Type 0} (stands : O → List (ℕ × E) → Type 0) (home_of : O → H) (home : H) (room count : ℕ) (passes : List (PassState E H)) (held : Held O E) : Type 0 where
  pub stood : stands held.object held.journal.items
  pub home_is : home_of held.object ≡ home
  pub fronts : All (λ p. IsFront p.seen held.journal.items) passes
  pub exact : All (λ p. entries_of p.number held.journal.items ≡ p.mine) passes
  pub weighs : (weight : ℕ → ℕ) → sum_by weight (map (λ p. p.number) passes) ≡ sum_by weight (range_with_len 0 count)
  pub room_kept : length held.journal.items ≤ room
  pub others : All (λ x. Contains (map (λ p. p.number) passes) x.0) held.journal.items

module _ {O E H : Type 0} (bounds : Bounds H) (stands : O → List (ℕ × E) → Type 0) (home_of : O → H) where
  pub ends : (id : ℕ) (me : Sat O E H) (passes : List (PassState E H)) (ws : List ℕ) (xs : List (Held O E)) (held : Held O E) → Final (Seen (OneLog bounds stands home_of) id me.0) ws xs
      → HasGathered passes me → length passes ≡ bounds.count → get_elem? xs 0 ≡ some held → IsEnd stands home_of bounds.home bounds.room bounds.count passes held
  ends id me passes ws xs held final gathered every here =
      let journal = held.journal.items in
      let count : length me.0.claims ≡ bounds.count = ap length gathered.claims ∙ (length-map passes (λ (p : PassState E H). claim_of p) ∙ every) in
      let end = closes bounds stands home_of id me.0 ws xs held final gathered.idle count here in
      let fits : All (λ (p : PassState E H). FitsClaim journal (claim_of p)) passes = All-of_map (FitsClaim journal) claim_of passes (subst (All (FitsClaim journal)) gathered.claims end.fits) in
      let numbers : map (λ (c : Claim E). c.number) me.0.claims ≡ map (λ (p : PassState E H). p.number) passes = ap (map (λ (c : Claim E). c.number)) gathered.claims ∙ map_twice claim_of (λ (c : Claim E). c.number) passes in record {
        stood = end.stood;
        home_is = end.home;
        fronts = All-weaker (λ (p : PassState E H). FitsClaim journal (claim_of p)) (λ p. IsFront p.seen journal) (λ p f. f.0) passes fits;
        exact = All-weaker (λ (p : PassState E H). FitsClaim journal (claim_of p)) (λ p. entries_of p.number journal ≡ p.mine) (λ p f. f.1) passes fits;
        weighs = λ weight. ap (sum_by weight) (sym numbers) ∙ end.weighs weight;
        room_kept = end.room;
        others = subst (λ ns. All (λ x. Contains ns x.0) journal) numbers end.known;
      }
