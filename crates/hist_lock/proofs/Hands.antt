-- The one slot that a seat has in hand.
use Rattle.std.proofs.Common.{◌≡◌, ℕ, List, [], ◌∷◌, ap, sym, ◌∙◌}
use Rattle.atomic_table.specs.Table.{rest}

module _ {S : Type 0} where
  pub in_hand : (slots : List (ℕ × S)) (x : S) → slots ≡ (0, x) ∷ [] → slots ≡ (0, x) ∷ rest slots
  in_hand slots x e = e ∙ ap (λ l. (0, x) ∷ l) (sym (ap rest e))

  pub only_hand : (slots : List (ℕ × S)) (x y : S) → slots ≡ (0, x) ∷ rest slots → slots ≡ (0, y) ∷ [] → x ≡ y
  only_hand slots x y e f = let both : (0, x) ∷ rest slots ≡ (0, y) ∷ [] = sym e ∙ f in let pair : (0, x) ≡ (0, y) = cc both in ap (λ (p : ℕ × S). p.1) pair
