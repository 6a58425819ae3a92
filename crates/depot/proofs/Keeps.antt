-- What follows from the rule, and that a change of one seat's view keeps it.
use Rattle.std.proofs.Common.{◌≡◌, ◌≢◌, ◌⊎◌, ◌==◌, ℕ, ◌+◌, List, length, set, cond, Some, None, refl, sym, ap, ◌∙◌, arith, eq-eqb, ne_eqb}
use Rattle.std.specs.List.{sum_by}
use mathlib.Core.Option.{some, some-injective}
use mathlib.Core.Option as maybe
use lib.ListN.{get_elem?}
use Rattle.atomic_table.specs.Table.{State}
use Rattle.table_sums.proofs.Totals.{total_set}
use Rattle.table_sums.proofs.Spreads.{seats_set}
use Rattle.kmem_buf.specs.Buffers.{BufState}
use Rattle.kmem_buf.specs.Homes.{Homes}
use Rattle.depot.specs.declared.rule.View.{View}
use Rattle.depot.specs.Depot.{full_from}
use Rattle.depot.specs.Rule.{seats_of, IsFree, IsTurned, FitsSeat, IsShared}

-- a seat that turns no place is not the one that turns some place
pub not_mine : (views : List View) (id owner : ℕ) (v u : View) (t : ℕ × List ℕ) → get_elem? views id ≡ some v → v.turning ≡ None → get_elem? views owner ≡ some u → u.turning ≡ Some t → owner ≢ id
not_mine views id owner v u t at idle there turns same =
    let one : u ≡ v = some-injective u v (sym there ∙ (ap (get_elem? views) same ∙ at)) in
    let clash : Some t ≡ None = sym turns ∙ (ap (λ (x : View). x.turning) one ∙ idle) in absurd (cc clash)

-- the place has this owner, and the others have theirs
abbrev pub owned : (ℕ → ℕ) → ℕ → ℕ → ℕ → ℕ
owned owner place id q = cond (q == place) id (owner q)

pub owned-here : (owner : ℕ → ℕ) (place id : ℕ) → owned owner place id place ≡ id
owned-here owner place id = ap (λ b. cond b id (owner place)) (eq-eqb place place refl)

pub owned-else : (owner : ℕ → ℕ) (place id q : ℕ) → q ≢ place → owned owner place id q ≡ owner q
owned-else owner place id q ne = ap (λ b. cond b id (owner q)) (ne_eqb q place ne)

module _ {X : Type 0} (constructed : X → Type 0) (home : Homes) (seats : ℕ) where
  abbrev St : Type 0
  St = State (List (BufState X)) View

  abbrev pub Rule : St → Type 0
  Rule = IsShared constructed home seats

  -- a seat's view changes from v to w. The rest of the rule is kept where these are
  pub changed : (s : St) (r : Rule s) (id : ℕ) (v w : View) → get_elem? s.views id ≡ some v
      → (words : List ℕ) (homes : List (maybe.Option (List (BufState X)))) (standing : List (List ℕ)) (owner : ℕ → ℕ)
      → length words ≡ length homes → length standing ≡ length homes → w.seats ≡ v.seats
      → ((weight : ℕ × List ℕ → ℕ) → sum_by weight w.put + sum_by weight v.taken + sum_by weight (full_from 0 r.standing) ≡ sum_by weight v.put + sum_by weight w.taken + sum_by weight (full_from 0 standing))
      → ((place : ℕ) (numbers : List ℕ) → get_elem? standing place ≡ some numbers
      → IsFree constructed home (record { words = words; homes = homes; views = set s.views id w }) place numbers ⊎ IsTurned {X = X} (record { words = words; homes = homes; views = set s.views id w }) (owner place) place numbers)
      → FitsSeat home words standing owner id w
      → ((j : ℕ) (u : View) → j ≢ id → get_elem? s.views j ≡ some u → FitsSeat home s.words r.standing r.owner j u → FitsSeat home words standing owner j u)
      → Rule record { words = words; homes = homes; views = set s.views id w }
  changed s r id v w at words homes standing owner many long same balanced places mine others = record {
    standing = standing;
    owner = owner;
    words_many = many;
    standing_many = long;
    all = omega (arith, total_set seats_of s.views id v w at, r.all);
    count = λ weight.
        omega (arith, total_set (λ u. sum_by weight u.put) s.views id v w at, total_set (λ u. sum_by weight u.taken) s.views id v w at, r.count weight, balanced weight);
    places = places;
    fits = seats_set (FitsSeat home s.words r.standing r.owner) (FitsSeat home words standing owner) s.views id w mine others r.fits;
  }
