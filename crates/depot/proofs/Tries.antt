-- What the tries of one call come to.
use Rattle.std.proofs.Common.{◌≡◌, ℕ, ◌+◌, ◌<◌, List, [], ◌∷◌, ◌++◌, length, All, refl, sym, ap, ◌∙◌, arith, append_assoc, length-append}
use Rattle.std.proofs.lemmas.List.{append-nil}
use Rattle.std.proofs.lemmas.List.Elements.{All-push}
use Rattle.std.specs.Prelude.{Result, Ok, Err, MatchResult, OnOk}
use Rattle.std.specs.List.{enumerate_from}
use Rattle.atomic_table.specs.Seated.{TableId}
use Rattle.kmem_buf.specs.Buffers.{BufState}
use Rattle.kmem_buf.specs.Answers.{numbers_of}
use Rattle.kmem_buf.specs.Homes.{Homes}
use Rattle.depot.specs.declared.rule.View.{View}
use Rattle.depot.specs.Depot.{DepotSeatState, full_at, IsOther, HasSwapped}
use Rattle.depot.specs.Steps.{Sat, tried, traded, state_of, HasTraded, HasTried, IsFit}

enumerate-push : (k : ℕ) (xs : List ℕ) (x place : ℕ) → k + length xs ≡ place → enumerate_from k (xs ++ x ∷ []) ≡ enumerate_from k xs ++ (place, x) ∷ []
enumerate-push k [] x place e = let same : k ≡ place = omega arith in ap (λ n. (n, x) ∷ []) same
enumerate-push k (y ∷ ys) x place e = ap (λ l. (k, y) ∷ l) (enumerate-push (k + 1) ys x place (omega arith))

-- the view after these tries
abbrev pub tried_all : List ℕ → View → View
tried_all found v = record v { tries = v.tries ++ enumerate_from 0 found }

tries-push : (ts : List (ℕ × ℕ)) (found : List ℕ) (place x : ℕ) → length found ≡ place → (ts ++ enumerate_from 0 found) ++ (place, x) ∷ [] ≡ ts ++ enumerate_from 0 (found ++ x ∷ [])
tries-push ts found place x e = append_assoc ts (enumerate_from 0 found) ((place, x) ∷ []) ∙ ap (λ l. ts ++ l) (sym (enumerate-push 0 found x place (omega arith)))

module _ {X : Type 0} where
  -- one more place was tried
  pub tries_on : (v : View) (found : List ℕ) (place wanted : ℕ) (me me' : Sat X) → length found ≡ place → All (IsOther wanted) found → me ≡ (tried_all found v, []) → (t : HasTried place wanted me me')
      → (next : List ℕ) × (length next ≡ place + 1) × All (IsOther wanted) next × (me' ≡ (tried_all next v, []))
  tries_on v found place wanted me me' long others was t = (
    found ++ t.found ∷ [],
    omega (arith, length-append found (t.found ∷ [])),
    All-push (IsOther wanted) found t.found others t.other,
    t.rests ∙ (ap (λ (m : Sat X). (tried place t.found m.0, [])) was ∙ ap (λ ts. (record v { tries = ts }, [])) (tries-push v.tries found place t.found long)),
  )

  -- a place had what was wanted
  pub tries_end : (table table' : TableId) (v : View) (found out left : List ℕ) (places place wanted : ℕ) (me me' : Sat X) → table' ≡ table → place < places → length found ≡ place → All (IsOther wanted) found
      → me ≡ (tried_all found v, []) → HasTraded place wanted out left me me' → HasSwapped places wanted out left (state_of table v) (state_of table' me'.0)
  tries_end table table' v found out left places place wanted me me' same inside long others was t = record {
    place = place;
    within = inside;
    found = found;
    before = long;
    others = others;
    seat =
        ap (λ z. state_of z me'.0) same
        ∙ (ap (λ (m : Sat X). state_of table m.0) (t ∙ ap (λ (m : Sat X). (traded place out left (tried place wanted m.0), [])) was)
        ∙ ap (λ ts. record { table = table; home = v.home; put = v.put ++ full_at place left; taken = v.taken ++ full_at place out; tries = ts }) (tries-push v.tries found place wanted long));
  }

-- a full magazine counts once
one_full : {X : Type 0} (place : ℕ) (m : List (BufState X)) → length m ≡ 8 → length (full_at place (numbers_of m)) ≡ 1
one_full place [] e = absurd (omega arith)
one_full place (b ∷ bs) e = refl

-- and an empty one not at all
none_full : {X : Type 0} (place : ℕ) (m : List (BufState X)) → length m ≡ 0 → full_at place (numbers_of m) ≡ []
none_full place [] e = refl
none_full place (b ∷ bs) e = absurd (omega arith)

module _ {X : Type 0} (constructed : X → Type 0) (home : Homes) (places : ℕ) (old new : DepotSeatState) (Q : List (BufState X) → Type 0) where
  pub counts_taken : (empty : List (BufState X)) → empty ≡ [] → (r : Result (List (BufState X)) (List (BufState X)))
      → MatchResult r (λ out. IsFit constructed home 1 out × HasSwapped places 1 (numbers_of out) (numbers_of empty) old new) Q
      → OnOk r ((length new.taken ≡ length old.taken + 1) × (new.put ≡ old.put))
  counts_taken empty nil (Ok out) told = let fit = told.0 in let swapped = told.1 in let eight = fit.rounds in (
    omega (arith, ap (λ s. length s.taken) swapped.seat, length-append old.taken (full_at swapped.place (numbers_of out)), one_full swapped.place out (omega arith)),
    ap (λ s. s.put) swapped.seat ∙ (ap (λ m. old.put ++ full_at swapped.place (numbers_of m)) nil ∙ append-nil old.put),
  )
  counts_taken empty nil (Err back) told = tt

  pub counts_put : (full : List (BufState X)) → length full ≡ 8 → (r : Result (List (BufState X)) (List (BufState X)))
      → MatchResult r (λ out. IsFit constructed home 0 out × HasSwapped places 0 (numbers_of out) (numbers_of full) old new) Q
      → OnOk r ((length new.put ≡ length old.put + 1) × (new.taken ≡ old.taken))
  counts_put full eight (Ok out) told = let fit = told.0 in let swapped = told.1 in let nothing = fit.rounds in (
    omega (arith, ap (λ s. length s.put) swapped.seat, length-append old.put (full_at swapped.place (numbers_of full)), one_full swapped.place full eight),
    ap (λ s. s.taken) swapped.seat ∙ (ap (λ l. old.taken ++ l) (none_full swapped.place out (omega arith)) ∙ append-nil old.taken),
  )
  counts_put full eight (Err back) told = tt
