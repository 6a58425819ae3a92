-- What the stubs of a table's shares say together.
use Rattle.std.proofs.Common.{◌≡◌, ℕ, ◌+◌, ◌<◌, Bool, true, false, cond, List, [], ◌∷◌, ◌++◌, length, get_or, set, sym, ap, ◌∙◌, refl, arith}
use Rattle.std.specs.List.{sum_by}
use Rattle.std.proofs.Math.Seq.{map-set_same}
use Rattle.std.proofs.lemmas.List.{map-append}
use Rattle.std.proofs.lemmas.List.Sums.{sum_by-set, sum_by-cons, sum_by_push}
use Rattle.atomic_table.specs.Seated.{TableId}
use Rattle.kmem_buf.specs.Homes.{stub_homes}
use Rattle.kmem_buf.specs.Stubs.{StubState}
use Rattle.record_table.specs.Shares.{SharesState, share_facts, out_of, brought_of, fetched_of, shares_of, fresh_share, fresh_shares}

pub same_shares : (a b : SharesState) → a.homes ≡ b.homes → a.out ≡ b.out → a.brought ≡ b.brought → a.fetched ≡ b.fetched → a ≡ b
same_shares a b homes out brought fetched = λ i. record { homes = homes i; out = out i; brought = brought i; fetched = fetched i }

-- a stub with a share out
abbrev pub issued_as : TableId → ℕ → ℕ → StubState
issued_as home brought fetched = record { home = home; issued = true; facts = share_facts brought fetched }

module _ (stubs : List StubState) (place : ℕ) (stub new : StubState) (low : place < length stubs) (read : stub ≡ get_or stubs place stub) where
  summed : (f : StubState → ℕ) → sum_by f (set stubs place new) + f stub ≡ sum_by f stubs + f new
  summed f = omega (arith, sum_by-set f stubs place new stub low, ap f read)

  pub homes_stay : new.home ≡ stub.home → stub_homes (set stubs place new) ≡ stub_homes stubs
  homes_stay same = map-set_same (λ (s : StubState). s.home) stubs place new stub (same ∙ ap (λ (s : StubState). s.home) read)

  -- the share was counted on
  pub counted_more : (home : TableId) (b f db df : ℕ) → stub ≡ issued_as home b f → new ≡ issued_as home (b + db) (f + df) →
      shares_of (set stubs place new) ≡ record (shares_of stubs) { brought = sum_by brought_of stubs + db; fetched = sum_by fetched_of stubs + df }
  counted_more home b f db df was is =
      same_shares _ _ (homes_stay (ap (λ (s : StubState). s.home) is ∙ sym (ap (λ (s : StubState). s.home) was)))
      (omega (arith, summed out_of, ap out_of was, ap out_of is))
      (omega (arith, summed brought_of, ap brought_of was, ap brought_of is))
      (omega (arith, summed fetched_of, ap fetched_of was, ap fetched_of is))

  -- the share came back
  ended_of : new.issued ≡ false → (out_of new ≡ 0) × (brought_of new ≡ 0) × (fetched_of new ≡ 0)
  ended_of none =
      (ap (λ b. cond b 1 0) none, ap (λ b. cond b (get_or new.facts 0 0) 0) none, ap (λ b. cond b (get_or new.facts 1 0) 0) none)

  pub back_out : (home : TableId) (b f : ℕ) → stub ≡ issued_as home b f → new.issued ≡ false → sum_by out_of (set stubs place new) + 1 ≡ sum_by out_of stubs
  back_out home b f was none = omega (arith, summed out_of, ap out_of was, ended_of none)

  pub back_brought : (home : TableId) (b f : ℕ) → stub ≡ issued_as home b f → new.issued ≡ false → sum_by brought_of (set stubs place new) + b ≡ sum_by brought_of stubs
  back_brought home b f was none = omega (arith, summed brought_of, ap brought_of was, ended_of none)

  pub back_fetched : (home : TableId) (b f : ℕ) → stub ≡ issued_as home b f → new.issued ≡ false → sum_by fetched_of (set stubs place new) + f ≡ sum_by fetched_of stubs
  back_fetched home b f was none = omega (arith, summed fetched_of, ap fetched_of was, ended_of none)

-- while none is out, they say of none that it put anything in or took anything out
pub none_out : (stubs : List StubState) → sum_by out_of stubs ≡ 0 → (sum_by brought_of stubs ≡ 0) × (sum_by fetched_of stubs ≡ 0)
none_out [] none = (refl, refl)
none_out (s ∷ ss) none =
    let rest = none_out ss (omega (arith, none, sum_by-cons out_of s ss)) in
    let here = by s s.issued refl (omega (arith, none, sum_by-cons out_of s ss)) in
    (omega (arith, rest.0, here.0, sum_by-cons brought_of s ss), omega (arith, rest.1, here.1, sum_by-cons fetched_of s ss))
  where
    by : (s : StubState) (b : Bool) → s.issued ≡ b → out_of s ≡ 0 → (brought_of s ≡ 0) × (fetched_of s ≡ 0)
    by s true is e = absurd (omega (arith, e, ap {B = ℕ} (λ b. cond b 1 0) is))
    by s false is e = (ap (λ b. cond b (get_or s.facts 0 0) 0) is, ap (λ b. cond b (get_or s.facts 1 0) 0) is)

-- one more share
pub dealt_more : (place : ℕ) (homes : List TableId) (home : TableId) → fresh_shares place (homes ++ home ∷ []) ≡ fresh_shares place homes ++ fresh_share (place + length homes) home ∷ []
dealt_more place [] home = ap (λ n. fresh_share n home ∷ []) (omega arith)
dealt_more place (h ∷ hs) home =
    ap (λ ss. fresh_share place h ∷ ss) (dealt_more (place + 1) hs home ∙ ap (λ n. fresh_shares (place + 1) hs ++ fresh_share n home ∷ []) (omega arith))

pub made_more : (stubs : List StubState) (stub : StubState) → stub ≡ issued_as stub.home 0 0 →
    shares_of (stubs ++ stub ∷ []) ≡ record (shares_of stubs) { homes = stub_homes stubs ++ stub.home ∷ []; out = sum_by out_of stubs + 1 }
made_more stubs stub is =
    same_shares _ _ (map-append (λ (s : StubState). s.home) stubs (stub ∷ []))
    (omega (arith, sum_by_push out_of stubs stub, ap out_of is))
    (omega (arith, sum_by_push brought_of stubs stub, ap brought_of is))
    (omega (arith, sum_by_push fetched_of stubs stub, ap fetched_of is))
