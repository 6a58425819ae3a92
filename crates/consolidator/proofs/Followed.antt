-- Where a tenant goes by the moves of a settle.
use Rattle.std.proofs.Common.{◌≡◌, ◌≢◌, ℕ, ◌<◌, ◌==◌, Bool, true, false, List, [], ◌∷◌, length, get_or, set, slice_get, Some, None, ⊎_elim, sym, ◌∙◌, ap, refl, subst, arith}
use Rattle.std.proofs.lemmas.Bool.{both_ways, cases_eq, cond-true, cond-false, eq-eqb, ne_eqb}
use Rattle.std.proofs.lemmas.List.{get_or-map, get_or-set_same, get_or-set_other, length-map, length-set}
use Rattle.std.proofs.lemmas.Option.{slice_get_within, get_or_from_slice_get}
use Rattle.kmem_buf.specs.declared.owner.Stand.{Stand}
use Rattle.kmem_buf.specs.declared.owner.Stand.TheVariants.{Movable, Spare, Fixed, Busy, Unknown}
use Rattle.kmem_buf.specs.declared.client.Verdict.{Verdict}
use Rattle.kmem_buf.specs.declared.client.Verdict.TheVariants as verdict
use Rattle.kmem_buf.specs.Owners.{verdict_about, stand_at, after_verdict}
use Rattle.kmem_model.specs.declared.cache_entry.Said.{Said}
use Rattle.kmem_model.specs.declared.cache_entry.Said.TheVariants.{Yes, No, Later, DontNeed, DontKnow}
use Rattle.kmem_model.specs.Says.{moved_address, addresses_after}
use Rattle.kmem_model.specs.Heap.{address_in}
use Rattle.kmem_model.specs.Settle.{EndedMove}
use Rattle.kmem_model.specs.OneRun.{addresses_moved}
use Rattle.consolidator.specs.Owned.{Holdings, said_about, holdings_after, holdings_left, AreAnswered}

-- a tenant that no answer sends away
abbrev pub is_kept : Stand → Bool
is_kept Movable = true
is_kept Spare = false
is_kept Fixed = true
is_kept Busy = true
is_kept Unknown = false

pub record IsHoused {T : Type 0} (held : Holdings T) (b : ℕ) (t : T) : Type 0 where
  pub kept : is_kept (stand_at held.stands b) ≡ true
  pub tenant : get_or held.tenants b None ≡ Some t

-- One answer

length_after : {X : Type 0} (none : X) (v : Verdict) (from to : ℕ) (xs : List X) → length (after_verdict none v from to xs) ≡ length xs
length_after none verdict.Yes from to xs = length-set (set xs to (get_or xs from none)) from none ∙ length-set xs to (get_or xs from none)
length_after none verdict.No from to xs = refl
length_after none verdict.Later from to xs = refl
length_after none verdict.DontNeed from to xs = length-set xs from none
length_after none verdict.DontKnow from to xs = refl

-- what stood at the old buffer stands at the new one, and elsewhere all is as it was
along : {X : Type 0} (none : X) (from to : ℕ) (xs : List X) → to ≢ from → to < length xs → get_or (after_verdict none verdict.Yes from to xs) to none ≡ get_or xs from none
along none from to xs apart low =
    get_or-set_other (set xs to (get_or xs from none)) from to none none apart ∙ get_or-set_same xs to (get_or xs from none) none low

aside : {X : Type 0} (none : X) (from to b : ℕ) (xs : List X) → b ≢ from → b ≢ to → get_or (after_verdict none verdict.Yes from to xs) b none ≡ get_or xs b none
aside none from to b xs off far =
    get_or-set_other (set xs to (get_or xs from none)) from b none none off ∙ get_or-set_other xs to b (get_or xs from none) none far

-- where an address leads after an answer
abbrev address_after : ℕ → ℕ → Said → ℕ → ℕ
address_after from to Yes b = moved_address from to b
address_after from to No b = b
address_after from to Later b = b
address_after from to DontNeed b = b
address_after from to DontKnow b = b

address_read : (addresses : List ℕ) (from to i : ℕ) (said : Said) → i < length addresses → address_in (addresses_after addresses from to said) i ≡ address_after from to said (address_in addresses i)
address_read addresses from to i Yes low = get_or-map (moved_address from to) addresses i 0 0 low
address_read addresses from to i No low = refl
address_read addresses from to i Later low = refl
address_read addresses from to i DontNeed low = refl
address_read addresses from to i DontKnow low = refl

length_addresses : (addresses : List ℕ) (from to : ℕ) (said : Said) → length (addresses_after addresses from to said) ≡ length addresses
length_addresses addresses from to Yes = length-map addresses (moved_address from to)
length_addresses addresses from to No = refl
length_addresses addresses from to Later = refl
length_addresses addresses from to DontNeed = refl
length_addresses addresses from to DontKnow = refl

module _ {T : Type 0} (held : Holdings T) (from to b : ℕ) (t : T) (same : length held.tenants ≡ length held.stands) (empty : slice_get held.stands to ≡ Some Unknown) (housed : IsHoused held b t) where
  -- what the answer by a stand leaves
  abbrev left_by : Stand → Holdings T
  left_by s =
      record {
        stands = after_verdict Unknown (verdict_about s) from to held.stands;
        tenants = after_verdict None (verdict_about s) from to held.tenants;
      }

  low : to < length held.stands
  low = slice_get_within held.stands to Unknown empty

  none : stand_at held.stands to ≡ Unknown
  none = get_or_from_slice_get held.stands to Unknown Unknown empty

  far : b ≢ to
  far e = both_ways (is_kept (stand_at held.stands b)) (ap (λ n. is_kept (stand_at held.stands n)) e ∙ ap is_kept none) housed.kept

  moves : stand_at held.stands from ≡ Movable → IsHoused (left_by Movable) (moved_address from to b) t
  moves is = ⊎_elim
      (λ at.
      let apart : to ≢ from = λ e. far (at ∙ sym e) in
      subst (λ n. IsHoused (left_by Movable) n t) (sym (cond-true (b == from) to b (eq-eqb b from at)))
      (record {
        kept = ap is_kept (along Unknown from to held.stands apart low) ∙ ap is_kept is;
        tenant = along None from to held.tenants apart (omega (arith, low, same)) ∙ (ap (λ n. get_or held.tenants n None) (sym at) ∙ housed.tenant);
      }))
      (λ off.
      subst (λ n. IsHoused (left_by Movable) n t) (sym (cond-false (b == from) to b (ne_eqb b from off)))
      (record {
        kept = ap is_kept (aside Unknown from to b held.stands off far) ∙ housed.kept;
        tenant = aside None from to b held.tenants off far ∙ housed.tenant;
      }))
      (cases_eq b from)

  goes : stand_at held.stands from ≡ Spare → IsHoused (left_by Spare) b t
  goes is =
      let off : b ≢ from = λ e. both_ways (is_kept (stand_at held.stands b)) (ap (λ n. is_kept (stand_at held.stands n)) e ∙ ap is_kept is) housed.kept in
      record {
        kept = ap is_kept (get_or-set_other held.stands from b Unknown Unknown off) ∙ housed.kept;
        tenant = get_or-set_other held.tenants from b None None off ∙ housed.tenant;
      }

  by : (s : Stand) → stand_at held.stands from ≡ s → IsHoused (left_by s) (address_after from to (said_about s) b) t
  by Movable is = moves is
  by Spare is = goes is
  by Fixed is = housed
  by Busy is = housed
  by Unknown is = housed

  pub housed_after : IsHoused (holdings_after held from to) (address_after from to (said_about (stand_at held.stands from)) b) t
  housed_after = by (stand_at held.stands from) refl

-- All answers

module _ {T : Type 0} where
  -- a tenant is found at the address that leads to it
  pub housed_left : (held : Holdings T) (moves : List EndedMove) (addresses : List ℕ) (i : ℕ) (t : T) → length held.tenants ≡ length held.stands → AreAnswered held moves → i < length addresses →
      IsHoused held (address_in addresses i) t → IsHoused (holdings_left held moves) (address_in (addresses_moved addresses moves) i) t
  housed_left held [] addresses i t same answered low housed = housed
  housed_left held (x ∷ xs) addresses i t same answered low housed =
      let v = verdict_about (stand_at held.stands x.from) in let next = holdings_after held x.from x.to in
      let many = length_after None v x.from x.to held.tenants ∙ (same ∙ sym (length_after Unknown v x.from x.to held.stands)) in
      let within : i < length (addresses_after addresses x.from x.to x.said) = omega (arith, low, length_addresses addresses x.from x.to x.said) in
      let leads = address_read addresses x.from x.to i x.said low ∙ ap (λ said. address_after x.from x.to said (address_in addresses i)) answered.0 in
      housed_left next xs (addresses_after addresses x.from x.to x.said) i t many answered.2 within
      (subst (λ b. IsHoused next b t) (sym leads) (housed_after held x.from x.to (address_in addresses i) t same answered.1 housed))

pub length_moved : (addresses : List ℕ) (moves : List EndedMove) → length (addresses_moved addresses moves) ≡ length addresses
length_moved addresses [] = refl
length_moved addresses (x ∷ xs) = length_moved (addresses_after addresses x.from x.to x.said) xs ∙ length_addresses addresses x.from x.to x.said
