-- Places of slabs in bins: what they are once a slab is taken out of its bin, or put into one.
use Rattle.std.proofs.Common.{◌≡◌, ◌≢◌, ℕ, ◌+◌, ◌*◌, ◌/◌, ◌%◌, ◌<◌, ◌≤◌, Bool, true, false, eqb, cond, length, get_or, set, Option, Some, None, IfSome, ⊎_elim, sym, ◌∙◌, ap, arith, refl, length-set}
use Rattle.std.proofs.lemmas.Bool.{cases_eq, eq-eqb, ne_eqb, eqb-true, both_ways}
use Rattle.std.proofs.lemmas.Nat.{div-mul-add, mod-mul-add, div-add-mod'}
use Rattle.std.proofs.lemmas.List.{get_or-set_same, get_or-set_other}
use Rattle.number_set.specs.Sets.{SetState, has}
use Rattle.kmem_model.specs.CacheOrder.{is_the}
use Rattle.slab_list.specs.Bins.{with_place}

-- the bins of all slabs but one
abbrev pub but : (ℕ → Option ℕ) → ℕ → ℕ → Option ℕ
but bins i j = cond (eqb j i) None (bins j)

abbrev pub told_by : (ℕ → Option ℕ) → ℕ → Bool
told_by bins p = is_the (bins (p % 4096)) (p / 4096)

but_same : (bins : ℕ → Option ℕ) (i j q : ℕ) → j ≡ i → is_the (but bins i j) q ≡ false
but_same bins i j q same = ap (λ b. is_the (cond b None (bins j)) q) (eq-eqb j i same)

but_other : (bins : ℕ → Option ℕ) (i j q : ℕ) → j ≢ i → is_the (but bins i j) q ≡ is_the (bins j) q
but_other bins i j q apart = ap (λ b. is_the (cond b None (bins j)) q) (ne_eqb j i apart)

module _ (bins : ℕ → Option ℕ) (s : SetState) (i : ℕ) (low : i < 4096) (room : 532480 ≤ length s.flags) where
  -- a slab is taken out of its bin
  pub left : (o : Option ℕ) → bins i ≡ o → IfSome o (λ b. b < 130) → ((p : ℕ) → has s p ≡ told_by bins p) →
      (p : ℕ) → has (with_place s o i false) p ≡ told_by (but bins i) p
  left None is small told p =
      ⊎_elim
      (λ (same : p % 4096 ≡ i). told p ∙ (ap (λ o. is_the o (p / 4096)) (ap bins same ∙ is) ∙ sym (but_same bins i (p % 4096) (p / 4096) same)))
      (λ apart. told p ∙ sym (but_other bins i (p % 4096) (p / 4096) apart))
      (cases_eq (p % 4096) i)
  left (Some b) is small told p =
      ⊎_elim
      (λ (same : p % 4096 ≡ i).
      ⊎_elim
      (λ (here : p ≡ b * 4096 + i).
      ap (λ q. get_or (set s.flags (b * 4096 + i) false) q false) here
      ∙ (get_or-set_same s.flags (b * 4096 + i) false false (omega (arith, small, low, room)) ∙ sym (but_same bins i (p % 4096) (p / 4096) same)))
      (λ apart.
      get_or-set_other s.flags (b * 4096 + i) p false false apart
      ∙ (told p ∙ (ap (λ o. is_the o (p / 4096)) (ap bins same ∙ is)
      ∙ (ne_eqb b (p / 4096) (λ e. apart (omega (arith, e, same, div-add-mod' p 4096))) ∙ sym (but_same bins i (p % 4096) (p / 4096) same)))))
      (cases_eq p (b * 4096 + i)))
      (λ apart.
      get_or-set_other s.flags (b * 4096 + i) p false false (λ e. apart (ap (λ q. q % 4096) e ∙ mod-mul-add b 4096 i low))
      ∙ (told p ∙ sym (but_other bins i (p % 4096) (p / 4096) apart)))
      (cases_eq (p % 4096) i)

  -- and put into one
  pub entered : (o : Option ℕ) → bins i ≡ o → IfSome o (λ b. b < 130) → ((p : ℕ) → has s p ≡ told_by (but bins i) p) →
      (p : ℕ) → has (with_place s o i true) p ≡ told_by bins p
  entered None is small told p =
      ⊎_elim
      (λ (same : p % 4096 ≡ i). told p ∙ (but_same bins i (p % 4096) (p / 4096) same ∙ sym (ap (λ o. is_the o (p / 4096)) (ap bins same ∙ is))))
      (λ apart. told p ∙ but_other bins i (p % 4096) (p / 4096) apart)
      (cases_eq (p % 4096) i)
  entered (Some b) is small told p =
      ⊎_elim
      (λ (same : p % 4096 ≡ i).
      ⊎_elim
      (λ (here : p ≡ b * 4096 + i).
      ap (λ q. get_or (set s.flags (b * 4096 + i) true) q false) here
      ∙ (get_or-set_same s.flags (b * 4096 + i) true false (omega (arith, small, low, room))
      ∙ sym (ap (λ o. is_the o (p / 4096)) (ap bins same ∙ is) ∙ eq-eqb b (p / 4096) (sym (ap (λ q. q / 4096) here ∙ div-mul-add b 4096 i low)))))
      (λ apart.
      get_or-set_other s.flags (b * 4096 + i) p true false apart
      ∙ (told p ∙ (but_same bins i (p % 4096) (p / 4096) same
      ∙ sym (ap (λ o. is_the o (p / 4096)) (ap bins same ∙ is) ∙ ne_eqb b (p / 4096) (λ e. apart (omega (arith, e, same, div-add-mod' p 4096)))))))
      (cases_eq p (b * 4096 + i)))
      (λ apart.
      get_or-set_other s.flags (b * 4096 + i) p true false (λ e. apart (ap (λ q. q % 4096) e ∙ mod-mul-add b 4096 i low))
      ∙ (told p ∙ but_other bins i (p % 4096) (p / 4096) apart))
      (cases_eq (p % 4096) i)

pub length-with_place : (s : SetState) (o : Option ℕ) (i : ℕ) (there : Bool) → length (with_place s o i there).flags ≡ length s.flags
length-with_place s None i there = refl
length-with_place s (Some b) i there = length-set s.flags (b * 4096 + i) there

pub levels-with_place : (s : SetState) (o : Option ℕ) (i : ℕ) (there : Bool) → (with_place s o i there).levels ≡ s.levels
levels-with_place s None i there = refl
levels-with_place s (Some b) i there = refl

-- where one set of places is part of another it stays so
pub still_standing : (unspent places : SetState) (o : Option ℕ) (i : ℕ) (there : Bool) → i < 4096 → IfSome o (λ b. b < 130) →
    532480 ≤ length unspent.flags → 532480 ≤ length places.flags → ((p : ℕ) → has unspent p ≡ true → has places p ≡ true) →
    (p : ℕ) → has (with_place unspent o i there) p ≡ true → has (with_place places o i there) p ≡ true
still_standing unspent places None i there low small wide room part p given = part p given
still_standing unspent places (Some b) i there low small wide room part p given =
    ⊎_elim
    (λ (here : p ≡ b * 4096 + i).
    let in_unspent : get_or (set unspent.flags (b * 4096 + i) there) p false ≡ there =
    ap (λ q. get_or (set unspent.flags (b * 4096 + i) there) q false) here ∙ get_or-set_same unspent.flags (b * 4096 + i) there false (omega (arith, small, low, wide)) in
    ap (λ q. get_or (set places.flags (b * 4096 + i) there) q false) here
    ∙ (get_or-set_same places.flags (b * 4096 + i) there false (omega (arith, small, low, room)) ∙ (sym in_unspent ∙ given)))
    (λ apart.
    get_or-set_other places.flags (b * 4096 + i) p there false apart
    ∙ part p (sym (get_or-set_other unspent.flags (b * 4096 + i) p there false apart) ∙ given))
    (cases_eq p (b * 4096 + i))

-- the places of other slabs are as they were
pub elsewhere : (s : SetState) (o : Option ℕ) (i : ℕ) (there : Bool) → i < 4096 → (p : ℕ) → p % 4096 ≢ i → has (with_place s o i there) p ≡ has s p
elsewhere s None i there low p apart = refl
elsewhere s (Some b) i there low p apart =
    get_or-set_other s.flags (b * 4096 + i) p there false (λ e. apart (ap (λ q. q % 4096) e ∙ mod-mul-add b 4096 i low))

-- and a slab that was put into its bin is there
pub put_there : (s : SetState) (o : Option ℕ) (i : ℕ) → i < 4096 → 532480 ≤ length s.flags → IfSome o (λ b. b < 130) →
    (p : ℕ) → p % 4096 ≡ i → is_the o (p / 4096) ≡ true → has (with_place s o i true) p ≡ true
put_there s None i low wide small p same given = absurd (both_ways false refl given)
put_there s (Some b) i low wide small p same given =
    let here : p ≡ b * 4096 + i = omega (arith, eqb-true b (p / 4096) given, same, div-add-mod' p 4096) in
    ap (λ q. get_or (set s.flags (b * 4096 + i) true) q false) here
    ∙ get_or-set_same s.flags (b * 4096 + i) true false (omega (arith, small, low, wide))
