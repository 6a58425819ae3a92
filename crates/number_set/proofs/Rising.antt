-- Levels that are made one by one, the lowest first.
use Rattle.std.proofs.Common.{◌≡◌, ℕ, suc, ◌+◌, ◌-◌, ◌*◌, ◌/◌, ◌%◌, ◌^◌, ◌<◌, ◌≤◌, false, eqb, not, List, [], ◌∷◌, ◌++◌, length, get_or, replicate, ⊎_elim, sym, ◌∙◌, ap, arith, length-append, refl, min, subst}
use Rattle.std.proofs.Math.Nat.{pow-suc}
use Rattle.std.proofs.lemmas.Bool.{cases_lt, cases_eq}
use Rattle.std.proofs.lemmas.Grind.{div_ceil_times}
use Rattle.std.proofs.lemmas.List.{get_or_past, get_or-replicate, length-replicate, get_or_append_left, get_or_push}
use Rattle.number_set.specs.Places.{is_marked}
use Rattle.number_set.specs.Levels.{level_of, AreLevels}
use Rattle.number_set.proofs.Down.{zero_word}

-- of `levels` levels for `count` numbers `done` are made, the last of them `len` words long
pub record IsRising (all : List (List ℕ)) (done levels count len : ℕ) : Type 0 where
  pub made : length all ≡ done
  pub some : 0 < len
  pub few : len ≤ 64 ^ (levels - done)
  pub small : len ≤ count
  pub zeros : (k : ℕ) → level_of all k ≡ replicate (length (level_of all k)) 0
  pub sizes : (k : ℕ) → length (level_of all k) * 64 ≤ count + 63
  pub fits : (k : ℕ) → k + 1 < done → length (level_of all k) ≤ length (level_of all (k + 1)) * 64
  pub first : done ≡ 0 → len ≡ count
  pub last : 0 < done → length (level_of all (done - 1)) ≡ len
  pub room : 0 < done → count ≤ length (level_of all 0) * 64

whole : (n : ℕ) → n - 0 ≡ n
whole n = omega arith

pub rising_start : (all : List (List ℕ)) (levels count : ℕ) → all ≡ [] → 0 < count → count ≤ 64 ^ levels → IsRising all 0 levels count count
rising_start all levels count none some few =
    let empty : (k : ℕ) → level_of all k ≡ [] = λ k. ap (λ ls. level_of ls k) none in
    record {
      made = ap length none;
      some = some;
      few = omega (arith, few, ap {A = ℕ} {B = ℕ} (λ n. 64 ^ n) (whole levels));
      small = omega arith;
      zeros = λ k. empty k ∙ sym (ap (λ (ws : List ℕ). replicate (length ws) 0) (empty k));
      sizes = λ k. omega (arith, ap {A = List ℕ} {B = ℕ} length (empty k));
      fits = λ k inside. absurd (omega (arith, inside));
      first = λ _. refl;
      last = λ inside. absurd (omega (arith, inside));
      room = λ inside. absurd (omega (arith, inside));
    }

module _ (all : List (List ℕ)) (done levels count len : ℕ) (r : IsRising all done levels count len) (inside : done < levels) where
  abbrev next : ℕ
  next = len / 64 + min 1 (len % 64)

  abbrev more : List (List ℕ)
  more = all ++ replicate next 0 ∷ []

  at_end : level_of more done ≡ replicate next 0
  at_end = get_or_push all (replicate next 0) [] done r.made

  size_of : length (replicate {A = ℕ} next 0) ≡ next
  size_of = length-replicate {A = ℕ} next 0

  end_size : length (level_of more done) ≡ next
  end_size = ap length at_end ∙ size_of

  before_end : (k : ℕ) → k < done → level_of more k ≡ level_of all k
  before_end k low = get_or_append_left all (replicate next 0 ∷ []) [] k (omega (arith, low, r.made))

  past_end : (k : ℕ) → done < k → level_of more k ≡ []
  past_end k high = get_or_past more k [] (omega (arith, high, r.made, length-append all (replicate next 0 ∷ [])))

  each : (P : ℕ → List ℕ → Type 0) → ((k : ℕ) → k < done → P k (level_of all k)) → P done (replicate next 0) → ((k : ℕ) → done < k → P k []) → (k : ℕ) → P k (level_of more k)
  each P low here high k =
      ⊎_elim
      (λ (it : k ≡ done). subst (λ j. P j (level_of more j)) (sym it) (subst (P done) (sym at_end) here))
      (λ apart.
      ⊎_elim
      (λ (below : k < done). subst (P k) (sym (before_end k below)) (low k below))
      (λ past. let over : done < k = omega (arith, past, apart) in subst (P k) (sym (past_end k over)) (high k over))
      (cases_lt k done))
      (cases_eq k done)

  bounds : (len ≤ next * 64) × (next * 64 < len + 64)
  bounds = div_ceil_times len 64 (omega arith)

  pub rising_more : IsRising more (done + 1) levels count next
  rising_more =
      let power : 64 ^ (levels - done) ≡ 64 ^ (levels - (done + 1)) * 64 =
      (let e : levels - done ≡ suc (levels - (done + 1)) = omega (arith, inside) in ap (λ n. 64 ^ n) e ∙ pow-suc 64 (levels - (done + 1))) in
      record {
        made = omega (arith, r.made, length-append all (replicate next 0 ∷ []));
        some = omega (arith, bounds.0, r.some);
        few = omega (arith, bounds.1, r.few, power);
        small = omega (arith, bounds.1, r.small, r.some);
        zeros = each (λ k ws. ws ≡ replicate (length ws) 0) (λ k low. r.zeros k) (sym (ap (λ n. replicate {A = ℕ} n 0) size_of)) (λ k high. refl);
        sizes = each (λ k ws. length ws * 64 ≤ count + 63) (λ k low. r.sizes k) (omega (arith, size_of, bounds.1, r.small, r.some)) (λ k high. omega arith);
        fits = λ k below.
            ⊎_elim
            (λ (it : k + 1 ≡ done).
            let here : length (level_of more k) ≡ len = ap length (before_end k (omega (arith, it))) ∙ (ap (λ n. length (level_of all n)) (omega (arith, it)) ∙ r.last (omega (arith, it))) in
            let up : length (level_of more (k + 1)) ≡ next = ap (λ n. length (level_of more n)) it ∙ end_size in
            omega (arith, here, up, bounds.0))
            (λ apart.
            omega (
              arith,
              r.fits k (omega (arith, below, apart)),
              ap {A = List ℕ} {B = ℕ} length (before_end k (omega (arith, below, apart))),
              ap {A = List ℕ} {B = ℕ} length (before_end (k + 1) (omega (arith, below, apart))),
            ))
            (cases_eq (k + 1) done);
        first = λ none. absurd (omega (arith, none));
        last = λ _. ap (λ n. length (level_of more n)) (omega arith) ∙ end_size;
        room = λ _.
            ⊎_elim
            (λ (none : done ≡ 0). omega (arith, r.first none, bounds.0, ap {A = ℕ} {B = ℕ} (λ n. length (level_of more n)) (sym none), end_size))
            (λ apart. omega (arith, r.room (omega (arith, apart)), ap {A = List ℕ} {B = ℕ} length (before_end 0 (omega (arith, apart)))))
            (cases_eq done 0);
      }

pub zero_at : (ws : List ℕ) → ws ≡ replicate (length ws) 0 → (i : ℕ) → get_or ws i 0 ≡ 0
zero_at ws zeros i =
    ⊎_elim (λ low. ap (λ v. get_or v i 0) zeros ∙ get_or-replicate (length ws) i 0 0 low) (λ high. get_or_past ws i 0 high) (cases_lt i (length ws))

pub blank : (ws : List ℕ) → ws ≡ replicate (length ws) 0 → (n : ℕ) → is_marked ws n ≡ false
blank ws zeros n = zero_word ws n (zero_at ws zeros (n / 64))

pub rising_all : (all : List (List ℕ)) (levels count len : ℕ) → IsRising all levels levels count len → 0 < levels → count ≤ 2 ^ 24 → AreLevels all
rising_all all levels count len r some few =
    let one : len ≤ 1 = (let e : levels - levels ≡ 0 = omega arith in omega (arith, r.few, ap {A = ℕ} {B = ℕ} (λ n. 64 ^ n) e)) in
    record {
      sized = record {
        some = omega (arith, r.made, some);
        few = λ k. omega (arith, r.sizes k, few);
        fits = λ k inside. r.fits k (omega (arith, r.made, inside));
        top = ap (λ n. length (level_of all (n - 1))) r.made ∙ (r.last some ∙ omega (arith, one, r.some));
      };
      sums = λ k from inside i.
          blank (level_of all (k + 1)) (r.zeros (k + 1)) i
          ∙ sym (ap (λ w. not (eqb w 0)) (zero_at (level_of all k) (r.zeros k) i));
    }
