-- The rule holds at the start, and each kind of step keeps it: one lemma for each.
use Rattle.std.proofs.Common.{◌≡◌, ◌≢◌, ℕ, zero, suc, ◌<◌, false, List, [], ◌∷◌, ◌++◌, map, length, set, get_or, replicate, Some, None, refl, sym, ap, ◌∙◌, subst, inl, ⊎_elim}
use Rattle.std.proofs.lemmas.List.{map-set, set-append_left}
use mathlib.Core.Option.{some, some-injective, some-ne-none}
use lib.ListN.{get_elem?}
use lib.Seq.{set-get_or}
use Rattle.atomic_table.specs.Table.{Me, step, keeps, Allows, Splits, opening}
use Rattle.atomic_table.proofs.Lists.{at_set, at_snoc}
use mathlib.Core.Option as maybe
use Rattle.table_sums.proofs.Spreads.{seats_set}
use Rattle.marks.specs.declared.rule.View.{View}
use Rattle.marks.specs.Words.{is_known_word, IsWordOf}
use Rattle.marks.specs.Rule.{pen_view, newcomer, known_of, FitsPen, IsMarked, looked, rewritten, Found, Wrote}

abbrev Sat : Type 0
Sat = Me (Unit {0}) View

-- the words at first
abbrev fresh : ℕ → List ℕ
fresh n = replicate n 0xbaddcafe

fresh_word : (n b w : ℕ) → get_elem? (fresh n) b ≡ some w → w ≡ 0xbaddcafe
fresh_word zero b w e = absurd (some-ne-none w (sym e))
fresh_word (suc n) zero w e = sym (some-injective 0xbaddcafe w e)
fresh_word (suc n) (suc b) w e = fresh_word n b w e

fresh_unknown : (n : ℕ) → map is_known_word (fresh (suc n)) ≡ replicate n false ++ false ∷ []
fresh_unknown zero = refl
fresh_unknown (suc n) = ap (λ l. false ∷ l) (fresh_unknown n)

pub opens : (n : ℕ) → IsMarked (opening (fresh (suc n)) [] (pen_view n))
opens n = record {
  words = λ b w e. inl (fresh_word (suc n) b w e);
  pens = pens;
}
  where
    pens : (id : ℕ) (v : View) → get_elem? (pen_view n ∷ []) id ≡ some v → FitsPen (fresh (suc n)) id v
    pens zero v e known is =
        let same : pen_view n ≡ v = some-injective (pen_view n) v e in
        let all : Some (replicate n false) ≡ Some known = ap (λ (u : View). u.pen) same ∙ is in
        (refl, fresh_unknown n ∙ ap (λ l. l ++ false ∷ []) (cc all))
    pens (suc id) v e known is = absurd (some-ne-none v (sym e))

pub finds : (slots id : ℕ) (me : Sat) (i : ℕ) → Allows IsMarked slots id me i (λ n. n) (Found (step slots i 0 0 maybe.none) me)
finds slots id me i s r _ at _ =
    let v = me.0 in let w = looked i (is_known_word (get_or s.words i 0)) v in
    let same : set s.words i (get_or s.words i 0) ≡ s.words = set-get_or s.words i 0 in (
      w,
      keeps,
      tt,
      subst (λ ws. IsMarked (record { words = ws; homes = s.homes; views = set s.views id w })) (sym same)
          (record { words = r.words; pens = seats_set (FitsPen s.words) (FitsPen s.words) s.views id w (r.pens id v at) (λ _ _ _ _ h. h) r.pens }),
      refl,
    )

pub writes : (slots id : ℕ) (me : Sat) (i new : ℕ) → me.0.pen ≡ Some (known_of me.0) → i < length (known_of me.0) → IsWordOf i new
    → Allows IsMarked slots id me i (λ _. new) (λ _. Wrote (step slots i new 0 maybe.none) me new)
writes slots id me i new pen inside good s r _ at _ =
    let v = me.0 in let known = known_of v in let now = set known i (is_known_word new) in let w = rewritten i (is_known_word new) v in
    let mine = r.pens id v at known pen in
    let words = set s.words i new in
    let kept : map is_known_word words ≡ now ++ false ∷ [] = map-set is_known_word s.words i new ∙ (ap (λ l. set l i (is_known_word new)) mine.1 ∙ set-append_left known (false ∷ []) i (is_known_word new) inside) in
    let good_words : (b u : ℕ) → get_elem? words b ≡ some u → IsWordOf b u = λ b u e. ⊎_elim
    (λ (t : (b ≡ i) × (new ≡ u)). subst (λ (x : ℕ × ℕ). IsWordOf x.0 x.1) (λ k. (sym t.0 k, t.1 k)) good)
    (λ (t : (b ≢ i) × (get_elem? s.words b ≡ some u)). r.words b u t.1)
    (at_set s.words i b new u e) in (
      w,
      keeps,
      tt,
      record {
        words = good_words;
        pens = seats_set (FitsPen s.words) (FitsPen words) s.views id w (λ ks e. (mine.0, kept ∙ ap (λ l. l ++ false ∷ []) (cc e)))
            (λ j u ne _ h ks e. absurd (ne ((h ks e).0 ∙ sym mine.0))) r.pens;
      },
      refl,
    )

pub deals : (id : ℕ) (v : View) → Splits IsMarked id v v newcomer
deals id v s r at = record {
  words = r.words;
  pens = λ j u e. ⊎_elim
      (λ (t : get_elem? (set s.views id v) j ≡ some u). seats_set (FitsPen s.words) (FitsPen s.words) s.views id v (r.pens id v at) (λ _ _ _ _ h. h) r.pens j u t)
      (λ (t : newcomer ≡ u) ks is. let none_here : None ≡ Some ks = ap (λ (x : View). x.pen) t ∙ is in absurd (cc none_here))
      (at_snoc (set s.views id v) newcomer u j e);
}
