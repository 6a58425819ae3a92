-- One move more in a scan, and one scan more in a settle.
use Rattle.std.proofs.Common.{◌≡◌, ℕ, Bool, true, false, ◌||◌, ◌&&◌, not, ◌++◌, List, [], ◌∷◌, slice_get, Some, map, sym, ◌∙◌, ap, ap₂, refl, subst}
use Rattle.std.specs.List.{list_any}
use Rattle.std.specs.Bool.{then_some}
use Rattle.std.specs.Option.{IsSome}
use Rattle.std.proofs.lemmas.List.Folds.{list_any-append}
use Rattle.kmem_buf.specs.Buffers.{BufState}
use Rattle.kmem_buf.specs.declared.owner.Stand.TheVariants.{Unknown}
use Rattle.kmem_buf.specs.Owners.{stand_at}
use Rattle.kmem_model.specs.CacheState.{CacheState}
use Rattle.kmem_model.specs.CacheEnter.{enter}
use Rattle.kmem_model.specs.declared.cache_entry.CacheEntry.TheVariants.{End}
use Rattle.kmem_model.specs.declared.cache_entry.Said.{Said}
use Rattle.kmem_model.specs.Settle.{Stage, EndedMove, Course, said_at, says_after, gains, moved, is_done, is_rest_marked}
use Rattle.kmem_model.specs.SettleWhole.{IsWholeStage}
use Rattle.kmem_model.specs.SettleTurns.{course_moved, IsMoveOn}
use Rattle.object_cache.specs.Moves.{PendingState, JobState}
use Rattle.object_cache.specs.declared.tally.Tally.{Tally}
use Rattle.consolidator.specs.Tallies.{counted, counted_all, tally_of}
use Rattle.consolidator.specs.Owned.{Holdings, said_about, stage_with, holdings_after, holdings_left, AreAnswered, ScansWith}
use Rattle.consolidator.proofs.Within.{IsOnScan}
use Rattle.consolidator.proofs.Owning.{said_is, says_moved, left_more, answered_more}

-- Lists of moves

pub counted_more : (t : Tally) (xs ys : List EndedMove) → counted_all t (xs ++ ys) ≡ counted_all (counted_all t xs) ys
counted_more t [] ys = refl
counted_more t (x ∷ xs) ys = counted_more (counted t x.said) xs ys

pub counted_on : (before after : Tally) (xs ys : List EndedMove) → before ≡ tally_of xs → after ≡ counted_all before ys → after ≡ tally_of (xs ++ ys)
counted_on before after xs ys e f = f ∙ (ap (λ t. counted_all t ys) e ∙ sym (counted_more (tally_of []) xs ys))

module _ {T : Type 0} where
  -- what the answers about the first moves leave, and then those about the others
  pub answered_on : (a b : Holdings T) (xs ys : List EndedMove) → b ≡ holdings_left a xs → AreAnswered a xs → AreAnswered b ys → AreAnswered a (xs ++ ys)
  answered_on a b xs ys e first second = answered_more a xs ys first (subst (λ (h : Holdings T). AreAnswered h ys) e second)

  pub left_on : (a b c : Holdings T) (xs ys : List EndedMove) → b ≡ holdings_left a xs → c ≡ holdings_left b ys → c ≡ holdings_left a (xs ++ ys)
  left_on a b c xs ys e f = f ∙ (ap (λ (h : Holdings T). holdings_left h ys) e ∙ sym (left_more a xs ys))

-- One move

-- the buffers of a move that began and is still asked for
module _ {X : Type 0} where
  pub same_from : (p : PendingState) (kept job : JobState X) (b : ℕ) → b ≡ p.from → p ≡ kept.move → kept ≡ job → b ≡ job.move.from
  same_from p kept job b at is same = at ∙ ap (λ (m : PendingState). m.from) (is ∙ ap (λ (k : JobState X). k.move) same)

  pub same_to : (buf : BufState X) (kept job : JobState X) → buf ≡ kept.buf → kept ≡ job → job.buf.number ≡ job.move.to → buf.number ≡ job.move.to
  same_to buf kept job is same to = ap (λ (b : BufState X). b.number) (is ∙ ap (λ (k : JobState X). k.buf) same) ∙ to

pub or_true : (a b : Bool) → a ≡ true → (a || b) ≡ true
or_true true b e = refl
or_true false b e = absurd (cc)

or_false : (b : Bool) → (b || false) ≡ b
or_false true = refl
or_false false = refl

pub ends_same : (s t u : CacheState) (i j : ℕ) (a b : Said) → enter s (End i a) ≡ Some u → s ≡ t → i ≡ j → a ≡ b → enter t (End j b) ≡ Some u
ends_same s t u i j a b e st ij ab =
    subst (λ (x : CacheState). enter x (End j b) ≡ Some u) st
    (subst (λ (x : ℕ). enter s (End x b) ≡ Some u) ij (subst (λ (x : Said). enter s (End i x) ≡ Some u) ab e))

module _ {T : Type 0} where
  pub on_scan_more : (old now : CacheState) (held now_held new_held : Holdings T) (tally now_tally : Tally) (gained : Bool) (on : IsOnScan old now held now_held tally now_tally gained) (from to : ℕ) (ended : CacheState) (said : Said) →
      said_at (stage_with now now_held.stands) from ≡ said →
      IsMoveOn (record { stage = stage_with now now_held.stands; moves = on.moves }) (course_moved (record { stage = stage_with now now_held.stands; moves = on.moves }) from to ended) →
      slice_get now_held.stands to ≡ Some Unknown →
      new_held ≡ holdings_after now_held from to →
      IsOnScan old ended held new_held tally (counted now_tally said) (gained || gains said)
  on_scan_more old now held now_held new_held tally now_tally gained on from to ended said is next empty after =
      let move : EndedMove = record { from = from; to = to; said = said } in
      let moves = on.moves ++ move ∷ [] in
      let answer : said_about (stand_at now_held.stands from) ≡ said = sym (said_is now now_held.stands from) ∙ is in
      let same : map said_about new_held.stands ≡ says_after said from to (map said_about now_held.stands) =
      ap (λ (h : Holdings T). map said_about h.stands) after
      ∙ (says_moved now_held.stands from to ∙ ap (λ s. says_after s from to (map said_about now_held.stands)) answer) in
      let stage : (course_moved (record { stage = stage_with now now_held.stands; moves = on.moves }) from to ended) ≡ record { stage = stage_with ended new_held.stands; moves = moves } =
      ap (λ s. record { stage = record { cache = ended; says = says_after s from to (map said_about now_held.stands) }; moves = on.moves ++ record { from = from; to = to; said = s } ∷ [] }) is
      ∙ ap (λ (says : List Said). record { stage = record { cache = ended; says = says }; moves = moves }) (sym same) in
      record {
        moves = moves;
        whole = subst (λ (c : Course). IsWholeStage c.stage) stage next.whole;
        same = ap moved (sym stage) ∙ (next.same ∙ on.same);
        flag = list_any-append (λ (m : EndedMove). gains m.said) on.moves (move ∷ []) ∙ ap₂ (λ a b. a || b) on.flag (or_false (gains said));
        counts = ap (λ t. counted t said) on.counts ∙ sym (counted_more tally on.moves (move ∷ []));
        answered = answered_on held now_held on.moves (move ∷ []) on.left on.answered (sym answer, empty, tt);
        left = left_on held now_held new_held on.moves (move ∷ []) on.left after;
      }

  pub scans_to : (old now : CacheState) (held now_held : Holdings T) (tally now_tally : Tally) (gained : Bool) (on : IsOnScan old now held now_held tally now_tally gained) →
      moved (record { stage = stage_with now now_held.stands; moves = on.moves }) ≡ Some (record { stage = stage_with now now_held.stands; moves = on.moves }) →
      ScansWith old now held now_held tally now_tally gained
  scans_to old now held now_held tally now_tally gained on stops =
      record { moves = on.moves; scan = sym on.same ∙ stops; flag = on.flag; counts = on.counts; answered = on.answered; left = on.left }

pub legal_idle : (b : Bool) (t : CacheState) → IsSome (then_some b t) → b ≡ true
legal_idle true t e = refl
legal_idle false t e = absurd (cc)

-- One scan

pub done_is : (stage : Stage) (moves : List EndedMove) (gained rest : Bool) → list_any (λ (m : EndedMove). gains m.said) moves ≡ gained →
    rest ≡ is_rest_marked stage.cache.slabs → is_done (record { stage = stage; moves = moves }) ≡ (not gained && rest)
done_is stage moves gained rest e f = ap₂ (λ a b. not a && b) e (sym f)
