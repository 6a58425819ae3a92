-- What a settle works on, by how the objects stand with their owner.
use Rattle.std.proofs.Common.{◌≡◌, ℕ, ◌+◌, ◌*◌, ◌/◌, ◌%◌, ◌<◌, ◌&&◌, not, ◌++◌, true, false, List, [], ◌∷◌, length, map, set, slice_get, Some, ⊎_elim, inl, inr, sym, ◌∙◌, ap, ap₂, refl, arith}
use Rattle.std.proofs.lemmas.Bool.{and_parts}
use Rattle.std.proofs.lemmas.List.{map-set, length-map}
use Rattle.std.proofs.Math.Nat.{mul_comm}
use Rattle.std.proofs.lemmas.Option.{slice_get-get_or}
use Rattle.std.proofs.lemmas.Nat.{div-mul-add, mod-mul-add, mul-add-lt}
use Rattle.kmem_buf.specs.declared.owner.Stand.{Stand}
use Rattle.kmem_buf.specs.declared.owner.Stand.TheVariants.{Movable, Spare, Fixed, Busy, Unknown}
use Rattle.kmem_buf.specs.declared.client.Verdict.{Verdict}
use Rattle.kmem_buf.specs.declared.client.Verdict.TheVariants as verdict
use Rattle.kmem_buf.specs.Owners.{stand_at, verdict_at, after_verdict, stands_after}
use Rattle.kmem_model.proofs.CacheLists.{get_or-map_default, reads_within}
use Rattle.kmem_model.proofs.CacheChoices.{is_the_says, partial_within}
use Rattle.kmem_model.proofs.PlacesKept.{then_some_says}
use Rattle.kmem_model.proofs.SettleMove.{choice_says}
use Rattle.kmem_model.specs.CacheState.{CacheState, no_slab, slab_at, is_out_on, is_out, has_pending}
use Rattle.kmem_model.specs.CacheOrder.{is_the, first_partial_free, chosen, free_number, is_idle}
use Rattle.kmem_model.specs.CacheEnter.{may_begin, with_move, enter}
use Rattle.kmem_model.specs.declared.cache_state.PendingMove.{PendingMove}
use Rattle.kmem_model.specs.declared.cache_entry.CacheEntry.TheVariants.{Begin}
use Rattle.kmem_model.specs.declared.cache_entry.Said.TheVariants.{No, Later, DontKnow}
use Rattle.kmem_model.specs.Settle.{EndedMove, said_at, says_after}
use Rattle.kmem_model.specs.SettleWhole.{IsWhole, IsWholeStage, IsSettled, IsStuckSlab, is_known}
use Rattle.kmem_answers.specs.Words.{said_of}
use Rattle.consolidator.specs.Owned.{Holdings, has_object, AreOwned, said_about, stage_with, holdings_after, holdings_left, AreAnswered, IsHeldUp, AreSettled}

-- One object

known_is : (stand : Stand) → is_known (said_about stand) ≡ has_object stand
known_is Movable = refl
known_is Spare = refl
known_is Fixed = refl
known_is Busy = refl
known_is Unknown = refl

no_is : (stand : Stand) → said_about stand ≡ No → stand ≡ Fixed
no_is Movable e = absurd (cc)
no_is Spare e = absurd (cc)
no_is Fixed e = refl
no_is Busy e = absurd (cc)
no_is Unknown e = absurd (cc)

later_is : (stand : Stand) → said_about stand ≡ Later → stand ≡ Busy
later_is Movable e = absurd (cc)
later_is Spare e = absurd (cc)
later_is Fixed e = absurd (cc)
later_is Busy e = refl
later_is Unknown e = absurd (cc)

none_is : (stand : Stand) → has_object stand ≡ false → stand ≡ Unknown
none_is Movable e = absurd (cc)
none_is Spare e = absurd (cc)
none_is Fixed e = absurd (cc)
none_is Busy e = absurd (cc)
none_is Unknown e = refl

-- The stage

pub said_is : (cache : CacheState) (stands : List Stand) (b : ℕ) → said_at (stage_with cache stands) b ≡ said_about (stand_at stands b)
said_is cache stands b = get_or-map_default said_about stands b Unknown

pub stage_whole : (cache : CacheState) (stands : List Stand) → IsWhole cache → has_pending cache ≡ false → AreOwned cache stands → IsWholeStage (stage_with cache stands)
stage_whole cache stands whole calm owned =
    record {
      cache = whole;
      calm = calm;
      says = length-map stands said_about ∙ (owned.size ∙ whole.asked);
      known = λ b. ap is_known (said_is cache stands b) ∙ (known_is (stand_at stands b) ∙ owned.places b);
    }

pub stage_owned : (cache : CacheState) (stands : List Stand) → IsWholeStage (stage_with cache stands) → AreOwned cache stands
stage_owned cache stands whole =
    record {
      size = sym (length-map stands said_about) ∙ (whole.says ∙ sym whole.cache.asked);
      places = λ b. sym (known_is (stand_at stands b)) ∙ (ap is_known (sym (said_is cache stands b)) ∙ whole.known b);
    }

-- a buffer that the owner is asked about has a place
pub known_within : (cache : CacheState) (stands : List Stand) (b : ℕ) → is_known (said_at (stage_with cache stands) b) ≡ true → b < length stands
known_within cache stands b known = omega (arith, reads_within (map said_about stands) b DontKnow is_known refl known, length-map stands said_about)

-- what it leaves
held_up : (cache : CacheState) (stands : List Stand) (i : ℕ) → IsStuckSlab (stage_with cache stands) i → IsHeldUp cache stands i
held_up cache stands i stuck =
    let b = i * cache.chunks + stuck.index in
    record {
      index = stuck.index;
      marked = stuck.marked;
      out = stuck.out;
      stand = ⊎_elim (λ no. inl (no_is (stand_at stands b) (sym (said_is cache stands b) ∙ no))) (λ later. inr (later_is (stand_at stands b) (sym (said_is cache stands b) ∙ later))) stuck.said;
    }

pub settled_with : (cache : CacheState) (stands : List Stand) → IsSettled (stage_with cache stands) → AreSettled cache stands
settled_with cache stands settled =
    record {
      calm = settled.calm;
      none_dead = settled.none_dead;
      partial = ⊎_elim (λ few. inl few) (λ stuck. inr (λ i partial. held_up cache stands i (stuck i partial))) settled.partial;
    }

-- the answers after a move
says_by : (stands : List Stand) (from to : ℕ) (v : Verdict) → map said_about (after_verdict Unknown v from to stands) ≡ says_after (said_of v) from to (map said_about stands)
says_by stands from to verdict.Yes =
    map-set said_about (set stands to (stand_at stands from)) from Unknown
    ∙ ap (λ xs. set xs from DontKnow)
    (map-set said_about stands to (stand_at stands from) ∙ ap (λ said. set (map said_about stands) to said) (sym (get_or-map_default said_about stands from Unknown)))
says_by stands from to verdict.No = refl
says_by stands from to verdict.Later = refl
says_by stands from to verdict.DontNeed = map-set said_about stands from Unknown
says_by stands from to verdict.DontKnow = refl

pub says_moved : (stands : List Stand) (from to : ℕ) → map said_about (stands_after stands from to) ≡ says_after (said_about (stand_at stands from)) from to (map said_about stands)
says_moved stands from to = says_by stands from to (verdict_at stands from)

-- The new buffer of a move

-- it was free when the move began
record IsFreeBuffer (s : CacheState) (b : ℕ) : Type 0 where
  free : is_out s b ≡ false
  within : b < length s.asked

begun_free : (s t : CacheState) (j from to : ℕ) → IsWhole s → enter s (Begin j from to) ≡ Some t → IsFreeBuffer s to
begun_free s t j from to whole e =
    let m : PendingMove = record { from = from; to = to } in
    let may = (then_some_says (may_begin s j m) (with_move s j m) t e).0 in
    let parts = and_parts (not (is_idle s) && is_the (free_number s) j && is_the (chosen s) from) (is_the (first_partial_free s.chunks s.slabs) to) may in
    let more = and_parts (not (is_idle s) && is_the (free_number s) j) (is_the (chosen s) from) parts.0 in
    let taken = choice_says s from to (is_the_says (chosen s) from more.1) (is_the_says (first_partial_free s.chunks s.slabs) to parts.1) in
    let choice = taken.choice in
    let row = partial_within s.slabs taken.f choice.to_partial in
    let size : length (slab_at s.slabs taken.f).out ≡ s.chunks = (whole.slabs taken.f no_slab row).size in
    let below : taken.kf < s.chunks = omega (arith, size, choice.to_within) in
    let x : to / s.chunks ≡ taken.f = ap (λ n. n / s.chunks) (sym choice.to_is) ∙ div-mul-add taken.f s.chunks taken.kf below in
    let y : to % s.chunks ≡ taken.kf = ap (λ n. n % s.chunks) (sym choice.to_is) ∙ mod-mul-add taken.f s.chunks taken.kf below in
    record {
      free = ap₂ (λ n k. is_out_on (slab_at s.slabs n) k) x y ∙ choice.free;
      within = omega (arith, mul-add-lt taken.f s.chunks taken.kf (length s.slabs) row below, choice.to_is, whole.asked, mul_comm s.chunks (length s.slabs));
    }

-- so the owner has no object in it
pub begun_empty : (s t : CacheState) (stands : List Stand) (j from to : ℕ) → IsWholeStage (stage_with s stands) → enter s (Begin j from to) ≡ Some t → slice_get stands to ≡ Some Unknown
begun_empty s t stands j from to whole e =
    let owned = stage_owned s stands whole in let at = begun_free s t j from to whole.cache e in
    slice_get-get_or stands to Unknown (omega (arith, at.within, owned.size)) ∙ ap Some (none_is (stand_at stands to) (owned.places to ∙ at.free))

-- Lists of moves

module _ {T : Type 0} where
  pub left_more : (held : Holdings T) (xs ys : List EndedMove) → holdings_left held (xs ++ ys) ≡ holdings_left (holdings_left held xs) ys
  left_more held [] ys = refl
  left_more held (x ∷ xs) ys = left_more (holdings_after held x.from x.to) xs ys

  pub answered_more : (held : Holdings T) (xs ys : List EndedMove) → AreAnswered held xs → AreAnswered (holdings_left held xs) ys → AreAnswered held (xs ++ ys)
  answered_more held [] ys first second = second
  answered_more held (x ∷ xs) ys first second = (first.0, first.1, answered_more (holdings_after held x.from x.to) xs ys first.2 second)
