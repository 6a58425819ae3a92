-- What is kept of a cache state by every entry.
use Rattle.std.proofs.Common.{◌≡◌, ℕ, ◌/◌, ◌%◌, ◌<◌, ◌≤◌, ◌==◌, Bool, true, false, cond, List, [], ◌∷◌, map, length, get_or, set, replicate, All, count_by, Some, None, option_map, ⊎_elim, sym, ◌∙◌, ap, refl, subst, arith}
use Rattle.std.proofs.lemmas.Bool.{cases_lt, eqb-true, eqb-false}
use Rattle.std.proofs.lemmas.List.{get_or-set_same, length-set, set_past, length-replicate}
use Rattle.std.proofs.lemmas.List.Elements.{All-set, All-map, All-replicate}
use Rattle.std.proofs.lemmas.List.Sums.{get_or-le-sum_by}
use Rattle.std.proofs.lemmas.Nat.{mod_below}
use Rattle.kmem_model.proofs.CacheLists.{count-set, count_from_none}
use Rattle.kmem_model.proofs.PlacesKept.{then_some_says, and_then_says}
use Rattle.kmem_model.proofs.CacheChoices.{map_says}
use Rattle.kmem_model.specs.CacheState.{sizes_of, SlabState, CacheState, is_same_standing, no_slab, slab_at, slab_in_source, is_out, move_at, has_pending, opening}
use Rattle.kmem_model.specs.CacheOrder.{is_the}
use Rattle.kmem_model.specs.CacheEnter.{unmarked, slab_taken, slab_freed, slab_given_back, slab_answered, on_slab_of, with_out, emptied_goes, freed, all_freed, handed_back, without_move, with_answer, scan_started, gone, ended, enter}
use Rattle.kmem_model.specs.CacheHistory.{state_after}
use Rattle.kmem_model.specs.declared.cache_state.Standing.{Standing}
use Rattle.kmem_model.specs.declared.cache_state.Standing.TheVariants.{Source, Listed, Dead}
use Rattle.kmem_model.specs.declared.cache_state.PendingMove.{PendingMove}
use Rattle.kmem_model.specs.declared.cache_entry.Said.{Said}
use Rattle.kmem_model.specs.declared.cache_entry.Said.TheVariants.{Yes, No, Later, DontNeed, DontKnow}
use Rattle.kmem_model.specs.declared.cache_entry.CacheEntry.{CacheEntry}
use Rattle.kmem_model.specs.declared.cache_entry.CacheEntry.TheVariants.{Alloc, Full, Free, Scan, Begin, Idle, Gone, End, Forget}

-- how many are out, by where the slab stands
abbrev pub FitsCount : Standing → ℕ → Type 0
FitsCount Source n = n ≡ 0
FitsCount Listed n = 0 < n
FitsCount Dead n = n ≡ 0

pub record IsKeptSlab (chunks : ℕ) (slab : SlabState) : Type 0 where
  pub size : length slab.out ≡ chunks
  pub fits : FitsCount slab.standing (count_by (λ x. x) slab.out)

pub record IsKeptState (s : CacheState) : Type 0 where
  pub positive : 0 < s.chunks
  pub slabs : All (IsKeptSlab s.chunks) s.slabs

-- One slab

taken_kept : (chunks : ℕ) (slab : SlabState) (k : ℕ) → k < chunks → IsKeptSlab chunks slab → IsKeptSlab chunks (slab_taken slab k)
taken_kept chunks slab k below kept = by_standing slab.standing refl
  where
    listed : SlabState
    listed = record { standing = Listed; out = slab.out; later = 0; stuck = None }

    size : length (set slab.out k true) ≡ chunks
    size = length-set slab.out k true ∙ kept.size

    count : 0 < count_by (λ x. x) (set slab.out k true)
    count =
        let here : ◌≡◌ {A = ℕ} (cond (get_or (set slab.out k true) k false) 1 0) 1 =
        ap {B = ℕ} (λ x. cond x 1 0) (get_or-set_same slab.out k true false (omega (arith, kept.size))) in
        omega (arith, here, get_or-le-sum_by (λ x. cond x 1 0) (set slab.out k true) k false (omega (arith, size)))

    by_standing : (standing : Standing) → slab.standing ≡ standing →
        IsKeptSlab chunks (record (cond (is_same_standing Listed standing) slab listed) {
          out = set (cond (is_same_standing Listed standing) slab listed).out k true;
        })
    by_standing Source is = record { size = size; fits = count }
    by_standing Listed is = record { size = size; fits = subst (λ s. FitsCount s (count_by (λ x. x) (set slab.out k true))) (sym is) count }
    by_standing Dead is = record { size = size; fits = count }

freed_kept : (chunks : ℕ) (pending : Bool) (slab : SlabState) (k : ℕ) → IsKeptSlab chunks slab →
    IsKeptSlab chunks (slab_freed (cond pending Dead Source) slab k)
freed_kept chunks pending slab k kept = by_count (count_by (λ x. x) out == 0) refl pending
  where
    out : List Bool
    out = set slab.out k false

    size : length out ≡ chunks
    size = length-set slab.out k false ∙ kept.size

    fewer : count_by (λ x. x) out ≤ count_by (λ x. x) slab.out
    fewer =
        ⊎_elim (λ below. omega (arith, count-set (λ x. x) slab.out k false false below))
        (λ past. omega (arith, ap (count_by (λ x. x)) (set_past slab.out k false past)))
        (cases_lt k (length slab.out))

    stays : (standing : Standing) → FitsCount standing (count_by (λ x. x) slab.out) → 0 < count_by (λ x. x) out →
        FitsCount standing (count_by (λ x. x) out)
    stays Source fits some = absurd (omega (arith, fewer))
    stays Listed fits some = some
    stays Dead fits some = absurd (omega (arith, fewer))

    left : SlabState
    left = record slab { out = out }

    cleared : SlabState
    cleared = record { standing = slab.standing; out = out; later = 0; stuck = None }

    either : (b : Bool) → 0 < count_by (λ x. x) out → IsKeptSlab chunks (cond b cleared left)
    either true some = record { size = size; fits = stays slab.standing kept.fits some }
    either false some = record { size = size; fits = stays slab.standing kept.fits some }

    by_count : (b : Bool) → (count_by (λ x. x) out == 0) ≡ b → (pending : Bool) →
        IsKeptSlab chunks (cond b (record { standing = cond pending Dead Source; out = out; later = 0; stuck = None })
        (cond (is_the slab.stuck k) cleared left))
    by_count true is true = record { size = size; fits = eqb-true (count_by (λ x. x) out) 0 is }
    by_count true is false = record { size = size; fits = eqb-true (count_by (λ x. x) out) 0 is }
    by_count false is pending = either (is_the slab.stuck k) (omega (arith, eqb-false (count_by (λ x. x) out) 0 is))

given_back_kept : (chunks : ℕ) (slab : SlabState) → IsKeptSlab chunks slab → IsKeptSlab chunks (slab_given_back slab)
given_back_kept chunks slab kept = by_standing slab.standing refl kept.fits
  where
    by_standing : (standing : Standing) → slab.standing ≡ standing → FitsCount standing (count_by (λ x. x) slab.out) →
        IsKeptSlab chunks (cond (is_same_standing Dead standing) (record slab { standing = Source }) slab)
    by_standing Source is fits = kept
    by_standing Listed is fits = kept
    by_standing Dead is fits = record { size = kept.size; fits = fits }

answered_kept : (chunks : ℕ) (said : Said) (slab : SlabState) (k : ℕ) → IsKeptSlab chunks slab → IsKeptSlab chunks (slab_answered said slab k)
answered_kept chunks Yes slab k kept = kept
answered_kept chunks No slab k kept = record { size = kept.size; fits = kept.fits }
answered_kept chunks Later slab k kept = record { size = kept.size; fits = kept.fits }
answered_kept chunks DontNeed slab k kept = kept
answered_kept chunks DontKnow slab k kept = record { size = kept.size; fits = kept.fits }

-- The whole state

on_slab_kept : (s : CacheState) (b : ℕ) (change : SlabState → ℕ → SlabState) →
    ((slab : SlabState) (k : ℕ) → k < s.chunks → IsKeptSlab s.chunks slab → IsKeptSlab s.chunks (change slab k)) →
    IsKeptState s → IsKeptState (on_slab_of s b change)
on_slab_kept s b change keeps kept =
    record {
      positive = kept.positive;
      slabs =
          ⊎_elim
          (λ below. All-set (IsKeptSlab s.chunks) s.slabs i next
          (keeps (slab_at s.slabs i) (b % s.chunks) (mod_below b s.chunks kept.positive) (kept.slabs i no_slab below)) kept.slabs)
          (λ past. subst (All (IsKeptSlab s.chunks)) (sym (set_past s.slabs i next past)) kept.slabs)
          (cases_lt i (length s.slabs));
    }
  where
    i : ℕ
    i = b / s.chunks

    next : SlabState
    next = change (slab_at s.slabs i) (b % s.chunks)

with_out_kept : (s : CacheState) (b : ℕ) → IsKeptState s → IsKeptState (with_out s b)
with_out_kept s b kept = on_slab_kept s b slab_taken (λ slab k below old. taken_kept s.chunks slab k below old) kept

freed_state_kept : (s t : CacheState) (b : ℕ) → freed s b ≡ Some t → IsKeptState s → IsKeptState t
freed_state_kept s t b e kept =
    subst IsKeptState (then_some_says _ _ _ e).1
    (on_slab_kept s b (slab_freed (emptied_goes s)) (λ slab k below old. freed_kept s.chunks (has_pending s) slab k old) kept)

all_freed_kept : (bs : List ℕ) (s t : CacheState) → all_freed s bs ≡ Some t → IsKeptState s → IsKeptState t
all_freed_kept [] s t e kept = let same : s ≡ t = cc in subst IsKeptState same kept
all_freed_kept (b ∷ bs) s t e kept =
    let (x, e1, e2) = and_then_says (λ next. all_freed next bs) (freed s b) t e in
    all_freed_kept bs x t e2 (freed_state_kept s x b e1 kept)

pub without_move_kept : (s : CacheState) (j : ℕ) → IsKeptState s → IsKeptState (without_move s j)
without_move_kept s j kept = by_pending (has_pending next)
  where
    next : CacheState
    next = record s { pending = set s.pending j None }

    by_pending : (b : Bool) → IsKeptState (cond b next (record next { slabs = map slab_given_back s.slabs }))
    by_pending true = record { positive = kept.positive; slabs = kept.slabs }
    by_pending false =
        record {
          positive = kept.positive;
          slabs = All-map (IsKeptSlab s.chunks) slab_given_back s.slabs
              (λ i d below. given_back_kept s.chunks (get_or s.slabs i d) (kept.slabs i d below));
        }

pub with_answer_kept : (s : CacheState) (b : ℕ) (said : Said) → IsKeptState s → IsKeptState (with_answer s b said)
with_answer_kept s b said kept = by_out (is_out s b)
  where
    by_out : (x : Bool) → IsKeptState (cond x (on_slab_of s b (slab_answered said)) s)
    by_out true = on_slab_kept s b (slab_answered said) (λ slab k below old. answered_kept s.chunks said slab k old) kept
    by_out false = kept

gone_kept : (s t : CacheState) (j : ℕ) (m : PendingMove) → gone s j m ≡ Some t → IsKeptState s → IsKeptState t
gone_kept s t j m e kept = by_out (is_out s m.from) e
  where
    by_out : (b : Bool) → cond b None (option_map (λ next. without_move next j) (freed s m.to)) ≡ Some t → IsKeptState t
    by_out true h = absurd (cc)
    by_out false h =
        let (x, e1, same) = map_says (λ next. without_move next j) (freed s m.to) t h in
        subst IsKeptState same (without_move_kept x j (freed_state_kept s x m.to e1 kept))

ended_kept : (s t : CacheState) (j : ℕ) (said : Said) (m : PendingMove) → ended s j said m ≡ Some t → IsKeptState s → IsKeptState t
ended_kept s t j said m e kept =
    let (x, e1, same) = map_says (λ next. without_move (with_answer next m.from said) j) (all_freed s (handed_back said m)) t e in
    subst IsKeptState same
    (without_move_kept (with_answer x m.from said) j (with_answer_kept x m.from said (all_freed_kept (handed_back said m) s x e1 kept)))

pub enter_kept : (s t : CacheState) (entry : CacheEntry) → enter s entry ≡ Some t → IsKeptState s → IsKeptState t
enter_kept s t (Alloc b) e kept = subst IsKeptState (then_some_says _ _ _ e).1 (with_out_kept s b kept)
enter_kept s t Full e kept = subst IsKeptState (then_some_says _ _ _ e).1 kept
enter_kept s t (Free b) e kept = freed_state_kept s t b e kept
enter_kept s t (Scan desperate) e kept =
    let same : scan_started s desperate ≡ t = cc in
    subst IsKeptState same (record { positive = kept.positive; slabs = kept.slabs })
enter_kept s t (Begin j from to) e kept =
    let out : IsKeptState (with_out s to) = with_out_kept s to kept in
    subst IsKeptState (then_some_says _ _ _ e).1 (record { positive = out.positive; slabs = out.slabs })
enter_kept s t Idle e kept = subst IsKeptState (then_some_says _ _ _ e).1 kept
enter_kept s t (Gone j) e kept =
    let (m, there, h) = and_then_says (gone s j) (move_at s j) t e in gone_kept s t j m h kept
enter_kept s t (End j said) e kept =
    let (m, there, h) = and_then_says (ended s j said) (move_at s j) t e in ended_kept s t j said m h kept
enter_kept s t Forget e kept =
    let cleared : CacheState = record s { slabs = map unmarked s.slabs } in
    let same : cleared ≡ t = cc in
    subst IsKeptState same
    (record {
      positive = kept.positive;
      slabs = All-map (IsKeptSlab s.chunks) unmarked s.slabs
          (λ i d below. record { size = (kept.slabs i d below).size; fits = (kept.slabs i d below).fits });
    })

pub history_kept : (history : List (ℕ × CacheEntry)) (s t : CacheState) → state_after s history ≡ Some t → IsKeptState s → IsKeptState t
history_kept [] s t e kept = let same : s ≡ t = cc in subst IsKeptState same kept
history_kept (x ∷ xs) s t e kept =
    let (n, e1, e2) = and_then_says (λ next. state_after next xs) (enter s x.1) t e in
    history_kept xs n t e2 (enter_kept s n x.1 e1 kept)

pub opening_kept : (slabs chunks limit : ℕ) → 0 < chunks → IsKeptState (opening (sizes_of slabs chunks limit))
opening_kept slabs chunks limit some =
    record {
      positive = some;
      slabs = All-replicate (IsKeptSlab chunks) slabs (slab_in_source chunks)
          (record {
            size = length-replicate chunks false;
            fits = count_from_none (λ x. x) (replicate chunks false) (All-replicate (λ x. x ≡ false) chunks false refl);
          });
    }
