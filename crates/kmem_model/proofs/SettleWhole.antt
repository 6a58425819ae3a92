-- What is kept of a whole cache by every entry.
use Rattle.std.proofs.Common.{◌≡◌, ℕ, zero, suc, ◌+◌, ◌*◌, ◌/◌, ◌%◌, ◌<◌, ◌≤◌, ◌==◌, Bool, true, false, cond, List, [], ◌∷◌, map, length, get_or, set, replicate, All, count_by, Option, Some, None, is_some, option_map, ⊎_elim, sym, ◌∙◌, ap, ap₂, min, refl, subst, arith}
use Rattle.std.specs.List.{list_any}
use Rattle.std.specs.Option.{option_or}
use Rattle.std.proofs.lemmas.Bool.{cases_lt, cases_eq, cases_Bool, both_ways, eqb-false, eq-eqb}
use Rattle.std.proofs.lemmas.List.{get_or-set_same, get_or-set_other, length-set, length-map, length-replicate, set_past, get_or-replicate, get_or_past}
use Rattle.std.proofs.lemmas.List.Elements.{All-set, All-map, All-replicate}
use Rattle.std.proofs.lemmas.List.Sums.{get_or-le-sum_by}
use Rattle.kmem_model.proofs.CacheLists.{reads_within, any-set_some}
use Rattle.kmem_model.proofs.PlacesKept.{then_some_says, and_then_says}
use Rattle.kmem_model.proofs.CacheChoices.{map_says}
use Rattle.kmem_model.proofs.CacheKept.{FitsCount, IsKeptSlab, IsKeptState, enter_kept, with_answer_kept, without_move_kept, opening_kept}
use Rattle.kmem_model.specs.CacheState.{sizes_of, SlabState, CacheState, is_same_standing, no_slab, slab_at, slab_in_source, is_listed, is_dead, used, is_out_on, is_out, move_at, has_pending, opening}
use Rattle.kmem_model.specs.CacheOrder.{is_the}
use Rattle.kmem_model.specs.CacheEnter.{unmarked, slab_taken, slab_freed, slab_never, slab_later, slab_given_back, slab_answered, on_slab_of, with_move, emptied_goes, freed, all_freed, handed_back, without_move, with_answer, scan_started, gone, ended, enter}
use Rattle.kmem_model.specs.SettleWhole.{IsWholeSlab, IsWhole, IsWholeStage, is_known}
use Rattle.kmem_model.specs.declared.cache_state.Standing.{Standing}
use Rattle.kmem_model.specs.declared.cache_state.Standing.TheVariants.{Source, Listed, Dead}
use Rattle.kmem_model.specs.declared.cache_state.PendingMove.{PendingMove}
use Rattle.kmem_model.specs.declared.cache_entry.Said.{Said}
use Rattle.kmem_model.specs.declared.cache_entry.Said.TheVariants.{Yes, No, Later, DontNeed, DontKnow}
use Rattle.kmem_model.specs.declared.cache_entry.CacheEntry.{CacheEntry}
use Rattle.kmem_model.specs.declared.cache_entry.CacheEntry.TheVariants.{Alloc, Full, Free, Scan, Begin, Idle, Gone, End, Forget}

-- Counts and marks of one slab

pub record HasGoodMarks (slab : SlabState) : Type 0 where
  pub others_plain : is_listed slab ≡ false → (slab.later ≡ 0) × (slab.stuck ≡ None)
  pub counted : slab.later ≤ 3
  pub unmarked : slab.stuck ≡ None → slab.later < 3
  pub stuck_out : (k : ℕ) → slab.stuck ≡ Some k → is_out_on slab k ≡ true

-- count 0 and no mark
plain_marks : (standing : Standing) (out : List Bool) → HasGoodMarks (record { standing = standing; out = out; later = 0; stuck = None })
plain_marks standing out =
    record {
      others_plain = λ h. (refl, refl);
      counted = omega arith;
      unmarked = λ h. omega arith;
      stuck_out = λ k h. absurd (none_some k h);
    }
  where
    none_some : (k : ℕ) → None ≡ Some k → ⊥
    none_some k h = cc

-- a flag that is set stays set when one is set
pub set_stays : (xs : List Bool) (i j : ℕ) → get_or xs j false ≡ true → get_or (set xs i true) j false ≡ true
set_stays xs i j e =
    ⊎_elim
    (λ same.
    ap (λ n. get_or (set xs i true) n false) same
    ∙ get_or-set_same xs i true false (omega (arith, same, reads_within xs j false (λ x. x) refl e)))
    (λ other. get_or-set_other xs i j true false other ∙ e)
    (cases_eq j i)

taken_marks : (slab : SlabState) (k : ℕ) → HasGoodMarks slab → HasGoodMarks (slab_taken slab k)
taken_marks slab k good = by_standing slab.standing refl
  where
    listed : SlabState
    listed = record { standing = Listed; out = slab.out; later = 0; stuck = None }

    by_standing : (standing : Standing) → slab.standing ≡ standing →
        HasGoodMarks (record (cond (is_same_standing Listed standing) slab listed) {
          out = set (cond (is_same_standing Listed standing) slab listed).out k true;
        })
    by_standing Source is = plain_marks Listed (set slab.out k true)
    by_standing Listed is =
        record {
          others_plain = good.others_plain;
          counted = good.counted;
          unmarked = good.unmarked;
          stuck_out = λ n e. set_stays slab.out k n (good.stuck_out n e);
        }
    by_standing Dead is = plain_marks Listed (set slab.out k true)

freed_marks : (emptied : Standing) (slab : SlabState) (k : ℕ) → HasGoodMarks slab → HasGoodMarks (slab_freed emptied slab k)
freed_marks emptied slab k good = by_count (count_by (λ x. x) out == 0)
  where
    out : List Bool
    out = set slab.out k false

    left : SlabState
    left = record slab { out = out }

    cleared : SlabState
    cleared = record { standing = slab.standing; out = out; later = 0; stuck = None }

    stays : is_the slab.stuck k ≡ false → (n : ℕ) → slab.stuck ≡ Some n → get_or out n false ≡ true
    stays apart n e =
        ⊎_elim
        (λ same. absurd (both_ways (is_the slab.stuck k) apart (ap (λ x. is_the x k) e ∙ eq-eqb n k same)))
        (λ other. get_or-set_other slab.out k n false false other ∙ good.stuck_out n e)
        (cases_eq n k)

    by_stuck : (b : Bool) → is_the slab.stuck k ≡ b → HasGoodMarks (cond b cleared left)
    by_stuck true is = plain_marks slab.standing out
    by_stuck false is =
        record { others_plain = good.others_plain; counted = good.counted; unmarked = good.unmarked; stuck_out = stays is }

    by_count : (b : Bool) →
        HasGoodMarks (cond b (record { standing = emptied; out = out; later = 0; stuck = None }) (cond (is_the slab.stuck k) cleared left))
    by_count true = plain_marks emptied out
    by_count false = by_stuck (is_the slab.stuck k) refl

given_back_marks : (slab : SlabState) → HasGoodMarks slab → HasGoodMarks (slab_given_back slab)
given_back_marks slab good = by_standing slab.standing refl
  where
    dead_unlisted : slab.standing ≡ Dead → is_listed slab ≡ false
    dead_unlisted is = ap (is_same_standing Listed) is

    by_standing : (standing : Standing) → slab.standing ≡ standing →
        HasGoodMarks (cond (is_same_standing Dead standing) (record slab { standing = Source }) slab)
    by_standing Source is = good
    by_standing Listed is = good
    by_standing Dead is =
        record {
          others_plain = λ h. good.others_plain (dead_unlisted is);
          counted = good.counted;
          unmarked = good.unmarked;
          stuck_out = good.stuck_out;
        }

-- a mark that is set where there is none has its buffer out
stuck_or : (slab : SlabState) (k : ℕ) → HasGoodMarks slab → is_out_on slab k ≡ true → (stuck : Option ℕ) → slab.stuck ≡ stuck →
    (n : ℕ) → option_or stuck (Some k) ≡ Some n → is_out_on slab n ≡ true
stuck_or slab k good out None is n e = let same : k ≡ n = cc in subst (λ x. is_out_on slab x ≡ true) same out
stuck_or slab k good out (Some m) is n e = good.stuck_out n (is ∙ e)

or_some_not_none : (o : Option ℕ) (k : ℕ) → option_or o (Some k) ≡ None → ⊥
or_some_not_none None k e = cc
or_some_not_none (Some m) k e = cc

never_marks : (slab : SlabState) (k : ℕ) → is_listed slab ≡ true → is_out_on slab k ≡ true → HasGoodMarks slab → HasGoodMarks (slab_never slab k)
never_marks slab k listed out good =
    record {
      others_plain = λ h. absurd (both_ways (is_listed slab) h listed);
      counted = good.counted;
      unmarked = λ h. absurd (or_some_not_none slab.stuck k h);
      stuck_out = stuck_or slab k good out slab.stuck refl;
    }

later_marks : (slab : SlabState) (k : ℕ) → is_listed slab ≡ true → is_out_on slab k ≡ true → HasGoodMarks slab → HasGoodMarks (slab_later slab k)
later_marks slab k listed out good = by_three (later == 3) refl
  where
    later : ℕ
    later = min 3 (slab.later + 1)

    by_three : (b : Bool) → (later == 3) ≡ b →
        HasGoodMarks (record slab { later = later; stuck = cond b (option_or slab.stuck (Some k)) slab.stuck })
    by_three true is =
        record {
          others_plain = λ h. absurd (both_ways (is_listed slab) h listed);
          counted = omega arith;
          unmarked = λ h. absurd (or_some_not_none slab.stuck k h);
          stuck_out = stuck_or slab k good out slab.stuck refl;
        }
    by_three false is =
        record {
          others_plain = λ h. absurd (both_ways (is_listed slab) h listed);
          counted = omega arith;
          unmarked = λ h. omega (arith, eqb-false later 3 is);
          stuck_out = good.stuck_out;
        }

answered_marks : (said : Said) (slab : SlabState) (k : ℕ) → is_listed slab ≡ true → is_out_on slab k ≡ true → HasGoodMarks slab →
    HasGoodMarks (slab_answered said slab k)
answered_marks Yes slab k listed out good = good
answered_marks No slab k listed out good = never_marks slab k listed out good
answered_marks Later slab k listed out good = later_marks slab k listed out good
answered_marks DontNeed slab k listed out good = good
answered_marks DontKnow slab k listed out good = later_marks slab k listed out good

-- a slab with a buffer out is listed
pub out_listed : (chunks : ℕ) (slab : SlabState) (k : ℕ) → IsKeptSlab chunks slab → is_out_on slab k ≡ true → is_listed slab ≡ true
out_listed chunks slab k kept out = by_standing slab.standing refl
  where
    here : ◌≡◌ {A = ℕ} (cond (get_or slab.out k false) 1 0) 1
    here = ap {B = ℕ} (λ x. cond x 1 0) out

    some : 0 < count_by (λ x. x) slab.out
    some =
        omega (arith, here, get_or-le-sum_by (λ x. cond x 1 0) slab.out k false (reads_within slab.out k false (λ x. x) refl out))

    fits : (standing : Standing) → slab.standing ≡ standing → FitsCount standing (count_by (λ x. x) slab.out)
    fits standing is = subst (λ s. FitsCount s (count_by (λ x. x) slab.out)) is kept.fits

    by_standing : (standing : Standing) → slab.standing ≡ standing → is_same_standing Listed standing ≡ true
    by_standing Source is = let none : count_by (λ x. x) slab.out ≡ 0 = fits Source is in absurd (omega (arith, none, some))
    by_standing Listed is = refl
    by_standing Dead is = let none : count_by (λ x. x) slab.out ≡ 0 = fits Dead is in absurd (omega (arith, none, some))

-- All slabs

on_slab_marks : (s : CacheState) (b : ℕ) (change : SlabState → ℕ → SlabState) →
    ((slab : SlabState) (k : ℕ) → HasGoodMarks slab → HasGoodMarks (change slab k)) →
    All HasGoodMarks s.slabs → All HasGoodMarks (on_slab_of s b change).slabs
on_slab_marks s b change keeps good =
    ⊎_elim
    (λ below. All-set HasGoodMarks s.slabs i next (keeps (slab_at s.slabs i) (b % s.chunks) (good i no_slab below)) good)
    (λ past. subst (All HasGoodMarks) (sym (set_past s.slabs i next past)) good)
    (cases_lt i (length s.slabs))
  where
    i : ℕ
    i = b / s.chunks

    next : SlabState
    next = change (slab_at s.slabs i) (b % s.chunks)

freed_state_marks : (s t : CacheState) (b : ℕ) → freed s b ≡ Some t → All HasGoodMarks s.slabs → All HasGoodMarks t.slabs
freed_state_marks s t b e good =
    subst (λ x. All HasGoodMarks x.slabs) (then_some_says _ _ _ e).1
    (on_slab_marks s b (slab_freed (emptied_goes s)) (λ slab k old. freed_marks (emptied_goes s) slab k old) good)

all_freed_marks : (bs : List ℕ) (s t : CacheState) → all_freed s bs ≡ Some t → All HasGoodMarks s.slabs → All HasGoodMarks t.slabs
all_freed_marks [] s t e good = let same : s ≡ t = cc in subst (λ x. All HasGoodMarks x.slabs) same good
all_freed_marks (b ∷ bs) s t e good =
    let (x, e1, e2) = and_then_says (λ next. all_freed next bs) (freed s b) t e in
    all_freed_marks bs x t e2 (freed_state_marks s x b e1 good)

all_freed_kept : (bs : List ℕ) (s t : CacheState) → all_freed s bs ≡ Some t → IsKeptState s → IsKeptState t
all_freed_kept [] s t e kept = let same : s ≡ t = cc in subst IsKeptState same kept
all_freed_kept (b ∷ bs) s t e kept =
    let (x, e1, e2) = and_then_says (λ next. all_freed next bs) (freed s b) t e in
    all_freed_kept bs x t e2 (enter_kept s x (Free b) e1 kept)

without_move_marks : (s : CacheState) (j : ℕ) → All HasGoodMarks s.slabs → All HasGoodMarks (without_move s j).slabs
without_move_marks s j good = by_pending (has_pending next)
  where
    next : CacheState
    next = record s { pending = set s.pending j None }

    by_pending : (b : Bool) → All HasGoodMarks (cond b next (record next { slabs = map slab_given_back s.slabs })).slabs
    by_pending true = good
    by_pending false =
        All-map HasGoodMarks slab_given_back s.slabs (λ i d below. given_back_marks (get_or s.slabs i d) (good i d below))

with_answer_marks : (s : CacheState) (b : ℕ) (said : Said) → IsKeptState s → All HasGoodMarks s.slabs → All HasGoodMarks (with_answer s b said).slabs
with_answer_marks s b said kept good = by_out (is_out s b) refl
  where
    i : ℕ
    i = b / s.chunks

    within : is_out s b ≡ true → i < length s.slabs
    within e =
        reads_within s.slabs i no_slab (λ slab. is_out_on slab (b % s.chunks)) refl e

    by_out : (x : Bool) → is_out s b ≡ x → All HasGoodMarks (cond x (on_slab_of s b (slab_answered said)) s).slabs
    by_out true is =
        All-set HasGoodMarks s.slabs i (slab_answered said (slab_at s.slabs i) (b % s.chunks))
        (answered_marks said (slab_at s.slabs i) (b % s.chunks)
        (out_listed s.chunks (slab_at s.slabs i) (b % s.chunks) (kept.slabs i no_slab (within is)) is) is (good i no_slab (within is)))
        good
    by_out false is = good

enter_marks : (s t : CacheState) (entry : CacheEntry) → enter s entry ≡ Some t → IsKeptState s → All HasGoodMarks s.slabs → All HasGoodMarks t.slabs
enter_marks s t (Alloc b) e kept good =
    subst (λ x. All HasGoodMarks x.slabs) (then_some_says _ _ _ e).1 (on_slab_marks s b slab_taken (λ slab k old. taken_marks slab k old) good)
enter_marks s t Full e kept good = subst (λ x. All HasGoodMarks x.slabs) (then_some_says _ _ _ e).1 good
enter_marks s t (Free b) e kept good = freed_state_marks s t b e good
enter_marks s t (Scan desperate) e kept good =
    let same : scan_started s desperate ≡ t = cc in subst (λ x. All HasGoodMarks x.slabs) same good
enter_marks s t (Begin j from to) e kept good =
    subst (λ x. All HasGoodMarks x.slabs) (then_some_says _ _ _ e).1 (on_slab_marks s to slab_taken (λ slab k old. taken_marks slab k old) good)
enter_marks s t Idle e kept good = subst (λ x. All HasGoodMarks x.slabs) (then_some_says _ _ _ e).1 good
enter_marks s t (Gone j) e kept good =
    let (m, there, h) = and_then_says (gone s j) (move_at s j) t e in by_out m (is_out s m.from) h
  where
    by_out : (m : PendingMove) (b : Bool) → cond b None (option_map (λ next. without_move next j) (freed s m.to)) ≡ Some t → All HasGoodMarks t.slabs
    by_out m true h = absurd (cc)
    by_out m false h =
        let (x, e1, same) = map_says (λ next. without_move next j) (freed s m.to) t h in
        subst (λ y. All HasGoodMarks y.slabs) same (without_move_marks x j (freed_state_marks s x m.to e1 good))
enter_marks s t (End j said) e kept good =
    let (m, there, h) = and_then_says (ended s j said) (move_at s j) t e in
    let (x, e1, same) = map_says (λ next. without_move (with_answer next m.from said) j) (all_freed s (handed_back said m)) t h in
    subst (λ y. All HasGoodMarks y.slabs) same
    (without_move_marks (with_answer x m.from said) j
    (with_answer_marks x m.from said (all_freed_kept (handed_back said m) s x e1 kept) (all_freed_marks (handed_back said m) s x e1 good)))
enter_marks s t Forget e kept good =
    let cleared : CacheState = record s { slabs = map unmarked s.slabs } in
    let same : cleared ≡ t = cc in
    subst (λ x. All HasGoodMarks x.slabs) same
    (All-map HasGoodMarks unmarked s.slabs (λ i d below. plain_marks (get_or s.slabs i d).standing (get_or s.slabs i d).out))

-- Sizes

pub record AreSameSizes (s t : CacheState) : Type 0 where
  pub chunks : t.chunks ≡ s.chunks
  pub slabs : length t.slabs ≡ length s.slabs
  pub asked : length t.asked ≡ length s.asked
  pub limit : length t.pending ≡ length s.pending

pub same_sizes : (s : CacheState) → AreSameSizes s s
same_sizes s = record { chunks = refl; slabs = refl; asked = refl; limit = refl }

pub sizes_on : (s t u : CacheState) → AreSameSizes s t → AreSameSizes t u → AreSameSizes s u
sizes_on s t u a b =
    record { chunks = b.chunks ∙ a.chunks; slabs = b.slabs ∙ a.slabs; asked = b.asked ∙ a.asked; limit = b.limit ∙ a.limit }

on_slab_sizes : (s : CacheState) (b : ℕ) (change : SlabState → ℕ → SlabState) → AreSameSizes s (on_slab_of s b change)
on_slab_sizes s b change =
    record {
      chunks = refl;
      slabs = length-set s.slabs (b / s.chunks) (change (slab_at s.slabs (b / s.chunks)) (b % s.chunks));
      asked = refl;
      limit = refl;
    }

freed_sizes : (s t : CacheState) (b : ℕ) → freed s b ≡ Some t → AreSameSizes s t
freed_sizes s t b e = subst (AreSameSizes s) (then_some_says _ _ _ e).1 (on_slab_sizes s b (slab_freed (emptied_goes s)))

all_freed_sizes : (bs : List ℕ) (s t : CacheState) → all_freed s bs ≡ Some t → AreSameSizes s t
all_freed_sizes [] s t e = let same : s ≡ t = cc in subst (AreSameSizes s) same (same_sizes s)
all_freed_sizes (b ∷ bs) s t e =
    let (x, e1, e2) = and_then_says (λ next. all_freed next bs) (freed s b) t e in
    sizes_on s x t (freed_sizes s x b e1) (all_freed_sizes bs x t e2)

without_move_sizes : (s : CacheState) (j : ℕ) → AreSameSizes s (without_move s j)
without_move_sizes s j = by_pending (has_pending next)
  where
    next : CacheState
    next = record s { pending = set s.pending j None }

    by_pending : (b : Bool) → AreSameSizes s (cond b next (record next { slabs = map slab_given_back s.slabs }))
    by_pending true = record { chunks = refl; slabs = refl; asked = refl; limit = length-set s.pending j None }
    by_pending false =
        record { chunks = refl; slabs = length-map s.slabs slab_given_back; asked = refl; limit = length-set s.pending j None }

with_answer_sizes : (s : CacheState) (b : ℕ) (said : Said) → AreSameSizes s (with_answer s b said)
with_answer_sizes s b said = by_out (is_out s b)
  where
    by_out : (x : Bool) → AreSameSizes s (cond x (on_slab_of s b (slab_answered said)) s)
    by_out true = on_slab_sizes s b (slab_answered said)
    by_out false = same_sizes s

with_move_sizes : (s : CacheState) (j : ℕ) (m : PendingMove) → AreSameSizes s (with_move s j m)
with_move_sizes s j m =
    record {
      chunks = refl;
      slabs = (on_slab_sizes s m.to slab_taken).slabs;
      asked = length-set (set s.asked m.from true) m.to true ∙ length-set s.asked m.from true;
      limit = length-set s.pending j (Some m);
    }

pub enter_sizes : (s t : CacheState) (entry : CacheEntry) → enter s entry ≡ Some t → AreSameSizes s t
enter_sizes s t (Alloc b) e = subst (AreSameSizes s) (then_some_says _ _ _ e).1 (on_slab_sizes s b slab_taken)
enter_sizes s t Full e = subst (AreSameSizes s) (then_some_says _ _ _ e).1 (same_sizes s)
enter_sizes s t (Free b) e = freed_sizes s t b e
enter_sizes s t (Scan desperate) e =
    let same : scan_started s desperate ≡ t = cc in
    subst (AreSameSizes s) same (record { chunks = refl; slabs = refl; asked = length-map s.asked (λ x. false); limit = refl })
enter_sizes s t (Begin j from to) e =
    subst (AreSameSizes s) (then_some_says _ _ _ e).1 (with_move_sizes s j (record { from = from; to = to }))
enter_sizes s t Idle e = subst (AreSameSizes s) (then_some_says _ _ _ e).1 (same_sizes s)
enter_sizes s t (Gone j) e =
    let (m, there, h) = and_then_says (gone s j) (move_at s j) t e in by_out m (is_out s m.from) h
  where
    by_out : (m : PendingMove) (b : Bool) → cond b None (option_map (λ next. without_move next j) (freed s m.to)) ≡ Some t → AreSameSizes s t
    by_out m true h = absurd (cc)
    by_out m false h =
        let (x, e1, same) = map_says (λ next. without_move next j) (freed s m.to) t h in
        subst (AreSameSizes s) same (sizes_on s x (without_move x j) (freed_sizes s x m.to e1) (without_move_sizes x j))
enter_sizes s t (End j said) e =
    let (m, there, h) = and_then_says (ended s j said) (move_at s j) t e in
    let (x, e1, same) = map_says (λ next. without_move (with_answer next m.from said) j) (all_freed s (handed_back said m)) t h in
    subst (AreSameSizes s) same
    (sizes_on s x (without_move (with_answer x m.from said) j) (all_freed_sizes (handed_back said m) s x e1)
    (sizes_on x (with_answer x m.from said) (without_move (with_answer x m.from said) j) (with_answer_sizes x m.from said)
    (without_move_sizes (with_answer x m.from said) j)))
enter_sizes s t Forget e =
    let cleared : CacheState = record s { slabs = map unmarked s.slabs } in
    let same : cleared ≡ t = cc in
    subst (AreSameSizes s) same (record { chunks = refl; slabs = length-map s.slabs unmarked; asked = refl; limit = refl })

-- Dead slabs

abbrev pub IsNoneDead : CacheState → Type 0
IsNoneDead s = All (λ slab. is_dead slab ≡ false) s.slabs

abbrev pub IsDeadInMoves : CacheState → Type 0
IsDeadInMoves s = has_pending s ≡ false → IsNoneDead s

on_slab_dead : (s : CacheState) (b : ℕ) (change : SlabState → ℕ → SlabState) →
    ((slab : SlabState) (k : ℕ) → is_dead slab ≡ false → is_dead (change slab k) ≡ false) →
    IsNoneDead s → IsNoneDead (on_slab_of s b change)
on_slab_dead s b change keeps none =
    ⊎_elim
    (λ below. All-set (λ slab. is_dead slab ≡ false) s.slabs i next (keeps (slab_at s.slabs i) (b % s.chunks) (none i no_slab below)) none)
    (λ past. subst (All (λ slab. is_dead slab ≡ false)) (sym (set_past s.slabs i next past)) none)
    (cases_lt i (length s.slabs))
  where
    i : ℕ
    i = b / s.chunks

    next : SlabState
    next = change (slab_at s.slabs i) (b % s.chunks)

taken_dead : (slab : SlabState) (k : ℕ) → is_dead slab ≡ false → is_dead (slab_taken slab k) ≡ false
taken_dead slab k none = by_standing slab.standing refl
  where
    listed : SlabState
    listed = record { standing = Listed; out = slab.out; later = 0; stuck = None }

    by_standing : (standing : Standing) → slab.standing ≡ standing → is_dead (cond (is_same_standing Listed standing) slab listed) ≡ false
    by_standing Source is = refl
    by_standing Listed is = none
    by_standing Dead is = refl

freed_dead : (emptied : Standing) (slab : SlabState) (k : ℕ) → is_same_standing Dead emptied ≡ false → is_dead slab ≡ false →
    is_dead (slab_freed emptied slab k) ≡ false
freed_dead emptied slab k goes none = by_count (count_by (λ x. x) out == 0) (is_the slab.stuck k)
  where
    out : List Bool
    out = set slab.out k false

    left : SlabState
    left = record slab { out = out }

    cleared : SlabState
    cleared = record { standing = slab.standing; out = out; later = 0; stuck = None }

    by_count : (b c : Bool) →
        is_dead (cond b (record { standing = emptied; out = out; later = 0; stuck = None }) (cond c cleared left)) ≡ false
    by_count true c = goes
    by_count false true = none
    by_count false false = none

given_back_dead : (slab : SlabState) → is_dead (slab_given_back slab) ≡ false
given_back_dead slab = by_standing slab.standing refl
  where
    by_standing : (standing : Standing) → slab.standing ≡ standing →
        is_dead (cond (is_same_standing Dead standing) (record slab { standing = Source }) slab) ≡ false
    by_standing Source is = ap (is_same_standing Dead) is
    by_standing Listed is = ap (is_same_standing Dead) is
    by_standing Dead is = refl

-- whatever was dead before
pub without_move_dead : (s : CacheState) (j : ℕ) → IsDeadInMoves (without_move s j)
without_move_dead s j = by_pending (has_pending next) refl
  where
    next : CacheState
    next = record s { pending = set s.pending j None }

    by_pending : (b : Bool) → has_pending next ≡ b → IsDeadInMoves (cond b next (record next { slabs = map slab_given_back s.slabs }))
    by_pending true is = λ h. absurd (both_ways (has_pending next) h is)
    by_pending false is = λ h.
        All-map (λ slab. is_dead slab ≡ false) slab_given_back s.slabs (λ i d below. given_back_dead (get_or s.slabs i d))

enter_dead : (s t : CacheState) (entry : CacheEntry) → enter s entry ≡ Some t → IsDeadInMoves s → IsDeadInMoves t
enter_dead s t (Alloc b) e dead =
    subst IsDeadInMoves (then_some_says _ _ _ e).1 (λ calm. on_slab_dead s b slab_taken (λ slab k old. taken_dead slab k old) (dead calm))
enter_dead s t Full e dead = subst IsDeadInMoves (then_some_says _ _ _ e).1 dead
enter_dead s t (Free b) e dead =
    subst IsDeadInMoves (then_some_says _ _ _ e).1
    (λ calm.
    on_slab_dead s b (slab_freed (emptied_goes s))
    (λ slab k old. freed_dead (emptied_goes s) slab k (ap (λ x. is_same_standing Dead (cond x Dead Source)) calm) old) (dead calm))
enter_dead s t (Scan desperate) e dead = let same : scan_started s desperate ≡ t = cc in subst IsDeadInMoves same dead
enter_dead s t (Begin j from to) e dead =
    let m : PendingMove = record { from = from; to = to } in
    subst IsDeadInMoves (then_some_says _ _ _ e).1 (begun m)
  where
    before : (m : PendingMove) → has_pending (with_move s j m) ≡ false → has_pending s ≡ false
    before m calm =
        ⊎_elim (λ some. absurd (both_ways (has_pending (with_move s j m)) calm (any-set_some s.pending j m some))) (λ none. none)
        (cases_Bool (has_pending s))

    begun : (m : PendingMove) → IsDeadInMoves (with_move s j m)
    begun m calm = on_slab_dead s m.to slab_taken (λ slab k old. taken_dead slab k old) (dead (before m calm))
enter_dead s t Idle e dead = subst IsDeadInMoves (then_some_says _ _ _ e).1 dead
enter_dead s t (Gone j) e dead =
    let (m, there, h) = and_then_says (gone s j) (move_at s j) t e in by_out m (is_out s m.from) h
  where
    by_out : (m : PendingMove) (b : Bool) → cond b None (option_map (λ next. without_move next j) (freed s m.to)) ≡ Some t → IsDeadInMoves t
    by_out m true h = absurd (cc)
    by_out m false h =
        let (x, e1, same) = map_says (λ next. without_move next j) (freed s m.to) t h in
        subst IsDeadInMoves same (without_move_dead x j)
enter_dead s t (End j said) e dead =
    let (m, there, h) = and_then_says (ended s j said) (move_at s j) t e in
    let (x, e1, same) = map_says (λ next. without_move (with_answer next m.from said) j) (all_freed s (handed_back said m)) t h in
    subst IsDeadInMoves same (without_move_dead (with_answer x m.from said) j)
enter_dead s t Forget e dead =
    let cleared : CacheState = record s { slabs = map unmarked s.slabs } in
    let same : cleared ≡ t = cc in
    subst IsDeadInMoves same (λ calm. All-map (λ slab. is_dead slab ≡ false) unmarked s.slabs (dead calm))

-- Together

slab_parts : (chunks : ℕ) (slab : SlabState) → IsWholeSlab chunks slab → IsKeptSlab chunks slab
slab_parts chunks slab whole = record { size = whole.size; fits = by_standing slab.standing refl }
  where
    by_standing : (standing : Standing) → slab.standing ≡ standing → FitsCount standing (count_by (λ x. x) slab.out)
    by_standing Source is = whole.others_free (ap (is_same_standing Listed) is)
    by_standing Listed is = whole.listed_out (ap (is_same_standing Listed) is)
    by_standing Dead is = whole.others_free (ap (is_same_standing Listed) is)

pub slab_marks : (chunks : ℕ) (slab : SlabState) → IsWholeSlab chunks slab → HasGoodMarks slab
slab_marks chunks slab whole =
    record { others_plain = whole.others_plain; counted = whole.counted; unmarked = whole.unmarked; stuck_out = whole.stuck_out }

pub whole_slab : (chunks : ℕ) (slab : SlabState) → IsKeptSlab chunks slab → HasGoodMarks slab → IsWholeSlab chunks slab
whole_slab chunks slab kept good =
    record {
      size = kept.size;
      listed_out = listed slab.standing refl;
      others_free = others slab.standing refl;
      others_plain = good.others_plain;
      counted = good.counted;
      unmarked = good.unmarked;
      stuck_out = good.stuck_out;
    }
  where
    fits : (standing : Standing) → slab.standing ≡ standing → FitsCount standing (count_by (λ x. x) slab.out)
    fits standing is = subst (λ s. FitsCount s (count_by (λ x. x) slab.out)) is kept.fits

    listed : (standing : Standing) → slab.standing ≡ standing → is_same_standing Listed standing ≡ true → 0 < used slab
    listed Source is e = absurd (cc)
    listed Listed is e = fits Listed is
    listed Dead is e = absurd (cc)

    others : (standing : Standing) → slab.standing ≡ standing → is_same_standing Listed standing ≡ false → used slab ≡ 0
    others Source is e = fits Source is
    others Listed is e = absurd (cc)
    others Dead is e = fits Dead is

pub whole_kept : (s : CacheState) → IsWhole s → IsKeptState s
whole_kept s whole =
    record { positive = whole.positive; slabs = λ i d below. slab_parts s.chunks (get_or s.slabs i d) (whole.slabs i d below) }

pub whole_marks : (s : CacheState) → IsWhole s → All HasGoodMarks s.slabs
whole_marks s whole i d below = slab_marks s.chunks (get_or s.slabs i d) (whole.slabs i d below)

whole_from : (s t : CacheState) → AreSameSizes s t → IsKeptState t → All HasGoodMarks t.slabs → IsDeadInMoves t → IsWhole s → IsWhole t
whole_from s t sizes kept good dead whole =
    record {
      positive = kept.positive;
      slabs = λ i d below. whole_slab t.chunks (get_or t.slabs i d) (kept.slabs i d below) (good i d below);
      asked = sizes.asked ∙ (whole.asked ∙ ap₂ (λ m n. m * n) (sym sizes.slabs) (sym sizes.chunks));
      limit = omega (arith, whole.limit, sizes.limit);
      dead = dead;
    }

-- every entry keeps a cache whole
pub enter_whole : (s t : CacheState) (entry : CacheEntry) → IsWhole s → enter s entry ≡ Some t → IsWhole t
enter_whole s t entry whole e =
    whole_from s t (enter_sizes s t entry e) (enter_kept s t entry e (whole_kept s whole))
    (enter_marks s t entry e (whole_kept s whole) (whole_marks s whole)) (enter_dead s t entry e whole.dead) whole

answered_dead : (said : Said) (slab : SlabState) (k : ℕ) → is_dead slab ≡ false → is_dead (slab_answered said slab k) ≡ false
answered_dead Yes slab k none = none
answered_dead No slab k none = none
answered_dead Later slab k none = none
answered_dead DontNeed slab k none = none
answered_dead DontKnow slab k none = none

-- what an answer leaves, before its move ends
pub answer_whole : (s : CacheState) (b : ℕ) (said : Said) → IsWhole s → IsWhole (with_answer s b said)
answer_whole s b said whole =
    whole_from s (with_answer s b said) (with_answer_sizes s b said) (with_answer_kept s b said (whole_kept s whole))
    (with_answer_marks s b said (whole_kept s whole) (whole_marks s whole)) (by_out (is_out s b)) whole
  where
    by_out : (x : Bool) → IsDeadInMoves (cond x (on_slab_of s b (slab_answered said)) s)
    by_out true = λ calm. on_slab_dead s b (slab_answered said) (answered_dead said) (whole.dead calm)
    by_out false = whole.dead

-- the end of a move
pub without_move_whole : (s : CacheState) (j : ℕ) → IsWhole s → IsWhole (without_move s j)
without_move_whole s j whole =
    whole_from s (without_move s j) (without_move_sizes s j) (without_move_kept s j (whole_kept s whole)) (without_move_marks s j (whole_marks s whole))
    (without_move_dead s j) whole

any-replicate_none : (n : ℕ) → list_any {X = Option PendingMove} is_some (replicate n None) ≡ false
any-replicate_none zero = refl
any-replicate_none (suc n) = any-replicate_none n

pub opening_calm : (slabs chunks limit : ℕ) → has_pending (opening (sizes_of slabs chunks limit)) ≡ false
opening_calm slabs chunks limit = any-replicate_none limit

pub opening_whole : (slabs chunks limit : ℕ) → 0 < chunks → 0 < limit → IsWhole (opening (sizes_of slabs chunks limit))
opening_whole slabs chunks limit some more =
    record {
      positive = some;
      slabs = λ i d below.
          whole_slab chunks (get_or (replicate slabs (slab_in_source chunks)) i d) (kept.slabs i d below)
          (All-replicate HasGoodMarks slabs (slab_in_source chunks) (plain_marks Source (replicate chunks false)) i d below);
      asked = length-replicate (slabs * chunks) false ∙ ap (λ n. n * chunks) (sym (length-replicate slabs (slab_in_source chunks)));
      limit = omega (arith, more, length-replicate {A = Option PendingMove} limit None);
      dead = λ calm. All-replicate (λ slab. is_dead slab ≡ false) slabs (slab_in_source chunks) refl;
    }
  where
    kept : IsKeptState (opening (sizes_of slabs chunks limit))
    kept = opening_kept slabs chunks limit some

get_or-replicate_default : {A : Type 0} (n i : ℕ) (a : A) → get_or (replicate n a) i a ≡ a
get_or-replicate_default zero i a = refl
get_or-replicate_default (suc n) zero a = refl
get_or-replicate_default (suc n) (suc i) a = get_or-replicate_default n i a

-- at the opening no buffer is out
opening_free : (slabs chunks limit b : ℕ) → is_out (opening (sizes_of slabs chunks limit)) b ≡ false
opening_free slabs chunks limit b =
    ⊎_elim
    (λ below.
    ap (λ (slab : SlabState). is_out_on slab (b % chunks)) (get_or-replicate slabs (b / chunks) (slab_in_source chunks) no_slab below)
    ∙ get_or-replicate_default chunks (b % chunks) false)
    (λ past.
    ap (λ (slab : SlabState). is_out_on slab (b % chunks))
    (get_or_past (replicate slabs (slab_in_source chunks)) (b / chunks) no_slab (omega (arith, past, length-replicate slabs (slab_in_source chunks)))))
    (cases_lt (b / chunks) slabs)

-- a client that knows no object, beside a cache at its opening
pub opening_stage : (slabs chunks limit : ℕ) → 0 < chunks → 0 < limit →
    IsWholeStage (record { cache = opening (sizes_of slabs chunks limit); says = replicate (slabs * chunks) DontKnow })
opening_stage slabs chunks limit some more =
    record {
      cache = opening_whole slabs chunks limit some more;
      calm = opening_calm slabs chunks limit;
      says = length-replicate (slabs * chunks) DontKnow ∙ ap (λ n. n * chunks) (sym (length-replicate slabs (slab_in_source chunks)));
      known = λ b. ap is_known (get_or-replicate_default (slabs * chunks) b DontKnow) ∙ sym (opening_free slabs chunks limit b);
    }
