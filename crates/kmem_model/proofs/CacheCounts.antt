-- What the entries of a history make out and free adds up to the buffers out, and what they begin and end to the moves pending.
use Rattle.std.proofs.Common.{◌≡◌, ℕ, zero, suc, ◌+◌, ◌*◌, ◌/◌, ◌%◌, ◌<◌, ◌==◌, ◌&&◌, ◌++◌, ◌⊎◌, ◌≢◌, inl, inr, nat_lt, not, Bool, true, false, cond, List, [], ◌∷◌, length, map, set, count_by, All, Option, Some, None, is_some, is_none, option_map, option_and_then, ⊎_elim, sym, ◌∙◌, ap, ap₂, refl, subst, arith, add-zero}
use Rattle.std.specs.List.{sum_by}
use Rattle.std.specs.Option.{option_or}
use Rattle.std.proofs.lemmas.Bool.{cases_lt, le-ltb, lt-ltb, cases_eq, both_ways, cond-true, cond-false, cond_both, and_parts, not-true, eq-eqb, ne_eqb}
use Rattle.std.proofs.lemmas.List.Sums.{sum_by-cons, sum_by-set}
use Rattle.std.proofs.lemmas.List.Folds.{sum_by-replicate}
use Rattle.std.proofs.lemmas.Nat.{div-mul-add, mod-mul-add}
use Rattle.kmem_model.proofs.CacheLists.{reads_within, count-set_more, count-set_less, passes_none}
use Rattle.kmem_model.proofs.CacheSearch.{least_from_some, foremost_from_some, is_none_says}
use Rattle.kmem_model.proofs.CacheChoices.{map_says, is_the_says, same_standing_says}
use Rattle.kmem_model.proofs.CacheKept.{FitsCount, IsKeptState, IsKeptSlab, enter_kept, opening_kept}
use Rattle.kmem_model.proofs.PlacesKept.{then_some_says, and_then_says}
use Rattle.kmem_model.proofs.Outs.{listed_out, freed_out, out_on}
use Rattle.kmem_model.proofs.SettleMove.{answered_out}
use Rattle.kmem_model.proofs.SettleFewest.{out_forgotten}
use Rattle.kmem_model.specs.CacheState.{sizes_of, SlabState, CacheState, no_slab, slab_in_source, slab_at, is_in_source, is_dead, is_listed, used, is_out, is_out_on, move_at, has_pending, out_count, pending_count, opening}
use Rattle.kmem_model.specs.CacheOrder.{least_below, IsLeastBelow, IsForemost, is_the, is_partial, comes_before, first_partial, least_free, first_partial_free, first_of_slab, wanted, is_idle, chosen, free_number}
use Rattle.kmem_model.specs.CacheEnter.{unmarked, slab_taken, slab_freed, slab_given_back, slab_answered, on_slab_of, with_out, emptied_goes, freed, all_freed, handed_back, without_move, with_move, with_answer, scan_started, may_take, may_begin, gone, ended, enter}
use Rattle.kmem_model.specs.CacheHistory.{state_after, entered_all, Follows}
use Rattle.kmem_model.specs.CacheCounts.{made_out, handed_by, made_free, moves_begun, moves_ended, total, entries_in, entries_by, total_before}
use Rattle.kmem_model.specs.declared.cache_state.Standing.{Standing}
use Rattle.kmem_model.specs.declared.cache_state.Standing.TheVariants.{Source, Listed, Dead}
use Rattle.kmem_model.specs.declared.cache_state.PendingMove.{PendingMove}
use Rattle.kmem_model.specs.declared.cache_entry.Said.{Said}
use Rattle.kmem_model.specs.declared.cache_entry.Said.TheVariants.{Yes, No, Later, DontNeed, DontKnow}
use Rattle.kmem_model.specs.declared.cache_entry.CacheEntry.{CacheEntry}
use Rattle.kmem_model.specs.declared.cache_entry.CacheEntry.TheVariants.{Alloc, Full, Free, Scan, Begin, Idle, Gone, End, Forget}

-- One slab

taken_used : (slab : SlabState) (k : ℕ) → k < length slab.out → is_out_on slab k ≡ false → used (slab_taken slab k) ≡ used slab + 1
taken_used slab k below free =
    ap (λ out. count_by (λ x. x) (set out k true)) (listed_out slab) ∙ count-set_more (λ x. x) slab.out k true false below free refl

freed_used : (to : Standing) (slab : SlabState) (k : ℕ) → is_out_on slab k ≡ true → used (slab_freed to slab k) + 1 ≡ used slab
freed_used to slab k out =
    ap (λ flags. count_by (λ x. x) flags + 1) (freed_out to slab k) ∙ count-set_less (λ x. x) slab.out k false false (reads_within slab.out k false (λ x. x) refl out) out refl

given_back_used : (slab : SlabState) → used (slab_given_back slab) ≡ used slab
given_back_used slab = cond_both (is_dead slab) _ _ (λ (s : SlabState). used s ≡ used slab) (λ e. refl) (λ e. refl)

-- All slabs

-- a change of one slab
on_slab_count : (s : CacheState) (b more less : ℕ) (change : SlabState → ℕ → SlabState) → b / s.chunks < length s.slabs →
    used (change (slab_at s.slabs (b / s.chunks)) (b % s.chunks)) + less ≡ used (slab_at s.slabs (b / s.chunks)) + more →
    out_count (on_slab_of s b change) + less ≡ out_count s + more
on_slab_count s b more less change below e =
    omega (arith, e, sum_by-set used s.slabs (b / s.chunks) (change (slab_at s.slabs (b / s.chunks)) (b % s.chunks)) no_slab below)

freed_count : (s t : CacheState) (b : ℕ) → freed s b ≡ Some t → out_count t + 1 ≡ out_count s
freed_count s t b e =
    let says = then_some_says (is_out s b) (on_slab_of s b (slab_freed (emptied_goes s))) t e in
    let on = out_on s b says.0 in
    ap (λ x. out_count x + 1) (sym says.1)
    ∙ (on_slab_count s b 0 1 (slab_freed (emptied_goes s)) on.0
    (omega (arith, freed_used (emptied_goes s) (slab_at s.slabs (b / s.chunks)) (b % s.chunks) says.0))
    ∙ add-zero (out_count s))

all_freed_count : (bs : List ℕ) (s t : CacheState) → all_freed s bs ≡ Some t → out_count t + length bs ≡ out_count s
all_freed_count [] s t e = let same : s ≡ t = cc in omega (arith, ap out_count same)
all_freed_count (b ∷ bs) s t e =
    let (x, e1, e2) = and_then_says (λ next. all_freed next bs) (freed s b) t e in
    omega (arith, freed_count s x b e1, all_freed_count bs x t e2)

given_back_count : (slabs : List SlabState) → sum_by used (map slab_given_back slabs) ≡ sum_by used slabs
given_back_count [] = refl
given_back_count (slab ∷ slabs) =
    omega (arith, given_back_count slabs, given_back_used slab, sum_by-cons used slab slabs, sum_by-cons used (slab_given_back slab) (map slab_given_back slabs))

without_move_count : (s : CacheState) (j : ℕ) → out_count (without_move s j) ≡ out_count s
without_move_count s j =
    cond_both (has_pending (record s { pending = set s.pending j None })) _ _ (λ (t : CacheState). out_count t ≡ out_count s)
    (λ still. refl)
    (λ none. given_back_count s.slabs)

with_answer_count : (s : CacheState) (b : ℕ) (said : Said) → out_count (with_answer s b said) ≡ out_count s
with_answer_count s b said =
    cond_both (is_out s b) _ _ (λ (t : CacheState). out_count t ≡ out_count s)
    (λ out. omega (
      arith,
      on_slab_count s b 0 0 (slab_answered said) (out_on s b out).0
          (ap (λ flags. count_by (λ x. x) flags + 0) (answered_out said (slab_at s.slabs (b / s.chunks)) (b % s.chunks))),
    ))
    (λ free. refl)

-- Buffers that may be taken

-- a free buffer, by its slab and its index there
record IsFreeAt (s : CacheState) (b : ℕ) : Type 0 where
  row : b / s.chunks < length s.slabs
  within : b % s.chunks < length (slab_at s.slabs (b / s.chunks)).out
  free : is_out_on (slab_at s.slabs (b / s.chunks)) (b % s.chunks) ≡ false

free_at : (s : CacheState) (i k b : ℕ) → IsKeptState s → i < length s.slabs → k < length (slab_at s.slabs i).out → is_out_on (slab_at s.slabs i) k ≡ false →
    i * s.chunks + k ≡ b → IsFreeAt s b
free_at s i k b kept row within free at =
    let size : length (slab_at s.slabs i).out ≡ s.chunks = (kept.slabs i no_slab row).size in
    let below : k < s.chunks = omega (arith, size, within) in
    let x : b / s.chunks ≡ i = ap (λ n. n / s.chunks) (sym at) ∙ div-mul-add i s.chunks k below in
    let y : b % s.chunks ≡ k = ap (λ n. n % s.chunks) (sym at) ∙ mod-mul-add i s.chunks k below in
    record {
      row = omega (arith, x, row);
      within = subst (λ n. n < length (slab_at s.slabs (b / s.chunks)).out) (sym y) (subst (λ n. k < length (slab_at s.slabs n).out) (sym x) within);
      free = ap₂ (λ n m. is_out_on (slab_at s.slabs n) m) x y ∙ free;
    }

partial_free : (s : CacheState) (b : ℕ) → IsKeptState s → first_partial_free s.chunks s.slabs ≡ Some b → IsFreeAt s b
partial_free s b kept e =
    let (i, first, g) = and_then_says (λ i. option_map (λ k. i * s.chunks + k) (least_free (slab_at s.slabs i))) (first_partial s.slabs) b e in
    let (k, least, place) = map_says (λ k. i * s.chunks + k) (least_free (slab_at s.slabs i)) b g in
    let found : IsForemost (length s.slabs) (λ n. is_partial (slab_at s.slabs n)) (comes_before s.slabs) i =
    foremost_from_some (length s.slabs) (λ n. is_partial (slab_at s.slabs n)) (comes_before s.slabs) i first in
    let free : IsLeastBelow (length (slab_at s.slabs i).out) (λ n. not (is_out_on (slab_at s.slabs i) n)) k =
    least_from_some (length (slab_at s.slabs i).out) (λ n. not (is_out_on (slab_at s.slabs i) n)) k least in
    free_at s i k b kept found.below free.below (not-true (is_out_on (slab_at s.slabs i) k) free.passes) place

-- a slab that isn't listed has no buffer out
unlisted_free : (chunks : ℕ) (slab : SlabState) → IsKeptSlab chunks slab → is_listed slab ≡ false → is_out_on slab 0 ≡ false
unlisted_free chunks slab kept unlisted = passes_none (λ x. x) slab.out 0 refl (by_standing slab.standing refl kept.fits)
  where
    by_standing : (standing : Standing) → slab.standing ≡ standing → FitsCount standing (count_by (λ x. x) slab.out) → count_by (λ x. x) slab.out ≡ 0
    by_standing Source e fits = fits
    by_standing Dead e fits = fits
    by_standing Listed e fits = absurd (both_ways (is_listed slab) unlisted (ap (λ x. is_listed (record slab { standing = x })) e))

slab_free : (s : CacheState) (test : SlabState → Bool) (b : ℕ) → ((slab : SlabState) → test slab ≡ true → is_listed slab ≡ false) → IsKeptState s →
    first_of_slab s.chunks s.slabs test ≡ Some b → IsFreeAt s b
slab_free s test b apart kept e =
    let (i, least, place) = map_says (λ i. i * s.chunks) (least_below (length s.slabs) (λ i. test (slab_at s.slabs i))) b e in
    let found : IsLeastBelow (length s.slabs) (λ n. test (slab_at s.slabs n)) i = least_from_some (length s.slabs) (λ n. test (slab_at s.slabs n)) i least in
    let slab : IsKeptSlab s.chunks (slab_at s.slabs i) = kept.slabs i no_slab found.below in
    free_at s i 0 b kept found.below (omega (arith, slab.size, kept.positive)) (unlisted_free s.chunks (slab_at s.slabs i) slab (apart (slab_at s.slabs i) found.passes)) (omega (arith, place))

or_says : (x y : Option ℕ) (b : ℕ) → option_or x y ≡ Some b → (x ≡ Some b) ⊎ (y ≡ Some b)
or_says None y b e = inr e
or_says (Some n) y b e = inl e

wanted_free : (s : CacheState) (b : ℕ) → IsKeptState s → wanted s ≡ Some b → IsFreeAt s b
wanted_free s b kept e =
    ⊎_elim (λ partial. partial_free s b kept partial)
    (λ others. ⊎_elim (λ source. slab_free s is_in_source b source_apart kept source) (λ dead. slab_free s is_dead b dead_apart kept dead)
    (or_says (first_of_slab s.chunks s.slabs is_in_source) (first_of_slab s.chunks s.slabs is_dead) b others))
    (or_says (first_partial_free s.chunks s.slabs) (option_or (first_of_slab s.chunks s.slabs is_in_source) (first_of_slab s.chunks s.slabs is_dead)) b e)
  where
    source_apart : (slab : SlabState) → is_in_source slab ≡ true → is_listed slab ≡ false
    source_apart slab is = ap (λ x. is_listed (record slab { standing = x })) (sym (same_standing_says Source slab.standing is))

    dead_apart : (slab : SlabState) → is_dead slab ≡ true → is_listed slab ≡ false
    dead_apart slab is = ap (λ x. is_listed (record slab { standing = x })) (sym (same_standing_says Dead slab.standing is))

taken_count : (s : CacheState) (b : ℕ) → IsFreeAt s b → out_count (with_out s b) ≡ out_count s + 1
taken_count s b at =
    sym (add-zero (out_count (with_out s b)))
    ∙ on_slab_count s b 1 0 slab_taken at.row (omega (arith, taken_used (slab_at s.slabs (b / s.chunks)) (b % s.chunks) at.within at.free))

-- One entry

-- what a move that may begin takes
begin_parts : (s : CacheState) (j : ℕ) (m : PendingMove) → may_begin s j m ≡ true → (first_partial_free s.chunks s.slabs ≡ Some m.to) × (free_number s ≡ Some j)
begin_parts s j m may =
    let parts = and_parts (not (is_idle s) && is_the (free_number s) j && is_the (chosen s) m.from) (is_the (first_partial_free s.chunks s.slabs) m.to) may in
    let more = and_parts (not (is_idle s) && is_the (free_number s) j) (is_the (chosen s) m.from) parts.0 in
    (is_the_says (first_partial_free s.chunks s.slabs) m.to parts.1, is_the_says (free_number s) j (and_parts (not (is_idle s)) (is_the (free_number s) j) more.0).1)

handed_length : (said : Said) (m : PendingMove) → length (handed_back said m) ≡ handed_by said
handed_length Yes m = refl
handed_length No m = refl
handed_length Later m = refl
handed_length DontNeed m = refl
handed_length DontKnow m = refl

gone_count : (s t : CacheState) (j : ℕ) (m : PendingMove) → gone s j m ≡ Some t → out_count t + 1 ≡ out_count s
gone_count s t j m e = by_out (is_out s m.from) e
  where
    by_out : (b : Bool) → cond b None (option_map (λ next. without_move next j) (freed s m.to)) ≡ Some t → out_count t + 1 ≡ out_count s
    by_out true h = absurd (cc)
    by_out false h =
        let (x, e1, same) = map_says (λ next. without_move next j) (freed s m.to) t h in
        omega (arith, ap out_count (sym same), without_move_count x j, freed_count s x m.to e1)

ended_count : (s t : CacheState) (j : ℕ) (said : Said) (m : PendingMove) → ended s j said m ≡ Some t → out_count t + handed_by said ≡ out_count s
ended_count s t j said m e =
    let (x, e1, same) = map_says (λ next. without_move (with_answer next m.from said) j) (all_freed s (handed_back said m)) t e in
    omega (arith, ap out_count (sym same), without_move_count (with_answer x m.from said) j, with_answer_count x m.from said, all_freed_count (handed_back said m) s x e1, handed_length said m)

pub enter_counts : (s t : CacheState) (entry : CacheEntry) → IsKeptState s → enter s entry ≡ Some t → out_count t + made_free entry ≡ out_count s + made_out entry
enter_counts s t (Alloc b) kept e =
    let says = then_some_says (may_take s b) (with_out s b) t e in
    omega (arith, ap out_count (sym says.1), taken_count s b (wanted_free s b kept (is_the_says (wanted s) b says.0)))
enter_counts s t Full kept e = ap (λ x. out_count x + 0) (sym (then_some_says _ _ _ e).1)
enter_counts s t (Free b) kept e = omega (arith, freed_count s t b e)
enter_counts s t (Scan desperate) kept e =
    let same : scan_started s desperate ≡ t = cc in
    ap (λ x. out_count x + 0) (sym same)
enter_counts s t (Begin j from to) kept e =
    let m : PendingMove = record { from = from; to = to } in
    let says = then_some_says (may_begin s j m) (with_move s j m) t e in
    omega (arith, ap out_count (sym says.1), taken_count s to (partial_free s to kept (begin_parts s j m says.0).0))
enter_counts s t Idle kept e = ap (λ x. out_count x + 0) (sym (then_some_says _ _ _ e).1)
enter_counts s t (Gone j) kept e =
    let (m, there, h) = and_then_says (gone s j) (move_at s j) t e in omega (arith, gone_count s t j m h)
enter_counts s t (End j said) kept e =
    let (m, there, h) = and_then_says (ended s j said) (move_at s j) t e in omega (arith, ended_count s t j said m h)
enter_counts s t Forget kept e =
    let same : record s { slabs = map unmarked s.slabs } ≡ t = cc in
    ap (λ x. out_count x + 0) (sym same) ∙ ap (λ n. n + 0) (out_forgotten s.slabs)

-- Pending moves

freed_pending : (s t : CacheState) (b : ℕ) → freed s b ≡ Some t → t.pending ≡ s.pending
freed_pending s t b e = ap (λ (x : CacheState). x.pending) (sym (then_some_says (is_out s b) (on_slab_of s b (slab_freed (emptied_goes s))) t e).1)

all_freed_pending : (bs : List ℕ) (s t : CacheState) → all_freed s bs ≡ Some t → t.pending ≡ s.pending
all_freed_pending [] s t e = let same : s ≡ t = cc in ap (λ (x : CacheState). x.pending) (sym same)
all_freed_pending (b ∷ bs) s t e =
    let (x, e1, e2) = and_then_says (λ next. all_freed next bs) (freed s b) t e in
    all_freed_pending bs x t e2 ∙ freed_pending s x b e1

with_answer_pending : (s : CacheState) (b : ℕ) (said : Said) → (with_answer s b said).pending ≡ s.pending
with_answer_pending s b said = cond_both (is_out s b) _ _ (λ (t : CacheState). t.pending ≡ s.pending) (λ out. refl) (λ free. refl)

without_move_pending : (s : CacheState) (j : ℕ) → (without_move s j).pending ≡ set s.pending j None
without_move_pending s j =
    cond_both (has_pending (record s { pending = set s.pending j None })) _ _ (λ (t : CacheState). t.pending ≡ set s.pending j None) (λ still. refl) (λ none. refl)

-- one move less
cleared_count : (s x t : CacheState) (j : ℕ) (m : PendingMove) → move_at s j ≡ Some m → x.pending ≡ s.pending → without_move x j ≡ t → pending_count t + 1 ≡ pending_count s
cleared_count s x t j m there same is =
    ap (λ (y : CacheState). pending_count y + 1) (sym is)
    ∙ (ap (λ ps. count_by is_some ps + 1) (without_move_pending x j ∙ ap (λ ps. set ps j None) same)
    ∙ count-set_less is_some s.pending j None None (reads_within s.pending j None is_some refl (ap is_some there)) (ap is_some there) refl)

pub enter_pending : (s t : CacheState) (entry : CacheEntry) → enter s entry ≡ Some t → pending_count t + moves_ended entry ≡ pending_count s + moves_begun entry
enter_pending s t (Alloc b) e = ap (λ x. pending_count x + 0) (sym (then_some_says (may_take s b) (with_out s b) t e).1)
enter_pending s t Full e = ap (λ x. pending_count x + 0) (sym (then_some_says _ _ _ e).1)
enter_pending s t (Free b) e = ap (λ ps. count_by is_some ps + 0) (freed_pending s t b e)
enter_pending s t (Scan desperate) e =
    let same : scan_started s desperate ≡ t = cc in
    ap (λ x. pending_count x + 0) (sym same)
enter_pending s t (Begin j from to) e =
    let m : PendingMove = record { from = from; to = to } in
    let says = then_some_says (may_begin s j m) (with_move s j m) t e in
    let found : IsLeastBelow (length s.pending) (λ i. is_none (move_at s i)) j = least_from_some (length s.pending) (λ i. is_none (move_at s i)) j (begin_parts s j m says.0).1 in
    omega (arith, ap pending_count (sym says.1), count-set_more is_some s.pending j (Some m) None found.below (ap is_some (is_none_says (move_at s j) found.passes)) refl)
enter_pending s t Idle e = ap (λ x. pending_count x + 0) (sym (then_some_says _ _ _ e).1)
enter_pending s t (Gone j) e =
    let (m, there, h) = and_then_says (gone s j) (move_at s j) t e in by_out m there (is_out s m.from) h
  where
    by_out : (m : PendingMove) → move_at s j ≡ Some m → (b : Bool) → cond b None (option_map (λ next. without_move next j) (freed s m.to)) ≡ Some t → pending_count t + 1 ≡ pending_count s + 0
    by_out m there true h = absurd (cc)
    by_out m there false h =
        let (x, e1, same) = map_says (λ next. without_move next j) (freed s m.to) t h in
        omega (arith, cleared_count s x t j m there (freed_pending s x m.to e1) same)
enter_pending s t (End j said) e =
    let (m, there, h) = and_then_says (ended s j said) (move_at s j) t e in
    let (x, e1, same) = map_says (λ next. without_move (with_answer next m.from said) j) (all_freed s (handed_back said m)) t h in
    omega (arith, cleared_count s (with_answer x m.from said) t j m there (with_answer_pending x m.from said ∙ all_freed_pending (handed_back said m) s x e1) same)
enter_pending s t Forget e =
    let same : record s { slabs = map unmarked s.slabs } ≡ t = cc in
    ap (λ x. pending_count x + 0) (sym same)

-- Lists of entries

pub follows_counts : (es : List CacheEntry) (s t : CacheState) → IsKeptState s → Follows s es t → out_count t + total made_free es ≡ out_count s + total made_out es
follows_counts [] s t kept e = let both : Some s ≡ Some t = e in let same : s ≡ t = cc in ap (λ x. out_count x + 0) (sym same)
follows_counts (x ∷ xs) s t kept e =
    let (n, e1, e2) = and_then_says (λ next. entered_all next xs) (enter s x) t e in
    omega (arith, enter_counts s n x kept e1, follows_counts xs n t (enter_kept s n x e1 kept) e2)

pub follows_pending : (es : List CacheEntry) (s t : CacheState) → Follows s es t → pending_count t + total moves_ended es ≡ pending_count s + total moves_begun es
follows_pending [] s t e = let both : Some s ≡ Some t = e in let same : s ≡ t = cc in ap (λ x. pending_count x + 0) (sym same)
follows_pending (x ∷ xs) s t e =
    let (n, e1, e2) = and_then_says (λ next. entered_all next xs) (enter s x) t e in
    omega (arith, enter_pending s n x e1, follows_pending xs n t e2)

-- the entries of a history lead where the history does
pub history_follows : (history : List (ℕ × CacheEntry)) (s : CacheState) → state_after s history ≡ entered_all s (entries_in history)
history_follows [] s = refl
history_follows (x ∷ xs) s = by_next xs (enter s x.1) (λ next. history_follows xs next)
  where
    by_next : (xs : List (ℕ × CacheEntry)) (o : Option CacheState) → ((next : CacheState) → state_after next xs ≡ entered_all next (entries_in xs)) →
        option_and_then (λ next. state_after next xs) o ≡ option_and_then (λ next. entered_all next (entries_in xs)) o
    by_next xs None later = refl
    by_next xs (Some next) later = later next

pub total-append : (weight : CacheEntry → ℕ) (xs ys : List CacheEntry) → total weight (xs ++ ys) ≡ total weight xs + total weight ys
total-append weight [] ys = omega arith
total-append weight (x ∷ xs) ys = omega (arith, total-append weight xs ys)

-- The opening

opening_out : (slabs chunks limit : ℕ) → out_count (opening (sizes_of slabs chunks limit)) ≡ 0
opening_out slabs chunks limit =
    sum_by-replicate used slabs (slab_in_source chunks)
    ∙ omega (arith, ap (λ n. slabs * n) none)
  where
    none : used (slab_in_source chunks) ≡ 0
    none = sum_by-replicate (λ (x : Bool). cond x 1 0) chunks false ∙ omega arith

opening_pending : (slabs chunks limit : ℕ) → pending_count (opening (sizes_of slabs chunks limit)) ≡ 0
opening_pending slabs chunks limit = sum_by-replicate (λ (x : Option PendingMove). cond (is_some x) 1 0) limit None ∙ omega arith

pub history_counts : (slabs chunks limit : ℕ) (history : List (ℕ × CacheEntry)) (s : CacheState) → 0 < chunks → state_after (opening (sizes_of slabs chunks limit)) history ≡ Some s →
    out_count s + total made_free (entries_in history) ≡ total made_out (entries_in history)
history_counts slabs chunks limit history s positive e =
    omega (arith, opening_out slabs chunks limit, follows_counts (entries_in history) (opening (sizes_of slabs chunks limit)) s (opening_kept slabs chunks limit positive) (sym (history_follows history (opening (sizes_of slabs chunks limit))) ∙ e))

pub history_pending : (slabs chunks limit : ℕ) (history : List (ℕ × CacheEntry)) (s : CacheState) → state_after (opening (sizes_of slabs chunks limit)) history ≡ Some s →
    pending_count s + total moves_ended (entries_in history) ≡ total moves_begun (entries_in history)
history_pending slabs chunks limit history s e =
    omega (arith, opening_pending slabs chunks limit, follows_pending (entries_in history) (opening (sizes_of slabs chunks limit)) s (sym (history_follows history (opening (sizes_of slabs chunks limit))) ∙ e))

-- Pass by pass

-- one entry more in front is counted at its own pass alone
entry_before : (passes : ℕ) (weight : CacheEntry → ℕ) (e : ℕ × CacheEntry) (h : List (ℕ × CacheEntry)) →
    total_before passes weight (e ∷ h) ≡ total_before passes weight h + cond (nat_lt e.0 passes) (weight e.1) 0
entry_before zero weight e h = sym (ap (λ b. 0 + cond b (weight e.1) 0) (nlt0 e.0))
  where
    nlt0 : (n : ℕ) → nat_lt n 0 ≡ false
    nlt0 n = le-ltb n 0 (omega arith)
entry_before (suc pass) weight e h =
    ⊎_elim
    (λ same.
    let kept : ◌≡◌ {A = ℕ} (total weight (entries_by pass (e ∷ h))) (weight e.1 + total weight (entries_by pass h)) = ap (λ es. total weight (entries_in es)) (cond-true (e.0 == pass) _ _ (eq-eqb e.0 pass same)) in
    let low : ◌≡◌ {A = ℕ} (cond (nat_lt e.0 pass) (weight e.1) 0) 0 = ap {B = ℕ} (λ b. cond b (weight e.1) 0) (le-ltb e.0 pass (omega (arith, same))) in
    let high : ◌≡◌ {A = ℕ} (cond (nat_lt e.0 (suc pass)) (weight e.1) 0) (weight e.1) = ap {B = ℕ} (λ b. cond b (weight e.1) 0) (lt-ltb e.0 (suc pass) (omega (arith, same))) in
    omega (arith, kept, low, high, entry_before pass weight e h))
    (λ other.
    let kept : total weight (entries_by pass (e ∷ h)) ≡ total weight (entries_by pass h) = ap (λ es. total weight (entries_in es)) (cond-false (e.0 == pass) _ _ (ne_eqb e.0 pass other)) in
    omega (arith, kept, same_side other, entry_before pass weight e h))
    (cases_eq e.0 pass)
  where
    same_side : e.0 ≢ pass → cond (nat_lt e.0 (suc pass)) (weight e.1) 0 ≡ cond (nat_lt e.0 pass) (weight e.1) 0
    same_side other =
        ⊎_elim
        (λ below. ap (λ b. cond b (weight e.1) 0) (lt-ltb e.0 (suc pass) (omega (arith, below)) ∙ sym (lt-ltb e.0 pass below)))
        (λ past. ap (λ b. cond b (weight e.1) 0) (le-ltb e.0 (suc pass) (omega (arith, past, other)) ∙ sym (le-ltb e.0 pass past)))
        (cases_lt e.0 pass)

none_before : (passes : ℕ) (weight : CacheEntry → ℕ) → total_before passes weight [] ≡ 0
none_before zero weight = refl
none_before (suc pass) weight = omega (arith, none_before pass weight)

pub by_passes : (passes : ℕ) (weight : CacheEntry → ℕ) (h : List (ℕ × CacheEntry)) → All (λ (e : ℕ × CacheEntry). e.0 < passes) h → total_before passes weight h ≡ total weight (entries_in h)
by_passes passes weight [] below = none_before passes weight
by_passes passes weight (e ∷ h) below =
    let here : ◌≡◌ {A = ℕ} (cond (nat_lt e.0 passes) (weight e.1) 0) (weight e.1) = ap {B = ℕ} (λ b. cond b (weight e.1) 0) (lt-ltb e.0 passes (below 0 e (omega arith))) in
    omega (arith, here, entry_before passes weight e h, by_passes passes weight h (λ i d within. below (suc i) d (omega (arith, within))))
