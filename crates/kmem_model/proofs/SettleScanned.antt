-- What a whole scan of settle leaves: it gains, or it is the last one.
use Rattle.std.proofs.Common.{◌≡◌, ℕ, ◌+◌, ◌*◌, ◌/◌, ◌%◌, ◌<◌, ◌&&◌, ◌||◌, not, Bool, true, false, [], ◌∷◌, map, length, get_or, Option, Some, None, is_some, is_none, option_map, option_and_then, inl, inr, ◌⊎◌, ⊎_elim, sym, ◌∙◌, ap, ap₂, refl, arith}
use Rattle.std.specs.Prelude.{nat_lt, sum_by}
use Rattle.std.specs.List.{list_any}
use Rattle.std.proofs.lemmas.Bool.{both_ways, and_parts, and_from, and_cases, or_cases, or_from, not-true, not-false, not_from_false, ltb-true}
use Rattle.std.proofs.lemmas.List.Folds.{list_any_none, list_any-append}
use Rattle.std.proofs.lemmas.Nat.{div-mul-add, mod-mul-add}
use Rattle.std.proofs.lemmas.List.{get_or_default}
use Rattle.kmem_model.proofs.CacheLists.{reads_within, count_from_none, get_or-map_default}
use Rattle.kmem_model.proofs.CacheChoices.{partial_within}
use Rattle.kmem_model.proofs.CacheSearch.{fails_from_none, least_from_some, is_none_says, none_passes_from_none, foremost_from_some}
use Rattle.kmem_model.proofs.CacheRanks.{comes_before-order, reversed-order}
use Rattle.kmem_model.proofs.SettleWhole.{AreSameSizes, sizes_on, enter_sizes}
use Rattle.kmem_model.proofs.SettleMove.{not_at_limit, no_move_at}
use Rattle.kmem_model.proofs.SettleKept.{IsQuiet, IsHeld, IsMovedOn}
use Rattle.kmem_model.proofs.SettleScan.{with_ended, moves_fit, moved_ends, moved_keeps, scan_whole, scan_from}
use Rattle.kmem_model.specs.CacheState.{SlabState, CacheState, no_slab, slab_at, is_listed, used, is_out_on, is_out, has_pending}
use Rattle.kmem_model.specs.CacheOrder.{least_below, foremost, IsForemost, is_the, is_partial, is_marked, comes_before, first_partial, is_reclaimable, can_move, least_to_move, is_of_move, is_left_out, chosen, is_at_limit, is_off, is_idle}
use Rattle.kmem_model.specs.CacheEnter.{scan_started}
use Rattle.kmem_model.specs.Settle.{Stage, EndedMove, Course, scanned, gains, is_open_slab, is_rest_marked, is_done}
use Rattle.kmem_model.specs.SettleWhole.{IsWholeSlab, IsWhole, IsWholeStage}
use Rattle.kmem_model.specs.SettleMeasure.{slab_gain, gain, IsInSettle}
use Rattle.kmem_model.specs.SettleTurns.{with_cache, course_at}
use Rattle.kmem_model.specs.declared.cache_state.Mode.TheVariants.{Desperate}
use Rattle.kmem_model.specs.declared.cache_entry.CacheEntry.TheVariants.{Scan}

-- An idle cache

is_none_of : {A : Type 0} (o : Option A) → is_some o ≡ false → o ≡ None
is_none_of None e = refl
is_none_of (Some x) e = absurd (cc)

module _ (s : CacheState) (whole : IsWhole s) (calm : has_pending s ≡ false) (desperate : s.mode ≡ Desperate) (idle : is_idle s ≡ true) where
  -- no buffer can be chosen
  none_chosen : chosen s ≡ None
  none_chosen =
      ⊎_elim
      (λ other.
      absurd
      (⊎_elim (λ off. both_ways (is_off s.mode) (ap is_off desperate) off)
      (λ full. both_ways (is_at_limit s) (not_at_limit s whole calm) full)
      (or_cases (is_off s.mode) (is_at_limit s) other)))
      (λ none. is_none_says (chosen s) none)
      (or_cases (is_off s.mode || is_at_limit s) (is_none (chosen s)) idle)

  abbrev least : ℕ → Option ℕ
  least i = least_to_move s.chunks s.numerator s.mode (is_left_out s) s.slabs i

  abbrev last_slab : Option ℕ
  last_slab = foremost (length s.slabs) (λ i. is_some (least i)) (λ j i. comes_before s.slabs i j)

  none_last : last_slab ≡ None
  none_last = by_slab last_slab refl
    where
      by_least : (i : ℕ) (o : Option ℕ) → least i ≡ o → is_some o ≡ true → last_slab ≡ Some i → ⊥
      by_least i None is some last = absurd (cc)
      by_least i (Some k) is some last =
          let found : chosen s ≡ Some (i * s.chunks + k) =
          ap (option_and_then (λ n. option_map (λ g. n * s.chunks + g) (least n))) last ∙ ap (option_map (λ g. i * s.chunks + g)) is in
          let clash : None ≡ Some (i * s.chunks + k) = sym none_chosen ∙ found in
          cc

      by_slab : (o : Option ℕ) → last_slab ≡ o → o ≡ None
      by_slab None is = refl
      by_slab (Some i) is =
          let found : IsForemost (length s.slabs) (λ n. is_some (least n)) (λ j n. comes_before s.slabs n j) i =
          foremost_from_some (length s.slabs) (λ n. is_some (least n)) (λ j n. comes_before s.slabs n j) i is in
          absurd (by_least i (least i) refl found.passes is)

  none_of_slab : (i : ℕ) → i < length s.slabs → least i ≡ None
  none_of_slab i below =
      is_none_of (least i)
      (none_passes_from_none (length s.slabs) (λ n. is_some (least n)) (λ j n. comes_before s.slabs n j)
      (reversed-order (comes_before s.slabs) (comes_before-order s.slabs)) none_last i below)

  none_of_moves : (b : ℕ) → list_any (is_of_move b) s.pending ≡ false
  none_of_moves b =
      list_any_none (is_of_move b) s.pending
      (λ j d below. ap (is_of_move b) (get_or_default s.pending j d None below ∙ no_move_at s whole calm j))

  -- each buffer that is out on a partial slab after the first was asked about
  pub idle_asked : (i k : ℕ) → is_partial (slab_at s.slabs i) ≡ true → is_the (first_partial s.slabs) i ≡ false →
      is_out_on (slab_at s.slabs i) k ≡ true → get_or s.asked (i * s.chunks + k) false ≡ true
  idle_asked i k partial other out =
      ⊎_elim (λ parts. absurd (not_parts parts))
      (λ skip.
      ⊎_elim (λ asked. asked) (λ moves. absurd (both_ways (list_any (is_of_move b) s.pending) (none_of_moves b) moves))
      (or_cases (get_or s.asked b false) (list_any (is_of_move b) s.pending) (not-false (is_left_out s b) skip)))
      (and_cases (is_reclaimable s.chunks s.numerator s.mode (slab_at s.slabs i) && not (is_the (first_partial s.slabs) i) && is_out_on (slab_at s.slabs i) k)
      (not (is_left_out s b)) cannot)
    where
      b : ℕ
      b = i * s.chunks + k

      cannot : can_move s.chunks s.numerator s.mode (is_left_out s) s.slabs i k ≡ false
      cannot =
          fails_from_none (length (slab_at s.slabs i).out) (can_move s.chunks s.numerator s.mode (is_left_out s) s.slabs i)
          (none_of_slab i (partial_within s.slabs i partial)) k (reads_within (slab_at s.slabs i).out k false (λ x. x) refl out)

      reclaimable : is_reclaimable s.chunks s.numerator s.mode (slab_at s.slabs i) ≡ true
      reclaimable = ap (λ m. is_reclaimable s.chunks s.numerator m (slab_at s.slabs i)) desperate ∙ partial

      not_parts : (is_reclaimable s.chunks s.numerator s.mode (slab_at s.slabs i) && not (is_the (first_partial s.slabs) i) && is_out_on (slab_at s.slabs i) k) ≡ false → ⊥
      not_parts h =
          both_ways (is_reclaimable s.chunks s.numerator s.mode (slab_at s.slabs i) && not (is_the (first_partial s.slabs) i) && is_out_on (slab_at s.slabs i) k) h
          (and_from (is_reclaimable s.chunks s.numerator s.mode (slab_at s.slabs i) && not (is_the (first_partial s.slabs) i)) (is_out_on (slab_at s.slabs i) k)
          (and_from (is_reclaimable s.chunks s.numerator s.mode (slab_at s.slabs i)) (not (is_the (first_partial s.slabs) i)) reclaimable
          (not_from_false (is_the (first_partial s.slabs) i) other))
          out)

-- a slab with buffers out has one
out_found : (slab : SlabState) → 0 < used slab → (k : ℕ) × (is_out_on slab k ≡ true)
out_found slab some = by_search (least_below (length slab.out) (is_out_on slab)) refl
  where
    by_search : (o : Option ℕ) → least_below (length slab.out) (is_out_on slab) ≡ o → (k : ℕ) × (is_out_on slab k ≡ true)
    by_search (Some k) is = (k, (least_from_some (length slab.out) (is_out_on slab) k is).passes)
    by_search None is =
        absurd
        (omega (
          arith,
          some,
          count_from_none (λ x. x) slab.out
              (λ i d below. get_or_default slab.out i d false below ∙ fails_from_none (length slab.out) (is_out_on slab) is i below),
        ))

pub partial_some : (slab : SlabState) → is_partial slab ≡ true → 0 < used slab
partial_some slab e =
    let parts : ((is_listed slab && nat_lt 0 (used slab)) ≡ true) × (nat_lt (used slab) (length slab.out) ≡ true) = and_parts _ _ e in
    ltb-true 0 (used slab) (and_parts (is_listed slab) (nat_lt 0 (used slab)) parts.0).1

-- Within a scan

-- since the scan began no slab changed: what was asked about lies on a slab with a mark, or is free
record IsQuietSince (start : Stage) (course : Course) : Type 0 where
  slabs : course.stage.cache.slabs ≡ start.cache.slabs
  none : list_any (λ move. gains move.said) course.moves ≡ false
  asked : (b : ℕ) → get_or course.stage.cache.asked b false ≡ true → is_out start.cache b ≡ true →
      is_marked (slab_at start.cache.slabs (b / start.cache.chunks)) ≡ true

record IsInScan (start : Stage) (course : Course) : Type 0 where
  held : IsHeld course.stage
  sizes : AreSameSizes start.cache course.stage.cache
  mode : course.stage.cache.mode ≡ Desperate
  grows : (gain start.cache < gain course.stage.cache) ⊎ IsQuietSince start course

same_gain : (s t : CacheState) → t.chunks ≡ s.chunks → t.slabs ≡ s.slabs → gain t ≡ gain s
same_gain s t chunks slabs = ap₂ (λ c xs. sum_by (slab_gain c) xs) chunks slabs

same_out : (s t : CacheState) (b : ℕ) → t.chunks ≡ s.chunks → t.slabs ≡ s.slabs → is_out t b ≡ is_out s b
same_out s t b chunks slabs = ap₂ (λ c xs. is_out_on (slab_at xs (b / c)) (b % c)) chunks slabs

in_scan_step : (start : Stage) (course : Course) (move : EndedMove) (t : Stage) → IsInScan start course →
    IsMovedOn course.stage t move.from move.to move.said → IsInScan start (with_ended course move t)
in_scan_step start course move t in' on =
    record {
      held = on.held in'.held;
      sizes = sizes_on start.cache course.stage.cache t.cache in'.sizes on.sizes;
      mode = on.mode ∙ in'.mode;
      grows = grows (on.grows in'.held) in'.grows;
    }
  where
    grows : (gain course.stage.cache < gain t.cache) ⊎ IsQuiet course.stage t move.said →
        (gain start.cache < gain course.stage.cache) ⊎ IsQuietSince start course →
        (gain start.cache < gain t.cache) ⊎ IsQuietSince start (with_ended course move t)
    grows (inl more) (inl before) = inl (omega arith)
    grows (inl more) (inr quiet) =
        inl (omega (arith, more, same_gain start.cache course.stage.cache in'.sizes.chunks quiet.slabs))
    grows (inr quiet) (inl before) = inl (omega (arith, before, same_gain course.stage.cache t.cache on.sizes.chunks quiet.slabs))
    grows (inr now) (inr quiet) =
        inr
        (record {
          slabs = now.slabs ∙ quiet.slabs;
          none = list_any-append (λ m. gains m.said) course.moves (move ∷ []) ∙ or_both quiet.none now.stays;
          asked = λ b e out.
              ⊎_elim (λ old. quiet.asked b old out)
              (λ marked.
              ap₂ (λ c xs. is_marked (slab_at xs (b / c))) (sym in'.sizes.chunks) (sym quiet.slabs) ∙ marked)
              (now.asked b e (same_out start.cache course.stage.cache b in'.sizes.chunks quiet.slabs ∙ out));
        })
      where
        or_both : list_any (λ m. gains m.said) course.moves ≡ false → gains move.said ≡ false →
            (list_any (λ m. gains m.said) course.moves || list_any (λ m. gains m.said) (move ∷ [])) ≡ false
        or_both a b = or_from (list_any (λ m. gains m.said) course.moves) (list_any (λ m. gains m.said) (move ∷ [])) a (or_from (gains move.said) false b refl)

-- A whole scan

pub record IsScanned (stage : Stage) (scan : Course) : Type 0 where
  pub inside : IsInSettle scan.stage
  pub sizes : AreSameSizes stage.cache scan.stage.cache
  pub grows : is_done scan ≡ false → gain stage.cache < gain scan.stage.cache

-- a scan without a change is the last one
quiet_done : (start : Stage) (scan : Course) → IsWholeStage scan.stage → IsInScan start scan → is_idle scan.stage.cache ≡ true →
    IsQuietSince start scan → is_done scan ≡ true
quiet_done start scan whole in' idle quiet =
    and_from (not (list_any (λ move. gains move.said) scan.moves)) (is_rest_marked s.slabs)
    (not_from_false (list_any (λ move. gains move.said) scan.moves) quiet.none) (by_open (least_below (length s.slabs) (is_open_slab s.slabs)) refl)
  where
    s : CacheState
    s = scan.stage.cache

    open_closed : (i : ℕ) → is_open_slab s.slabs i ≡ true → ⊥
    open_closed i open' =
        let parts = and_parts (is_partial (slab_at s.slabs i) && not (is_marked (slab_at s.slabs i))) (not (is_the (first_partial s.slabs) i)) open' in
        let more = and_parts (is_partial (slab_at s.slabs i)) (not (is_marked (slab_at s.slabs i))) parts.0 in
        let below : i < length s.slabs = partial_within s.slabs i more.0 in
        let slab : IsWholeSlab s.chunks (slab_at s.slabs i) = whole.cache.slabs i no_slab below in
        let (k, out) = out_found (slab_at s.slabs i) (partial_some (slab_at s.slabs i) more.0) in
        let asked : get_or s.asked (i * s.chunks + k) false ≡ true =
        idle_asked s whole.cache whole.calm in'.mode idle i k more.0 (not-true (is_the (first_partial s.slabs) i) parts.1) out in
        let row : (i * s.chunks + k) / s.chunks ≡ i =
        div-mul-add i s.chunks k (omega (arith, slab.size, reads_within (slab_at s.slabs i).out k false (λ x. x) refl out)) in
        let index : (i * s.chunks + k) % s.chunks ≡ k =
        mod-mul-add i s.chunks k (omega (arith, slab.size, reads_within (slab_at s.slabs i).out k false (λ x. x) refl out)) in
        let out_now : is_out s (i * s.chunks + k) ≡ true = ap₂ (λ r n. is_out_on (slab_at s.slabs r) n) row index ∙ out in
        let marked : is_marked (slab_at start.cache.slabs ((i * s.chunks + k) / start.cache.chunks)) ≡ true =
        quiet.asked (i * s.chunks + k) asked (sym (same_out start.cache s (i * s.chunks + k) in'.sizes.chunks quiet.slabs) ∙ out_now) in
        let marked_now : is_marked (slab_at s.slabs i) ≡ true =
        ap (λ r. is_marked (slab_at s.slabs r)) (sym row)
        ∙ (ap₂ (λ c xs. is_marked (slab_at xs ((i * s.chunks + k) / c))) in'.sizes.chunks quiet.slabs ∙ marked) in
        both_ways (is_marked (slab_at s.slabs i)) (not-true (is_marked (slab_at s.slabs i)) more.1) marked_now

    by_open : (o : Option ℕ) → least_below (length s.slabs) (is_open_slab s.slabs) ≡ o → is_none o ≡ true
    by_open None is = refl
    by_open (Some i) is =
        absurd (open_closed i (least_from_some (length s.slabs) (is_open_slab s.slabs) i is).passes)

pub scan_says : (stage : Stage) (scan : Course) → IsInSettle stage → scanned stage ≡ Some scan → IsScanned stage scan
scan_says stage scan inside e =
    let (whole, in', idle) = moved_keeps (IsInScan stage) (λ course move t old now next on. in_scan_step stage course move t now on)
    (length started.cache.asked + 1) (course_at started) scan begun begins (sym (scan_from stage (scan_started stage.cache true) refl) ∙ e) in
    record {
      inside = record { whole = whole; held = in'.held };
      sizes = in'.sizes;
      grows = λ more.
          ⊎_elim (λ grew. grew)
          (λ quiet. absurd (both_ways (is_done scan) more (quiet_done stage scan whole in' idle quiet)))
          in'.grows;
    }
  where
    started : Stage
    started = with_cache stage (scan_started stage.cache true)

    begun : IsWholeStage started
    begun = scan_whole stage (scan_started stage.cache true) inside.whole refl

    none_asked : (b : ℕ) → get_or (map (λ (x : Bool). false) stage.cache.asked) b false ≡ false
    none_asked b = get_or-map_default (λ (x : Bool). false) stage.cache.asked b false

    begins : IsInScan stage (course_at started)
    begins =
        record {
          held = inside.held;
          sizes = enter_sizes stage.cache (scan_started stage.cache true) (Scan true) refl;
          mode = refl;
          grows =
              inr
              (record {
                slabs = refl;
                none = refl;
                asked = λ b asked out. absurd (both_ways (get_or (map (λ (x : Bool). false) stage.cache.asked) b false) (none_asked b) asked);
              });
        }

-- every scan comes to an end
pub scan_ends : (stage : Stage) → IsWholeStage stage → (scan : Course) × (scanned stage ≡ Some scan)
scan_ends stage whole =
    let started : Stage = with_cache stage (scan_started stage.cache true) in
    let begun : IsWholeStage started = scan_whole stage (scan_started stage.cache true) whole refl in
    let (scan, e) = moved_ends (length started.cache.asked + 1) (course_at started) begun (moves_fit started) in
    (scan, scan_from stage (scan_started stage.cache true) refl ∙ e)
