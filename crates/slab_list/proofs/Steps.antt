-- What each call does to the fields, and to the slabs that they stand for.
use Rattle.std.proofs.Common.{◌≡◌, ℕ, ◌+◌, ◌-◌, ◌*◌, ◌/◌, ◌%◌, ◌<◌, ◌≤◌, Bool, true, false, cond, eqb, ◌||◌, List, [], ◌∷◌, map, length, get_or, set, replicate, count_by, Option, Some, None, ⊎_elim, sym, ◌∙◌, ap, ap₂, refl, arith, subst, min}
use Rattle.std.specs.Prelude.{slice_get}
use Rattle.std.specs.Option.{option_or}
use Rattle.std.proofs.Math.Nat.{div-lt_iff_lt-mul}
use Rattle.std.proofs.lemmas.Bool.{cases_lt, both_ways, cases_Bool}
use Rattle.std.proofs.lemmas.List.{length-map, get_or_past, map-set, get_or-map, get_or_default}
use Rattle.std.proofs.lemmas.List.Sums.{sum_by-cons, sum_by-set, count_by-le-length, get_or-le-sum_by}
use Rattle.std.proofs.lemmas.Option.{slice_get-get_or}
use Rattle.kmem_buf.specs.Buffers.{CellState}
use Rattle.kmem_buf.specs.Stubs.{nowhere}
use Rattle.kmem_buf.specs.Homes.{cell_homes}
use Rattle.kmem_model.specs.CacheState.{SlabState, slab_at, no_slab, is_same_standing, is_listed, is_dead, used, is_out_on}
use Rattle.kmem_model.specs.CacheOrder.{is_the}
use Rattle.kmem_model.specs.CacheEnter.{slab_listed, slab_taken, slab_freed, slab_later, slab_never, slab_given_back}
use Rattle.kmem_model.specs.declared.cache_state.Standing.{Standing}
use Rattle.kmem_model.specs.declared.cache_state.Standing.TheVariants.{Source, Listed, Dead}
use Rattle.slab_list.specs.declared.line.Line.{Line}
use Rattle.slab_list.specs.Lines.{row_at, slab_of, slabs_of, IsLine, IsListKept, line_freed, line_unmarked}
use Rattle.slab_list.specs.Slabs.{ListState, on_slab, on_buffer, fresh_slab}
use Rattle.slab_list.proofs.Rows.{row_within, slab_at-slabs_of, length-row_at, get_or-row_at, IsAt, at, out_by_cell, slabs_of-line, slabs_of-cell, homes_kept}

-- what contracts see of the fields
abbrev pub view_of : ℕ → List CellState → List Line → List Bool → ListState
view_of chunks cells lines skip = record { chunks = chunks; slabs = slabs_of chunks cells lines; cells = cell_homes cells; skip = skip }

-- a slab that is listed, or dead, is one of the list
pub listed_within : (slabs : List SlabState) (i : ℕ) → is_listed (slab_at slabs i) ≡ true → i < length slabs
listed_within slabs i listed =
    ⊎_elim (λ below. below)
    (λ past. absurd (both_ways (is_listed no_slab) refl (ap is_listed (sym (get_or_past slabs i no_slab past)) ∙ listed)))
    (cases_lt i (length slabs))

pub dead_within : (slabs : List SlabState) (i : ℕ) → is_dead (slab_at slabs i) ≡ true → i < length slabs
dead_within slabs i dead =
    ⊎_elim (λ below. below)
    (λ past. absurd (both_ways (is_dead no_slab) refl (ap is_dead (sym (get_or_past slabs i no_slab past)) ∙ dead)))
    (cases_lt i (length slabs))

pub out_within : (slabs : List SlabState) (i k : ℕ) → is_out_on (slab_at slabs i) k ≡ true → i < length slabs
out_within slabs i k out =
    ⊎_elim (λ below. below)
    (λ past. absurd (both_ways (is_out_on no_slab k) refl (ap (λ s. is_out_on s k) (sym (get_or_past slabs i no_slab past)) ∙ out)))
    (cases_lt i (length slabs))

-- what a listed slab is
pub listed_is : (t : Standing) → is_same_standing Listed t ≡ true → t ≡ Listed
listed_is Source e = absurd (both_ways false refl e)
listed_is Listed e = refl
listed_is Dead e = absurd (both_ways false refl e)

dead_unlisted : (t : Standing) → is_same_standing Dead t ≡ true → is_same_standing Listed t ≡ false
dead_unlisted Source e = refl
dead_unlisted Listed e = absurd (both_ways false refl e)
dead_unlisted Dead e = refl

-- where none is counted, none is out
none_out : (bs : List Bool) → count_by (λ (o : Bool). o) bs ≡ 0 → bs ≡ replicate (length bs) false
none_out [] none = refl
none_out (true ∷ bs) none = absurd (omega (arith, sum_by-cons (λ (o : Bool). cond o 1 0) true bs, none))
none_out (false ∷ bs) none = ap (λ rest. false ∷ rest) (none_out bs (omega (arith, sum_by-cons (λ (o : Bool). cond o 1 0) false bs, none)))

-- a buffer of a slab of the list has a cell
pub buffer_within : (chunks n b : ℕ) → 0 < chunks → b / chunks < n → b < n * chunks
buffer_within chunks n b some below = (div-lt_iff_lt-mul {k = chunks} {x = b} {y = n} some).0 below

stuck_after : (chunks k j : ℕ) (o : Option ℕ) → ((m : ℕ) → o ≡ Some m → m < chunks) → k < chunks → option_or o (Some k) ≡ Some j → j < chunks
stuck_after chunks k j None old below e = let same : k ≡ j = cc in omega (arith, below, same)
stuck_after chunks k j (Some m) old below e = old j e

stuck_maybe : (chunks k j : ℕ) (b : Bool) (o : Option ℕ) → ((m : ℕ) → o ≡ Some m → m < chunks) → k < chunks → cond b (option_or o (Some k)) o ≡ Some j → j < chunks
stuck_maybe chunks k j true o old below e = stuck_after chunks k j o old below e
stuck_maybe chunks k j false o old below e = old j e

module _ (chunks : ℕ) (cells : List CellState) (lines : List Line) (kept : IsListKept chunks cells lines) where
  -- one line, as it was read
  module _ (i : ℕ) (x : Line) (read : x ≡ get_or lines i x) (below : i < length lines) where
    pub line_kept : IsLine chunks x (row_at chunks cells i)
    line_kept = subst (λ l. IsLine chunks l (row_at chunks cells i)) (sym read) (kept.each i x below)

    pub slab_read : slab_at (slabs_of chunks cells lines) i ≡ slab_of x (row_at chunks cells i)
    slab_read = slab_at-slabs_of chunks cells lines i x below ∙ ap (λ l. slab_of l (row_at chunks cells i)) (sym read)

    pub line_step : {skip : List Bool} (l : Line) (change : SlabState → SlabState) →
        slab_of l (row_at chunks cells i) ≡ change (slab_of x (row_at chunks cells i)) →
        view_of chunks cells (set lines i l) skip ≡ on_slab (view_of chunks cells lines skip) i change
    line_step {skip} l change same =
        ap (λ slabs. record { chunks = chunks; slabs = slabs; cells = cell_homes cells; skip = skip })
        (slabs_of-line chunks cells lines kept i l below
        ∙ ap (set (slabs_of chunks cells lines) i) (same ∙ ap change (sym slab_read)))

    abbrev its_row : List CellState
    its_row = row_at chunks cells i

    pub add_line : is_listed (slab_of x its_row) ≡ false →
        IsLine chunks (record { standing = Listed; used = x.used; later = x.later; stuck = x.stuck }) its_row
    add_line idle =
        record { counted = line_kept.counted; blank = λ no. absurd (both_ways true no refl); stuck = line_kept.stuck }

    pub add_slab : is_listed (slab_of x its_row) ≡ false →
        slab_of (record { standing = Listed; used = x.used; later = x.later; stuck = x.stuck }) its_row ≡ slab_listed (slab_of x its_row)
    add_slab idle =
        ap₂ (λ later stuck. record { standing = Listed; out = map (λ (c : CellState). c.out) its_row; later = later; stuck = stuck })
        (line_kept.blank idle).1 (line_kept.blank idle).2
        ∙ sym (ap (λ (b : Bool). cond b (slab_of x its_row) (record { standing = Listed; out = map (λ (c : CellState). c.out) its_row; later = 0; stuck = None })) idle)

    pub fresh : is_listed (slab_of x its_row) ≡ false →
        slab_of (record { standing = Listed; used = x.used; later = x.later; stuck = x.stuck }) its_row ≡ fresh_slab chunks
    fresh idle =
        ap₂ (λ later stuck. record { standing = Listed; out = map (λ (c : CellState). c.out) its_row; later = later; stuck = stuck })
        (line_kept.blank idle).1 (line_kept.blank idle).2
        ∙ ap (λ (bs : List Bool). record { standing = Listed; out = bs; later = 0; stuck = None })
        (none_out (map (λ (c : CellState). c.out) its_row) (sym line_kept.counted ∙ (line_kept.blank idle).0)
        ∙ ap (λ n. replicate n false) (length-map its_row (λ (c : CellState). c.out) ∙ length-row_at chunks i (length lines) cells kept.whole below))

    pub few_used : x.used ≤ 65536
    few_used =
        omega (
          arith,
          line_kept.counted,
          count_by-le-length (λ (o : Bool). o) (map (λ (c : CellState). c.out) its_row),
          length-map its_row (λ (c : CellState). c.out),
          length-row_at chunks i (length lines) cells kept.whole below,
          row_within chunks i (length lines) cells kept.whole below,
          kept.few,
        )

    pub left_line : (to : Standing) → used (slab_of x its_row) ≡ 0 → IsLine chunks (record { standing = to; used = x.used; later = 0; stuck = None }) its_row
    left_line to idle =
        record {
          counted = line_kept.counted;
          blank = λ _. (line_kept.counted ∙ idle, refl, refl);
          stuck = λ k e. absurd (cc);
        }

    pub unmark_line : IsLine chunks (line_unmarked x) its_row
    unmark_line =
        record { counted = line_kept.counted; blank = λ idle. ((line_kept.blank idle).0, refl, refl); stuck = λ k e. absurd (cc) }

    pub back_line : is_dead (slab_of x its_row) ≡ true →
        IsLine chunks (record { standing = Source; used = x.used; later = x.later; stuck = x.stuck }) its_row
    back_line dead =
        record {
          counted = line_kept.counted;
          blank = λ _. line_kept.blank (dead_unlisted x.standing dead);
          stuck = line_kept.stuck;
        }

    pub back_slab : is_dead (slab_of x its_row) ≡ true →
        slab_of (record { standing = Source; used = x.used; later = x.later; stuck = x.stuck }) its_row ≡ slab_given_back (slab_of x its_row)
    back_slab dead = sym (ap (λ (b : Bool). cond b (slab_of (record { standing = Source; used = x.used; later = x.later; stuck = x.stuck }) its_row) (slab_of x its_row)) dead)

    -- a line on whose slab a buffer was put off, or fixed
    pub later_line : (l : Line) (k : ℕ) → slab_of l its_row ≡ slab_later (slab_of x its_row) k → l.used ≡ x.used → k < chunks →
        is_listed (slab_of x its_row) ≡ true → IsLine chunks l its_row
    later_line l k same count below listed =
        record {
          counted = count ∙ line_kept.counted;
          blank = λ no. absurd (both_ways (is_listed (slab_of l its_row)) no (ap is_listed same ∙ listed));
          stuck = λ j e. stuck_maybe chunks k j (eqb (min 3 (x.later + 1)) 3) x.stuck line_kept.stuck below (sym (ap (λ (s : SlabState). s.stuck) same) ∙ e);
        }

    pub never_line : (l : Line) (k : ℕ) → slab_of l its_row ≡ slab_never (slab_of x its_row) k → l.used ≡ x.used → k < chunks →
        is_listed (slab_of x its_row) ≡ true → IsLine chunks l its_row
    never_line l k same count below listed =
        record {
          counted = count ∙ line_kept.counted;
          blank = λ no. absurd (both_ways (is_listed (slab_of l its_row)) no (ap is_listed same ∙ listed));
          stuck = λ j e. stuck_after chunks k j x.stuck line_kept.stuck below (sym (ap (λ (s : SlabState). s.stuck) same) ∙ e);
        }

  -- one buffer, with its cell and its line as they were read
  module _ (b : ℕ) (x : Line) (c : CellState) (line : x ≡ get_or lines (b / chunks) x) (cell : c ≡ get_or cells b c) (below : b < length cells) where
    abbrev i : ℕ
    i = b / chunks

    abbrev k : ℕ
    k = b % chunks

    abbrev row : List CellState
    row = row_at chunks cells i

    pub i_below : i < length lines
    i_below = let p : IsAt chunks (length lines) b = at chunks cells lines kept b below in p.slab

    pub k_below : k < length row
    k_below =
        let p : IsAt chunks (length lines) b = at chunks cells lines kept b below in
        omega (arith, length-row_at chunks i (length lines) cells kept.whole p.slab, p.index)

    pub out_read : is_out_on (slab_at (slabs_of chunks cells lines) i) k ≡ c.out
    out_read = out_by_cell chunks cells lines kept b c below ∙ ap (λ (d : CellState). d.out) (sym cell)

    pub row_read : (get_or row k c).out ≡ c.out
    row_read =
        let p : IsAt chunks (length lines) b = at chunks cells lines kept b below in
        ap (λ (d : CellState). d.out) (get_or-row_at chunks i k cells c p.index ∙ (ap (λ n. get_or cells n c) p.number ∙ sym cell))

    pub buffer_line : IsLine chunks x row
    buffer_line = line_kept i x line i_below

    pub buffer_slab : slab_at (slabs_of chunks cells lines) i ≡ slab_of x row
    buffer_slab = slab_read i x line i_below

    -- how many are out after one cell is written
    pub count_written : (d : CellState) → used (slab_of x (set row k d)) + cond c.out 1 0 ≡ used (slab_of x row) + cond d.out 1 0
    count_written d =
        ap (λ (bs : List Bool). count_by (λ out. out) bs + cond c.out 1 0) (map-set (λ (e : CellState). e.out) row k d)
        ∙ (ap (λ (out : Bool). count_by (λ o. o) (set (map (λ (e : CellState). e.out) row) k d.out) + cond out 1 0)
        (sym (get_or-map (λ (e : CellState). e.out) row k c c.out k_below ∙ row_read))
        ∙ sum_by-set (λ (o : Bool). cond o 1 0) (map (λ (e : CellState). e.out) row) k d.out c.out
        (omega (arith, length-map row (λ (e : CellState). e.out), k_below)))

    pub cell_step : {skip : List Bool} (l : Line) (d : CellState) (change : SlabState → ℕ → SlabState) → d.home ≡ c.home →
        slab_of l (set row k d) ≡ change (slab_of x row) k →
        view_of chunks (set cells b d) (set lines i l) skip ≡ on_buffer (view_of chunks cells lines skip) b change
    cell_step {skip} l d change home same =
        ap₂ (λ slabs homes. record { chunks = chunks; slabs = slabs; cells = homes; skip = skip })
        (slabs_of-cell chunks cells lines kept b d l below
        ∙ ap (set (slabs_of chunks cells lines) i) (same ∙ ap (λ s. change s k) (sym buffer_slab)))
        (homes_kept cells b d c (home ∙ ap (λ (e : CellState). e.home) cell))

    -- a buffer that is out lies on a listed slab, whose count is not 0
    pub out_count : c.out ≡ true → 0 < x.used
    out_count out =
        omega (
          arith,
          buffer_line.counted,
          get_or-le-sum_by (λ (o : Bool). cond o 1 0) (map (λ (e : CellState). e.out) row) k c.out
              (omega (arith, length-map row (λ (e : CellState). e.out), k_below)),
          ap {B = ℕ} (λ (o : Bool). cond o 1 0) (get_or-map (λ (e : CellState). e.out) row k c c.out k_below ∙ (row_read ∙ out)),
        )

    pub out_listed : c.out ≡ true → is_listed (slab_of x row) ≡ true
    out_listed out =
        ⊎_elim (λ yes. yes)
        (λ no. absurd (omega (arith, out_count out, (buffer_line.blank no).0)))
        (cases_Bool (is_listed (slab_of x row)))

    pub is_of : slice_get (cell_homes cells) b ≡ Some c.home
    is_of =
        slice_get-get_or (cell_homes cells) b c.home (omega (arith, length-map cells (λ (e : CellState). e.home), below))
        ∙ ap Some (get_or-map (λ (e : CellState). e.home) cells b c c.home below ∙ ap (λ (e : CellState). e.home) (sym cell))

    pub number_read : c.number ≡ b
    number_read = ap (λ (e : CellState). e.number) cell ∙ kept.numbered b c below

    pub take_line : (d : CellState) → d.out ≡ true → c.out ≡ false → is_listed (slab_of x row) ≡ true →
        IsLine chunks (record { standing = x.standing; used = x.used + 1; later = x.later; stuck = x.stuck }) (set row k d)
    take_line d out free listed =
        record {
          counted = omega (arith, buffer_line.counted, count_written d, ap {B = ℕ} (λ (o : Bool). cond o 1 0) out, ap {B = ℕ} (λ (o : Bool). cond o 1 0) free);
          blank = λ no. absurd (both_ways (is_listed (slab_of x row)) no listed);
          stuck = buffer_line.stuck;
        }

    pub take_slab : (d : CellState) → d.out ≡ true → is_listed (slab_of x row) ≡ true →
        slab_of (record { standing = x.standing; used = x.used + 1; later = x.later; stuck = x.stuck }) (set row k d) ≡ slab_taken (slab_of x row) k
    take_slab d out listed =
        ap (λ (bs : List Bool). record { standing = x.standing; out = bs; later = x.later; stuck = x.stuck })
        (map-set (λ (e : CellState). e.out) row k d ∙ ap (set (map (λ (e : CellState). e.out) row) k) out)
        ∙ sym (ap (λ (s : SlabState). record s { out = set s.out k true }) (ap (λ (b : Bool). cond b (slab_of x row) (record { standing = Listed; out = map (λ (e : CellState). e.out) row; later = 0; stuck = None })) listed))

    -- how many are out after the buffer came back
    count_given : (d : CellState) → d.out ≡ false → c.out ≡ true → x.used - 1 ≡ used (slab_of x (set row k d))
    count_given d free out =
        omega (arith, buffer_line.counted, count_written d, ap {B = ℕ} (λ (o : Bool). cond o 1 0) out, ap {B = ℕ} (λ (o : Bool). cond o 1 0) free)

    abbrev cleared : ℕ → Line
    cleared n = record { standing = x.standing; used = n; later = 0; stuck = None }

    abbrev one_less : ℕ → Line
    one_less n = record { standing = x.standing; used = n; later = x.later; stuck = x.stuck }

    freed_cases : (b o : Bool) (n : ℕ) (P : Line → Type 0) → P (cleared n) → P (one_less n) → P (cond (b || o) (cleared n) (one_less n))
    freed_cases true true n P last stays = last
    freed_cases true false n P last stays = last
    freed_cases false true n P last stays = last
    freed_cases false false n P last stays = stays

    pub give_line : (d : CellState) → d.out ≡ false → c.out ≡ true → IsLine chunks (line_freed x k) (set row k d)
    give_line d free out =
        let count : x.used - 1 ≡ used (slab_of x (set row k d)) = count_given d free out in
        let listed : is_listed (slab_of x row) ≡ true = out_listed out in
        freed_cases (eqb (x.used - 1) 0) (is_the x.stuck k) (x.used - 1) (λ l. IsLine chunks l (set row k d))
        (record { counted = count; blank = λ no. absurd (both_ways (is_listed (slab_of x row)) no listed); stuck = λ j e. absurd (cc) })
        (record { counted = count; blank = λ no. absurd (both_ways (is_listed (slab_of x row)) no listed); stuck = buffer_line.stuck })

    -- the row Free, where n are left
    abbrev left : List Bool → Bool → Bool → SlabState
    left bs b o =
        cond b (record { standing = Listed; out = bs; later = 0; stuck = None })
        (cond o (record { standing = x.standing; out = bs; later = 0; stuck = None }) (record { standing = x.standing; out = bs; later = x.later; stuck = x.stuck }))

    give_cases : (b o : Bool) (n : ℕ) (wide : List CellState) → x.standing ≡ Listed →
        slab_of (cond (b || o) (cleared n) (one_less n)) wide ≡ left (map (λ (e : CellState). e.out) wide) b o
    give_cases true true n wide listed = ap (λ (t : Standing). record { standing = t; out = map (λ (e : CellState). e.out) wide; later = 0; stuck = None }) listed
    give_cases true false n wide listed = ap (λ (t : Standing). record { standing = t; out = map (λ (e : CellState). e.out) wide; later = 0; stuck = None }) listed
    give_cases false true n wide listed = refl
    give_cases false false n wide listed = refl

    pub give_slab : (d : CellState) → d.out ≡ false → c.out ≡ true → slab_of (line_freed x k) (set row k d) ≡ slab_freed Listed (slab_of x row) k
    give_slab d free out =
        give_cases (eqb (x.used - 1) 0) (is_the x.stuck k) (x.used - 1) (set row k d) (listed_is x.standing (out_listed out))
        ∙ (ap (λ n. left (map (λ (e : CellState). e.out) (set row k d)) (eqb n 0) (is_the x.stuck k)) (count_given d free out)
        ∙ ap (λ (bs : List Bool). left bs (eqb (count_by (λ (o : Bool). o) bs) 0) (is_the x.stuck k))
        (map-set (λ (e : CellState). e.out) row k d ∙ ap (set (map (λ (e : CellState). e.out) row) k) free))

  -- a buffer that is out lies on a listed slab
  pub listed_of_out : (b : ℕ) (x : Line) → x ≡ get_or lines (b / chunks) x → b < length cells →
      is_out_on (slab_at (slabs_of chunks cells lines) (b / chunks)) (b % chunks) ≡ true →
      is_listed (slab_of x (row_at chunks cells (b / chunks))) ≡ true
  listed_of_out b x read below out =
      let none : CellState = record { number = 0; out = false; home = nowhere } in
      let c = get_or cells b none in
      let found : c ≡ get_or cells b c = get_or_default cells b none c below in
      out_listed b x c read found below (sym (out_read b x c read found below) ∙ out)
