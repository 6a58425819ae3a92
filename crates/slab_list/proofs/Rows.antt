-- Lines and cells, and the slabs that they stand for.
use Rattle.std.proofs.Common.{Bool, ◌≡◌, ◌≢◌, ℕ, zero, suc, ◌+◌, ◌*◌, ◌/◌, ◌%◌, ◌<◌, ◌≤◌, false, List, [], ◌∷◌, length, get_or, set, take, drop, ◌⊎◌, inl, inr, ⊎_elim, sym, ◌∙◌, ap, ap₂, refl, arith, suc-mul, zero-mul, length-set, length-take, length-drop, subst}
use Rattle.std.proofs.Math.Seq.{take-set-lt, map-set_same}
use Rattle.std.proofs.lemmas.Bool.{cases_eq}
use Rattle.std.proofs.lemmas.Nat.{same_from_place, div_below, mod_below, row_fits, div-add-mod'}
use Rattle.std.proofs.lemmas.List.{length-map, drop-drop, drop-set-add, length-take-le, get_or-take, get_or-drop, get_or-set_same, get_or-set_other, get_or-map, same_lists, ext_get_or, get_or_default}
use Rattle.kmem_buf.specs.Buffers.{CellState}
use Rattle.kmem_buf.specs.Homes.{cell_homes}
use Rattle.kmem_model.specs.CacheState.{SlabState, slab_at, no_slab, is_out_on}
use Rattle.slab_list.specs.declared.line.Line.{Line}
use Rattle.slab_list.specs.Lines.{row_at, slab_of, slabs_of, IsLine, IsListKept}
use Rattle.slab_list.specs.Slabs.{IsSlab, IsListWhole}

pub length-slabs_of : (chunks : ℕ) (cells : List CellState) (lines : List Line) → length (slabs_of chunks cells lines) ≡ length lines
length-slabs_of chunks cells [] = refl
length-slabs_of chunks cells (l ∷ ls) = ap suc (length-slabs_of chunks (drop chunks cells) ls)

row_at-drop : (chunks : ℕ) (cells : List CellState) (i : ℕ) → row_at chunks (drop chunks cells) i ≡ row_at chunks cells (suc i)
row_at-drop chunks cells i =
    ap (take chunks) (drop-drop (i * chunks) chunks cells ∙ ap (λ n. drop n cells) (omega (arith, suc-mul i chunks)))

-- the slab with a number
pub slab_at-slabs_of : (chunks : ℕ) (cells : List CellState) (lines : List Line) (i : ℕ) (d : Line) → i < length lines →
    slab_at (slabs_of chunks cells lines) i ≡ slab_of (get_or lines i d) (row_at chunks cells i)
slab_at-slabs_of chunks cells [] i d below = absurd (omega arith)
slab_at-slabs_of chunks cells (l ∷ ls) zero d below = ap (λ n. slab_of l (take chunks (drop n cells))) (sym (zero-mul chunks))
slab_at-slabs_of chunks cells (l ∷ ls) (suc i) d below =
    slab_at-slabs_of chunks (drop chunks cells) ls i d (omega arith)
    ∙ ap (slab_of (get_or ls i d)) (row_at-drop chunks cells i)

-- the cells of a slab lie within the cells
pub row_within : (chunks i n : ℕ) (cells : List CellState) → length cells ≡ n * chunks → i < n → i * chunks + chunks ≤ length cells
row_within chunks i n cells whole below = omega (arith, row_fits i chunks n chunks below (omega arith))

pub length-row_at : (chunks i n : ℕ) (cells : List CellState) → length cells ≡ n * chunks → i < n → length (row_at chunks cells i) ≡ chunks
length-row_at chunks i n cells whole below =
    length-take-le chunks (drop (i * chunks) cells)
    (omega (arith, length-drop (i * chunks) cells, row_within chunks i n cells whole below))

pub get_or-row_at : (chunks i k : ℕ) (cells : List CellState) (d : CellState) → k < chunks → get_or (row_at chunks cells i) k d ≡ get_or cells (i * chunks + k) d
get_or-row_at chunks i k cells d below = get_or-take chunks (drop (i * chunks) cells) k d below ∙ get_or-drop (i * chunks) cells k d

-- a written cell, seen from its own slab
row_at-set_same : (chunks i k : ℕ) (cells : List CellState) (c : CellState) → k < chunks →
    row_at chunks (set cells (i * chunks + k) c) i ≡ set (row_at chunks cells i) k c
row_at-set_same chunks i k cells c below =
    ap (take chunks) (drop-set-add (i * chunks) cells k c) ∙ take-set-lt chunks (drop (i * chunks) cells) k c below

-- and from another
row_at-set_other : (chunks i j k : ℕ) (cells : List CellState) (c : CellState) → k < chunks → j ≢ i →
    row_at chunks (set cells (i * chunks + k) c) j ≡ row_at chunks cells j
row_at-set_other chunks i j k cells c below apart =
    let wide = set cells (i * chunks + k) c in
    same_lists (row_at chunks wide j) (row_at chunks cells j)
    (omega (arith, length-take chunks (drop (j * chunks) wide), length-take chunks (drop (j * chunks) cells), length-drop (j * chunks) wide, length-drop (j * chunks) cells, length-set cells (i * chunks + k) c))
    (λ m d inside.
    let low : m < chunks = omega (arith, length-take chunks (drop (j * chunks) wide)) in
    get_or-row_at chunks j m wide d low
    ∙ (get_or-set_other cells (i * chunks + k) (j * chunks + m) c d
    (λ same. apart (same_from_place j m i k chunks low below same).0)
    ∙ sym (get_or-row_at chunks j m cells d low)))

-- the parts of a buffer's number
pub record IsAt (chunks n b : ℕ) : Type 0 where
  pub slab : b / chunks < n
  pub index : b % chunks < chunks
  pub number : b / chunks * chunks + b % chunks ≡ b

pub placed : (chunks n b : ℕ) → 0 < chunks → b < n * chunks → IsAt chunks n b
placed chunks n b some below =
    record { slab = div_below b chunks n some below; index = mod_below b chunks some; number = div-add-mod' b chunks }

-- what holds of the fields holds of the slabs
module _ (chunks : ℕ) (cells : List CellState) (lines : List Line) (kept : IsListKept chunks cells lines) where
  abbrev slabs : List SlabState
  slabs = slabs_of chunks cells lines

  pub at : (b : ℕ) → b < length cells → IsAt chunks (length lines) b
  at b below = placed chunks (length lines) b kept.some (omega (arith, kept.whole))

  -- whether a buffer is out, by its cell
  pub out_by_cell : (b : ℕ) (d : CellState) → b < length cells →
      is_out_on (slab_at slabs (b / chunks)) (b % chunks) ≡ (get_or cells b d).out
  out_by_cell b d below =
      let p : IsAt chunks (length lines) b = at b below in
      let i = b / chunks in
      let k = b % chunks in
      ⊎_elim
      (λ (none : length lines ≡ 0). absurd (omega (arith, p.slab)))
      (λ (line : (l : Line) × Unit {0}).
      ap (λ s. is_out_on s k) (slab_at-slabs_of chunks cells lines i line.0 p.slab)
      ∙ (get_or-map (λ (c : CellState). c.out) (row_at chunks cells i) k d false
      (omega (arith, length-row_at chunks i (length lines) cells kept.whole p.slab, p.index))
      ∙ ap (λ (c : CellState). c.out) (get_or-row_at chunks i k cells d p.index ∙ ap (λ n. get_or cells n d) p.number)))
      (some_line lines)
    where
      some_line : (ls : List Line) → (length ls ≡ 0) ⊎ ((l : Line) × Unit {0})
      some_line [] = inl refl
      some_line (l ∷ ls) = inr (l, tt)

  pub slab_kept : (i : ℕ) (d : Line) → i < length lines → IsSlab chunks (slab_at slabs i)
  slab_kept i d below =
      let l : IsLine chunks (get_or lines i d) (row_at chunks cells i) = kept.each i d below in
      let is = slab_at-slabs_of chunks cells lines i d below in
      rw is
      record {
        size =
            length-map (row_at chunks cells i) (λ (c : CellState). c.out)
            ∙ length-row_at chunks i (length lines) cells kept.whole below;
        blank = λ idle. (sym l.counted ∙ (l.blank idle).0, (l.blank idle).1, (l.blank idle).2);
      }

  pub whole : (skip : List Bool) → IsListWhole (record { chunks = chunks; slabs = slabs; cells = cell_homes cells; skip = skip })
  whole skip =
      record {
        some = kept.some;
        few = omega (arith, kept.few, length-map cells (λ (c : CellState). c.home));
        cells =
            length-map cells (λ (c : CellState). c.home)
            ∙ (kept.whole ∙ ap (λ n. n * chunks) (sym (length-slabs_of chunks cells lines)));
        slabs = λ i d below.
            rw (get_or_default slabs i d no_slab below)
            (slab_kept i (pick lines i (omega (arith, length-slabs_of chunks cells lines, below))) (omega (arith, length-slabs_of chunks cells lines, below)));
      }
    where
      pick : (ls : List Line) (n : ℕ) → n < length ls → Line
      pick [] n h = absurd (omega arith)
      pick (l ∷ ls) n h = l

  -- one line changed
  pub slabs_of-line : (i : ℕ) (l : Line) → i < length lines →
      slabs_of chunks cells (set lines i l) ≡ set slabs i (slab_of l (row_at chunks cells i))
  slabs_of-line i l below =
      ext_get_or no_slab (slabs_of chunks cells (set lines i l)) (set slabs i (slab_of l (row_at chunks cells i)))
      (omega (arith, length-slabs_of chunks cells (set lines i l), length-slabs_of chunks cells lines, length-set lines i l, length-set slabs i (slab_of l (row_at chunks cells i))))
      (λ j inside.
      let low : j < length lines = omega (arith, length-slabs_of chunks cells (set lines i l), length-set lines i l, inside) in
      slab_at-slabs_of chunks cells (set lines i l) j l (omega (arith, length-set lines i l, low))
      ∙ ⊎_elim
      (λ same.
      ap (λ n. slab_of (get_or (set lines i l) n l) (row_at chunks cells n)) same
      ∙ (ap (λ m. slab_of m (row_at chunks cells i)) (get_or-set_same lines i l l below)
      ∙ (sym (get_or-set_same slabs i (slab_of l (row_at chunks cells i)) no_slab (omega (arith, length-slabs_of chunks cells lines, below)))
      ∙ ap (λ n. get_or (set slabs i (slab_of l (row_at chunks cells i))) n no_slab) (sym same))))
      (λ other.
      ap (λ m. slab_of m (row_at chunks cells j)) (get_or-set_other lines i j l l other)
      ∙ (sym (slab_at-slabs_of chunks cells lines j l low)
      ∙ sym (get_or-set_other slabs i j (slab_of l (row_at chunks cells i)) no_slab other)))
      (cases_eq j i))

  pub kept_line : (i : ℕ) (l : Line) → i < length lines → IsLine chunks l (row_at chunks cells i) → IsListKept chunks cells (set lines i l)
  kept_line i l below good =
      record {
        some = kept.some;
        few = kept.few;
        whole = kept.whole ∙ ap (λ n. n * chunks) (sym (length-set lines i l));
        numbered = kept.numbered;
        each = λ j d inside.
            ⊎_elim
            (λ same.
            subst (λ n. IsLine chunks (get_or (set lines i l) n d) (row_at chunks cells n)) (sym same)
            (subst (λ m. IsLine chunks m (row_at chunks cells i)) (sym (get_or-set_same lines i l d below)) good))
            (λ other.
            rw (get_or-set_other lines i j l d other) (kept.each j d (omega (arith, length-set lines i l, inside))))
            (cases_eq j i);
      }

  -- one cell and the line of its slab changed
  module _ (b : ℕ) (c : CellState) (l : Line) (below : b < length cells) where
    abbrev i : ℕ
    i = b / chunks

    abbrev k : ℕ
    k = b % chunks

    abbrev row : List CellState
    row = set (row_at chunks cells i) k c

    here : row_at chunks (set cells b c) i ≡ row
    here =
        let p : IsAt chunks (length lines) b = at b below in
        ap (λ n. row_at chunks (set cells n c) i) (sym p.number) ∙ row_at-set_same chunks i k cells c p.index

    elsewhere : (j : ℕ) → j ≢ i → row_at chunks (set cells b c) j ≡ row_at chunks cells j
    elsewhere j other =
        let p : IsAt chunks (length lines) b = at b below in
        ap (λ n. row_at chunks (set cells n c) j) (sym p.number) ∙ row_at-set_other chunks i j k cells c p.index other

    pub slabs_of-cell : slabs_of chunks (set cells b c) (set lines i l) ≡ set slabs i (slab_of l row)
    slabs_of-cell =
        let p : IsAt chunks (length lines) b = at b below in
        ext_get_or no_slab (slabs_of chunks (set cells b c) (set lines i l)) (set slabs i (slab_of l row))
        (omega (arith, length-slabs_of chunks (set cells b c) (set lines i l), length-slabs_of chunks cells lines, length-set lines i l, length-set slabs i (slab_of l row)))
        (λ j inside.
        let low : j < length lines = omega (arith, length-slabs_of chunks (set cells b c) (set lines i l), length-set lines i l, inside) in
        slab_at-slabs_of chunks (set cells b c) (set lines i l) j l (omega (arith, length-set lines i l, low))
        ∙ ⊎_elim
        (λ same.
        ap (λ n. slab_of (get_or (set lines i l) n l) (row_at chunks (set cells b c) n)) same
        ∙ (ap₂ slab_of (get_or-set_same lines i l l p.slab) here
        ∙ (sym (get_or-set_same slabs i (slab_of l row) no_slab (omega (arith, length-slabs_of chunks cells lines, p.slab)))
        ∙ ap (λ n. get_or (set slabs i (slab_of l row)) n no_slab) (sym same))))
        (λ other.
        ap₂ slab_of (get_or-set_other lines i j l l other) (elsewhere j other)
        ∙ (sym (slab_at-slabs_of chunks cells lines j l low)
        ∙ sym (get_or-set_other slabs i j (slab_of l row) no_slab other)))
        (cases_eq j i))

    pub kept_cell : c.number ≡ b → IsLine chunks l row → IsListKept chunks (set cells b c) (set lines i l)
    kept_cell number good =
        let p : IsAt chunks (length lines) b = at b below in
        record {
          some = kept.some;
          few = omega (arith, kept.few, length-set cells b c);
          whole = length-set cells b c ∙ (kept.whole ∙ ap (λ n. n * chunks) (sym (length-set lines i l)));
          numbered = λ n d inside.
              ⊎_elim
              (λ same. ap (λ m. (get_or (set cells b c) m d).number) same ∙ (ap (λ (x : CellState). x.number) (get_or-set_same cells b c d below) ∙ (number ∙ sym same)))
              (λ other. rw (get_or-set_other cells b n c d other) (kept.numbered n d (omega (arith, length-set cells b c, inside))))
              (cases_eq n b);
          each = λ j d inside.
              ⊎_elim
              (λ same.
              subst (λ n. IsLine chunks (get_or (set lines i l) n d) (row_at chunks (set cells b c) n)) (sym same)
              (subst (λ m. IsLine chunks m (row_at chunks (set cells b c) i)) (sym (get_or-set_same lines i l d p.slab))
              (subst (IsLine chunks l) (sym here) good)))
              (λ other.
              rw (get_or-set_other lines i j l d other, elsewhere j other)
              (kept.each j d (omega (arith, length-set lines i l, inside))))
              (cases_eq j i);
        }

-- homes stay where one cell is changed that keeps its own
pub homes_kept : (cells : List CellState) (b : ℕ) (c d : CellState) → c.home ≡ (get_or cells b d).home → cell_homes (set cells b c) ≡ cell_homes cells
homes_kept cells b c d same = map-set_same (λ (x : CellState). x.home) cells b c d same
