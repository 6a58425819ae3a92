-- All lines of a new list.
use Rattle.std.proofs.Common.{◌≡◌, ℕ, ◌+◌, ◌*◌, ◌<◌, ◌≤◌, Bool, false, cond, List, map, length, replicate, count_by, sym, ◌∙◌, ap, refl, arith, subst, mul-zero}
use Rattle.std.proofs.lemmas.List.{length-map, get_or-map, ext_get_or, length-replicate, get_or-replicate}
use Rattle.std.proofs.lemmas.List.Folds.{sum_by-replicate}
use Rattle.kmem_buf.specs.Stubs.{nowhere}
use Rattle.kmem_buf.specs.Buffers.{CellState}
use Rattle.kmem_model.specs.CacheState.{no_slab, slab_in_source}
use Rattle.slab_list.specs.Lines.{row_at, slab_of, slabs_of, IsLine, IsListKept, AreCellsFree, line_in_source}
use Rattle.slab_list.proofs.Rows.{length-slabs_of, slab_at-slabs_of, length-row_at, get_or-row_at, row_within}

-- free cells, and lines of slabs in the source
module _ (chunks slabs : ℕ) (cells : List CellState) (some : 0 < chunks) (few : slabs * chunks ≤ 65536) (size : length cells ≡ slabs * chunks) (free : AreCellsFree cells) where
  free_row : (i : ℕ) → i < slabs → map (λ (c : CellState). c.out) (row_at chunks cells i) ≡ replicate chunks false
  free_row i below =
      let d : CellState = record { number = 0; out = false; home = nowhere } in
      let long : length (row_at chunks cells i) ≡ chunks = length-row_at chunks i slabs cells size below in
      ext_get_or false (map (λ (c : CellState). c.out) (row_at chunks cells i)) (replicate chunks false)
      (length-map (row_at chunks cells i) (λ (c : CellState). c.out) ∙ (long ∙ sym (length-replicate chunks false)))
      (λ k inside.
      let low : k < chunks = omega (arith, long, length-map (row_at chunks cells i) (λ (c : CellState). c.out), inside) in
      get_or-map (λ (c : CellState). c.out) (row_at chunks cells i) k d false (omega (arith, long, low))
      ∙ (ap (λ (c : CellState). c.out) (get_or-row_at chunks i k cells d low)
      ∙ ((free (i * chunks + k) d (omega (arith, row_within chunks i slabs cells size below, low))).1
      ∙ sym (get_or-replicate chunks k false false low))))

  pub slabs_start : slabs_of chunks cells (replicate slabs line_in_source) ≡ replicate slabs (slab_in_source chunks)
  slabs_start =
      ext_get_or no_slab (slabs_of chunks cells (replicate slabs line_in_source)) (replicate slabs (slab_in_source chunks))
      (length-slabs_of chunks cells (replicate slabs line_in_source) ∙ (length-replicate slabs line_in_source ∙ sym (length-replicate slabs (slab_in_source chunks))))
      (λ i inside.
      let below : i < slabs = omega (arith, length-slabs_of chunks cells (replicate slabs line_in_source), length-replicate slabs line_in_source, inside) in
      slab_at-slabs_of chunks cells (replicate slabs line_in_source) i line_in_source (omega (arith, length-replicate slabs line_in_source, below))
      ∙ (ap (λ l. slab_of l (row_at chunks cells i)) (get_or-replicate slabs i line_in_source line_in_source below)
      ∙ (ap (λ (out : List Bool). record (slab_in_source chunks) { out = out }) (free_row i below)
      ∙ sym (get_or-replicate slabs i (slab_in_source chunks) no_slab below))))

  pub kept_start : IsListKept chunks cells (replicate slabs line_in_source)
  kept_start =
      record {
        some = some;
        few = omega (arith, few, size);
        whole = size ∙ ap (λ n. n * chunks) (sym (length-replicate slabs line_in_source));
        numbered = λ n d below. (free n d below).0;
        each = λ i d inside.
            let below : i < slabs = omega (arith, length-replicate slabs line_in_source, inside) in
            subst (λ l. IsLine chunks l (row_at chunks cells i)) (sym (get_or-replicate slabs i line_in_source d below))
            (record {
              counted =
                  sym (ap (λ (bs : List Bool). count_by (λ (o : Bool). o) bs) (free_row i below)
                  ∙ (sum_by-replicate (λ (o : Bool). cond o 1 0) chunks false ∙ mul-zero chunks));
              blank = λ _. (refl, refl, refl);
              stuck = λ k e. absurd (cc);
            });
      }
