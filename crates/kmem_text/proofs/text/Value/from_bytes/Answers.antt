use Rattle.std.proofs.Common.{refl, sym, length}
use Rattle.std.specs.List.{list_all}
use Rattle.kmem_text.specs.Texts.{is_value, is_value_byte}
use Rattle.kmem_text.proofs.Rows.{padded, fits_within}
use Rattle.kmem_text.proofs.text.Value.from_bytes.Goals as goal

pub invariant_of-result : goal.invariant_of-result
invariant_of-result c =
    let bytes = c.args.bytes.now in
    let passes = sym c.if-not-is_value.ensures in
    padded is_value 64 bytes _ _ c.copy_from_slice.ensures.after refl passes (fits_within 1 64 (length bytes) (list_all is_value_byte bytes) passes)
