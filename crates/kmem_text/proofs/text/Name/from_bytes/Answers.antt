use Rattle.std.proofs.Common.{refl, sym, length}
use Rattle.std.specs.List.{list_all}
use Rattle.kmem_text.specs.Texts.{is_name, is_name_byte}
use Rattle.kmem_text.proofs.Rows.{padded, fits_within}
use Rattle.kmem_text.proofs.text.Name.from_bytes.Goals as goal

pub invariant_of-result : goal.invariant_of-result
invariant_of-result c =
    let bytes = c.args.bytes.now in
    let passes = sym c.if-not-is_name.ensures in
    padded is_name 32 bytes _ _ c.copy_from_slice.ensures.after refl passes (fits_within 1 32 (length bytes) (list_all is_name_byte bytes) passes)
