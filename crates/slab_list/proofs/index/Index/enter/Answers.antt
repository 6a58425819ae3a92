use Rattle.std.proofs.Common.{◌+◌, is_some, set, arith, ap, ◌∙◌, refl}
use Rattle.kmem_model.specs.CacheState.{slab_at}
use Rattle.slab_list.specs.Bins.{bin_at}
use Rattle.slab_list.proofs.Indexed.{Tells, enters, out_fits, few_out, set_within}
use Rattle.slab_list.proofs.index.Index.enter.Goals as goal

pub overflow_add-self-4 : goal.overflow_add-self-4
overflow_add-self-4 g c =
    let s = c.args.table.now in
    let i = c.args.slab in
    let line = c.line-line.result in
    let e = c.line-line.ensures in
    let t : Tells line (slab_at s.slabs i) = record { standing = e.standing; used = e.used; later = e.later; stuck = e.stuck } in
    let bin = c.bin-bin.ensures.bin ∙ ap (λ n. bin_at n line.standing line.used (is_some line.stuck)) c.chunks.ensures.chunks in
    let k = c.requires.index in
    omega (
      arith,
      out_fits s.chunks s.slabs c.args.self.now i c.requires.slab line t c.bin-bin.result bin c.bin-bin.ensures.range c.place.new.places c.place-2.new.places c.note.new.noted
          s.skip 0 0 0 0 k (few_out s c.line-line.ensures.whole k.narrow (set_within s.slabs i k.few)),
    )

pub returns : goal.returns
returns g c =
    let s = c.args.table.now in
    let i = c.args.slab in
    let line = c.line-line.result in
    let e = c.line-line.ensures in
    let t : Tells line (slab_at s.slabs i) = record { standing = e.standing; used = e.used; later = e.later; stuck = e.stuck } in
    let bin = c.bin-bin.ensures.bin ∙ ap (λ n. bin_at n line.standing line.used (is_some line.stuck)) c.chunks.ensures.chunks in
    enters s.chunks s.slabs c.args.self.now i c.requires.slab line t c.bin-bin.result bin c.bin-bin.ensures.range c.place.new.places c.place-2.new.places c.note.new.noted
    s.skip _ _ _ _ c.requires.index c.place.ensures c.place-2.ensures
    (c.note.ensures ∙ ap (λ b. record c.args.self.now.noted { flags = set c.args.self.now.noted.flags i b }) c.is_noted.ensures)
    (ap (λ n. c.args.self.now.listed + n) c.listed.ensures)
    (ap (λ n. c.args.self.now.unused + n) c.unused.ensures)
    (ap (λ n. c.args.self.now.dead + n) c.dead.ensures)
    refl
