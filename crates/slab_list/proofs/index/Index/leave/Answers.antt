use Rattle.std.proofs.Common.{◌-◌, is_some, arith, ap, ◌∙◌, refl}
use Rattle.kmem_model.specs.CacheState.{slab_at}
use Rattle.slab_list.specs.Bins.{bin_at}
use Rattle.slab_list.proofs.Indexed.{Tells, listed_part, unused_part, leaves}
use Rattle.slab_list.proofs.index.Index.leave.Goals as goal

pub overflow_sub-self : goal.overflow_sub-self
overflow_sub-self g c =
    let s = c.args.table.now in
    let i = c.args.slab in
    let line = c.line-line.result in
    let e = c.line-line.ensures in
    let t : Tells line (slab_at s.slabs i) = record { standing = e.standing; used = e.used; later = e.later; stuck = e.stuck } in
    omega (arith, c.listed.ensures, c.requires.index.listed, listed_part s.chunks s.slabs c.args.self.now i c.requires.slab line t)

pub overflow_sub-self-2 : goal.overflow_sub-self-2
overflow_sub-self-2 g c =
    let s = c.args.table.now in
    let i = c.args.slab in
    let line = c.line-line.result in
    let e = c.line-line.ensures in
    let t : Tells line (slab_at s.slabs i) = record { standing = e.standing; used = e.used; later = e.later; stuck = e.stuck } in
    omega (arith, c.unused.ensures, c.requires.index.unused, unused_part s.chunks s.slabs c.args.self.now i c.requires.slab line t)

pub returns : goal.returns
returns g c =
    let s = c.args.table.now in
    let i = c.args.slab in
    let line = c.line-line.result in
    let e = c.line-line.ensures in
    let t : Tells line (slab_at s.slabs i) = record { standing = e.standing; used = e.used; later = e.later; stuck = e.stuck } in
    let bin = c.bin-bin.ensures.bin ∙ ap (λ n. bin_at n line.standing line.used (is_some line.stuck)) c.chunks.ensures.chunks in
    leaves s.chunks s.slabs c.args.self.now i c.requires.slab line t c.bin-bin.result bin c.bin-bin.ensures.range c.place.new.places c.place-2.new.places c.note.new.noted
    s.skip _ _ _ _ c.requires.index c.place.ensures c.place-2.ensures c.note.ensures
    (ap (λ n. c.args.self.now.listed - n) c.listed.ensures)
    (ap (λ n. c.args.self.now.unused - n) c.unused.ensures)
    (ap (λ n. c.args.self.now.dead - n) c.dead.ensures)
    refl
