use Rattle.std.proofs.Common.{◌<◌, length, arith, sym, ap, ◌∙◌, subst}
use Rattle.kmem_model.specs.CacheState.{SlabState, slab_at, used}
use Rattle.slab_list.proofs.Rows.{length-slabs_of, whole}
use Rattle.slab_list.proofs.Steps.{line_kept, slab_read}
use Rattle.slab_list.specs.Lines.{IsLine, row_at}
use Rattle.slab_list.specs.Slabs.{IsListWhole}
use Rattle.slab_list.proofs.table.SlabTable.line.Goals as goal

pub index-requires : goal.index-requires
index-requires g c =
    let f = c.self.inside in
    omega (arith, c.requires, f.lines.ok.0, length-slabs_of f.chunks f.cells.items f.lines.items, ap (λ s. length s.slabs) c.self.view_is)

pub returns-clause-standing : goal.returns-clause-standing
returns-clause-standing g c =
    let f = c.self.inside in
    let below : c.args.slab < length f.lines.items = omega (arith, c.requires, length-slabs_of f.chunks f.cells.items f.lines.items, ap (λ s. length s.slabs) c.self.view_is) in
    ap (λ (s : SlabState). s.standing) (sym (slab_read f.chunks f.cells.items f.lines.items c.self.invariant c.args.slab c.index.result.now c.index.ensures below))
    ∙ ap (λ s. (slab_at s.slabs c.args.slab).standing) c.self.view_is

pub returns-clause-later : goal.returns-clause-later
returns-clause-later g c =
    let f = c.self.inside in
    let below : c.args.slab < length f.lines.items = omega (arith, c.requires, length-slabs_of f.chunks f.cells.items f.lines.items, ap (λ s. length s.slabs) c.self.view_is) in
    ap (λ (s : SlabState). s.later) (sym (slab_read f.chunks f.cells.items f.lines.items c.self.invariant c.args.slab c.index.result.now c.index.ensures below))
    ∙ ap (λ s. (slab_at s.slabs c.args.slab).later) c.self.view_is

pub returns-clause-stuck : goal.returns-clause-stuck
returns-clause-stuck g c =
    let f = c.self.inside in
    let below : c.args.slab < length f.lines.items = omega (arith, c.requires, length-slabs_of f.chunks f.cells.items f.lines.items, ap (λ s. length s.slabs) c.self.view_is) in
    ap (λ (s : SlabState). s.stuck) (sym (slab_read f.chunks f.cells.items f.lines.items c.self.invariant c.args.slab c.index.result.now c.index.ensures below))
    ∙ ap (λ s. (slab_at s.slabs c.args.slab).stuck) c.self.view_is

pub returns-clause-used : goal.returns-clause-used
returns-clause-used g c =
    let f = c.self.inside in
    let below : c.args.slab < length f.lines.items = omega (arith, c.requires, length-slabs_of f.chunks f.cells.items f.lines.items, ap (λ s. length s.slabs) c.self.view_is) in
    let line : IsLine f.chunks c.index.result.now (row_at f.chunks f.cells.items c.args.slab) =
    line_kept f.chunks f.cells.items f.lines.items c.self.invariant c.args.slab c.index.result.now c.index.ensures below in
    line.counted
    ∙ (ap used (sym (slab_read f.chunks f.cells.items f.lines.items c.self.invariant c.args.slab c.index.result.now c.index.ensures below))
    ∙ ap (λ s. used (slab_at s.slabs c.args.slab)) c.self.view_is)

pub returns-clause-whole : goal.returns-clause-whole
returns-clause-whole g c =
    let f = c.self.inside in
    subst IsListWhole c.self.view_is (whole f.chunks f.cells.items f.lines.items c.self.invariant f.skip.items)
