use Rattle.std.proofs.Common.{◌<◌, length, arith, sym, ap, ◌∙◌, refl}
use Rattle.kmem_model.specs.CacheState.{slab_at, used}
use Rattle.kmem_model.specs.declared.cache_state.Standing.TheVariants.{Dead}
use Rattle.slab_list.proofs.Rows.{length-slabs_of, kept_line}
use Rattle.slab_list.proofs.Steps.{listed_within, slab_read, line_step, left_line}
use Rattle.slab_list.specs.Slabs.{on_slab, slab_left}
use Rattle.slab_list.proofs.table.SlabTable.retire.Goals as goal

pub index_mut-line-requires : goal.index_mut-line-requires
index_mut-line-requires g c =
    let f = c.self.inside in
    let within = listed_within c.args.self.now.slabs c.args.slab c.requires.listed in
    omega (arith, within, f.lines.ok.0, length-slabs_of f.chunks f.cells.items f.lines.items, ap (λ s. length s.slabs) c.self.view_is)

pub invariant_of-self : goal.invariant_of-self
invariant_of-self g c =
    let f = c.self.inside in
    let i = c.args.slab in
    let x = c.index_mut-line.result.now in
    let read = c.index_mut-line.ensures.value in
    let kept = c.self.invariant in
    let within = listed_within c.args.self.now.slabs i c.requires.listed in
    let below : i < length f.lines.items = omega (arith, within, length-slabs_of f.chunks f.cells.items f.lines.items, ap (λ s. length s.slabs) c.self.view_is) in
    let idle = sym (ap used (slab_read f.chunks f.cells.items f.lines.items kept i x read below)) ∙ (ap (λ s. used (slab_at s.slabs i)) c.self.view_is ∙ c.requires.idle) in
    rw c.unmark.ensures
    (kept_line f.chunks f.cells.items f.lines.items kept i _ below (left_line f.chunks f.cells.items f.lines.items kept i x read below Dead idle))

pub returns : goal.returns
returns g c =
    let f = c.self.inside in
    let i = c.args.slab in
    let x = c.index_mut-line.result.now in
    let read = c.index_mut-line.ensures.value in
    let kept = c.self.invariant in
    let within = listed_within c.args.self.now.slabs i c.requires.listed in
    let below : i < length f.lines.items = omega (arith, within, length-slabs_of f.chunks f.cells.items f.lines.items, ap (λ s. length s.slabs) c.self.view_is) in
    rw c.unmark.ensures
    (line_step f.chunks f.cells.items f.lines.items kept i x read below _ (slab_left Dead) refl
    ∙ ap (λ s. on_slab s i (slab_left Dead)) c.self.view_is)
