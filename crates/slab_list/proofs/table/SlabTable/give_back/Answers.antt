use Rattle.std.proofs.Common.{◌<◌, length, arith, sym, ap, ◌∙◌}
use Rattle.kmem_model.specs.CacheState.{slab_at, is_dead}
use Rattle.kmem_model.specs.CacheEnter.{slab_given_back}
use Rattle.slab_list.proofs.Rows.{length-slabs_of, kept_line}
use Rattle.slab_list.proofs.Steps.{dead_within, slab_read, line_step, back_line, back_slab}
use Rattle.slab_list.specs.Slabs.{on_slab}
use Rattle.slab_list.proofs.table.SlabTable.give_back.Goals as goal

pub index_mut-line-requires : goal.index_mut-line-requires
index_mut-line-requires g c =
    let f = c.self.inside in
    let within = dead_within c.args.self.now.slabs c.args.slab c.requires in
    omega (arith, within, f.lines.ok.0, length-slabs_of f.chunks f.cells.items f.lines.items, ap (λ s. length s.slabs) c.self.view_is)

pub invariant_of-self : goal.invariant_of-self
invariant_of-self g c =
    let f = c.self.inside in
    let i = c.args.slab in
    let x = c.index_mut-line.result.now in
    let read = c.index_mut-line.ensures.value in
    let kept = c.self.invariant in
    let within = dead_within c.args.self.now.slabs i c.requires in
    let below : i < length f.lines.items = omega (arith, within, length-slabs_of f.chunks f.cells.items f.lines.items, ap (λ s. length s.slabs) c.self.view_is) in
    let dead = sym (ap is_dead (slab_read f.chunks f.cells.items f.lines.items kept i x read below)) ∙ (ap (λ s. is_dead (slab_at s.slabs i)) c.self.view_is ∙ c.requires) in
    kept_line f.chunks f.cells.items f.lines.items kept i _ below (back_line f.chunks f.cells.items f.lines.items kept i x read below dead)

pub returns : goal.returns
returns g c =
    let f = c.self.inside in
    let i = c.args.slab in
    let x = c.index_mut-line.result.now in
    let read = c.index_mut-line.ensures.value in
    let kept = c.self.invariant in
    let within = dead_within c.args.self.now.slabs i c.requires in
    let below : i < length f.lines.items = omega (arith, within, length-slabs_of f.chunks f.cells.items f.lines.items, ap (λ s. length s.slabs) c.self.view_is) in
    let dead = sym (ap is_dead (slab_read f.chunks f.cells.items f.lines.items kept i x read below)) ∙ (ap (λ s. is_dead (slab_at s.slabs i)) c.self.view_is ∙ c.requires) in
    line_step f.chunks f.cells.items f.lines.items kept i x read below _ slab_given_back (back_slab f.chunks f.cells.items f.lines.items kept i x read below dead)
    ∙ ap (λ s. on_slab s i slab_given_back) c.self.view_is
