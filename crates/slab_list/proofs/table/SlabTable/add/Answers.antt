use Rattle.std.proofs.Common.{◌<◌, length, arith, sym, ap, ◌∙◌, set, length-set}
use Rattle.std.proofs.lemmas.List.{get_or-set_same}
use Rattle.kmem_model.specs.declared.cache_state.Standing.TheVariants.{Listed}
use Rattle.kmem_model.specs.CacheState.{slab_at, is_listed}
use Rattle.kmem_model.specs.CacheEnter.{slab_listed}
use Rattle.slab_list.proofs.Rows.{length-slabs_of, slab_at-slabs_of, kept_line}
use Rattle.slab_list.proofs.Steps.{slab_read, line_step, add_line, add_slab, fresh}
use Rattle.slab_list.specs.Lines.{row_at, slab_of}
use Rattle.slab_list.specs.Slabs.{fresh_slab, on_slab}
use Rattle.slab_list.proofs.table.SlabTable.add.Goals as goal

pub index_mut-line-requires : goal.index_mut-line-requires
index_mut-line-requires g c =
    let f = c.self.inside in
    omega (arith, c.requires.range, f.lines.ok.0, length-slabs_of f.chunks f.cells.items f.lines.items, ap (λ s. length s.slabs) c.self.view_is)

pub invariant_of-self : goal.invariant_of-self
invariant_of-self g c =
    let f = c.self.inside in
    let i = c.args.slab in
    let x = c.index_mut-line.result.now in
    let read = c.index_mut-line.ensures.value in
    let kept = c.self.invariant in
    let below : i < length f.lines.items = omega (arith, c.requires.range, length-slabs_of f.chunks f.cells.items f.lines.items, ap (λ s. length s.slabs) c.self.view_is) in
    let idle = sym (ap is_listed (slab_read f.chunks f.cells.items f.lines.items kept i x read below)) ∙ (ap (λ s. is_listed (slab_at s.slabs i)) c.self.view_is ∙ c.requires.apart) in
    kept_line f.chunks f.cells.items f.lines.items kept i _ below (add_line f.chunks f.cells.items f.lines.items kept i x read below idle)

pub returns-clause-list : goal.returns-clause-list
returns-clause-list g c =
    let f = c.self.inside in
    let i = c.args.slab in
    let x = c.index_mut-line.result.now in
    let read = c.index_mut-line.ensures.value in
    let kept = c.self.invariant in
    let below : i < length f.lines.items = omega (arith, c.requires.range, length-slabs_of f.chunks f.cells.items f.lines.items, ap (λ s. length s.slabs) c.self.view_is) in
    let idle = sym (ap is_listed (slab_read f.chunks f.cells.items f.lines.items kept i x read below)) ∙ (ap (λ s. is_listed (slab_at s.slabs i)) c.self.view_is ∙ c.requires.apart) in
    line_step f.chunks f.cells.items f.lines.items kept i x read below _ slab_listed (add_slab f.chunks f.cells.items f.lines.items kept i x read below idle)
    ∙ ap (λ s. on_slab s i slab_listed) c.self.view_is

pub returns-clause-fresh : goal.returns-clause-fresh
returns-clause-fresh g c =
    let f = c.self.inside in
    let i = c.args.slab in
    let x = c.index_mut-line.result.now in
    let read = c.index_mut-line.ensures.value in
    let kept = c.self.invariant in
    let below : i < length f.lines.items = omega (arith, c.requires.range, length-slabs_of f.chunks f.cells.items f.lines.items, ap (λ s. length s.slabs) c.self.view_is) in
    let idle = sym (ap is_listed (slab_read f.chunks f.cells.items f.lines.items kept i x read below)) ∙ (ap (λ s. is_listed (slab_at s.slabs i)) c.self.view_is ∙ c.requires.apart) in
    let wide = set f.lines.items i (record { standing = Listed; used = x.used; later = x.later; stuck = x.stuck }) in
    slab_at-slabs_of f.chunks f.cells.items wide i x (omega (arith, length-set f.lines.items i (record { standing = Listed; used = x.used; later = x.later; stuck = x.stuck }), below))
    ∙ (ap (λ l. slab_of l (row_at f.chunks f.cells.items i)) (get_or-set_same f.lines.items i (record { standing = Listed; used = x.used; later = x.later; stuck = x.stuck }) x below)
    ∙ (fresh f.chunks f.cells.items f.lines.items kept i x read below idle ∙ ap (λ s. fresh_slab s.chunks) c.self.view_is))
