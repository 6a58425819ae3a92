use Rattle.std.proofs.Common.{ℕ, ◌≡◌, List, Option, None, replicate, arith, sym, ap, subst, ◌∙◌}
use Rattle.kmem_buf.specs.Buffers.{BufState}
use Rattle.kmem_model.specs.Heap.{Object}
use Rattle.record_heap.specs.Shelves.{AreShelved, objects_of}
use Rattle.record_heap.proofs.Shelved.{start, objects_none}
use Rattle.record_heap.proofs.rack.Rack.create.Goals as goal

pub invariant_of-result : goal.invariant_of-result
invariant_of-result c =
    let all : c.loop.counter ≡ c.args.buffers = omega arith in
    let items : c.loop.bufs.items ≡ replicate c.args.buffers None = c.loop.invariant ∙ ap (λ (n : ℕ). replicate {A = Option (BufState Object)} n None) all in
    subst (AreShelved c.args.home.cells) (sym items) (start c.args.home.cells c.args.buffers c.requires.size c.requires.few)

pub returns : goal.returns
returns c =
    let all : c.loop.counter ≡ c.args.buffers = omega arith in
    let items : c.loop.bufs.items ≡ replicate c.args.buffers None = c.loop.invariant ∙ ap (λ (n : ℕ). replicate {A = Option (BufState Object)} n None) all in
    ap (λ (objects : List (Option Object)). record { objects = objects; home = c.args.home }) (ap objects_of items ∙ objects_none c.args.buffers)
