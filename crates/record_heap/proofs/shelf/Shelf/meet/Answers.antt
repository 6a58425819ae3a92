use Rattle.std.proofs.Common.{Some, sym, ap, ◌∙◌}
use Rattle.kmem_buf.specs.Buffers.{BufState}
use Rattle.kmem_model.specs.Heap.{Object}
use Rattle.record_heap.proofs.Shelved.{put_back, back_same}
use Rattle.record_heap.proofs.shelf.Shelf.meet.Goals as goal

pub returns-clause-shelf : goal.returns-clause-shelf
returns-clause-shelf g c =
    let buf = c.take-buf.result in
    put_back c.args.self.now c.take-buf.new.self c.put.new.self c.args.b c.meet.new.buf.number c.meet.new.buf.object c.take-buf.ensures.shelf (ap (λ (b : BufState Object). b.number) c.meet.ensures.buf ∙ c.take-buf.ensures.number) c.put.ensures.shelf
    ∙ back_same c.args.self.now c.args.b c.meet.new.buf.object (c.take-buf.ensures.object ∙ ap (λ (b : BufState Object). Some b.object) (sym c.meet.ensures.buf))
