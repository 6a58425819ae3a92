use Rattle.std.proofs.Common.{◌≡◌, ◌+◌, length, ap, sym, ◌∙◌, subst, arith}
use Rattle.kmem_buf.specs.Homes.{Homes}
use Rattle.magazine.specs.Layer.{layer_rounds}
use Rattle.magazine.specs.Ready.{AreReady}
use Rattle.kmem_cache.proofs.Magazines.{ready_rest}
use Rattle.kmem_cache.proofs.Flushes.{flushed_one, going_on}
use Rattle.kmem_cache.proofs.flush.flush_cpu.Goals as goal

pub free-requires-clause-of : goal.free-requires-clause-of
free-requires-clause-of g c = (ready_rest g.K.Kind.constructed c.loop-buf.cache.home (layer_rounds c.loop-buf.cpu) (layer_rounds c.take.new.self) c.in-Some.buf c.in-Some.ensures.stack c.loop-buf.invariant.ready).0.1

pub free-requires-clause-constructed : goal.free-requires-clause-constructed
free-requires-clause-constructed g c = (ready_rest g.K.Kind.constructed c.loop-buf.cache.home (layer_rounds c.loop-buf.cpu) (layer_rounds c.take.new.self) c.in-Some.buf c.in-Some.ensures.stack c.loop-buf.invariant.ready).0.0

pub loop-buf-preserved : goal.loop-buf-preserved
loop-buf-preserved g c =
    let inv = c.loop-buf.invariant in let free = c.free.ensures in let b = c.in-Some.buf in
    let fewer : length (layer_rounds c.loop-buf.cpu) ≡ length (layer_rounds c.take.new.self) + 1 = ap length c.in-Some.ensures.stack ∙ omega arith in
    record {
      ready = subst (λ (home : Homes). AreReady g.K.Kind.constructed home (layer_rounds c.take.new.self)) (sym free.home)
          (ready_rest g.K.Kind.constructed c.loop-buf.cache.home (layer_rounds c.loop-buf.cpu) (layer_rounds c.take.new.self) b c.in-Some.ensures.stack inv.ready).1;
      home = free.home ∙ inv.home;
      flushed = going_on (length (layer_rounds c.args.cpu)) (length (layer_rounds c.loop-buf.cpu)) (length (layer_rounds c.take.new.self)) 1 c.args.cache.now.state c.loop-buf.cache.state c.free.new.self.state
          fewer (flushed_one b.number c.loop-buf.cache.state c.free.new.self.state free.entry) inv.flushed;
    }
