use Rattle.std.proofs.Common.{◌≡◌, ◌+◌, length, ap, sym, ◌∙◌, subst, arith}
use Rattle.kmem_buf.specs.Homes.{Homes}
use Rattle.magazine.specs.Ready.{AreReady}
use Rattle.kmem_cache.proofs.Magazines.{ready_rest}
use Rattle.kmem_cache.proofs.Flushes.{flushed_one, going_on}
use Rattle.kmem_cache.proofs.flush.flush_magazine.Goals as goal

pub free-requires-clause-constructed : goal.free-requires-clause-constructed
free-requires-clause-constructed g c = (ready_rest g.K.Kind.constructed c.loop-buf.cache.home c.loop-buf.magazine c.pop.new.self c.in-Some.buf c.in-Some.ensures c.loop-buf.invariant.ready).0.0

pub loop-buf-preserved : goal.loop-buf-preserved
loop-buf-preserved g c =
    let inv = c.loop-buf.invariant in let free = c.free.ensures in let b = c.in-Some.buf in
    let fewer : length c.loop-buf.magazine ≡ length c.pop.new.self + 1 = ap length c.in-Some.ensures ∙ omega arith in
    record {
      ready = subst (λ (home : Homes). AreReady g.K.Kind.constructed home c.pop.new.self) (sym free.home)
          (ready_rest g.K.Kind.constructed c.loop-buf.cache.home c.loop-buf.magazine c.pop.new.self b c.in-Some.ensures inv.ready).1;
      home = free.home ∙ inv.home;
      flushed = going_on (length c.args.magazine) (length c.loop-buf.magazine) (length c.pop.new.self) 1 c.args.cache.now.state c.loop-buf.cache.state c.free.new.self.state
          fewer (flushed_one b.number c.loop-buf.cache.state c.free.new.self.state free.entry) inv.flushed;
    }
