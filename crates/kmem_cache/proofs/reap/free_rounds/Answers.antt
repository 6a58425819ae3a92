use Rattle.std.proofs.Common.{◌∷◌, ◌++◌, [], Option, length, ap, sym, ◌∙◌, subst, arith, append_assoc}
use Rattle.kmem_buf.specs.Answers.{numbers_of}
use Rattle.kmem_model.specs.declared.cache_entry.CacheEntry.{CacheEntry}
use Rattle.kmem_cache.specs.Seats.{HasActed}
use Rattle.kmem_cache.proofs.Magazines.{ready_rest}
use Rattle.kmem_cache.proofs.Seating.{acted}
use Rattle.kmem_cache.proofs.Reapings.{freed_chain, freed_turn}
use Rattle.kmem_cache.proofs.reap.free_rounds.Goals as goal

pub loop-buf-preserved : goal.loop-buf-preserved
loop-buf-preserved g c =
    let inv = c.loop-buf.invariant in let b = c.in-Some.buf in let pass = c.loop-buf.pass in let pass' = c.act.new.pass in let turn = c.act.ensures in
    let rounds = c.loop-buf.magazine in let left = c.pop.new.self in let numbers = inv.freed.0 in
    let one = freed_turn pass pass' b.number (subst (λ (e : Option CacheEntry). HasActed pass pass' e) turn.2.answered (acted _ pass pass' _ turn.0 turn.1 turn.2)) in
    record {
      ready = (ready_rest g.K.Kind.constructed c.args.lock.now.home.buffers rounds left b c.in-Some.ensures inv.ready).1;
      left = omega (arith, inv.left, one.left, ap length c.in-Some.ensures);
      freed = (
        numbers ++ b.number ∷ [],
        freed_chain c.args.pass.now pass pass' numbers (b.number ∷ []) inv.freed.1 one,
        append_assoc numbers (b.number ∷ []) (numbers_of left) ∙ (ap (λ l. numbers ++ numbers_of l) (sym c.in-Some.ensures) ∙ inv.freed.2),
      );
    }
