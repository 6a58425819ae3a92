use Rattle.kmem_cache.proofs.Magazines.{put_kept}
use Rattle.kmem_cache.proofs.rounds.put_round.Goals as goal

pub returns-in-Ok-clause-put : goal.returns-in-Ok-clause-put
returns-in-Ok-clause-put g c =
    let stack = c.in-Ok.ensures.stack in put_kept c.args.store.now.places c.args.buf c.args.cpu.now c.put.new.self c.args.seat.now stack.0 stack.1
