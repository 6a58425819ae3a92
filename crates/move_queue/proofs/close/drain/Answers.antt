use Rattle.std.proofs.Common.{rules, ◌≡◌, ◌∷◌, [], length, All, vec_len, sym, ap, subst, ◌∙◌, arith, length-append}
use Rattle.std.proofs.lemmas.List.Elements.{All-push}
use Rattle.object_cache.specs.Moves.{IsJobOf}
use Rattle.move_queue.specs.Seats.{known_by}
use Rattle.move_queue.proofs.Draining.{popped_more, one_stands, pops_one, all_popped}
use Rattle.move_queue.proofs.close.drain.Goals as goal

pub unreachable-requires : goal.unreachable-requires
unreachable-requires g c =
    let inv = c.loop-pass.invariant in let v = known_by c.args.pass.now in
    let same : vec_len c.loop-pass.jobs ≡ length c.loop-pass.jobs.items = search rules in
    one_stands v (known_by c.loop-pass.pass) c.loop-pass.jobs.items c.count_jobs-count.result inv.popped c.requires.some c.requires.all inv.whole (omega (arith, c.loop-pass-test.true, c.len.ensures, same))
    c.in_default.ensures.popped.1

pub loop-pass-preserved : goal.loop-pass-preserved
loop-pass-preserved g c =
    let inv = c.loop-pass.invariant in let v = known_by c.args.pass.now in let jobs = c.loop-pass.jobs.items in let job = c.in-Some.job in
    let same : vec_len c.loop-pass.jobs ≡ length c.loop-pass.jobs.items = search rules in
    let one = pops_one g.K.Kind.constructed v (known_by c.loop-pass.pass) (known_by c.pop.new.pass) jobs job inv.popped c.requires.all c.in-Some.ensures.popped in
    let items = c.push_reserved.ensures.items in
    record {
      pass = (c.pop.ensures.same.0 ∙ inv.pass.0, c.pop.ensures.same.2 ∙ inv.pass.1);
      popped = one.0 ∙ ap (λ l. popped_more v l) (sym items);
      are_jobs = subst (All (IsJobOf g.K.Kind.constructed v.terms.home)) (sym items) (All-push (IsJobOf g.K.Kind.constructed v.terms.home) jobs job inv.are_jobs one.1);
      room = omega (arith, c.push_reserved.ensures.capacity, inv.room);
      within = omega (arith, ap length items, length-append jobs (job ∷ []), c.loop-pass-test.true, c.len.ensures, same);
      whole = inv.whole;
    }

pub returns : goal.returns
returns g c =
    let inv = c.loop-pass.invariant in let v = known_by c.args.pass.now in let jobs = c.loop-pass.jobs.items in
    let same : vec_len c.loop-pass.jobs ≡ length c.loop-pass.jobs.items = search rules in
    let stood = c.count_jobs-count.ensures.jobs in let last = c.learn_all.ensures.jobs in
    all_popped g.K.Kind.constructed v (known_by c.loop-pass.pass) jobs stood.0 last.0 c.count_jobs-count.result inv.popped c.requires.some c.requires.all inv.whole
    (omega (arith, inv.within, c.loop-pass-test.false, c.len.ensures, same)) inv.are_jobs stood.2 last.1
