use Rattle.std.proofs.Common.{◌≡◌, [], length, refl, ap, ◌∙◌, subst, arith}
use Rattle.kmem_text.specs.declared.command.Command.TheVariants.{Put}
use Rattle.record_heap.specs.declared.heap.put.Offer.TheVariants.{Nothing}
use Rattle.record_table.specs.Shares.{ShareState, counted_on}
use Rattle.record_table.specs.Turns.{brought_by_put}
use Rattle.record_table.specs.Sessions.{HasPutSo, FoundAbsent}
use Rattle.record_table.specs.Runs.{HasBrought}
use Rattle.record_table.proofs.Brought.{brought_on, brought_why, counted_none, present_done, found_on}
use Rattle.record_table.proofs.session.putting.put_over.Goals as goal

pub returns-then-rounds-gt0-clause-brought : goal.returns-then-rounds-gt0-clause-brought
returns-then-rounds-gt0-clause-brought g c =
    let absent = FoundAbsent c.args.pass.now c.put_fresh.new.pass (Put c.args.name c.args.value) in
    brought_why c.args.table.now.home.cache.cells c.args.pass.now c.put_fresh.new.pass c.args.number (Put c.args.name c.args.value) c.put_fresh.result.0 c.put_fresh.result.1
    c.args.share c.put_fresh.result.2 c.args.seat.now c.put_fresh.new.seat (c.args.seat.now.rounds ≡ []) absent
    (λ none. absurd (omega (arith, c.rounds.ensures, c.if-rounds-gt0.true, ap length none))) c.put_fresh.ensures.brought

pub returns-in-Replied-clause-brought : goal.returns-in-Replied-clause-brought
returns-in-Replied-clause-brought g c =
    let put = c.run_put-end in
    present_done c.args.table.now.home.cache.cells c.args.pass.now put.new.pass c.args.number c.args.name c.args.value Nothing put.result.0 c.in-Replied.reply c.in-Replied.back
    c.args.share put.result.1 c.in-Replied.is put.ensures.put put.ensures.share c.args.seat.now
    (FoundAbsent c.args.pass.now put.new.pass (Put c.args.name c.args.value)) refl

pub returns-in-Wanting-clause-brought : goal.returns-in-Wanting-clause-brought
returns-in-Wanting-clause-brought g c =
    let put = c.run_put-end in
    let command = Put c.args.name c.args.value in
    let looked = subst (HasPutSo c.args.pass.now put.new.pass c.args.number c.args.name c.args.value) c.in-Wanting.is put.ensures.put.so in
    let same : put.result.1 ≡ c.args.share = put.ensures.share ∙ (ap (λ e. counted_on (brought_by_put Nothing e) 0 c.args.share) c.in-Wanting.is ∙ counted_none c.args.share) in
    let fresh = c.put_fresh-in-Wanting in
    let empty = c.args.seat.now.rounds ≡ [] in
    let it : HasBrought c.args.table.now.home.cache.cells put.new.pass fresh.new.pass c.args.number command fresh.result.0 fresh.result.1
    c.args.share fresh.result.2 c.args.seat.now fresh.new.seat empty =
    subst (λ (s : ShareState). HasBrought c.args.table.now.home.cache.cells put.new.pass fresh.new.pass c.args.number command fresh.result.0 fresh.result.1 s fresh.result.2 c.args.seat.now fresh.new.seat empty)
    same fresh.ensures.brought in
    let found : FoundAbsent c.args.pass.now fresh.new.pass command =
    found_on c.args.pass.now put.new.pass fresh.new.pass c.args.number command fresh.result.0 (put.ensures.put.wanting c.in-Wanting.is).1 it.added in
    brought_why c.args.table.now.home.cache.cells c.args.pass.now fresh.new.pass c.args.number command fresh.result.0 fresh.result.1
    c.args.share fresh.result.2 c.args.seat.now fresh.new.seat empty (FoundAbsent c.args.pass.now fresh.new.pass command) (λ none. found)
    (brought_on c.args.table.now.home.cache.cells c.args.pass.now put.new.pass fresh.new.pass c.args.number command fresh.result.0 fresh.result.1
    c.args.share fresh.result.2 c.args.seat.now fresh.new.seat empty looked it)
