use Rattle.std.specs.Slots.{slots_items}
use Rattle.move_queue.proofs.CountMoves.{ends}
use Rattle.move_queue.proofs.close.close_count.Goals as goal

pub returns : goal.returns
returns c =
    let key = c.args.count.shared.key in let mark = c.args.mark in let closed = c.close_with-closed in
    ends key.quotas key.seats mark.id mark.me.0 (slots_items closed.result.words) (slots_items closed.result.slots) closed.ensures.values.2 c.requires.all
