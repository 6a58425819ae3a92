use Rattle.std.proofs.Common.{sym, ◌∙◌}
use Rattle.slab_list.specs.Slabs.{mode_of}
use Rattle.slab_list.proofs.Scanned.{none_left}
use Rattle.slab_list.proofs.list.SlabList.pass.Goals as goal

pub mark_spent-requires-clause-spent : goal.mark_spent-requires-clause-spent
mark_spent-requires-clause-spent g c =
    let s = c.args.self.now in
    none_left c.law_order.ensures.no_least s.chunks c.args.rule.numer (mode_of c.args.rule.desperate) s.skip s.slabs _
    (sym c.may_ask.ensures ∙ c.if-may_ask.true) c.requires.none
