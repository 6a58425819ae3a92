use Rattle.std.proofs.Common.{◌≡◌, ◌<◌, ◌∙◌, length, arith, ap, sym, Some, None, get_or, true}
use Rattle.std.proofs.lemmas.Bool.{false≢true}
use Rattle.std.specs.Option.{is_some}
use Rattle.run_check.proofs.KeptMaps.{least_in, next_reply, leads_to}
use Rattle.run_check.proofs.plain_map.PlainMap.next.Goals as goal

pub index-requires : goal.index-requires
index-requires c =
    let self = c.args.self.now in
    let there = least_in self.names.items self.values.items self.tags.items c.args.from c.in-Some.name (λ n k test. (c.law_order.ensures.least n k test).0) c.in-Some.ensures in
    omega (arith, there.0)

pub index-requires-in-Some-index : goal.index-requires-in-Some-index
index-requires-in-Some-index c =
    let self = c.args.self.now in
    let there = least_in self.names.items self.values.items self.tags.items c.args.from c.in-Some.name (λ n k test. (c.law_order.ensures.least n k test).0) c.in-Some.ensures in
    let small : c.in-Some-index.id < length self.values.items = c.requires.kept.named c.in-Some.name c.in-Some-index.id (leads_to self.names.items c.in-Some.name _ _ there.0 c.index.ensures c.in-Some-index.is) in
    omega arith

pub unreachable-requires : goal.unreachable-requires
unreachable-requires c =
    let self = c.args.self.now in
    let there = least_in self.names.items self.values.items self.tags.items c.args.from c.in-Some.name (λ n k test. (c.law_order.ensures.least n k test).0) c.in-Some.ensures in
    let none : get_or self.names.items c.in-Some.name None ≡ None = leads_to self.names.items c.in-Some.name _ _ there.0 c.index.ensures c.in-None.is in
    false≢true (sym (ap is_some none) ∙ there.1)

pub returns : goal.returns
returns c =
    let self = c.args.self.now in
    let there = least_in self.names.items self.values.items self.tags.items c.args.from c.in-Some.name (λ n k test. (c.law_order.ensures.least n k test).0) c.in-Some.ensures in
    let leads = leads_to self.names.items c.in-Some.name _ _ there.0 c.index.ensures c.in-Some-index.is in
    next_reply self.names.items self.values.items self.tags.items c.args.from c.in-Some.name c.in-Some-index.id _ c.in-Some.ensures leads (c.requires.kept.named c.in-Some.name c.in-Some-index.id leads) c.index-in-Some-index.ensures
