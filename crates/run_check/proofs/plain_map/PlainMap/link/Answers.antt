use Rattle.std.proofs.Common.{◌≡◌, ◌+◌, ◌<◌, ◌∙◌, None, Some, rules, length, get_or, count_by, arith, ap}
use Rattle.std.proofs.lemmas.List.Sums.{count_by-le-length}
use Rattle.kmem_model.specs.CacheOrder.{is_the}
use Rattle.run_check.proofs.KeptMaps.{kept_link, leads_to, at_zero}
use Rattle.run_check.proofs.plain_map.PlainMap.link.Goals as goal

pub overflow_add-index_mut : goal.overflow_add-index_mut
overflow_add-index_mut c =
    let self = c.args.self.now in
    let leads = leads_to self.names.items c.args.name.0 _ _ c.requires.names.0 c.index.ensures c.in-Some.is in
    let small : c.in-Some.id < length self.values.items = c.requires.kept.named c.args.name.0 c.in-Some.id leads in
    let there : c.in-Some.id < length self.counts.items = omega (arith, c.requires.kept.counts_len) in
    omega (arith, c.requires.kept.counted c.in-Some.id small, count_by-le-length (λ other. is_the other c.in-Some.id) self.names.items, at_zero self.counts.items c.in-Some.id c.index_mut-2.result.now there c.index_mut-2.ensures.value)

pub returns-clause-kept : goal.returns-clause-kept
returns-clause-kept c =
    let self = c.args.self.now in
    let leads = leads_to self.names.items c.args.name.0 _ _ c.requires.names.0 c.index.ensures c.in-Some.is in
    let small : c.in-Some.id < length self.values.items = c.requires.kept.named c.args.name.0 c.in-Some.id leads in
    let there : c.in-Some.id < length self.counts.items = omega (arith, c.requires.kept.counts_len) in
    let absent : get_or self.names.items c.args.other.0 None ≡ None = search rules in
    kept_link self.names.items self.tags.items self.values.items self.counts.items _ _ self.count c.args.other.0 c.in-Some.id (c.index_mut-2.result.now + 1) c.requires.kept c.requires.names.1 small absent c.in_ok-insert.ensures.updates.0 (ap (λ n. n + 1) (at_zero self.counts.items c.in-Some.id c.index_mut-2.result.now there c.index_mut-2.ensures.value))
