use Rattle.std.proofs.Common.{◌≡◌, ◌+◌, ◌-◌, ◌<◌, None, Some, rules, length, get_or, count_by, arith}
use Rattle.run_check.proofs.KeptMaps.{kept_del, counts_it, leads_to, at_zero}
use Rattle.run_check.proofs.plain_map.PlainMap.del.Goals as goal

pub overflow_sub-index_mut : goal.overflow_sub-index_mut
overflow_sub-index_mut c =
    let self = c.args.self.now in
    let leads = leads_to self.names.items c.args.name.0 _ _ c.requires.name c.index.ensures c.in-Some.is in
    let small : c.in-Some.id < length self.values.items = c.requires.kept.named c.args.name.0 c.in-Some.id leads in
    let there : c.in-Some.id < length self.counts.items = omega (arith, c.requires.kept.counts_len) in
    omega (arith, c.requires.kept.counted c.in-Some.id small, counts_it self.names.items c.args.name.0 c.in-Some.id c.requires.name leads, at_zero self.counts.items c.in-Some.id c.index_mut-2.result.now there c.index_mut-2.ensures.value)

pub returns-clause-kept : goal.returns-clause-kept
returns-clause-kept c =
    let self = c.args.self.now in
    let leads = leads_to self.names.items c.args.name.0 _ _ c.requires.name c.index.ensures c.in-Some.is in
    let small : c.in-Some.id < length self.values.items = c.requires.kept.named c.args.name.0 c.in-Some.id leads in
    let there : c.in-Some.id < length self.counts.items = omega (arith, c.requires.kept.counts_len) in
    let one : c.index_mut-2.result.now - 1 + 1 ≡ get_or self.counts.items c.in-Some.id 0 = omega (arith, c.requires.kept.counted c.in-Some.id small, counts_it self.names.items c.args.name.0 c.in-Some.id c.requires.name leads, at_zero self.counts.items c.in-Some.id c.index_mut-2.result.now there c.index_mut-2.ensures.value) in
    kept_del self.names.items self.tags.items self.values.items self.counts.items _ _ self.count c.args.name.0 c.in-Some.id (c.index_mut-2.result.now - 1) c.requires.kept c.requires.name leads c.remove.ensures.updates.0 one
