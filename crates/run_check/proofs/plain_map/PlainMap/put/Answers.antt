use Rattle.std.proofs.Common.{◌≡◌, ◌<◌, ◌+◌, ◌++◌, ◌∷◌, ◌∙◌, [], None, Some, rules, sym, ap, length, get_or}
use Rattle.kmem_model.specs.RecordStep.{put_step}
use Rattle.run_check.specs.Kept.{kept_map}
use Rattle.run_check.proofs.KeptMaps.{kept_put, kept_as, kept_len, value_set, leads_to}
use Rattle.run_check.proofs.plain_map.PlainMap.put.Goals as goal

pub returns-in-Some-clause-map : goal.returns-in-Some-clause-map
returns-in-Some-clause-map c =
    let self = c.args.self.now in
    let leads = leads_to self.names.items c.args.name.0 _ _ c.requires.name c.index.ensures c.in-Some.is in
    value_set self.names.items self.values.items self.tags.items c.in-Some.id c.args.value.now (c.requires.kept.named c.args.name.0 c.in-Some.id leads)
    ∙ ap (λ o. (put_step (kept_map self) c.args.name.0 c.args.value.now o).map) (sym leads)

pub returns-in_ok-push-in-None-2-clause-kept : goal.returns-in_ok-push-in-None-2-clause-kept
returns-in_ok-push-in-None-2-clause-kept c =
    let self = c.args.self.now in
    let absent = leads_to self.names.items c.args.name.0 _ _ c.requires.name c.index.ensures c.in-None.is in
    let len : c.len-id.result ≡ length self.values.items = search rules in
    let put = kept_put self.names.items self.tags.items self.values.items self.counts.items _ _ self.count c.args.name.0 c.args.value.now c.requires.kept c.requires.name absent c.in_ok-insert-in-None.ensures.updates.0 in
    kept_len self.names.items self.tags.items c.push.new.self.items c.push-in-None.new.self.items _ (self.count + 1) c.args.name.0 (length self.values.items) c.len-id.result len
    (kept_as _ _ _ _ _ _ _ _ c.in_ok-push-in-None.ensures.items c.in_ok-push-in-None-2.ensures.items put)
