use Rattle.std.proofs.Common.{◌<◌, ◌∙◌, length, arith, ap, sym}
use Rattle.kmem_model.specs.RecordStep.{write_step}
use Rattle.run_check.specs.Kept.{kept_map}
use Rattle.run_check.proofs.KeptMaps.{leads_to, value_set}
use Rattle.run_check.proofs.plain_map.PlainMap.write.Goals as goal

pub index-old-requires : goal.index-old-requires
index-old-requires c =
    let small : c.in-Some.id < length c.args.self.now.values.items = c.requires.kept.held c.args.place c.in-Some.id (leads_to c.args.self.now.tags.items c.args.place _ _ c.requires.place c.index.ensures c.in-Some.is) in
    omega arith

pub index_mut-requires : goal.index_mut-requires
index_mut-requires c =
    let small : c.in-Some.id < length c.args.self.now.values.items = c.requires.kept.held c.args.place c.in-Some.id (leads_to c.args.self.now.tags.items c.args.place _ _ c.requires.place c.index.ensures c.in-Some.is) in
    omega arith

pub returns-clause-map : goal.returns-clause-map
returns-clause-map c =
    let self = c.args.self.now in
    let leads = leads_to self.tags.items c.args.place _ _ c.requires.place c.index.ensures c.in-Some.is in
    value_set self.names.items self.values.items self.tags.items c.in-Some.id c.args.value.now (c.requires.kept.held c.args.place c.in-Some.id leads)
    ∙ ap (λ o. (write_step (kept_map self) c.args.value.now o).map) (sym leads)
