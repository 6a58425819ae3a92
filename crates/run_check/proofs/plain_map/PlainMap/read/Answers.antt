use Rattle.std.proofs.Common.{◌<◌, length, arith}
use Rattle.run_check.proofs.KeptMaps.{leads_to}
use Rattle.run_check.proofs.plain_map.PlainMap.read.Goals as goal

pub index-requires-in-Some : goal.index-requires-in-Some
index-requires-in-Some c =
    let small : c.in-Some.id < length c.args.self.now.values.items = c.requires.kept.held c.args.place c.in-Some.id (leads_to c.args.self.now.tags.items c.args.place _ _ c.requires.place c.index.ensures c.in-Some.is) in
    omega arith
