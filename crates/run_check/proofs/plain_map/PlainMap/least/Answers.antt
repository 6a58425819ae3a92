use Rattle.run_check.proofs.KeptMaps.{least_is}
use Rattle.run_check.proofs.plain_map.PlainMap.least.Goals as goal

pub returns : goal.returns
returns c =
    least_is c.args.self.now.names.items _ c.args.from c.first_from.result (λ n k test. (c.law_order.ensures.least n k test).1) (λ n test. (c.law_order.ensures.no_least n test).1) c.requires.present
    c.first_from.ensures.none c.first_from.ensures.within c.first_from.ensures.there c.first_from.ensures.least
