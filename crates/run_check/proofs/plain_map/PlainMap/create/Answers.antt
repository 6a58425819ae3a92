use Rattle.std.proofs.Common.{◌≡◌, ◌*◌, List, ℕ, None, replicate, Option, rules}
use Rattle.run_check.proofs.KeptMaps.{kept_new, map_new}
use Rattle.run_check.proofs.plain_map.PlainMap.create.Goals as goal

pub returns : goal.returns
returns c =
    let names : c.in_ok-vec.field-0.items ≡ replicate c.args.names None = c.in_ok-vec.ensures.items_if_clones_equal (λ y h. search rules) in
    let tags : c.in_ok-vec-2.field-0.items ≡ replicate (8 * c.args.workers) None = c.in_ok-vec-2.ensures.items_if_clones_equal (λ y h. search rules) in
    (kept_new _ _ _ _ _ c.args.names (8 * c.args.workers) names tags c.new.ensures.items c.new-2.ensures.items (λ q. search rules), map_new _ _ _ c.args.names c.args.workers names tags c.new.ensures.items)
