use Rattle.std.proofs.Common.{◌+◌, ◌*◌, sym, ap, ◌∙◌, option_map}
use Rattle.kmem_model.specs.CacheState.{slab_at}
use Rattle.std.specs.Prelude.{option_and_then}
use Rattle.std.specs.Option.{option_or}
use Rattle.kmem_model.specs.CacheOrder.{least_free, first_of_slab}
use Rattle.slab_list.specs.Slabs.{is_unused}
use Rattle.slab_list.proofs.Choices.{served, none_free, first_below, serve_free, partial_listed}
use Rattle.slab_list.proofs.list.SlabList.first_free_on.Goals as goal

pub least_free-requires : goal.least_free-requires
least_free-requires g c =
    let l = c.law_order.ensures in
    let f = first_below l.least l.no_least l.foremost l.no_foremost l.order c.args.self.now c.in-Some.slab (sym c.requires ∙ c.in-Some.is) in
    f.below

pub returns-in-Some-clause-free : goal.returns-in-Some-clause-free
returns-in-Some-clause-free g c =
    let l = c.law_order.ensures in
    c.least_free.ensures.least
    ∙ served l.least l.no_least l.foremost l.no_foremost l.order c.args.self.now c.in-Some.slab (sym c.requires ∙ c.in-Some.is)

pub returns-in-Some-clause-none : goal.returns-in-Some-clause-none
returns-in-Some-clause-none g c =
    let l = c.law_order.ensures in
    none_free l.least l.no_least l.foremost l.no_foremost l.order c.args.self.now c.law_whole.ensures.whole c.least_free.result
    (c.least_free.ensures.least
    ∙ served l.least l.no_least l.foremost l.no_foremost l.order c.args.self.now c.in-Some.slab (sym c.requires ∙ c.in-Some.is))

pub returns-in-None-clause-none : goal.returns-in-None-clause-none
returns-in-None-clause-none g c =
    let l = c.law_order.ensures in
    none_free l.least l.no_least l.foremost l.no_foremost l.order c.args.self.now c.law_whole.ensures.whole c.first_unused.result
    (c.first_unused.ensures.first
    ∙ sym (ap (λ o. option_or (option_and_then (λ j. option_map (λ k. j * c.args.self.now.chunks + k) (least_free (slab_at c.args.self.now.slabs j))) o) (first_of_slab c.args.self.now.chunks c.args.self.now.slabs is_unused))
    (sym c.requires ∙ c.in-None.is)))

pub returns-in-Some-clause-room : goal.returns-in-Some-clause-room
returns-in-Some-clause-room g c =
    let l = c.law_order.ensures in
    let s = c.args.self.now in
    let f = first_below l.least l.no_least l.foremost l.no_foremost l.order s c.in-Some.slab (sym c.requires ∙ c.in-Some.is) in
    serve_free s c.in-Some.slab c.least_free.result (partial_listed (slab_at s.slabs c.in-Some.slab) f.passes) c.least_free.ensures.room
