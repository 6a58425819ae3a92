use Rattle.std.proofs.Common.{◌<◌, ◌+◌, Bool, true, cond, count_by, refl, sym, ◌∙◌, subst}
use Rattle.kmem_model.specs.Heap.{places_of}
use Rattle.run_end.proofs.Freeing.{freeing_start, freeing_on, smaller, freed_all}
use Rattle.run_end.proofs.leftovers.free_leftovers.Goals as goal

pub freeing-init : goal.freeing-init
freeing-init c = record { stand = c.requires.stand; home = (refl, refl); freeing = λ s at. freeing_start s c.args.cache.now c.args.heap.now true at refl }

pub freeing-smaller : goal.freeing-smaller
freeing-smaller c =
    let s = c.freeing.invariant.stand.0 in
    subst (λ (b : Bool). count_by (λ x. x) (places_of c.free_one-more.new.heap.heap.objects) + cond c.free_one-more.result 1 0 < count_by (λ x. x) (places_of c.freeing.heap.heap.objects) + cond b 1 0) (sym c.freeing-test.true)
    (smaller s c.freeing.cache c.free_one-more.new.cache c.freeing.heap c.free_one-more.new.heap c.free_one-more.result (c.free_one-more.ensures.freed s c.freeing.invariant.stand.1))

pub freeing-preserved : goal.freeing-preserved
freeing-preserved c =
    record {
      stand = c.free_one-more.ensures.stand;
      home = (c.free_one-more.ensures.home.0 ∙ c.freeing.invariant.home.0, c.free_one-more.ensures.home.1 ∙ c.freeing.invariant.home.1);
      freeing = λ s given.
          let f = c.freeing.invariant.freeing s given in
          freeing_on c.law_follows.ensures.chain c.law_counts.ensures.out_along s c.args.cache.now c.freeing.cache c.free_one-more.new.cache c.args.heap.now c.freeing.heap c.free_one-more.new.heap c.free_one-more.result c.freeing.more f (c.free_one-more.ensures.freed f.state f.stands);
    }

pub returns-clause-freed : goal.returns-clause-freed
returns-clause-freed c = λ s given. freed_all s c.args.cache.now c.freeing.cache c.args.heap.now c.freeing.heap c.freeing.more (c.freeing.invariant.freeing s given) c.freeing-test.false
