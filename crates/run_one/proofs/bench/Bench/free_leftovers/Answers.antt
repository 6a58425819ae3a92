use Rattle.std.proofs.Common.{◌<◌, ◌+◌, Bool, true, cond, count_by, refl, sym, ◌∙◌, subst}
use Rattle.kmem_model.specs.Heap.{places_of}
use Rattle.run_one.proofs.Freeing.{freeing_start, freeing_on, fewer, freed_all}
use Rattle.run_one.proofs.bench.Bench.free_leftovers.Goals as goal

pub freeing-init : goal.freeing-init
freeing-init c = record { stands = c.requires.stands; settled = refl; freeing = λ s at. freeing_start s c.args.self.now true at refl }

pub freeing-smaller : goal.freeing-smaller
freeing-smaller c =
    let s = c.freeing.invariant.stands.0 in
    subst (λ (b : Bool). count_by (λ x. x) (places_of c.free_one-more.new.self.heap.heap.objects) + cond c.free_one-more.result 1 0 < count_by (λ x. x) (places_of c.freeing.self.heap.heap.objects) + cond b 1 0) (sym c.freeing-test.true)
    (fewer s c.freeing.self c.free_one-more.new.self c.free_one-more.result (c.free_one-more.ensures.freed s c.freeing.invariant.stands.1))

pub freeing-preserved : goal.freeing-preserved
freeing-preserved c =
    record {
      stands = c.free_one-more.ensures.stands;
      settled = c.free_one-more.ensures.settled ∙ c.freeing.invariant.settled;
      freeing = λ s given.
          let f = c.freeing.invariant.freeing s given in
          freeing_on s c.freeing.self c.free_one-more.new.self c.free_one-more.result c.freeing.more f (c.free_one-more.ensures.freed f.state f.stands);
    }

pub returns-clause-freed : goal.returns-clause-freed
returns-clause-freed c = λ s given. freed_all s c.freeing.self c.freeing.more (c.freeing.invariant.freeing s given) c.freeing-test.false
