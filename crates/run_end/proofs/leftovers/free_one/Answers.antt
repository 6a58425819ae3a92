use Rattle.std.proofs.Common.{◌≡◌, ◌+◌, true, [], count_by, Some, sym, ap, ◌∙◌, subst}
use Rattle.kmem_model.specs.CacheState.{CacheState}
use Rattle.kmem_model.specs.CacheEnter.{enter}
use Rattle.kmem_model.specs.CacheHistory.{entered_all}
use Rattle.kmem_model.specs.declared.cache_entry.CacheEntry.TheVariants.{Free}
use Rattle.kmem_model.specs.Heap.{places_of}
use Rattle.std.specs.Option.{option_and_then}
use Rattle.kmem_model.specs.One.{OneState}
use Rattle.kmem_model.specs.OneRun.{without_leftover}
use Rattle.run_end.specs.Ends.{StandTogether, FreesOne}
use Rattle.run_end.proofs.Freeing.{one_less, place_there}
use Rattle.run_end.proofs.leftovers.free_one.Goals as goal

frees : (c : goal.After-free) (s : OneState) → StandTogether s c.args.cache.now c.args.heap.now → FreesOne s c.args.cache.now c.args.heap.now true c.free.new.self c.take_leftover.new.self
frees c s at =
    let heap = c.args.heap.now in
    let b = c.in-Some.buf.number in
    let does =
    c.law_one_settle.ensures.freed s heap.heap c.take_leftover.new.self.heap c.free.new.self.state b at.stands c.in-Some.ensures.buf.0
    (subst (λ (t : CacheState). enter t (Free b) ≡ Some c.free.new.self.state) at.state c.free.ensures.entry)
    (c.take_leftover.ensures.stands s.map s.addresses at.stands.stands) c.in-Some.ensures.places in (
      b,
      does.0,
      ap (option_and_then (λ next. entered_all next [])) c.free.ensures.entry,
      record { stands = does.2; state = sym does.1 },
      ap (λ ps. count_by (λ x. x) ps + 1) c.in-Some.ensures.places ∙ one_less (places_of heap.heap.objects) b (place_there heap.heap b c.in-Some.ensures.buf.0),
    )

pub returns-in-Some-clause-freed : goal.returns-in-Some-clause-freed
returns-in-Some-clause-freed c = frees c

pub returns-in-Some-clause-stand : goal.returns-in-Some-clause-stand
returns-in-Some-clause-stand c =
    let s = c.requires.stand.0 in
    let does = frees c s c.requires.stand.1 in
    (without_leftover s does.0, does.3)
