use Rattle.std.proofs.Common.{◌≡◌, ◌+◌, true, length, count_by, Some, sym, ap, ◌∙◌, subst}
use Rattle.kmem_model.specs.CacheState.{CacheState}
use Rattle.kmem_model.specs.CacheEnter.{enter}
use Rattle.kmem_model.specs.declared.cache_entry.CacheEntry.TheVariants.{Free}
use Rattle.kmem_model.specs.Heap.{places_of}
use Rattle.kmem_model.specs.One.{OneState}
use Rattle.kmem_model.specs.OneRun.{without_leftover}
use Rattle.record_heap.specs.View.{HeapView}
use Rattle.run_one.specs.Bench.{BenchView, StandsAt, FreesOne}
use Rattle.run_one.proofs.Benches.{in_use, one_less, place_there}
use Rattle.run_one.proofs.bench.Bench.free_one.Goals as goal

frees : (c : goal.After-free) (s : OneState) → StandsAt s (record { cache = c.self.inside.cache; heap = c.self.inside.heap; holds = c.self.inside.holds.items; settled = c.self.inside.settled }) →
    FreesOne s (record { cache = c.self.inside.cache; heap = c.self.inside.heap; holds = c.self.inside.holds.items; settled = c.self.inside.settled }) true
    (record { cache = c.free.new.self; heap = c.take_leftover.new.self; holds = c.self.inside.holds.items; settled = c.self.inside.settled })
frees c s at =
    let f = c.self.inside in
    let b = c.in-Some.buf.number in
    let does =
    c.law_one_settle.ensures.freed s f.heap.heap c.take_leftover.new.self.heap c.free.new.self.state b at.stands c.in-Some.ensures.buf.0
    (subst (λ (t : CacheState). enter t (Free b) ≡ Some c.free.new.self.state) at.cache c.free.ensures.entry)
    (c.take_leftover.ensures.stands s.map s.addresses at.stands.stands) c.in-Some.ensures.places in (
      b,
      does.0,
      record {
        stands = does.2;
        cache = sym does.1;
        cells = ap (λ h. length h.cells) c.free.ensures.home ∙ (at.cells ∙ (sym at.stands.size ∙ (sym c.take_leftover.ensures.frame.objects ∙ does.2.size)));
        held = λ place. at.held place ∙ (in_use s f.heap.heap place at.stands ∙ sym (in_use (without_leftover s b) c.take_leftover.new.self.heap place does.2));
      },
      ap (λ ps. count_by (λ x. x) ps + 1) c.in-Some.ensures.places ∙ one_less (places_of f.heap.heap.objects) b (place_there f.heap.heap b c.in-Some.ensures.buf.0),
    )

pub returns-in-Some-clause-freed : goal.returns-in-Some-clause-freed
returns-in-Some-clause-freed c = λ s given.
    subst (λ (b : BenchView). FreesOne s b true (record { cache = c.free.new.self; heap = c.take_leftover.new.self; holds = c.self.inside.holds.items; settled = c.self.inside.settled })) c.self.view_is
    (frees c s (subst (StandsAt s) (sym c.self.view_is) given))

pub returns-in-Some-clause-stands : goal.returns-in-Some-clause-stands
returns-in-Some-clause-stands c =
    let s = c.requires.stands.0 in
    let does = frees c s (subst (StandsAt s) (sym c.self.view_is) c.requires.stands.1) in
    (without_leftover s does.0, does.2)

pub returns-in-None-clause-freed : goal.returns-in-None-clause-freed
returns-in-None-clause-freed c = λ s given.
    let f = c.self.inside in
    let at = subst (StandsAt s) (sym c.self.view_is) given in (
      sym (c.law_room.ensures.leftover s f.heap.heap at.stands) ∙ c.in-None.ensures.none,
      ap (λ (h : HeapView). record { cache = f.cache; heap = h; holds = f.holds.items; settled = f.settled }) c.in-None.ensures.stays ∙ c.self.view_is,
    )

pub returns-in-None-clause-stands : goal.returns-in-None-clause-stands
returns-in-None-clause-stands c =
    let f = c.self.inside in
    subst (λ (b : BenchView). (s : OneState) × StandsAt s b) (sym (ap (λ (h : HeapView). record { cache = f.cache; heap = h; holds = f.holds.items; settled = f.settled }) c.in-None.ensures.stays ∙ c.self.view_is)) c.requires.stands
