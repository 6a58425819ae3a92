use Rattle.std.proofs.Common.{◌≡◌, ◌*◌, ℕ, [], ◌∷◌, length, sum, sym, ap, ◌∙◌, arith}
use Rattle.std.proofs.lemmas.List.{length-replicate}
use Rattle.std.proofs.lemmas.List.Sums.{sum_by-cons}
use Rattle.kmem_model.specs.CacheState.{CacheState, slab_in_source}
use Rattle.kmem_cache.specs.declared.locked.CacheHome.{CacheHome}
use Rattle.move_queue.specs.declared.rule.Terms.{Terms}
use Rattle.consolidator.specs.declared.driving.MoverPlan.{MoverPlan}
use Rattle.run_engine.specs.Quotas.{cache_quotas}
use Rattle.run_engine.proofs.Counts.{halves, quotas_many, quotas_sum}
use Rattle.run_engine.proofs.opening.open_shared.Goals as goal

pub create-requires-5-clause-room : goal.create-requires-5-clause-room
create-requires-5-clause-room c =
    omega (
      arith,
      ap sum (c.deref.ensures.value ∙ c.in_ok-quotas.ensures),
      quotas_sum c.args.plan.now c.args.counts.now c.requires.plan c.requires.all,
    )

pub returns-clause-shared : goal.returns-clause-shared
returns-clause-shared c =
    let plan = c.args.plan.now in
    let cache = c.in_ok-cache.ensures in
    let table = c.in_ok-table.ensures in
    let queue = c.in_ok-queue.ensures in
    let objects = c.in_ok-objects.ensures in
    let quotas : c.deref.result.now ≡ cache_quotas plan c.args.counts.now = c.deref.ensures.value ∙ c.in_ok-quotas.ensures in
    let first = c.first_plan.result.scans in
    let second = c.second_plan.result.scans in
    record {
      sizes = (
        ap (λ (h : CacheHome). h.slabs) cache.home ∙ (ap (λ (s : CacheState). length s.slabs) objects.state ∙ length-replicate plan.slabs (slab_in_source plan.chunks)),
        ap (λ (h : CacheHome). h.chunks) cache.home ∙ ap (λ (s : CacheState). s.chunks) objects.state,
      );
      cells = ap (λ (h : CacheHome). length h.buffers.cells) cache.home ∙ objects.home.0;
      moves = ap (λ (h : CacheHome). length h.buffers.moves) cache.home ∙ objects.home.1;
      seats = omega (arith, cache.count, ap length quotas, quotas_many plan c.args.counts.now, c.requires.many);
      places = cache.places;
      home = ap (λ (h : CacheHome). h.buffers) cache.home ∙ sym (table.home ∙ c.home.ensures);
      names_are = table.sizes.0;
      workers = table.sizes.1 ∙ c.requires.many;
      passes = omega (arith, table.count, c.requires.many);
      jobs = ap (λ (t : Terms). t.home) queue.terms ∙ (c.home-2.ensures ∙ sym (ap (λ (h : CacheHome). h.buffers) cache.home));
      pushes =
          omega (
            arith,
            ap {B = ℕ} (λ (t : Terms). t.quotas) queue.terms,
            sum_by-cons (λ (n : ℕ). n) (64 * first) (64 * second ∷ []),
            sum_by-cons (λ (n : ℕ). n) (64 * second) [],
            ap {B = ℕ} (λ (p : MoverPlan). p.scans) c.first_plan.ensures,
            ap {B = ℕ} (λ (p : MoverPlan). p.scans) c.second_plan.ensures,
            halves plan.scans,
          );
      movers = ap {B = ℕ} (λ (t : Terms). t.seats) queue.terms;
    }
