use Rattle.std.proofs.Common.{true, sym, ◌∙◌, subst}
use Rattle.kmem_buf.specs.Homes.{Homes}
use Rattle.kmem_model.specs.declared.cache_entry.CacheEntry.TheVariants.{Scan, Begin, End}
use Rattle.kmem_model.specs.declared.cache_entry.Said.TheVariants.{Later}
use Rattle.kmem_report.specs.Bench.{AreHeld}
use Rattle.kmem_report.proofs.Sizes.{sizes_kept}
use Rattle.kmem_report.proofs.tests.Bench.put_off.Goals as goal

pub invariant_of-self-2 : goal.invariant_of-self-2
invariant_of-self-2 c =
    let move = c.in-Ok.job.move in
    let scanned = sizes_kept 2 4 _ _ (Scan true) c.start_scan.ensures.entry c.self.invariant.0 in
    let begun = sizes_kept 2 4 _ _ (Begin move.no move.from move.to) c.in-Ok.ensures.entry scanned in
    let same = sym (c.end.ensures.home ∙ c.in-Ok.ensures.home ∙ c.start_scan.ensures.home) in (
      sizes_kept 2 4 _ _ (End c.part-pending.result.0.no Later) c.end.ensures.entry begun,
      subst (λ (h : Homes). AreHeld h c.self.inside.held.items) same c.self.invariant.1,
    )
