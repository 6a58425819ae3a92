use Rattle.std.proofs.Common.{ℕ, List, length, All, sym, ◌∙◌, subst}
use Rattle.std.specs.List.{sum_by}
use Rattle.std.proofs.lemmas.List.Elements.{All-pop}
use Rattle.kmem_buf.specs.Buffers.{BufState}
use Rattle.kmem_buf.specs.Homes.{Homes}
use Rattle.magazine.specs.Ready.{AreReady}
use Rattle.kmem_cache.proofs.Flushes.{sum-last, going_on}
use Rattle.kmem_cache.proofs.flush.flush_magazines.Goals as goal

pub loop-magazine-preserved : goal.loop-magazine-preserved
loop-magazine-preserved g c =
    let inv = c.loop-magazine.invariant in let done = c.flush_magazine.ensures in let old = c.loop-magazine.magazines.items in let left = c.pop.new.self.items in
    let P : Homes → List (BufState g.row.K-Object.Denot) → Type 0 = λ home. λ (l : List (BufState g.row.K-Object.Denot)). AreReady g.K.Kind.constructed home l in
    let rest : All (P c.loop-magazine.cache.home) left = (All-pop (P c.loop-magazine.cache.home) old left c.pop.result c.pop.ensures.items inv.ready).0 in
    let count : List (BufState g.row.K-Object.Denot) → ℕ = (λ (l : List (BufState g.row.K-Object.Denot)). length l) in
    record {
      ready = subst (λ (home : Homes). All (P home) left) (sym done.home) rest;
      home = done.home ∙ inv.home;
      flushed = going_on (sum_by count c.args.magazines.items) (sum_by count old) (sum_by count left) (count c.in-Some.magazine) c.args.cache.now.state c.loop-magazine.cache.state c.flush_magazine.new.cache.state
          (sum-last count old left c.in-Some.magazine c.in-Some.ensures.items) done.flushed inv.flushed;
    }
