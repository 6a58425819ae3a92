use Rattle.std.proofs.Common.{ℕ, length, All, sym, ◌∙◌, subst}
use Rattle.std.specs.List.{sum_by}
use Rattle.std.proofs.lemmas.List.Elements.{All-pop}
use Rattle.kmem_buf.specs.Buffers.{BufState}
use Rattle.kmem_buf.specs.Homes.{Homes}
use Rattle.magazine.specs.Layer.{Layer, layer_rounds}
use Rattle.magazine.specs.Ready.{AreReady}
use Rattle.kmem_cache.proofs.Flushes.{sum-last, going_on}
use Rattle.kmem_cache.proofs.flush.flush_cpus.Goals as goal

pub loop-cpu-preserved : goal.loop-cpu-preserved
loop-cpu-preserved g c =
    let inv = c.loop-cpu.invariant in let done = c.flush_cpu.ensures in let old = c.loop-cpu.cpus.items in let left = c.pop.new.self.items in
    let P : Homes → Layer (BufState g.row.K-Object.Denot) → Type 0 = λ home. λ (l : Layer (BufState g.row.K-Object.Denot)). AreReady g.K.Kind.constructed home (layer_rounds l) in
    let rest : All (P c.loop-cpu.cache.home) left = (All-pop (P c.loop-cpu.cache.home) old left c.pop.result c.pop.ensures.items inv.ready).0 in
    let count : Layer (BufState g.row.K-Object.Denot) → ℕ = (λ (l : Layer (BufState g.row.K-Object.Denot)). length (layer_rounds l)) in
    record {
      ready = subst (λ (home : Homes). All (P home) left) (sym done.home) rest;
      home = done.home ∙ inv.home;
      flushed = going_on (sum_by count c.args.cpus.items) (sum_by count old) (sum_by count left) (count c.in-Some.cpu) c.args.cache.now.state c.loop-cpu.cache.state c.flush_cpu.new.cache.state
          (sum-last count old left c.in-Some.cpu c.in-Some.ensures.items) done.flushed inv.flushed;
    }
