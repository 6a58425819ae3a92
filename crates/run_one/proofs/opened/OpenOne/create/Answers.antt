use Rattle.std.proofs.Common.{◌∙◌, subst, arith}
use Rattle.kmem_model.specs.OneRun.{run_start}
use Rattle.run_one.specs.Bench.{RunsAt}
use Rattle.run_one.proofs.opened.OpenOne.create.Goals as goal

pub invariant_of-result : goal.invariant_of-result
invariant_of-result c =
    record {
      of = c.requires.script;
      bench_is = subst (λ n. RunsAt (run_start c.args.slabs c.args.chunks n) c.in_ok-bench.bench) (c.len.ensures ∙ c.args.script.names.ok.0) c.in_ok-bench.ensures.start;
      names = c.in_ok-bench.ensures.names ∙ (c.len.ensures ∙ c.args.script.names.ok.0);
      within = λ i d below. record { within = c.requires.script.places i d below; worker = c.requires.script.workers i d below };
      page_is = omega (arith, c.in_ok-page.ensures.len);
    }
