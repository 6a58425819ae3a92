use Rattle.std.proofs.Common.{◌≡◌, take}
use Rattle.run_engine.specs.Quotas.{worker_entries}
use Rattle.run_engine.proofs.quotas.cache_quotas.Given as goal

-- the counts so far are doubled
abbrev pub invariant-loop-count : goal.invariant-loop-count
invariant-loop-count l = l.quotas.items ≡ worker_entries (take l.count-index l.counts)
