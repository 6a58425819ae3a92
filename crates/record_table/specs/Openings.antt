-- How a record table begins (this project's own).
use Rattle.std.specs.Prelude.{◌≡◌, ℕ, ◌<◌, List, []}
use Rattle.atomic_table.specs.Seated.{TableId}
use Rattle.kmem_model.specs.declared.record_entry.RecordEntry.{RecordEntry}
use Rattle.hist_lock.specs.Passes.{PassState, Site}
use Rattle.record_table.specs.Shares.{ShareState, IsShareAt}
use Rattle.record_table.specs.Tables.{TableHome}

-- a pass of this table, with a number below this one, that nothing was done with
pub record IsFreshPass (site : Site TableHome) (below : ℕ) (pass : PassState RecordEntry TableHome) : Type 0 where
  pub site_is : pass.site ≡ site
  pub low : pass.number < below
  pub seen : pass.seen ≡ []
  pub mine : pass.mine ≡ []

-- a share of these homes that has put in and taken out nothing
pub record IsFreshShare (homes : List TableId) (share : ShareState) : Type 0 where
  pub at : IsShareAt homes share
  pub counts : (share.brought ≡ 0) × (share.fetched ≡ 0)
