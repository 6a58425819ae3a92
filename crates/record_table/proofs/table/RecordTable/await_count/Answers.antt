use Rattle.std.proofs.Common.{◌≡◌, unwrap_or, sym, ◌∙◌, subst}
use Rattle.kmem_model.specs.Records.{no_records}
use Rattle.kmem_model.specs.History.{IsLegalHistory}
use Rattle.hist_lock.specs.History.{entries_of}
use Rattle.hist_lock.specs.Passes.{Site}
use Rattle.record_table.specs.Shares.{IsShareAt}
use Rattle.record_table.specs.Tables.{TableHome}
use Rattle.record_table.specs.Sessions.{no_share}
use Rattle.record_table.proofs.Sessions.{awaited_on}
use Rattle.record_table.proofs.Due.{flags_on}
use Rattle.record_table.proofs.table.RecordTable.await_count.Goals as goal

pub invariant_of-mover : goal.invariant_of-mover
invariant_of-mover g c =
    let m = c.mover.inside in let was = c.mover.invariant in let new = c.await_count.new.pass in
    let looked = awaited_on c.args.count m.pass new c.await_count.ensures in
    record {
      legal = subst (λ (site : Site TableHome). IsLegalHistory (no_records site.home.names site.home.workers) new.seen) (sym looked.site) looked.legal;
      exact = subst (λ n. entries_of n new.seen ≡ new.mine) (sym looked.number) (looked.exact ∙ sym looked.mine);
      none = looked.mine ∙ was.none;
      share = subst (λ (site : Site TableHome). IsShareAt site.home.shares (unwrap_or m.share no_share)) (sym looked.site) was.share;
      there = was.there;
      due = flags_on m.given m.pass.seen new.seen looked.front was.due;
    }
