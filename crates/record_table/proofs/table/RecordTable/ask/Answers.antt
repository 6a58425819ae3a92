use Rattle.std.proofs.Common.{◌≡◌, Some, Option, unwrap_or, slice_get, refl, sym, ap, ◌∙◌, subst, subst₂}
use Rattle.kmem_buf.specs.Answers.{Flags, verdict_of, flagged}
use Rattle.kmem_model.specs.Records.{no_records}
use Rattle.kmem_model.specs.History.{IsLegalHistory}
use Rattle.hist_lock.specs.History.{entries_of}
use Rattle.hist_lock.specs.Passes.{Site}
use Rattle.record_table.specs.Shares.{ShareState, IsShareAt}
use Rattle.record_table.specs.Tables.{TableHome}
use Rattle.record_table.specs.Sessions.{no_share}
use Rattle.record_table.specs.Asks.{AreFlagsDue}
use Rattle.record_table.proofs.Due.{due_all, flags_on, flags_next}
use Rattle.record_table.proofs.table.RecordTable.ask.Goals as goal

pub invariant_of-mover : goal.invariant_of-mover
invariant_of-mover g c =
    let m = c.mover.inside in
    let was = c.mover.invariant in
    let a = c.answer-answer in
    let asked = a.ensures.asked in
    let looked = asked.looked in
    let seen = a.new.pass.seen in
    let v = verdict_of a.result.0 in
    let home = a.new.pass.site.home in
    let share : c.in-Some.share ≡ unwrap_or m.share no_share = ap (λ (x : Option ShareState). unwrap_or x no_share) (sym (sym c.replace.ensures.value ∙ c.in-Some.is)) in
    let place = ap (λ (s : ShareState). s.place) a.ensures.share ∙ ap (λ (s : ShareState). s.place) share in
    let at = ap (λ (s : ShareState). s.home) a.ensures.share ∙ ap (λ (s : ShareState). s.home) share in
    let noted : c.note.new.self ≡ flagged v m.given = c.note.ensures ∙ ap (λ w. flagged w m.given) c.verdict-verdict.ensures in
    record {
      legal = subst (λ (site : Site TableHome). IsLegalHistory (no_records site.home.names site.home.workers) seen) (sym looked.site) looked.legal;
      exact = subst (λ n. entries_of n seen ≡ a.new.pass.mine) (sym looked.number) (looked.exact ∙ sym looked.mine);
      none = looked.mine ∙ was.none;
      share =
          subst (λ (site : Site TableHome). IsShareAt site.home.shares a.result.1) (sym looked.site)
          (subst₂ (λ n h. slice_get m.pass.site.home.shares n ≡ Some h) (sym place) (sym at) was.share);
      there = refl;
      due =
          subst (λ (f : Flags). AreFlagsDue f seen) (sym noted)
          (flags_next home v m.given seen (flags_on m.given m.pass.seen seen looked.front was.due) (due_all home seen v (λ known. (asked.known known).due)));
    }
