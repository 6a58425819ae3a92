use Rattle.std.proofs.Common.{◌+◌, ◌<◌, true, length, arith, ap, ◌∙◌}
use Rattle.std.proofs.lemmas.Option.{slice_get_within}
use Rattle.std.proofs.lemmas.List.{length-map}
use Rattle.kmem_buf.specs.Stubs.{StubState}
use Rattle.record_table.specs.Shares.{SharesState, ShareState}
use Rattle.record_table.proofs.Sums.{counted_more, issued_as}
use Rattle.record_table.proofs.shares.Shares.count.Goals as goal

pub returns-clause-shares : goal.returns-clause-shares
returns-clause-shares c =
    let f = c.self.inside in
    let s = c.share.inside in
    let within = slice_get_within c.args.self.now.homes c.args.share.place c.args.share.home c.requires.of in
    let low : s.place < length f.stubs.items =
    omega (arith, within, ap (λ (x : ShareState). x.place) c.share.view_is, ap (λ (x : SharesState). length x.homes) c.self.view_is, length-map f.stubs.items (λ (x : StubState). x.home)) in
    let was = c.reissue-slip.ensures.was ∙ ap (λ fs. record { home = s.slip.home; issued = true; facts = fs }) c.share.invariant in
    counted_more f.stubs.items s.place c.index_mut-stub.result.now c.reissue-slip.new.self low c.index_mut-stub.ensures.value s.slip.home s.brought s.fetched c.args.brought c.args.fetched
    was (c.reissue-slip.ensures.stub ∙ ap (λ h. issued_as h (s.brought + c.args.brought) (s.fetched + c.args.fetched)) (ap (λ (x : StubState). x.home) was))
    ∙ ap (λ (x : SharesState). record x { brought = x.brought + c.args.brought; fetched = x.fetched + c.args.fetched }) c.self.view_is
