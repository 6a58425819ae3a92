use Rattle.std.proofs.Common.{◌≡◌, ◌+◌, ◌<◌, true, length, set, arith, sym, ap, ◌∙◌}
use Rattle.std.specs.List.{sum_by}
use Rattle.std.proofs.lemmas.Option.{slice_get_within}
use Rattle.std.proofs.lemmas.List.{length-map}
use Rattle.kmem_buf.specs.Stubs.{StubState}
use Rattle.record_table.specs.Shares.{SharesState, ShareState, brought_of, fetched_of}
use Rattle.record_table.proofs.Sums.{homes_stay, back_out, back_brought, back_fetched, issued_as}
use Rattle.record_table.proofs.shares.Shares.take_back.Goals as goal

low : (c : goal.After-self-1) → c.share.inside.place < length c.self.inside.stubs.items
low c =
    omega (
      arith,
      slice_get_within c.args.self.now.homes c.args.share.place c.args.share.home c.requires.of,
      ap (λ (x : ShareState). x.place) c.share.view_is,
      ap (λ (x : SharesState). length x.homes) c.self.view_is,
      length-map c.self.inside.stubs.items (λ (x : StubState). x.home),
    )

was : (c : goal.After-self-1) → c.index_mut-stub.result.now ≡ issued_as c.share.inside.slip.home c.share.inside.brought c.share.inside.fetched
was c = c.redeem.ensures.was ∙ ap (λ fs. record { home = c.share.inside.slip.home; issued = true; facts = fs }) c.share.invariant

pub returns-clause-homes : goal.returns-clause-homes
returns-clause-homes c =
    homes_stay c.self.inside.stubs.items c.share.inside.place c.index_mut-stub.result.now c.redeem.new.self (low c) c.index_mut-stub.ensures.value c.redeem.ensures.home
    ∙ ap (λ (x : SharesState). x.homes) c.self.view_is

pub returns-clause-out : goal.returns-clause-out
returns-clause-out c =
    back_out c.self.inside.stubs.items c.share.inside.place c.index_mut-stub.result.now c.redeem.new.self (low c) c.index_mut-stub.ensures.value
    c.share.inside.slip.home c.share.inside.brought c.share.inside.fetched (was c) c.redeem.ensures.ended
    ∙ ap (λ (x : SharesState). x.out) c.self.view_is

pub returns-clause-brought : goal.returns-clause-brought
returns-clause-brought c =
    ap (λ (x : ShareState). sum_by brought_of (set c.self.inside.stubs.items c.share.inside.place c.redeem.new.self) + x.brought) (sym c.share.view_is)
    ∙ (back_brought c.self.inside.stubs.items c.share.inside.place c.index_mut-stub.result.now c.redeem.new.self (low c) c.index_mut-stub.ensures.value
    c.share.inside.slip.home c.share.inside.brought c.share.inside.fetched (was c) c.redeem.ensures.ended
    ∙ ap (λ (x : SharesState). x.brought) c.self.view_is)

pub returns-clause-fetched : goal.returns-clause-fetched
returns-clause-fetched c =
    ap (λ (x : ShareState). sum_by fetched_of (set c.self.inside.stubs.items c.share.inside.place c.redeem.new.self) + x.fetched) (sym c.share.view_is)
    ∙ (back_fetched c.self.inside.stubs.items c.share.inside.place c.index_mut-stub.result.now c.redeem.new.self (low c) c.index_mut-stub.ensures.value
    c.share.inside.slip.home c.share.inside.brought c.share.inside.fetched (was c) c.redeem.ensures.ended
    ∙ ap (λ (x : SharesState). x.fetched) c.self.view_is)
