use Rattle.std.proofs.Common.{◌≡◌, ◌+◌, ◌++◌, ◌∷◌, [], length, arith, sym, ap, ◌∙◌}
use Rattle.std.proofs.lemmas.List.{length-map, map-append}
use Rattle.kmem_buf.specs.Homes.{stub_homes}
use Rattle.kmem_buf.specs.Stubs.{StubState}
use Rattle.record_table.specs.Shares.{SharesState, shares_of, fresh_share, fresh_shares}
use Rattle.record_table.proofs.Sums.{made_more, dealt_more, issued_as}
use Rattle.record_table.proofs.shares.Shares.create.Goals as goal

pub loop-place-preserved : goal.loop-place-preserved
loop-place-preserved c =
    let inv = c.loop-place.invariant in
    let stubs = c.loop-place.stubs.items in
    let stub = c.issue-slip.new.self in
    let is : stub ≡ issued_as stub.home 0 0 = c.issue-slip.ensures.stub ∙ ap (λ h. issued_as h 0 0) (sym (ap (λ (s : StubState). s.home) c.issue-slip.ensures.stub)) in
    let homes : stub_homes (stubs ++ stub ∷ []) ≡ stub_homes stubs ++ stub.home ∷ [] = map-append (λ (s : StubState). s.home) stubs (stub ∷ []) in
    let place : length (stub_homes stubs) ≡ c.loop-place.place = omega (arith, length-map stubs (λ (s : StubState). s.home), inv.stubs.0) in
    let at : c.loop-place.place ≡ 0 + length (stub_homes stubs) = omega (arith, place) in
    let share : record { place = c.loop-place.place; brought = 0; fetched = 0; home = c.issue-slip.result.home } ≡ fresh_share (0 + length (stub_homes stubs)) stub.home =
    (λ i. record { place = at i; brought = 0; fetched = 0; home = (ap (λ s. s.home) c.issue-slip.ensures.slip ∙ sym (ap (λ (s : StubState). s.home) c.issue-slip.ensures.stub)) i }) in
    record {
      shares =
          ap shares_of c.push_reserved.ensures.items
          ∙ (made_more stubs stub is
          ∙ (ap (λ (s : SharesState). record s { homes = stub_homes stubs ++ stub.home ∷ []; out = s.out + 1 }) inv.shares
          ∙ ap (λ hs. record { homes = hs; out = c.loop-place.place + 1; brought = 0; fetched = 0 }) (sym (ap stub_homes c.push_reserved.ensures.items ∙ homes))));
      dealt =
          c.push_reserved-in-loop-place.ensures.items
          ∙ ((λ i. inv.dealt i ++ share i ∷ [])
          ∙ (sym (dealt_more 0 (stub_homes stubs) stub.home) ∙ ap (fresh_shares 0) (sym (ap stub_homes c.push_reserved.ensures.items ∙ homes))));
      stubs = (omega (arith, inv.stubs, c.push_reserved.ensures.len), omega (arith, inv.stubs, c.push_reserved.ensures.capacity));
      room = (omega (arith, inv.room, c.push_reserved-in-loop-place.ensures.len), omega (arith, inv.room, c.push_reserved-in-loop-place.ensures.capacity));
    }
