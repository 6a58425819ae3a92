use Rattle.std.proofs.Common.{◌≡◌, ◌<◌, ℕ, length, map, reverse, ap, sym, ◌∙◌, subst, arith}
use Rattle.std.proofs.lemmas.List.Elements.{All-same}
use Rattle.hist_lock.specs.Passes.{fresh_passes}
use Rattle.std.proofs.lemmas.List.{length-replicate}
use Rattle.depot.specs.Depot.{fresh_depot_seat}
use Rattle.kmem_cache.specs.Seats.{CacheSite, IsCacheSeat, fresh_cache_seat}
use Rattle.kmem_cache.specs.Opening.{IsFreshPass}
use Rattle.kmem_cache.proofs.Openings.{fresh_all, fresh_long, map-turned, seats_of, seats_long}
use Rattle.kmem_cache.proofs.shared_cache.Cache.create.Goals as goal

pub seat_all-requires-clause-fresh : goal.seat_all-requires-clause-fresh
seat_all-requires-clause-fresh g c =
    let lock = c.in_ok-lock.lock in let store = c.in_ok-store.store in let quotas = c.args.quotas.now in
    let under = c.in_ok-lock.ensures.home in
    let at : lock.home.buffers ≡ store.home = ap (λ k. k.buffers) under ∙ (ap (λ k. k.buffers) c.locked_of.ensures.home ∙ sym (c.in_ok-store.ensures.home ∙ c.home.ensures)) in
    let chunks : 0 < lock.home.chunks = subst (λ (n : ℕ). 0 < n) (sym (ap (λ k. k.chunks) under)) c.locked_of.ensures.chunks in
    All-same (IsFreshPass store.home) c.in_ok-lock.dealt.items (fresh_passes lock 0 quotas) c.in_ok-lock.ensures.passes (fresh_all lock store.home 0 quotas at chunks)

pub seat_all-requires-clause-count : goal.seat_all-requires-clause-count
seat_all-requires-clause-count g c =
    let quotas = c.args.quotas.now in
    omega (
      arith,
      ap length c.in_ok-store.ensures.seats,
      length-replicate (length quotas) (fresh_depot_seat c.in_ok-store.store),
      ap length c.in_ok-lock.ensures.passes,
      fresh_long c.in_ok-lock.lock 0 quotas,
    )

pub seat_all-requires-clause-room : goal.seat_all-requires-clause-room
seat_all-requires-clause-room g c =
    omega (arith, ap length c.in_ok-lock.ensures.passes, fresh_long c.in_ok-lock.lock 0 c.args.quotas.now, c.in_ok-seats.ensures.capacity)

pub returns-clause-seats : goal.returns-clause-seats
returns-clause-seats g c =
    let seat = fresh_cache_seat c.in_ok-store.store in let dealt = c.in_ok-lock.dealt.items in
    c.reverse.ensures.items ∙ (ap reverse c.in_ok-seats-2.ensures ∙ (map-turned seat dealt ∙ ap (map seat) c.in_ok-lock.ensures.passes))

pub returns-clause-of : goal.returns-clause-of
returns-clause-of g c =
    let seat = fresh_cache_seat c.in_ok-store.store in let dealt = c.in_ok-lock.dealt.items in let quotas = c.args.quotas.now in
    let site : CacheSite = record { lock = c.in_ok-lock.lock; depot = c.in_ok-store.store } in
    All-same (IsCacheSeat site) c.reverse.new.self.items (map seat (fresh_passes site.lock 0 quotas))
    (c.reverse.ensures.items ∙ (ap reverse c.in_ok-seats-2.ensures ∙ (map-turned seat dealt ∙ ap (map seat) c.in_ok-lock.ensures.passes))) (seats_of site 0 quotas)

pub returns-clause-many : goal.returns-clause-many
returns-clause-many g c =
    let seat = fresh_cache_seat c.in_ok-store.store in let dealt = c.in_ok-lock.dealt.items in let quotas = c.args.quotas.now in
    let site : CacheSite = record { lock = c.in_ok-lock.lock; depot = c.in_ok-store.store } in
    ap length (c.reverse.ensures.items ∙ (ap reverse c.in_ok-seats-2.ensures ∙ (map-turned seat dealt ∙ ap (map seat) c.in_ok-lock.ensures.passes)))
    ∙ (seats_long site 0 quotas ∙ sym c.in_ok-lock.ensures.count)
