use Rattle.std.proofs.Common.{◌≡◌, ℕ, ◌<◌, List, length, map, reverse, All, ap, sym, ◌∙◌, subst, arith}
use Rattle.std.specs.List.{sum_by, range_with_len}
use Rattle.std.proofs.lemmas.List.Elements.{All-map, All-same, All-weaker}
use Rattle.table_sums.proofs.Spreads.{numbering}
use Rattle.kmem_buf.specs.Buffers.{BufState}
use Rattle.kmem_buf.specs.Homes.{Homes}
use Rattle.kmem_model.specs.CacheHistory.{Reaches}
use Rattle.kmem_model.specs.CacheCounts.{made_out, made_free, total, entries_in}
use Rattle.kmem_model.specs.declared.cache_entry.CacheEntry.{CacheEntry}
use Rattle.magazine.specs.Layer.{Layer, layer_rounds}
use Rattle.magazine.specs.Ready.{AreReady}
use Rattle.hist_lock.specs.History.{IsFront, entries_of}
use Rattle.hist_lock.specs.Passes.{PassState}
use Rattle.depot.specs.Depot.{DepotSeatState, IsDepotSeat}
use Rattle.kmem_cache.specs.declared.locked.CacheHome.{CacheHome}
use Rattle.kmem_cache.specs.Locked.{sizes_at, home_under}
use Rattle.kmem_cache.specs.Seats.{CacheSeatState, IsCacheSeat}
use Rattle.kmem_cache.proofs.Flushes.{flushed_both}
use Rattle.kmem_cache.proofs.Partings.{all_reverse, all_back, all_unmap, sum-reverse, sum-map, parts_ready, parts_counted, passes_total, numbers_within, out_freed}
use Rattle.kmem_cache.proofs.shared_cache.Cache.close.Goals as goal

pub close-locked-requires-clause-of : goal.close-locked-requires-clause-of
close-locked-requires-clause-of g c =
    let inside = c.self.inside in let seats = c.args.seats.items in let rev = reverse seats in let parts = c.part_all-passes.result in let parted = c.part_all-passes.ensures in
    let of : All (IsCacheSeat c.args.self) rev = all_reverse (IsCacheSeat c.args.self) seats c.requires.of in
    let P : PassState CacheEntry CacheHome → Type 0 = λ p. p.site ≡ inside.lock in let pass : CacheSeatState → PassState CacheEntry CacheHome = λ s. s.pass in
    All-same P parts.passes.items (map pass rev) parted.passes
    (All-map P pass rev (All-weaker (IsCacheSeat c.args.self) (λ s. P s.pass) (λ s is. is.0 ∙ sym (ap (λ k. k.lock) c.self.view_is)) rev of))

pub close-magazines-requires-clause-of : goal.close-magazines-requires-clause-of
close-magazines-requires-clause-of g c =
    let inside = c.self.inside in let seats = c.args.seats.items in let rev = reverse seats in let parts = c.part_all-passes.result in let parted = c.part_all-passes.ensures in
    let of : All (IsCacheSeat c.args.self) rev = all_reverse (IsCacheSeat c.args.self) seats c.requires.of in
    let P : DepotSeatState → Type 0 = IsDepotSeat inside.store in let depot : CacheSeatState → DepotSeatState = λ s. s.depot in
    All-same P parts.stores.items (map depot rev) parted.stores
    (All-map P depot rev (All-weaker (IsCacheSeat c.args.self) (λ s. P s.depot)
    (λ s is. (is.1.0 ∙ sym (ap (λ k. k.depot.table) c.self.view_is), is.1.1 ∙ sym (ap (λ k. k.depot.home) c.self.view_is))) rev of))

pub flush_cpus-requires : goal.flush_cpus-requires
flush_cpus-requires g c =
    let inside = c.self.inside in let seats = c.args.seats.items in let rev = reverse seats in let parts = c.part_all-passes.result in let parted = c.part_all-passes.ensures in
    let of : All (IsCacheSeat c.args.self) rev = all_reverse (IsCacheSeat c.args.self) seats c.requires.of in
    let locked = c.close-locked.result.0 in
    record {
      ready = parts_ready g.K.Kind.constructed locked.cache.home rev parts.cpus.items parted.cpus
          (All-weaker (IsCacheSeat c.args.self) (λ s. s.pass.site.home.buffers ≡ locked.cache.home)
          (λ s is. ap (λ k. k.home.buffers) is.0 ∙ (sym (ap (λ k. k.lock.home.buffers) c.self.view_is) ∙ sym (ap (λ k. k.buffers) c.close-locked.ensures.home))) rev of);
    }

pub flush_magazines-requires : goal.flush_magazines-requires
flush_magazines-requires g c =
    let home = c.self.invariant.home ∙ (sym (ap (λ k. k.buffers) c.close-locked.ensures.home) ∙ sym c.flush_cpus.ensures.home) in
    record { ready = subst (λ (h : Homes). All (AreReady g.K.Kind.constructed h) c.close-magazines.result.items) home c.close-magazines.ensures.ready }

pub returns-clause-closed : goal.returns-clause-closed
returns-clause-closed g c =
    let inside = c.self.inside in let seats = c.args.seats.items in let rev = reverse seats in let parts = c.part_all-passes.result in let parted = c.part_all-passes.ensures in
    let of : All (IsCacheSeat c.args.self) rev = all_reverse (IsCacheSeat c.args.self) seats c.requires.of in
    let locked = c.close-locked.result.0 in let h = c.close-locked.result.1.items in let closed = c.close-locked.ensures in
    let a = sum_by (λ (l : Layer (BufState g.row.K-Object.Denot)). length (layer_rounds l)) parts.cpus.items in
    let b = sum_by (λ (l : List (BufState g.row.K-Object.Denot)). length l) c.close-magazines.result.items in
    let freed = flushed_both a b locked.cache.state c.flush_cpus.new.cache.state c.flush_magazines.new.cache.state c.flush_cpus.ensures.flushed c.flush_magazines.ensures.flushed in
    record {
      state = locked.cache.state;
      frees = freed.0;
      reached = subst (λ (k : CacheHome). Reaches (sizes_at k) h locked.cache.state) (closed.home ∙ ap (λ k. k.lock.home) c.self.view_is) closed.stands.reached;
      flushed = freed.1;
    }

pub returns-clause-counts : goal.returns-clause-counts
returns-clause-counts g c =
    let inside = c.self.inside in let seats = c.args.seats.items in let rev = reverse seats in let parts = c.part_all-passes.result in let parted = c.part_all-passes.ensures in
    let of : All (IsCacheSeat c.args.self) rev = all_reverse (IsCacheSeat c.args.self) seats c.requires.of in
    let locked = c.close-locked.result.0 in let h = c.close-locked.result.1.items in let closed = c.close-locked.ensures in
    let a = sum_by (λ (l : Layer (BufState g.row.K-Object.Denot)). length (layer_rounds l)) parts.cpus.items in
    let b = sum_by (λ (l : List (BufState g.row.K-Object.Denot)). length l) c.close-magazines.result.items in
    let freed = flushed_both a b locked.cache.state c.flush_cpus.new.cache.state c.flush_magazines.new.cache.state c.flush_cpus.ensures.flushed c.flush_magazines.ensures.flushed in
    let E : PassState CacheEntry CacheHome → Type 0 = λ p. entries_of p.number c.close-locked.result.1.items ≡ p.mine in let pass : CacheSeatState → PassState CacheEntry CacheHome = λ s. s.pass in
    let within = numbers_within h _ inside.lock.count closed.numbers closed.others in
    let weighed : (w : CacheEntry → ℕ) → sum_by (λ s. total w s.pass.mine) rev ≡ total w (entries_in h) = λ w.
    sym (sum-map (λ (p : PassState CacheEntry CacheHome). total w p.mine) pass rev) ∙ (ap (sum_by (λ (p : PassState CacheEntry CacheHome). total w p.mine)) (sym parted.passes)
    ∙ passes_total w h inside.lock.count parts.passes.items closed.exact closed.weighs (c.law_counts.ensures.passes inside.lock.count w h within)) in
    let chunks : 0 < locked.chunks = subst (λ (n : ℕ). 0 < n) (sym (ap (λ k. k.chunks) closed.home)) c.self.invariant.chunks in
    let sizes = sizes_at (home_under locked) in
    let out = out_freed sizes h freed.0 locked.cache.state c.flush_magazines.new.cache.state c.law_follows.ensures.history
    (λ history s reached. c.law_counts.ensures.out sizes history s chunks reached) closed.stands.reached freed.1 in
    let taken : sum_by (λ (d : DepotSeatState). length d.taken) parts.stores.items ≡ sum_by (λ (s : CacheSeatState). length s.depot.taken) rev =
    ap (sum_by (λ (d : DepotSeatState). length d.taken)) parted.stores ∙ sum-map (λ (d : DepotSeatState). length d.taken) (λ (s : CacheSeatState). s.depot) rev in
    let put : sum_by (λ (d : DepotSeatState). length d.put) parts.stores.items ≡ sum_by (λ (s : CacheSeatState). length s.depot.put) rev =
    ap (sum_by (λ (d : DepotSeatState). length d.put)) parted.stores ∙ sum-map (λ (d : DepotSeatState). length d.put) (λ (s : CacheSeatState). s.depot) rev in
    omega (
      arith,
      parts_counted g.K.Kind.constructed rev parts.cpus.items parted.cpus,
      weighed made_out,
      weighed made_free,
      taken,
      put,
      c.close-magazines.ensures.rounds,
      out,
      freed.2,
      sum-reverse (λ (s : CacheSeatState). s.returned) seats,
      sum-reverse (λ (s : CacheSeatState). s.lent) seats,
    )

pub returns-clause-fronts : goal.returns-clause-fronts
returns-clause-fronts g c =
    let inside = c.self.inside in let seats = c.args.seats.items in let rev = reverse seats in let parts = c.part_all-passes.result in let parted = c.part_all-passes.ensures in
    let of : All (IsCacheSeat c.args.self) rev = all_reverse (IsCacheSeat c.args.self) seats c.requires.of in
    let P : PassState CacheEntry CacheHome → Type 0 = λ p. IsFront p.seen c.close-locked.result.1.items in let pass : CacheSeatState → PassState CacheEntry CacheHome = λ s. s.pass in
    all_back (λ s. P s.pass) seats (all_unmap P pass rev (All-same P (map pass rev) parts.passes.items (sym parted.passes) c.close-locked.ensures.fronts))

pub returns-clause-exact : goal.returns-clause-exact
returns-clause-exact g c =
    let inside = c.self.inside in let seats = c.args.seats.items in let rev = reverse seats in let parts = c.part_all-passes.result in let parted = c.part_all-passes.ensures in
    let of : All (IsCacheSeat c.args.self) rev = all_reverse (IsCacheSeat c.args.self) seats c.requires.of in
    let P : PassState CacheEntry CacheHome → Type 0 = λ p. entries_of p.number c.close-locked.result.1.items ≡ p.mine in let pass : CacheSeatState → PassState CacheEntry CacheHome = λ s. s.pass in
    all_back (λ s. P s.pass) seats (all_unmap P pass rev (All-same P (map pass rev) parts.passes.items (sym parted.passes) c.close-locked.ensures.exact))

pub returns-clause-numbers : goal.returns-clause-numbers
returns-clause-numbers g c =
    let inside = c.self.inside in let seats = c.args.seats.items in let rev = reverse seats in let parts = c.part_all-passes.result in let parted = c.part_all-passes.ensures in
    let of : All (IsCacheSeat c.args.self) rev = all_reverse (IsCacheSeat c.args.self) seats c.requires.of in
    let pass : CacheSeatState → PassState CacheEntry CacheHome = λ s. s.pass in let number : PassState CacheEntry CacheHome → ℕ = λ p. p.number in
    numbering (map (λ s. s.pass.number) seats) c.args.self.lock.count (λ weight.
    sum-map weight (λ (s : CacheSeatState). s.pass.number) seats ∙ (sym (sum-reverse (λ (s : CacheSeatState). weight s.pass.number) seats)
    ∙ (sym (sum-map (λ (p : PassState CacheEntry CacheHome). weight p.number) pass rev) ∙ (sym (sum-map weight number (map pass rev))
    ∙ (ap (λ ps. sum_by weight (map number ps)) (sym parted.passes) ∙ (c.close-locked.ensures.weighs weight ∙ ap (λ k. sum_by weight (range_with_len 0 k.lock.count)) c.self.view_is))))))

pub returns-clause-within : goal.returns-clause-within
returns-clause-within g c =
    let inside = c.self.inside in let seats = c.args.seats.items in let rev = reverse seats in let parts = c.part_all-passes.result in let parted = c.part_all-passes.ensures in
    let of : All (IsCacheSeat c.args.self) rev = all_reverse (IsCacheSeat c.args.self) seats c.requires.of in
    let h = c.close-locked.result.1.items in
    subst (λ (n : ℕ). All (λ x. x.0 < n) h) (ap (λ k. k.lock.count) c.self.view_is) (numbers_within h _ c.self.inside.lock.count c.close-locked.ensures.numbers c.close-locked.ensures.others)
