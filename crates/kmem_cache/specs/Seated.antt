-- A seat between its calls (this project's own).
use Rattle.std.specs.Prelude.{◌≡◌, ◌<◌, ℕ, List, [], Option, Some}
use Rattle.kmem_buf.specs.Answers.{numbers_of}
use Rattle.kmem_buf.specs.Buffers.{BufState}
use Rattle.kmem_model.specs.declared.cache_entry.CacheEntry.{CacheEntry}
use Rattle.hist_lock.specs.History.{entries_of}
use Rattle.hist_lock.specs.Passes.{PassState}
use Rattle.magazine.specs.Layer.{Layer, IsLayer, layer_rounds}
use Rattle.magazine.specs.Ready.{AreReady}
use Rattle.depot.specs.Depot.{DepotSeatState}
use Rattle.kmem_cache.specs.declared.locked.CacheHome.{CacheHome}
use Rattle.kmem_cache.specs.Locked.{IsLegalAt}
use Rattle.kmem_cache.specs.Seats.{CacheSeatState, AddsUp}

module _ {X : Type 0} where
  -- the seat that these parts are
  abbrev pub seat_of : PassState CacheEntry CacheHome → Layer (BufState X) → DepotSeatState → ℕ → ℕ → CacheSeatState
  seat_of pass layer depot lent returned =
      record { pass = pass; rounds = numbers_of (layer_rounds layer); depot = depot; lent = lent; returned = returned }

  -- what always holds of them: the rounds may be handed out, the spare magazine is empty, the history is legal, and the counts add up
  pub record IsSeated (constructed : X → Type 0) (pass : PassState CacheEntry CacheHome) (layer : Layer (BufState X)) (spare : Option (List (BufState X)))
      (depot : DepotSeatState) (lent returned : ℕ) : Type 0 where
    pub kept : IsLayer layer
    pub ready : AreReady constructed pass.site.home.buffers (layer_rounds layer)
    pub spare_is : spare ≡ Some []
    pub home : depot.home ≡ pass.site.home.buffers
    pub legal : IsLegalAt pass.site.home pass.seen
    pub exact : entries_of pass.number pass.seen ≡ pass.mine
    pub chunks : 0 < pass.site.home.chunks
    pub adds : AddsUp (seat_of pass layer depot lent returned)
