-- What the closes of a run ask for.
use Rattle.std.proofs.Common.{◌≡◌, ◌+◌, ℕ, List, [], ◌∷◌, map, length, reverse, All, true, refl, sym, ap, ◌∙◌, arith}
use Rattle.std.specs.List.{range_with_len}
use Rattle.std.proofs.lemmas.List.{length-map, length-reverse}
use Rattle.std.proofs.lemmas.List.FromFn.{length-range_with_len}
use Rattle.std.proofs.lemmas.List.Elements.{All-nil, All-cons, All-same, All-weaker}
use Rattle.kmem_text.specs.declared.command.Line.{Line}
use Rattle.kmem_model.specs.Heap.{Object}
use Rattle.kmem_cache.specs.Seats.{CacheSeatState, IsCacheSeat}
use Rattle.record_table.specs.Sessions.{SessionState}
use Rattle.record_table.specs.Asks.{MoverState}
use Rattle.move_queue.specs.Queue.{QueueSeatState, IsQueueSeat}
use Rattle.run_workers.specs.declared.worker.Worker.{Worker}
use Rattle.run_engine.specs.declared.plan.RunPlan.{RunPlan}
use Rattle.run_engine.specs.declared.shared.Shared.{Shared}
use Rattle.run_engine.specs.declared.crew.Crew.{Crew}
use Rattle.run_engine.specs.declared.parts.Parts.{Parts}
use Rattle.run_engine.specs.Opened.{pass_of}
use Rattle.run_engine.specs.Done.{IsWorkerDone, IsCrewDone}
use Rattle.run_engine.specs.Closed.{ArePartsOf}
use Rattle.run_engine.proofs.Taken.{to_parts}

pub many_workers : (n : ℕ) (workers : List Worker) → map pass_of workers ≡ range_with_len 0 n → length workers ≡ n
many_workers n workers e = sym (length-map workers pass_of) ∙ (ap length e ∙ length-range_with_len 0 n)

reversed : (xs : List Worker) → length (reverse xs) ≡ length xs
reversed xs = length-reverse xs

module _ (plan : RunPlan) (lines : List Line) (shared : Shared) (crew : Crew) (parts : Parts) (done : IsCrewDone plan lines shared crew) (parted : ArePartsOf crew parts) where
  pub sessions_of : All (λ (s : SessionState). s.pass.site ≡ shared.table) parts.sessions.items
  sessions_of =
      to_parts (λ (w : Worker). w.session) crew.workers.items parts.sessions.items parted.sessions (λ (s : SessionState). s.pass.site ≡ shared.table)
      (All-weaker (IsWorkerDone shared lines) (λ (w : Worker). w.session.pass.site ≡ shared.table) (λ w d. d.worked.site ∙ d.starting.ready.of) crew.workers.items done.workers)

  pub movers_of : All (λ (m : MoverState). m.pass.site ≡ shared.table) parts.movers.items
  movers_of =
      let P : MoverState → Type 0 = λ m. m.pass.site ≡ shared.table in
      All-same P parts.movers.items (crew.first.mover ∷ crew.second.mover ∷ []) parted.movers
      (All-cons P crew.first.mover (crew.second.mover ∷ []) done.first.moved.of.pass (All-cons P crew.second.mover [] done.second.moved.of.pass (All-nil P)))

  pub places_of : All (IsQueueSeat shared.queue) parts.places.items
  places_of =
      let P : QueueSeatState Object → Type 0 = IsQueueSeat shared.queue in
      All-same P parts.places.items (crew.first.place ∷ crew.second.place ∷ []) parted.places
      (All-cons P crew.first.place (crew.second.place ∷ []) done.first.moved.place_of (All-cons P crew.second.place [] done.second.moved.place_of (All-nil P)))

  pub places_done : All (λ (s : QueueSeatState Object). s.done ≡ true) parts.places.items
  places_done =
      let P : QueueSeatState Object → Type 0 = λ s. s.done ≡ true in
      All-same P parts.places.items (crew.first.place ∷ crew.second.place ∷ []) parted.places
      (All-cons P crew.first.place (crew.second.place ∷ []) done.first.moved.done (All-cons P crew.second.place [] done.second.moved.done (All-nil P)))

  pub seats_of : All (IsCacheSeat shared.cache) parts.seats.items
  seats_of =
      let P : CacheSeatState → Type 0 = IsCacheSeat shared.cache in
      let rest : List CacheSeatState = map (λ (w : Worker). w.seat) (reverse crew.workers.items) in
      All-same P parts.seats.items (crew.first.seat ∷ crew.second.seat ∷ rest) parted.seats
      (All-cons P crew.first.seat (crew.second.seat ∷ rest) done.first.moved.seat_of
      (All-cons P crew.second.seat rest done.second.moved.seat_of
      (to_parts (λ (w : Worker). w.seat) crew.workers.items rest refl P
      (All-weaker (IsWorkerDone shared lines) (λ (w : Worker). IsCacheSeat shared.cache w.seat) (λ w d. d.worked.seat_of) crew.workers.items done.workers))))

  pub many_sessions : length parts.sessions.items ≡ plan.workers
  many_sessions =
      ap length parted.sessions
      ∙ (length-map (reverse crew.workers.items) (λ (w : Worker). w.session) ∙ (reversed crew.workers.items ∙ many_workers plan.workers crew.workers.items done.passes))

  pub many_movers : length parts.movers.items ≡ 2
  many_movers = ap length parted.movers

  pub many_seats : length parts.seats.items ≡ plan.workers + 2
  many_seats =
      omega (
        arith,
        ap length parted.seats,
        length-map (reverse crew.workers.items) (λ (w : Worker). w.seat),
        reversed crew.workers.items,
        many_workers plan.workers crew.workers.items done.passes,
      )
