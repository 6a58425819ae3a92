-- A list with every kind of event, and the placing that it leaves (this project's own).
use Rattle.std.specs.Prelude.{ℕ, true, List, [], ◌∷◌, ◌++◌, Option, Some, None, option_map, option_and_then}
use Rattle.kmem_model.specs.CacheState.{sizes_of}
use Rattle.kmem_model.specs.Places.{worker, at_client, on_slab, at_source, Holder, party, depot, Placing}
use Rattle.kmem_model.specs.PlacesEvent.{Event, alloc, free, round_in, round_out, depot_swap, keep, leave, begin, answer, gone, end, cache_alone, World, event}
use Rattle.kmem_model.specs.PlacesLaw.{world_start}
use Rattle.kmem_model.specs.declared.cache_state.Standing.TheVariants.{Source, Listed}
use Rattle.kmem_model.specs.declared.cache_entry.Said.TheVariants.{Yes, No, Later, DontNeed, DontKnow}
use Rattle.kmem_model.specs.declared.cache_entry.CacheEntry.TheVariants.{Full, Scan, Idle, Forget}

-- the world after these events, or nothing where one of them can't happen
abbrev pub world_after : World → List Event → Option World
world_after w [] = Some w
world_after w (e ∷ es) = option_and_then (λ next. world_after next es) (event w e)

-- the first worker allocates b, and a put makes an object of it
abbrev pub put : ℕ → List Event
put b = alloc b (worker 0) ∷ keep b ∷ []

-- the client hands b out to the first worker, who frees it
abbrev pub dropped : ℕ → List Event
dropped b = leave b (worker 0) ∷ free b ∷ []

-- a scan begins the move of buffer 2 to buffer 1
abbrev pub scan_and_begin : List Event
scan_and_begin = cache_alone (Scan true) ∷ begin 0 2 1 ∷ []

-- magazine 0 with the first worker and magazine 1 in the depot
abbrev pub two_magazines : List Holder
two_magazines = party (worker 0) ∷ depot ∷ []

-- Two slabs of two buffers. All are put and the cache is full; 1 goes through a magazine and is freed, and
-- 3 is freed from a magazine that went to the depot and came back.
-- Then 2 is moved to 1; put again, it isn't needed; put again, it is put off by each other answer;
-- and at last its slab dies, is taken back and dies again while its move is pending, which ends unasked
abbrev pub every_event : List Event
every_event =
    put 0 ++ put 1 ++ put 2 ++ put 3 ++ (cache_alone Full ∷ [])
    ++ (leave 1 (worker 0) ∷ round_in 1 0 ∷ round_out 1 ∷ free 1 ∷ [])
    ++ (leave 3 (worker 0) ∷ round_in 3 0 ∷ depot_swap 0 1 ∷ depot_swap 1 0 ∷ free 3 ∷ [])
    ++ scan_and_begin ++ (answer 0 Yes 0 ∷ end 0 Yes 0 ∷ cache_alone Idle ∷ [])
    ++ put 2 ++ dropped 1
    ++ scan_and_begin ++ (answer 0 DontNeed 0 ∷ end 0 DontNeed 0 ∷ [])
    ++ put 1 ++ put 2 ++ dropped 1
    ++ scan_and_begin ++ (answer 0 Later 0 ∷ end 0 Later 0 ∷ cache_alone Forget ∷ [])
    ++ scan_and_begin ++ (answer 0 No 0 ∷ end 0 No 0 ∷ cache_alone Forget ∷ [])
    ++ scan_and_begin ++ (answer 0 DontKnow 0 ∷ end 0 DontKnow 0 ∷ [])
    ++ scan_and_begin ++ dropped 2 ++ put 2 ++ dropped 2 ++ (gone 0 ∷ [])

-- buffer 0 is an object still, buffer 1 is free beside it, and slab 1 is in the source
abbrev pub last_placing : Placing
last_placing =
    record {
      chunks = 2;
      shelves =
          record { standing = Listed; places = at_client ∷ on_slab ∷ []; used = 1 }
          ∷ record { standing = Source; places = at_source ∷ at_source ∷ []; used = 0 }
          ∷ [];
      holders = two_magazines;
      moves = None ∷ None ∷ [];
    }

-- the placing that all these events leave
abbrev pub after_every_event : Option Placing
after_every_event = option_map (λ w. w.placing) (world_after (world_start (sizes_of 2 2 2) two_magazines) every_event)
