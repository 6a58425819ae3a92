-- What a client of a cache answers when it is asked to move an object, and what the answer does to its heap
-- (the five answers are those of the theory statement of kmem.c, when each comes is this project's own).
use Rattle.std.specs.Prelude.{ℕ, ◌≡◌, Bool, nat_lt, ◌==◌, List, Option, Some, None, is_some, is_none, length, map, slice_index_or, if◌then◌else◌}
use Rattle.kmem_model.specs.CacheState.{CacheState, is_out}
use Rattle.kmem_model.specs.CacheOrder.{is_the}
use Rattle.kmem_model.specs.Settle.{Stage, places_after}
use Rattle.kmem_model.specs.Heap.{Object, HeapState, object_at}
use Rattle.kmem_model.specs.declared.cache_entry.Said.{Said}
use Rattle.kmem_model.specs.declared.cache_entry.Said.TheVariants.{Yes, No, Later, DontNeed, DontKnow}

-- the answer about an object, if there is one
abbrev pub answer_about : Option Object → Said
answer_about None = DontKnow
answer_about (Some o) =
    if is_none o.value then DontNeed
    else (if o.fixed then No
    else (if nat_lt 0 o.holds then Later else Yes))

-- the right answer about an address, where `known` is what was found of its word
abbrev pub says : HeapState → Bool → ℕ → Said
says h known old = if known then answer_about (object_at h old) else DontKnow

-- the address after the object of old has moved to new
abbrev pub moved_address : ℕ → ℕ → ℕ → ℕ
moved_address old new b = if b == old then new else b

-- a name's address after that move, where its record's object has moved too
abbrev pub moved_name : ℕ → ℕ → Option ℕ → Option ℕ
moved_name old new address = if is_the address old then Some new else address

-- the heap with the object of old and all its names at new
abbrev pub relocated : HeapState → ℕ → ℕ → HeapState
relocated h old new =
    record {
      names = map (moved_name old new) h.names;
      tags = h.tags;
      objects = places_after None Yes old new h.objects;
    }

-- the heap without the object at old
abbrev pub without_object : HeapState → ℕ → HeapState
without_object h old = record h { objects = places_after None DontNeed old old h.objects }

-- the heap after an answer about old, where new was offered
abbrev pub heap_after : HeapState → ℕ → ℕ → Said → HeapState
heap_after h old new Yes = relocated h old new
heap_after h old new No = h
heap_after h old new Later = h
heap_after h old new DontNeed = without_object h old
heap_after h old new DontKnow = h

-- the addresses of all ids after an answer
abbrev pub addresses_after : List ℕ → ℕ → ℕ → Said → List ℕ
addresses_after addresses old new Yes = map (moved_address old new) addresses
addresses_after addresses old new No = addresses
addresses_after addresses old new Later = addresses
addresses_after addresses old new DontNeed = addresses
addresses_after addresses old new DontKnow = addresses

-- what a settle works on: a cache, and what the client answers about the object in each of its buffers
abbrev pub stage_in : CacheState → List (Option Object) → Stage
stage_in cache objects = record { cache = cache; says = map answer_about objects }

-- the objects lie in exactly the buffers of the cache that are out
pub record AreInBuffers (cache : CacheState) (objects : List (Option Object)) : Type 0 where
  pub size : length objects ≡ length cache.asked
  pub places : (b : ℕ) → is_some (slice_index_or objects b None) ≡ is_out cache b
