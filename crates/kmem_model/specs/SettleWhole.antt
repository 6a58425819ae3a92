-- What holds of a cache at every moment, of a stage before and after settle, and what settle leaves (this
-- project's own).
use Rattle.std.specs.Prelude.{ℕ, ◌≡◌, ◌+◌, ◌*◌, ◌<◌, ◌≤◌, ◌⊎◌, Bool, true, false, Some, None, All, length, count_by}
use Rattle.kmem_model.specs.CacheState.{SlabState, CacheState, slab_at, used, is_listed, is_dead, is_out_on, is_out, has_pending, slab_count, out_count}
use Rattle.kmem_model.specs.CacheOrder.{is_partial}
use Rattle.kmem_model.specs.Settle.{Stage, said_at}
use Rattle.kmem_model.specs.declared.cache_entry.Said.{Said}
use Rattle.kmem_model.specs.declared.cache_entry.Said.TheVariants.{Yes, No, Later, DontNeed, DontKnow}

-- The cache

-- one slab
pub record IsWholeSlab (chunks : ℕ) (slab : SlabState) : Type 0 where
  -- it has so many buffers
  pub size : length slab.out ≡ chunks
  -- a listed slab has a buffer out
  pub listed_out : is_listed slab ≡ true → 0 < used slab
  -- any other has none out, count 0 and no mark
  pub others_free : is_listed slab ≡ false → used slab ≡ 0
  pub others_plain : is_listed slab ≡ false → (slab.later ≡ 0) × (slab.stuck ≡ None)
  -- the count is at most 3, and below 3 where there is no mark
  pub counted : slab.later ≤ 3
  pub unmarked : slab.stuck ≡ None → slab.later < 3
  -- the stuck buffer is out
  pub stuck_out : (k : ℕ) → slab.stuck ≡ Some k → is_out_on slab k ≡ true

-- the whole cache, also while moves are pending
pub record IsWhole (s : CacheState) : Type 0 where
  -- a slab has buffers
  pub positive : 0 < s.chunks
  pub slabs : All (IsWholeSlab s.chunks) s.slabs
  -- each buffer was asked about or not
  pub asked : length s.asked ≡ length s.slabs * s.chunks
  -- a move may be pending
  pub limit : 0 < length s.pending
  -- a slab is dead only while a move is pending
  pub dead : has_pending s ≡ false → All (λ slab. is_dead slab ≡ false) s.slabs

-- The stage

-- the client knows an object there
abbrev pub is_known : Said → Bool
is_known Yes = true
is_known No = true
is_known Later = true
is_known DontNeed = true
is_known DontKnow = false

-- a stage with no move pending, in which the client has an answer about each buffer that is out and no other
pub record IsWholeStage (stage : Stage) : Type 0 where
  pub cache : IsWhole stage.cache
  pub calm : has_pending stage.cache ≡ false
  pub says : length stage.says ≡ length stage.cache.slabs * stage.cache.chunks
  pub known : (b : ℕ) → is_known (said_at stage b) ≡ is_out stage.cache b

-- as many scans as any settle of such a stage makes, or more
abbrev pub enough : Stage → ℕ
enough stage = 12 * length stage.cache.slabs * stage.cache.chunks * stage.cache.chunks + 1

-- What settle leaves

-- slab i has a mark, and its stuck buffer is out and can't be moved now
pub record IsStuckSlab (stage : Stage) (i : ℕ) : Type 0 where
  pub index : ℕ
  pub marked : (slab_at stage.cache.slabs i).stuck ≡ Some index
  pub out : is_out_on (slab_at stage.cache.slabs i) index ≡ true
  pub said : (said_at stage (i * stage.cache.chunks + index) ≡ No) ⊎ (said_at stage (i * stage.cache.chunks + index) ≡ Later)

-- nothing is pending and no slab is dead; and there is at most one partial slab, or each of them is stuck
pub record IsSettled (stage : Stage) : Type 0 where
  pub calm : has_pending stage.cache ≡ false
  pub none_dead : All (λ slab. is_dead slab ≡ false) stage.cache.slabs
  pub partial : (count_by is_partial stage.cache.slabs ≤ 1)
      ⊎ ((i : ℕ) → is_partial (slab_at stage.cache.slabs i) ≡ true → IsStuckSlab stage i)

-- Where everything can be moved

-- the object there, if there is one, can be moved
abbrev pub is_movable : Said → Bool
is_movable Yes = true
is_movable No = false
is_movable Later = false
is_movable DontNeed = false
is_movable DontKnow = true

-- every object can be moved
abbrev pub AreAllMovable : Stage → Type 0
AreAllMovable stage = (b : ℕ) → is_movable (said_at stage b) ≡ true

-- as many buffers are out as before, and the listed slabs are as few as can hold them: their number is the number
-- of these buffers divided by the buffers of a slab, rounded up
pub record HasFewestSlabs (before after : CacheState) : Type 0 where
  pub out : out_count after ≡ out_count before
  pub enough : out_count before ≤ slab_count after * before.chunks
  pub fewest : slab_count after * before.chunks < out_count before + before.chunks
