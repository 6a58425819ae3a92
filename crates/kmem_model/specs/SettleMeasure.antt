-- Why settle ends: a number that grows with every move that changes a slab, and can't grow without end (this
-- project's own).
use Rattle.std.specs.Prelude.{ℕ, ◌≡◌, ◌+◌, ◌*◌, ◌-◌, Bool, true, false, Option, Some, length, sum_by, count_by, if◌then◌else◌}
use Rattle.kmem_model.specs.CacheState.{SlabState, CacheState, slab_at, used}
use Rattle.kmem_model.specs.CacheOrder.{is_marked}
use Rattle.kmem_model.specs.Settle.{Stage, Course, said_at, scanned_in, settled_in}
use Rattle.kmem_model.specs.SettleWhole.{IsWholeStage, enough}
use Rattle.kmem_model.specs.declared.cache_entry.Said.{Said}
use Rattle.kmem_model.specs.declared.cache_entry.Said.TheVariants.{Yes, No, Later, DontNeed, DontKnow}

-- what a slab adds: its free buffers most, then those that are out beside a stuck one, then that those that are
-- out stand together, and then its count and mark
abbrev pub slab_gain : ℕ → SlabState → ℕ
slab_gain chunks slab =
    8 * chunks * (chunks - used slab) + (if is_marked slab then 4 * chunks * used slab + 1 else 0)
    + 2 * used slab * used slab
    + slab.later

-- the number of all slabs
abbrev pub gain : CacheState → ℕ
gain s = sum_by (slab_gain s.chunks) s.slabs

-- how many scans may come before the last one, or more
abbrev pub scans_left : Stage → ℕ
scans_left stage = 12 * length stage.cache.slabs * stage.cache.chunks * stage.cache.chunks - gain stage.cache

-- how many moves may come before the end of the scan, or more
abbrev pub moves_left : Stage → ℕ
moves_left stage = count_by (λ asked. if asked then false else true) stage.cache.asked

-- the answer leaves the object where it is
abbrev pub is_staying : Said → Bool
is_staying Yes = false
is_staying No = true
is_staying Later = true
is_staying DontNeed = false
is_staying DontKnow = false

-- a stage within settle: the object in each stuck buffer stays
pub record IsInSettle (stage : Stage) : Type 0 where
  pub whole : IsWholeStage stage
  pub held : (i k : ℕ) → (slab_at stage.cache.slabs i).stuck ≡ Some k → is_staying (said_at stage (i * stage.cache.chunks + k)) ≡ true

-- all scans from here on
abbrev pub scanned_all : Course → Option Course
scanned_all course = scanned_in (enough course.stage) course

-- settle, with scans enough
abbrev pub settled : Stage → Option Course
settled stage = settled_in (enough stage) stage
