-- The turns of the loops of settle: what each keeps (this project's own).
use Rattle.std.specs.Prelude.{ℕ, ◌≡◌, ◌<◌, [], ◌∷◌, ◌++◌}
use Rattle.kmem_model.specs.CacheState.{CacheState}
use Rattle.kmem_model.specs.Settle.{Stage, Course, said_at, says_after, moved}
use Rattle.kmem_model.specs.SettleWhole.{IsWholeStage}
use Rattle.kmem_model.specs.SettleMeasure.{scans_left, moves_left, IsInSettle, scanned_all}

-- the stage with this cache
abbrev pub with_cache : Stage → CacheState → Stage
with_cache stage cache = record stage { cache = cache }

-- at a stage, with no move made yet
abbrev pub course_at : Stage → Course
course_at stage = record { stage = stage; moves = [] }

-- the stage after a move from one buffer to another, with the cache that it leaves
abbrev pub stage_moved : Stage → ℕ → ℕ → CacheState → Stage
stage_moved stage from to cache = record { cache = cache; says = says_after (said_at stage from) from to stage.says }

-- the course by that move more
abbrev pub course_moved : Course → ℕ → ℕ → CacheState → Course
course_moved course from to cache =
    record {
      stage = stage_moved course.stage from to cache;
      moves = course.moves ++ record { from = from; to = to; said = said_at course.stage from } ∷ [];
    }

-- one move more in a scan
pub record IsMoveOn (course next : Course) : Type 0 where
  pub whole : IsWholeStage next.stage
  pub fewer : moves_left next.stage < moves_left course.stage
  -- the scan ends at the same
  pub same : moved next ≡ moved course

-- one scan more in a settle
pub record IsScanOn (course next : Course) : Type 0 where
  pub inside : IsInSettle next.stage
  pub fewer : scans_left next.stage < scans_left course.stage
  -- the settle ends at the same
  pub same : scanned_all next ≡ scanned_all course
