-- What an owner of objects answers, and what its answers leave of it (this project's own).
use Rattle.std.specs.Prelude.{ℕ, List, Option, None, slice_index_or, slice_set}
use Rattle.kmem_buf.specs.declared.client.Verdict.{Verdict}
use Rattle.kmem_buf.specs.declared.client.Verdict.TheVariants.{Yes, No, Later, DontNeed, DontKnow}
use Rattle.kmem_buf.specs.declared.owner.Stand.{Stand}
use Rattle.kmem_buf.specs.declared.owner.Stand.TheVariants.{Movable, Spare, Fixed, Busy, Unknown}

-- the answer about an object that stands so
abbrev pub verdict_about : Stand → Verdict
verdict_about Movable = Yes
verdict_about Spare = DontNeed
verdict_about Fixed = No
verdict_about Busy = Later
verdict_about Unknown = DontKnow

-- how the object in the buffer of this number stands
abbrev pub stand_at : List Stand → ℕ → Stand
stand_at stands b = slice_index_or stands b Unknown

-- the answer about it
abbrev pub verdict_at : List Stand → ℕ → Verdict
verdict_at stands b = verdict_about (stand_at stands b)

-- What an answer makes of a list by buffers, in which `none` stands where there is no object. After yes the new buffer has what the old one
-- had, and after yes and after not needed the old one has none. All else stays
abbrev pub after_verdict : {X : Type 0} → X → Verdict → ℕ → ℕ → List X → List X
after_verdict none Yes from to xs = slice_set (slice_set xs to (slice_index_or xs from none)) from none
after_verdict none No from to xs = xs
after_verdict none Later from to xs = xs
after_verdict none DontNeed from to xs = slice_set xs from none
after_verdict none DontKnow from to xs = xs

-- how the objects stand after the answer about one, which was asked to move from one buffer to another
abbrev pub stands_after : List Stand → ℕ → ℕ → List Stand
stands_after stands from to = after_verdict Unknown (verdict_at stands from) from to stands

-- and their tenants, where they stood so
abbrev pub tenants_after : {T : Type 0} → List Stand → ℕ → ℕ → List (Option T) → List (Option T)
tenants_after stands from to tenants = after_verdict None (verdict_at stands from) from to tenants
