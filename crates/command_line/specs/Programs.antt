-- The program of the words: what the words after the program's name ask for, `run` and `gen` included (this project's own rule).
use Rattle.std.specs.Prelude.{ℕ, Bool, true, false, ◌*◌, ◌≤◌, nat_le, List, [], ◌∷◌, codes, Option, Some, None, option_map, if◌then◌else◌}
use Rattle.std.specs.Str.{bytes_eq}
use Rattle.kmem_text.specs.Numbers.{number_within}
use Rattle.kmem_model.specs.Words.{plan_of, IsInRange}
use Rattle.command_line.specs.declared.program.Program.{Program}
use Rattle.command_line.specs.declared.program.Program.TheVariants.{Plain, Run, Gen}

-- so many slabs of so many buffers, at most 65,536 in all, with so many workers and scans
abbrev pub running : Option ℕ → Option ℕ → Option ℕ → Option ℕ → Bool → Option Program
running (Some slabs) (Some chunks) (Some workers) (Some scans) desperate =
    if nat_le (slabs * chunks) 65536 then Some (Run slabs chunks workers scans desperate) else None
running (Some slabs) (Some chunks) (Some workers) None desperate = None
running (Some slabs) (Some chunks) None scans desperate = None
running (Some slabs) None workers scans desperate = None
running None chunks workers scans desperate = None

-- the same, of the words of these numbers
abbrev pub running_by : List ℕ → List ℕ → List ℕ → List ℕ → Bool → Option Program
running_by slabs chunks workers scans desperate =
    running (number_within 1 4096 slabs) (number_within 1 64 chunks) (number_within 1 16 workers) (number_within 1 1000 scans) desperate

-- the words after `run`: S, C, W and SCANS, and `desperate` if it is there
abbrev pub run_of : List (List ℕ) → Option Program
run_of (slabs ∷ chunks ∷ workers ∷ scans ∷ []) = running_by slabs chunks workers scans false
run_of (slabs ∷ chunks ∷ workers ∷ scans ∷ last ∷ []) =
    if bytes_eq last (codes "desperate") then running_by slabs chunks workers scans true else None
run_of _ = None

-- a script of so many commands for so many workers, from this seed
abbrev pub making : Option ℕ → Option ℕ → Option ℕ → Option Program
making (Some seed) (Some workers) (Some commands) = Some (Gen seed workers commands)
making (Some seed) (Some workers) None = None
making (Some seed) None commands = None
making None workers commands = None

-- the words after `gen`: SEED, W and N
abbrev pub gen_of : List (List ℕ) → Option Program
gen_of (seed ∷ workers ∷ commands ∷ []) = making (number_within 0 999999999 seed) (number_within 1 16 workers) (number_within 1 60000 commands)
gen_of _ = None

-- the program of the words, if they have one: a run, a script that is made and run, or a plan
abbrev pub program_of : List (List ℕ) → Option Program
program_of [] = None
program_of (word ∷ further) =
    if bytes_eq word (codes "run") then run_of further
    else (if bytes_eq word (codes "gen") then gen_of further else option_map Plain (plan_of (word ∷ further)))

-- the numbers of a program lie in their ranges
abbrev pub IsInRangeOf : Program → Type 0
IsInRangeOf (Plain plan) = IsInRange plan
IsInRangeOf (Run slabs chunks workers scans desperate) =
    (1 ≤ slabs) × (slabs ≤ 4096) × (1 ≤ chunks) × (chunks ≤ 64) × (slabs * chunks ≤ 65536)
    × (1 ≤ workers) × (workers ≤ 16) × (1 ≤ scans) × (scans ≤ 1000)
IsInRangeOf (Gen seed workers commands) = (seed ≤ 999999999) × (1 ≤ workers) × (workers ≤ 16) × (1 ≤ commands) × (commands ≤ 60000)
