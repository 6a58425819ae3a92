-- The text of the report on a run (this project's own format).
use Rattle.std.specs.Prelude.{ℕ, ◌+◌, ◌*◌, ◌-◌, ◌^◌, min, count_by, length, Bool, true, false, List, [], ◌∷◌, ◌++◌, Option, Some, None, codes, if◌then◌else◌}
use Rattle.std.specs.Fmt.{decimal}
use Rattle.kmem_model.specs.CacheState.{SlabState, CacheState, is_listed, used, slab_count, free_count}
use Rattle.kmem_model.specs.declared.cache_entry.Said.{Said}
use Rattle.kmem_model.specs.declared.cache_entry.Said.TheVariants.{Yes, No, Later, DontNeed, DontKnow}
use Rattle.kmem_model.specs.declared.cache_entry.CacheEntry.{CacheEntry}
use Rattle.kmem_model.specs.declared.cache_entry.CacheEntry.TheVariants.{Gone, End}

-- how many moves ended by each answer, and how many unasked
pub record MoveCounts : Type 0 where
  pub yes : ℕ
  pub no : ℕ
  pub later : ℕ
  pub dont_need : ℕ
  pub dont_know : ℕ
  pub gone : ℕ

-- what is reported
pub record Report : Type 0 where
  -- how many buffers there are
  pub buffers : ℕ
  -- how many records live
  pub live : ℕ
  -- how many slabs are listed, and how many buffers on them are free
  pub slabs : ℕ
  pub free : ℕ
  -- how many scans were started, and how many moves were begun
  pub scans : ℕ
  pub begun : ℕ
  -- how the moves ended, and those of all settles
  pub moves : MoveCounts
  pub settled : MoveCounts
  -- each slab, at its number
  pub states : List SlabState

-- The numbers

-- the answers, one by one
abbrev pub is_yes : Said → Bool
is_yes Yes = true
is_yes _ = false

abbrev pub is_no : Said → Bool
is_no No = true
is_no _ = false

abbrev pub is_later : Said → Bool
is_later Later = true
is_later _ = false

abbrev pub is_dont_need : Said → Bool
is_dont_need DontNeed = true
is_dont_need _ = false

abbrev pub is_dont_know : Said → Bool
is_dont_know DontKnow = true
is_dont_know _ = false

-- the entry ends a move by such an answer
abbrev pub is_end_by : (Said → Bool) → CacheEntry → Bool
is_end_by is (End j said) = is said
is_end_by is _ = false

-- the entry ends a move unasked
abbrev pub is_gone_entry : CacheEntry → Bool
is_gone_entry (Gone j) = true
is_gone_entry _ = false

-- how many of these entries are such ones. A count stands still at 2^64 - 1
abbrev pub counted_in : List CacheEntry → (CacheEntry → Bool) → ℕ
counted_in entries is = min (count_by is entries) (2 ^ 64 - 1)

-- how the moves ended that these entries end
abbrev pub ends_in : List CacheEntry → MoveCounts
ends_in entries =
    record {
      yes = counted_in entries (is_end_by is_yes);
      no = counted_in entries (is_end_by is_no);
      later = counted_in entries (is_end_by is_later);
      dont_need = counted_in entries (is_end_by is_dont_need);
      dont_know = counted_in entries (is_end_by is_dont_know);
      gone = counted_in entries is_gone_entry;
    }

-- what is reported of a cache, of so many live records, scans and begun moves, and of how these moves and those of all settles ended
abbrev pub report_on : CacheState → ℕ → ℕ → ℕ → MoveCounts → MoveCounts → Report
report_on s live scans begun moves settled =
    record {
      buffers = length s.slabs * s.chunks;
      live = live;
      slabs = slab_count s;
      free = free_count s;
      scans = scans;
      begun = begun;
      moves = moves;
      settled = settled;
      states = s.slabs;
    }

-- The text

-- a word, a space and a number
abbrev pub number_text : List ℕ → ℕ → List ℕ
number_text word n = word ++ codes " " ++ decimal n

-- the line of one number
abbrev pub number_line : List ℕ → ℕ → List ℕ
number_line word n = number_text word n ++ codes "\n"

-- the line of the ends of moves
abbrev pub moves_line : List ℕ → MoveCounts → List ℕ
moves_line word c =
    word
    ++ number_text (codes " yes") c.yes
    ++ number_text (codes " no") c.no
    ++ number_text (codes " later") c.later
    ++ number_text (codes " dontneed") c.dont_need
    ++ number_text (codes " dontknow") c.dont_know
    ++ number_text (codes " gone") c.gone
    ++ codes "\n"

-- the index of the stuck buffer, where there is one
abbrev pub stuck_text : Option ℕ → List ℕ
stuck_text None = []
stuck_text (Some index) = number_text (codes " stuck") index

-- the line of a listed slab: its number, how many of its buffers are out, and its mark
abbrev pub slab_line : ℕ → ℕ → Option ℕ → List ℕ
slab_line number out stuck = number_text (codes "slab") number ++ number_text (codes " used") out ++ stuck_text stuck ++ codes "\n"

-- what is said of one slab: nothing, where it isn't listed
abbrev pub slab_text : ℕ → SlabState → List ℕ
slab_text number slab = if is_listed slab then slab_line number (used slab) slab.stuck else []

-- what is said of these slabs, of which the first has this number
abbrev pub slab_texts : ℕ → List SlabState → List ℕ
slab_texts number [] = []
slab_texts number (slab ∷ slabs) = slab_text number slab ++ slab_texts (number + 1) slabs

-- the line that opens a report
abbrev pub report_line : List ℕ
report_line = codes "=== report\n"

-- the lines of the numbers
abbrev pub numbers_text : Report → List ℕ
numbers_text r =
    number_line (codes "buffers") r.buffers
    ++ number_line (codes "live") r.live
    ++ number_line (codes "slabs") r.slabs
    ++ number_line (codes "free") r.free
    ++ number_line (codes "scans") r.scans
    ++ number_line (codes "begun") r.begun
    ++ moves_line (codes "moves") r.moves
    ++ moves_line (codes "settle") r.settled

-- the numbers, and then the slabs
abbrev pub part_text : Report → List ℕ
part_text r = numbers_text r ++ slab_texts 0 r.states

-- the whole report
abbrev pub report_text : Report → List ℕ
report_text r = report_line ++ part_text r
