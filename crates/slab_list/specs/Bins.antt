-- The bins of slabs, by which a search finds without a look at other slabs which one serves next (this project's own).
use Rattle.std.specs.Prelude.{ℕ, ◌≡◌, ◌≤◌, ◌<◌, ◌+◌, ◌*◌, ◌/◌, ◌%◌, ◌-◌, Bool, true, false, ◌||◌, not, ◌==◌, nat_lt, List, Option, Some, None, length, count_by, sum_by, is_some, slice_set, slice_index_or, if◌then◌else◌}
use Rattle.number_set.specs.Sets.{SetState, has}
use Rattle.kmem_model.specs.CacheState.{SlabState, slab_at, is_listed, is_dead, is_out_on, used}
use Rattle.kmem_model.specs.CacheOrder.{is_the, is_marked}
use Rattle.kmem_model.specs.declared.cache_state.Standing.{Standing}
use Rattle.kmem_model.specs.declared.cache_state.Standing.TheVariants.{Source, Listed, Dead}
use Rattle.slab_list.specs.Slabs.{ListState, is_unused}
use Rattle.slab_list.specs.declared.index.Index.{Index}

-- Bins 0 to 127 are of partial slabs, in the order in which they serve: by mark, and then by use. Bin 128 is of listed slabs with no buffer
-- out, and bin 129 of dead ones. A slab of the source, and one with all buffers out, has no bin.
abbrev pub bin_at : ℕ → Standing → ℕ → Bool → Option ℕ
bin_at chunks Source used marked = None
bin_at chunks Dead used marked = Some 129
bin_at chunks Listed used marked =
    if nat_lt used chunks then Some (if used == 0 then 128 else (if marked then 63 - used else 127 - used)) else None

abbrev pub bin_of : ℕ → SlabState → Option ℕ
bin_of chunks slab = bin_at chunks slab.standing (used slab) (is_marked slab)

-- a set of places with one slab put into its bin, or taken out
abbrev pub with_place : SetState → Option ℕ → ℕ → Bool → SetState
with_place s None i there = s
with_place s (Some b) i there = record s { flags = slice_set s.flags (b * 4096 + i) there }

-- whether the slab with the number p % 4096 stands in bin p / 4096
abbrev pub stands_at : ListState → ℕ → Bool
stands_at s p = is_the (bin_of s.chunks (slab_at s.slabs (p % 4096))) (p / 4096)

-- no buffer of slab i is left to ask about: a scan leaves out each that is out
abbrev pub IsSpent : ℕ → List SlabState → List Bool → ℕ → Type 0
IsSpent chunks slabs skip i = (k : ℕ) → is_out_on (slab_at slabs i) k ≡ true → slice_index_or skip (i * chunks + k) false ≡ true

-- of the slabs that stand below a place, the last one that may have a buffer left to ask about: those above it have none
abbrev pub IsLastUnspent : ListState → ℕ → Option ℕ → Type 0
IsLastUnspent s to None = (p : ℕ) → p < to → stands_at s p ≡ true → IsSpent s.chunks s.slabs s.skip (p % 4096)
IsLastUnspent s to (Some n) =
    (n < to) × (stands_at s n ≡ true)
    × ((p : ℕ) → n < p → p < to → stands_at s p ≡ true → IsSpent s.chunks s.slabs s.skip (p % 4096))

-- the slab has a count or a mark
abbrev pub has_note : SlabState → Bool
has_note slab = not (slab.later == 0) || is_some slab.stuck

-- the index tells of each slab its bin and whether it has a count or a mark, which slabs may have a buffer left to ask about, and of all how
-- many there are of each sort
pub record IsIndexOf (chunks : ℕ) (slabs : List SlabState) (skip : List Bool) (x : Index) : Type 0 where
  pub narrow : chunks ≤ 64
  pub few : length slabs ≤ 4096
  pub tall : x.places.levels ≡ 4
  pub room : 532480 ≤ length x.places.flags
  pub wide : 532480 ≤ length x.unspent.flags
  pub notes : 4096 ≤ length x.noted.flags
  pub as_many : length skip ≡ length slabs * chunks
  pub places : (p : ℕ) → has x.places p ≡ is_the (bin_of chunks (slab_at slabs (p % 4096))) (p / 4096)
  pub standing : (p : ℕ) → has x.unspent p ≡ true → has x.places p ≡ true
  pub spent : (p : ℕ) → has x.places p ≡ true → has x.unspent p ≡ false → IsSpent chunks slabs skip (p % 4096)
  pub noted : (i : ℕ) → has x.noted i ≡ has_note (slab_at slabs i)
  pub listed : x.listed ≡ count_by is_listed slabs
  pub unused : x.unused ≡ count_by is_unused slabs
  pub dead : x.dead ≡ count_by is_dead slabs
  pub out : x.out ≡ sum_by used slabs

-- the index of slabs that are all in the source
pub record IsEmptyIndex (x : Index) : Type 0 where
  pub tall : x.places.levels ≡ 4
  pub room : 532480 ≤ length x.places.flags
  pub wide : 532480 ≤ length x.unspent.flags
  pub notes : 4096 ≤ length x.noted.flags
  pub places : (p : ℕ) → has x.places p ≡ false
  pub unspent : (p : ℕ) → has x.unspent p ≡ false
  pub noted : (i : ℕ) → has x.noted i ≡ false
  pub counts : (x.listed ≡ 0) × (x.unused ≡ 0) × (x.dead ≡ 0) × (x.out ≡ 0)
