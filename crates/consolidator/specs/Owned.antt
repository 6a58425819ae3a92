-- A settle of a cache and of an owner of the objects in its buffers: what the owner's answers make of it (this project's own).
use Rattle.std.specs.Prelude.{ℕ, ◌≡◌, ◌+◌, ◌*◌, ◌≤◌, ◌⊎◌, Bool, true, false, List, [], ◌∷◌, Option, Some, All, slice_get, length, map, count_by}
use Rattle.std.specs.List.{list_any}
use Rattle.kmem_buf.specs.declared.owner.Stand.{Stand}
use Rattle.kmem_buf.specs.declared.owner.Stand.TheVariants.{Movable, Spare, Fixed, Busy, Unknown}
use Rattle.kmem_buf.specs.Owners.{verdict_about, stand_at, stands_after, tenants_after}
use Rattle.kmem_model.specs.CacheState.{CacheState, slab_at, is_dead, is_out_on, is_out, has_pending}
use Rattle.kmem_model.specs.CacheOrder.{is_partial}
use Rattle.kmem_model.specs.Settle.{Stage, EndedMove, gains, scanned}
use Rattle.kmem_model.specs.SettleMeasure.{settled}
use Rattle.kmem_model.specs.SettleEntries.{AreEntriesOf}
use Rattle.kmem_model.specs.declared.cache_entry.Said.{Said}
use Rattle.kmem_model.specs.declared.cache_entry.CacheEntry.{CacheEntry}
use Rattle.kmem_answers.specs.Words.{said_of}
use Rattle.object_cache.specs.declared.tally.Tally.{Tally}
use Rattle.consolidator.specs.Tallies.{counted_all, tally_of}

-- What an owner has

-- how the object in each buffer stands, and its tenant, by number
pub record Holdings (T : Type 0) : Type 0 where
  pub stands : List Stand
  pub tenants : List (Option T)

-- what an owner of a kind has, by what it shows
abbrev pub holdings : {H T : Type 0} → (H → List Stand) → (H → List (Option T)) → H → Holdings T
holdings stands tenants owner = record { stands = stands owner; tenants = tenants owner }

-- the owner has an object that stands so
abbrev pub has_object : Stand → Bool
has_object Movable = true
has_object Spare = true
has_object Fixed = true
has_object Busy = true
has_object Unknown = false

-- the buffers of the cache that are out are exactly those in which the owner has an object
pub record AreOwned (cache : CacheState) (stands : List Stand) : Type 0 where
  pub size : length stands ≡ length cache.asked
  pub places : (b : ℕ) → has_object (stand_at stands b) ≡ is_out cache b

-- What it answers

-- the answer about an object that stands so, as the entry rules name it
abbrev pub said_about : Stand → Said
said_about stand = said_of (verdict_about stand)

-- what a settle works on
abbrev pub stage_with : CacheState → List Stand → Stage
stage_with cache stands = record { cache = cache; says = map said_about stands }

-- what the answer about a move from one buffer to another leaves
abbrev pub holdings_after : {T : Type 0} → Holdings T → ℕ → ℕ → Holdings T
holdings_after held from to =
    record {
      stands = stands_after held.stands from to;
      tenants = tenants_after held.stands from to held.tenants;
    }

-- what the answers about these moves leave, one after another
abbrev pub holdings_left : {T : Type 0} → Holdings T → List EndedMove → Holdings T
holdings_left held [] = held
holdings_left held (move ∷ moves) = holdings_left (holdings_after held move.from move.to) moves

-- each of these moves ended by the answer about the object in the old buffer as it stood then, and the new buffer had none
abbrev pub AreAnswered : {T : Type 0} → Holdings T → List EndedMove → Type 0
AreAnswered held [] = Unit {0}
AreAnswered held (move ∷ moves) =
    (move.said ≡ said_about (stand_at held.stands move.from)) × (slice_get held.stands move.to ≡ Some Unknown)
    × AreAnswered (holdings_after held move.from move.to) moves

-- What a settle leaves

-- slab i has a mark, and its stuck buffer is out and can't be moved now
pub record IsHeldUp (cache : CacheState) (stands : List Stand) (i : ℕ) : Type 0 where
  pub index : ℕ
  pub marked : (slab_at cache.slabs i).stuck ≡ Some index
  pub out : is_out_on (slab_at cache.slabs i) index ≡ true
  pub stand : (stand_at stands (i * cache.chunks + index) ≡ Fixed) ⊎ (stand_at stands (i * cache.chunks + index) ≡ Busy)

-- nothing is pending and no slab is dead; and there is at most one partial slab, or each of them is held up
pub record AreSettled (cache : CacheState) (stands : List Stand) : Type 0 where
  pub calm : has_pending cache ≡ false
  pub none_dead : All (λ slab. is_dead slab ≡ false) cache.slabs
  pub partial : (count_by is_partial cache.slabs ≤ 1) ⊎ ((i : ℕ) → is_partial (slab_at cache.slabs i) ≡ true → IsHeldUp cache stands i)

module _ {T : Type 0} where
  -- the scan that this cache begins with this owner ends at that one, with or without an answer that frees an old buffer
  pub record ScansWith (old new : CacheState) (held held_after : Holdings T) (tally tally_after : Tally) (gained : Bool) : Type 0 where
    pub moves : List EndedMove
    pub scan : scanned (stage_with old held.stands) ≡ Some (record { stage = stage_with new held_after.stands; moves = moves })
    pub flag : list_any (λ (move : EndedMove). gains move.said) moves ≡ gained
    pub counts : tally_after ≡ counted_all tally moves
    pub answered : AreAnswered held moves
    pub left : held_after ≡ holdings_left held moves

  -- the settle of this cache with this owner ends at that one, by these moves, each of which is counted, and makes just these entries;
  -- each move ended by the owner's answer, and what it has is what the answers leave
  pub record SettlesWith (old new : CacheState) (held held_after : Holdings T) (tally : Tally) : Type 0 where
    pub moves : List EndedMove
    pub settle : settled (stage_with old held.stands) ≡ Some (record { stage = stage_with new held_after.stands; moves = moves })
    pub counts : tally ≡ tally_of moves
    pub entries : List CacheEntry
    pub made : AreEntriesOf (stage_with old held.stands) (record { stage = stage_with new held_after.stands; moves = moves }) entries
    pub answered : AreAnswered held moves
    pub left : held_after ≡ holdings_left held moves
