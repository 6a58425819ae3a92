-- The states of the cache at the end of its history, and after the frees behind it.
use Rattle.std.proofs.Common.{◌≡◌, ◌+◌, ◌*◌, ℕ, false, List, [], ◌∷◌, length, None, refl, sym, ◌∙◌, arith}
use Rattle.std.proofs.lemmas.List.{length-replicate}
use Rattle.run_movers.proofs.Sums.{none_any}
use Rattle.kmem_model.specs.declared.cache_entry.CacheEntry.{CacheEntry}
use Rattle.kmem_model.specs.CacheState.{CacheState, CacheSizes, opening, slab_in_source, has_pending, pending_count}
use Rattle.kmem_model.specs.CacheHistory.{Reaches, Follows}
use Rattle.kmem_model.specs.CacheCounts.{total, entries_in, moves_begun, moves_ended}
use Rattle.run_end.proofs.Sizes.{follows_sizes}
use Rattle.kmem_model.proofs.CacheCounts.{history_follows}
use Rattle.kmem_cache.specs.Closing.{frees_of}

-- each buffer of the cache was asked about or not
pub asked_after : (sizes : CacheSizes) (history : List (ℕ × CacheEntry)) (entries : List CacheEntry) (s t : CacheState) → Reaches sizes history s → Follows s entries t →
    length t.asked ≡ sizes.slabs * sizes.chunks
asked_after sizes history entries s t reached follows =
    (follows_sizes entries s t follows).asked
    ∙ ((follows_sizes (entries_in history) (opening sizes) s (sym (history_follows history (opening sizes)) ∙ reached)).asked
    ∙ length-replicate (sizes.slabs * sizes.chunks) false)

-- a state that is reached has the sizes of the opening
pub reached_sizes : (sizes : CacheSizes) (history : List (ℕ × CacheEntry)) (s : CacheState) → Reaches sizes history s →
    (length s.slabs ≡ sizes.slabs) × (s.chunks ≡ sizes.chunks) × (length s.pending ≡ sizes.limit)
reached_sizes sizes history s reached =
    let same = follows_sizes (entries_in history) (opening sizes) s (sym (history_follows history (opening sizes)) ∙ reached) in
    (same.slabs ∙ length-replicate sizes.slabs (slab_in_source sizes.chunks), same.chunks, same.limit ∙ length-replicate sizes.limit None)

-- frees begin and end no move
pub frees_begin : (numbers : List ℕ) → total moves_begun (frees_of numbers) ≡ 0
frees_begin [] = refl
frees_begin (n ∷ ns) = omega (arith, frees_begin ns)

pub frees_end : (numbers : List ℕ) → total moves_ended (frees_of numbers) ≡ 0
frees_end [] = refl
frees_end (n ∷ ns) = omega (arith, frees_end ns)

pub still_calm : (s t : CacheState) (numbers : List ℕ) → ((s t : CacheState) (entries : List CacheEntry) → Follows s entries t →
    pending_count t + total moves_ended entries ≡ pending_count s + total moves_begun entries) → Follows s (frees_of numbers) t → pending_count s ≡ 0 → has_pending t ≡ false
still_calm s t numbers law follows none =
    none_any _ t.pending (omega (arith, law s t (frees_of numbers) follows, frees_begin numbers, frees_end numbers, none))
