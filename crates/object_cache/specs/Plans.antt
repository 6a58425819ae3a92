-- The next move of a cache (this project's own).
use Rattle.std.specs.Prelude.{ℕ, ◌≡◌, ◌<◌, ◌/◌, true, false, Some, None, length, slice_index_or}
use Rattle.kmem_model.specs.CacheState.{CacheState, slab_at, is_listed, is_out}
use Rattle.kmem_model.specs.CacheOrder.{first_partial_free}
use Rattle.kmem_model.specs.CacheEnter.{may_begin}

-- the move with this number and these buffers may begin
pub record IsPlan (s : CacheState) (number from to : ℕ) : Type 0 where
  pub may : may_begin s number (record { from = from; to = to }) ≡ true
  pub number_in : number < length s.pending
  pub idle : slice_index_or s.pending number None ≡ None
  pub from_in : from < length s.asked
  pub first : first_partial_free s.chunks s.slabs ≡ Some to
  pub free : (is_listed (slab_at s.slabs (to / s.chunks)) ≡ true) × (is_out s to ≡ false)
