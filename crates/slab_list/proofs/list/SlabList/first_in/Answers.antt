use Rattle.std.proofs.Common.{◌≡◌, ◌<◌, ◌*◌, ◌+◌, ◌-◌, ℕ, length, false, arith, sym, subst}
use Rattle.std.specs.Prelude.{MatchOption}
use Rattle.kmem_model.specs.CacheState.{slab_at}
use Rattle.kmem_model.specs.CacheOrder.{is_the, IsLeastBelow}
use Rattle.slab_list.specs.Bins.{bin_of}
use Rattle.slab_list.proofs.Choices.{slab_size}
use Rattle.slab_list.proofs.Orders.{in_none, in_this, in_other}
use Rattle.slab_list.proofs.list.SlabList.first_in.Goals as goal

pub returns-in_err-place : goal.returns-in_err-place
returns-in_err-place g c =
    let s = c.args.self.now in
    let b = c.args.bin in
    subst (λ o. MatchOption o ((i : ℕ) → i < length s.slabs → is_the (bin_of s.chunks (slab_at s.slabs i)) b ≡ false)
    (IsLeastBelow (length s.slabs) (λ i. is_the (bin_of s.chunks (slab_at s.slabs i)) b)))
    (sym c.from_residual.ensures)
    (in_none s c.law_whole.ensures.sizes.0 c.law_whole.ensures.sizes.1 (slab_size s c.law_whole.ensures.whole) b (b * 4096 - 1 + 1) (omega arith) c.in_err-place.ensures)

pub returns-then-place-bin : goal.returns-then-place-bin
returns-then-place-bin g c =
    let s = c.args.self.now in
    let b = c.args.bin in
    in_this s c.law_whole.ensures.sizes.0 c.law_whole.ensures.sizes.1 (slab_size s c.law_whole.ensures.whole) b (b * 4096 - 1 + 1) (omega arith)
    c.in_ok-place.place c.in_ok-place.ensures c.if-place-bin.true

pub returns-else-place-bin : goal.returns-else-place-bin
returns-else-place-bin g c =
    let s = c.args.self.now in
    let b = c.args.bin in
    in_other s c.law_whole.ensures.sizes.0 c.law_whole.ensures.sizes.1 (slab_size s c.law_whole.ensures.whole) b (b * 4096 - 1 + 1) (omega arith)
    c.in_ok-place.place c.in_ok-place.ensures c.if-place-bin.false
