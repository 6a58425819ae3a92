use Rattle.std.proofs.Common.{rules, ◌≡◌, ◌≤◌, ℕ, Bool, List, None, false, length, get_or, set, sym, ap, ap₂, ◌∙◌, subst, length-set}
use Rattle.slab_list.specs.Slabs.{ListState}
use Rattle.kmem_model.specs.CacheEnter.{without_move}
use Rattle.kmem_model.specs.SettleWhole.{IsWhole}
use Rattle.kmem_model.proofs.SettleWhole.{without_move_whole}
use Rattle.object_cache.specs.Cache.{cache_of}
use Rattle.object_cache.specs.Moves.{MovesState, is_left_out_of}
use Rattle.object_cache.proofs.Tracked.{out_ended, pending_within}
use Rattle.object_cache.proofs.cache.ObjectCache.finish.Goals as goal

pub invariant_of-self : goal.invariant_of-self
invariant_of-self g c =
    let f = c.self.inside in
    let p = c.args.pending in
    let after = c.end.new.self in
    let was = c.end.ensures.was.move in
    let low = pending_within f.moves.pending p.slot (record { from = p.from; to = p.to }) was in
    let skip : c.leave_out-2.new.self.skip ≡ set (set f.stock.skip p.from c.is_left_out.result) p.to c.is_left_out-2.result =
    ap (λ (l : ListState). l.skip) c.leave_out-2.ensures
    ∙ (ap (λ (l : ListState). set l.skip c.to-to.result c.is_left_out-2.result) c.leave_out.ensures
    ∙ ap₂ (λ b d. set (set f.stock.skip b c.is_left_out.result) d c.is_left_out-2.result) c.from-from.ensures c.to-to.ensures) in
    let same : (b : ℕ) → is_left_out_of after.asked after.pending b ≡ is_left_out_of f.moves.asked (set f.moves.pending p.slot None) b =
    λ b. ap (λ (m : MovesState). is_left_out_of m.asked m.pending b) c.end.ensures.moves in
    let out : (b : ℕ) → get_or c.leave_out-2.new.self.skip b false ≡ is_left_out_of after.asked after.pending b =
    λ b.
    ap (λ (bs : List Bool). get_or bs b false) skip
    ∙ (out_ended f.moves.asked f.stock.skip f.moves.pending p.slot low (c.self.invariant.skips ∙ sym c.self.invariant.size) c.self.invariant.left_out p.from p.to was
    c.end.ensures.buffers.0 c.end.ensures.buffers.1 c.is_left_out.result c.is_left_out-2.result
    (c.is_left_out.ensures ∙ (ap (is_left_out_of after.asked after.pending) c.from-from.ensures ∙ same p.from))
    (c.is_left_out-2.ensures ∙ (ap (is_left_out_of after.asked after.pending) c.to-to.ensures ∙ same p.to)) b
    ∙ sym (same b)) in
    let size : length c.leave_out-2.new.self.skip ≡ length f.stock.skip =
    ap (λ (bs : List Bool). length bs) skip ∙ (length-set (set f.stock.skip p.from c.is_left_out.result) p.to c.is_left_out-2.result ∙ length-set f.stock.skip p.from c.is_left_out.result) in
    let kept : length c.leave_out-2.new.self.cells ≡ length f.stock.cells =
    ap (λ (l : ListState). length l.cells) c.leave_out-2.ensures ∙ ap (λ (l : ListState). length l.cells) c.leave_out.ensures in
    let cells : length c.give_back.new.self.cells ≡ length f.stock.cells = ap (λ (l : ListState). length l.cells) c.give_back.ensures ∙ kept in
    let ended : without_move (cache_of f.stock f.moves f.scan).state p.slot ≡ (cache_of c.give_back.new.self after f.scan).state = search rules in
    record {
      size = ap (λ (m : MovesState). length m.asked) c.end.ensures.moves ∙ (c.self.invariant.size ∙ sym cells);
      few = subst (λ n. n ≤ 65536) (sym cells) c.self.invariant.few;
      least = c.self.invariant.least;
      most = c.self.invariant.most;
      whole = subst IsWhole ended (without_move_whole (cache_of f.stock f.moves f.scan).state p.slot c.self.invariant.whole);
      skips = ap (λ (l : ListState). length l.skip) c.give_back.ensures ∙ (size ∙ (c.self.invariant.skips ∙ sym cells));
      left_out = λ b. ap (λ (l : ListState). get_or l.skip b false) c.give_back.ensures ∙ out b;
    }

pub invariant_of-self-else-not-is_any : goal.invariant_of-self-else-not-is_any
invariant_of-self-else-not-is_any g c =
    let f = c.self.inside in
    let p = c.args.pending in
    let after = c.end.new.self in
    let was = c.end.ensures.was.move in
    let low = pending_within f.moves.pending p.slot (record { from = p.from; to = p.to }) was in
    let skip : c.leave_out-2.new.self.skip ≡ set (set f.stock.skip p.from c.is_left_out.result) p.to c.is_left_out-2.result =
    ap (λ (l : ListState). l.skip) c.leave_out-2.ensures
    ∙ (ap (λ (l : ListState). set l.skip c.to-to.result c.is_left_out-2.result) c.leave_out.ensures
    ∙ ap₂ (λ b d. set (set f.stock.skip b c.is_left_out.result) d c.is_left_out-2.result) c.from-from.ensures c.to-to.ensures) in
    let same : (b : ℕ) → is_left_out_of after.asked after.pending b ≡ is_left_out_of f.moves.asked (set f.moves.pending p.slot None) b =
    λ b. ap (λ (m : MovesState). is_left_out_of m.asked m.pending b) c.end.ensures.moves in
    let out : (b : ℕ) → get_or c.leave_out-2.new.self.skip b false ≡ is_left_out_of after.asked after.pending b =
    λ b.
    ap (λ (bs : List Bool). get_or bs b false) skip
    ∙ (out_ended f.moves.asked f.stock.skip f.moves.pending p.slot low (c.self.invariant.skips ∙ sym c.self.invariant.size) c.self.invariant.left_out p.from p.to was
    c.end.ensures.buffers.0 c.end.ensures.buffers.1 c.is_left_out.result c.is_left_out-2.result
    (c.is_left_out.ensures ∙ (ap (is_left_out_of after.asked after.pending) c.from-from.ensures ∙ same p.from))
    (c.is_left_out-2.ensures ∙ (ap (is_left_out_of after.asked after.pending) c.to-to.ensures ∙ same p.to)) b
    ∙ sym (same b)) in
    let size : length c.leave_out-2.new.self.skip ≡ length f.stock.skip =
    ap (λ (bs : List Bool). length bs) skip ∙ (length-set (set f.stock.skip p.from c.is_left_out.result) p.to c.is_left_out-2.result ∙ length-set f.stock.skip p.from c.is_left_out.result) in
    let kept : length c.leave_out-2.new.self.cells ≡ length f.stock.cells =
    ap (λ (l : ListState). length l.cells) c.leave_out-2.ensures ∙ ap (λ (l : ListState). length l.cells) c.leave_out.ensures in
    let cells : length c.leave_out-2.new.self.cells ≡ length f.stock.cells = kept in
    let ended : without_move (cache_of f.stock f.moves f.scan).state p.slot ≡ (cache_of c.leave_out-2.new.self after f.scan).state = search rules in
    record {
      size = ap (λ (m : MovesState). length m.asked) c.end.ensures.moves ∙ (c.self.invariant.size ∙ sym cells);
      few = subst (λ n. n ≤ 65536) (sym cells) c.self.invariant.few;
      least = c.self.invariant.least;
      most = c.self.invariant.most;
      whole = subst IsWhole ended (without_move_whole (cache_of f.stock f.moves f.scan).state p.slot c.self.invariant.whole);
      skips = size ∙ (c.self.invariant.skips ∙ sym cells);
      left_out = out;
    }
