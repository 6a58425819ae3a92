use Rattle.std.proofs.Common.{◌≡◌, ◌<◌, ◌||◌, Bool, List, false, true, length, get_or, set, count_by, arith, sym, ap, ◌∙◌, subst, length-set}
use Rattle.std.specs.List.{list_any}
use Rattle.kmem_model.specs.CacheOrder.{is_of_move}
use Rattle.object_cache.specs.Moves.{is_left_out_of}
use Rattle.slab_list.specs.Slabs.{ListState}
use Rattle.object_cache.proofs.Tracked.{unask, fewer_asked, none_asked, asked_within}
use Rattle.object_cache.proofs.moves.ask_none.Goals as goal

pub loop-number-preserved : goal.loop-number-preserved
loop-number-preserved g c =
    let asked : List Bool = c.loop-number.asked in
    let stock = c.loop-number.stock in
    let skip : List Bool = stock.skip in
    let pending = c.args.pending.now in
    let n = c.in-Some.number in
    let k = c.loop-number.invariant in
    let e : c.forget.new.self ≡ set asked n false = c.forget.ensures in
    let low : n < length asked = asked_within asked n c.in-Some.ensures.1 in
    let cells : length stock.cells ≡ length c.args.stock.now.cells = ap (λ (l : ListState). length l.cells) k.stock in
    let size : length skip ≡ length asked = k.skip ∙ (c.requires.skips ∙ (sym c.requires.size ∙ sym k.asked)) in
    let now = c.leave_out.ensures in
    record {
      asked = ap (λ (a : List Bool). length a) e ∙ (length-set asked n false ∙ k.asked);
      stock = now ∙ (ap (λ (l : ListState). record l { skip = set skip n c.is_of_any.result }) k.stock
          ∙ ap (λ (bs : List Bool). record c.args.stock.now { skip = bs }) (sym (ap (λ (l : ListState). l.skip) now)));
      skip = ap (λ (l : ListState). length l.skip) now ∙ (length-set skip n c.is_of_any.result ∙ k.skip);
      left_out = λ b.
          ap (λ (l : ListState). get_or l.skip b false) now
          ∙ (ap (λ (v : Bool). get_or (set skip n v) b false) c.is_of_any.ensures
          ∙ (unask pending asked skip n low size k.left_out b ∙ ap (λ (a : List Bool). is_left_out_of a pending b) (sym e)));
    }

pub leave_out-requires : goal.leave_out-requires
leave_out-requires g c =
    let asked : List Bool = c.loop-number.asked in
    let k = c.loop-number.invariant in
    let low : c.in-Some.number < length asked = asked_within asked c.in-Some.number c.in-Some.ensures.1 in
    omega (arith, low, k.asked, c.requires.size, ap (λ (l : ListState). length l.cells) k.stock)

pub loop-number-smaller : goal.loop-number-smaller
loop-number-smaller g c =
    let asked : List Bool = c.loop-number.asked in
    let n = c.in-Some.number in
    let given : get_or asked n false ≡ true = c.in-Some.ensures.1 in
    subst (λ (a : List Bool). count_by (λ (b : Bool). b) a < count_by (λ (b : Bool). b) asked) (sym c.forget.ensures)
    (fewer_asked asked n given (asked_within asked n given))

pub returns-clause-asked : goal.returns-clause-asked
returns-clause-asked g c =
    let asked : List Bool = c.loop-number.asked in
    none_asked c.args.pending.now asked c.args.asked.now c.loop-number.invariant.asked (λ b. c.in_default.ensures b (omega arith))

pub returns-clause-flags : goal.returns-clause-flags
returns-clause-flags g c =
    let asked : List Bool = c.loop-number.asked in
    λ b.
    c.loop-number.invariant.left_out b
    ∙ ap (λ (t : Bool). t || list_any (is_of_move b) c.args.pending.now) (c.in_default.ensures b (omega arith))
