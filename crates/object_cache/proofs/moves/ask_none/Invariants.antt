use Rattle.std.proofs.Common.{◌≡◌, ℕ, Bool, false, length, get_or, count_by}
use Rattle.object_cache.specs.Moves.{is_left_out_of}
use Rattle.object_cache.proofs.moves.ask_none.Given as goal

abbrev pub invariant-loop-number : goal.invariant-loop-number
invariant-loop-number g l =
    record {
      asked : length l.asked ≡ length l.initial.asked;
      stock : l.stock ≡ record l.initial.stock { skip = l.stock.skip };
      skip : length l.stock.skip ≡ length l.initial.stock.skip;
      left_out : (b : ℕ) → get_or l.stock.skip b false ≡ is_left_out_of l.asked l.pending b;
    }

abbrev pub decreases-loop-number : goal.decreases-loop-number
decreases-loop-number g l = count_by (λ (b : Bool). b) l.asked
