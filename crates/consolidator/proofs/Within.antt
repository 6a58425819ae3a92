-- What holds within a scan and within a settle.
use Rattle.std.specs.Prelude.{◌≡◌, Bool, List}
use Rattle.std.specs.List.{list_any}
use Rattle.kmem_model.specs.CacheState.{CacheState}
use Rattle.kmem_model.specs.Settle.{EndedMove, gains, scanned, moved}
use Rattle.kmem_model.specs.SettleWhole.{IsWholeStage}
use Rattle.kmem_model.specs.SettleMeasure.{IsInSettle, scanned_all, settled}
use Rattle.object_cache.specs.declared.tally.Tally.{Tally}
use Rattle.consolidator.specs.Tallies.{counted_all, tally_of}
use Rattle.consolidator.specs.Owned.{Holdings, stage_with, holdings_left, AreAnswered}

module _ {T : Type 0} where
  -- within that scan
  pub record IsOnScan (old now : CacheState) (held held_now : Holdings T) (tally tally_now : Tally) (gained : Bool) : Type 0 where
    pub moves : List EndedMove
    pub whole : IsWholeStage (stage_with now held_now.stands)
    pub same : moved (record { stage = stage_with now held_now.stands; moves = moves }) ≡ scanned (stage_with old held.stands)
    pub flag : list_any (λ (move : EndedMove). gains move.said) moves ≡ gained
    pub counts : tally_now ≡ counted_all tally moves
    pub answered : AreAnswered held moves
    pub left : held_now ≡ holdings_left held moves

  -- within that settle
  pub record IsOnSettle (old now : CacheState) (held held_now : Holdings T) (tally : Tally) : Type 0 where
    pub moves : List EndedMove
    pub inside : IsInSettle (stage_with now held_now.stands)
    pub same : scanned_all (record { stage = stage_with now held_now.stands; moves = moves }) ≡ settled (stage_with old held.stands)
    pub counts : tally ≡ tally_of moves
    pub answered : AreAnswered held moves
    pub left : held_now ≡ holdings_left held moves
