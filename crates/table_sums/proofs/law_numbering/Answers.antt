use Rattle.table_sums.proofs.Spreads.{numbering}
use Rattle.table_sums.proofs.law_numbering.Goals as goal

pub returns : goal.returns
returns c = numbering
