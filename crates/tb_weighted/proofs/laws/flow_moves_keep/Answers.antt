use Rattle.tb_weighted.proofs.FlowMoves.{flux_kept, none_added}
use Rattle.tb_weighted.proofs.laws.flow_moves_keep.Goals as goal

pub returns-clause-limits : goal.returns-clause-limits
returns-clause-limits c = flux_kept

pub returns-clause-changes : goal.returns-clause-changes
returns-clause-changes c = none_added
