use Rattle.tb_cycle_moves.proofs.Keeping.{keeps_limits, lowers}
use Rattle.tb_cycle_moves.proofs.laws.cycle_moves_raise_nothing.Goals as goal

pub returns-clause-limits : goal.returns-clause-limits
returns-clause-limits c = keeps_limits

pub returns-clause-energy : goal.returns-clause-energy
returns-clause-energy c = lowers
