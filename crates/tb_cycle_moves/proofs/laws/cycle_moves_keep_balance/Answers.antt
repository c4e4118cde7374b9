use Rattle.tb_cycle_moves.proofs.Keeping.{keeps_balance, turns_keep_balance}
use Rattle.tb_cycle_moves.proofs.laws.cycle_moves_keep_balance.Goals as goal

pub returns-clause-one : goal.returns-clause-one
returns-clause-one c = keeps_balance

pub returns-clause-all : goal.returns-clause-all
returns-clause-all c = turns_keep_balance
