use Rattle.tb_duality.proofs.ComplementLaws.{energy_turned, balance_turned, bound_turned}
use Rattle.tb_duality.proofs.complements.complements_agree.Goals as goal

pub returns-clause-energy : goal.returns-clause-energy
returns-clause-energy c = energy_turned

pub returns-clause-balance : goal.returns-clause-balance
returns-clause-balance c = balance_turned

pub returns-clause-bound : goal.returns-clause-bound
returns-clause-bound c = bound_turned
