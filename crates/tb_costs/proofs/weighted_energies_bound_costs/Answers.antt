use Rattle.tb_costs.proofs.Bodies.{costs}
use Rattle.tb_costs.proofs.weighted_energies_bound_costs.Goals as goal

pub returns : goal.returns
returns c = λ d g inside flows limits carries grid flux h. costs d g limits carries grid inside flows flux h
