use Rattle.tb_costs.proofs.Bodies.{energies}
use Rattle.tb_costs.proofs.accepted_fluxes_have_bounded_energies.Goals as goal

pub returns : goal.returns
returns c = λ d g inside flows limits carries grid flux h. energies d g limits carries grid inside flows flux h
