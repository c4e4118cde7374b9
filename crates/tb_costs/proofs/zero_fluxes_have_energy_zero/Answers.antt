use Rattle.tb_costs.proofs.Zero.{no_energy, none_admissible}
use Rattle.tb_costs.proofs.zero_fluxes_have_energy_zero.Goals as goal

pub returns-clause-energy : goal.returns-clause-energy
returns-clause-energy c = no_energy

pub returns-clause-admissible : goal.returns-clause-admissible
returns-clause-admissible c = none_admissible
