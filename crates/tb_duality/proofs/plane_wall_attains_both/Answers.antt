use Rattle.tb_duality.proofs.WallLaws.{wall-physical, wall-balanced, wall-energy, wall-bound, staying-above}
use Rattle.tb_duality.proofs.plane_wall_attains_both.Goals as goal

pub returns-clause-physical : goal.returns-clause-physical
returns-clause-physical c = wall-physical

pub returns-clause-balanced : goal.returns-clause-balanced
returns-clause-balanced c = wall-balanced

pub returns-clause-energy : goal.returns-clause-energy
returns-clause-energy c = wall-energy

pub returns-clause-bound : goal.returns-clause-bound
returns-clause-bound c = wall-bound

pub returns-clause-balance_is_needed : goal.returns-clause-balance_is_needed
returns-clause-balance_is_needed c = staying-above
