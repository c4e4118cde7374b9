use Rattle.tb_outlets.proofs.RepairedFluxes.{is_repaired_flux, one_repaired_flux}
use Rattle.tb_outlets.proofs.laws.repaired_flux_is_one.Goals as goal

pub returns-clause-one : goal.returns-clause-one
returns-clause-one c = one_repaired_flux

pub returns-clause-whole : goal.returns-clause-whole
returns-clause-whole c = is_repaired_flux
