use Rattle.tb_duality.proofs.BodiesInLimits.{complements_on_meshes}
use Rattle.tb_duality.proofs.complements.details_have_complements.Goals as goal

pub returns : goal.returns
returns c = complements_on_meshes
