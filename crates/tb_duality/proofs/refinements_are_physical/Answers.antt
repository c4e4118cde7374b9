use Rattle.tb_duality.proofs.PhysicalMeshes.{mesh_physical}
use Rattle.tb_duality.proofs.refinements_are_physical.Goals as goal

pub returns : goal.returns
returns c = mesh_physical
