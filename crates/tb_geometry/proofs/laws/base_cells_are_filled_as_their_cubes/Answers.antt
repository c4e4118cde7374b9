use Rattle.tb_geometry.proofs.Occupants.{cell_filled, occupant_holds}
use Rattle.tb_geometry.proofs.Steps.{boxes_in_limits}
use Rattle.tb_geometry.proofs.laws.base_cells_are_filled_as_their_cubes.Goals as goal

pub returns-clause-accepted : goal.returns-clause-accepted
returns-clause-accepted c = λ d p limits is. cell_filled d p (boxes_in_limits d limits) is.apart is.covered

pub returns-clause-filled : goal.returns-clause-filled
returns-clause-filled c = occupant_holds
