use Rattle.tb_geometry.proofs.Covers.{hull_cell}
use Rattle.tb_geometry.proofs.Hulls.{cube_in_hull, one_cell}
use Rattle.tb_geometry.proofs.Steps.{boxes_in_limits}
use Rattle.tb_geometry.proofs.laws.base_cells_divide_the_hull.Goals as goal

pub returns-clause-in_one : goal.returns-clause-in_one
returns-clause-in_one c = hull_cell

pub returns-clause-apart : goal.returns-clause-apart
returns-clause-apart c = one_cell

pub returns-clause-inside : goal.returns-clause-inside
returns-clause-inside c = λ d p x y z limits. cube_in_hull d.boxes p x y z (boxes_in_limits d limits)
