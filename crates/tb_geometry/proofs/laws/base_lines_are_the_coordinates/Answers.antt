use Rattle.tb_geometry.proofs.Coordinates.{base_unique}
use Rattle.tb_geometry.proofs.Lines.{base_through}
use Rattle.tb_geometry.proofs.laws.base_lines_are_the_coordinates.Goals as goal

pub returns-clause-through : goal.returns-clause-through
returns-clause-through c = base_through

pub returns-clause-unique : goal.returns-clause-unique
returns-clause-unique c = base_unique
