use Rattle.tb_geometry.proofs.HullEnds.{has_hull}
use Rattle.tb_geometry.proofs.laws.boxes_have_a_hull.Goals as goal

pub returns : goal.returns
returns c = has_hull
