use Rattle.tb_geometry.proofs.Steps.{boxes_in_limits}
use Rattle.tb_geometry.proofs.Whole.{base_carries}
use Rattle.tb_geometry.proofs.laws.the_base_grid_carries_the_body.Goals as goal

pub returns : goal.returns
returns c = λ d limits. base_carries d (boxes_in_limits d limits)
