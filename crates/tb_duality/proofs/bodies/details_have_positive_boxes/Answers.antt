use Rattle.tb_duality.proofs.BodiesInLimits.{boxes_positive}
use Rattle.tb_duality.proofs.bodies.details_have_positive_boxes.Goals as goal

pub returns : goal.returns
returns c = boxes_positive
