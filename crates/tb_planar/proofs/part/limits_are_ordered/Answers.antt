use Rattle.tb_planar.proofs.Errors.{limits_ordered}
use Rattle.tb_planar.proofs.part.limits_are_ordered.Goals as goal

pub returns : goal.returns
returns c = limits_ordered
