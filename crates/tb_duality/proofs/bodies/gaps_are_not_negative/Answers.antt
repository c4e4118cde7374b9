use Rattle.tb_duality.proofs.BodyEnds.{gap_not_below_zero}
use Rattle.tb_duality.proofs.bodies.gaps_are_not_negative.Goals as goal

pub returns : goal.returns
returns c = λ d g h inside T q limits. gap_not_below_zero d limits g h inside T q
