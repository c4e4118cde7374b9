use Rattle.tb_duality.proofs.Duality.{duality}
use Rattle.tb_duality.proofs.weak_duality.Goals as goal

pub returns : goal.returns
returns c = duality
