use Rattle.tb_grid.proofs.Volumes.{same_volume}
use Rattle.tb_grid.proofs.laws.volumes_agree.Goals as goal

pub returns : goal.returns
returns c = same_volume
