use Rattle.tb_field.proofs.Differences.{difference_rises}
use Rattle.tb_field.proofs.laws.differences_rise_along_their_axis.Goals as goal

pub returns : goal.returns
returns c = difference_rises
