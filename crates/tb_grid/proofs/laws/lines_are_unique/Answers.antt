use Rattle.tb_grid.proofs.Through.{lines_unique}
use Rattle.tb_grid.proofs.laws.lines_are_unique.Goals as goal

pub returns : goal.returns
returns c = lines_unique
