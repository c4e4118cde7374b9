use Rattle.tb_trees.proofs.Air.{none_isolated_on}
use Rattle.tb_trees.proofs.laws.no_solid_is_isolated.Goals as goal

pub returns : goal.returns
returns c = none_isolated_on
