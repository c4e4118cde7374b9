use Rattle.tb_walk.proofs.Together.{none_isolated}
use Rattle.tb_walk.proofs.laws.air_is_reached_from_everywhere.Goals as goal

pub returns : goal.returns
returns c = none_isolated
