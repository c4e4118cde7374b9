use Rattle.tb_weighted.proofs.Unique.{unique}
use Rattle.tb_weighted.proofs.laws.one_nearest_least.Goals as goal

pub returns : goal.returns
returns c = unique
