use Rattle.tb_cycles.proofs.CycleSums.{additive_total}
use Rattle.tb_cycles.proofs.laws.additive_functions_are_sums.Goals as goal

pub returns : goal.returns
returns c = additive_total
