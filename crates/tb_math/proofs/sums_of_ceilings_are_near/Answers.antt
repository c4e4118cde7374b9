-- Both bounds of a sum of ceilings.
use Rattle.tb_math.proofs.SumsOfCeilings.{rounds-ceilings}
use Rattle.tb_math.proofs.sums_of_ceilings_are_near.Goals as goal

pub returns-clause-above : goal.returns-clause-above
returns-clause-above c = λ n f. (rounds-ceilings n f).above

pub returns-clause-below : goal.returns-clause-below
returns-clause-below c = λ n f. (rounds-ceilings n f).strictly
