use Rattle.tb_cuts.proofs.UnevenCuts.{corner-balanced, halves-unbalanced, middle-above}
use Rattle.tb_cuts.proofs.uneven_cuts_need_their_ratio.Goals as goal

pub returns-clause-balanced : goal.returns-clause-balanced
returns-clause-balanced c = corner-balanced

pub returns-clause-halves_lose_balance : goal.returns-clause-halves_lose_balance
returns-clause-halves_lose_balance c = halves-unbalanced

pub returns-clause-middle_value_gains_energy : goal.returns-clause-middle_value_gains_energy
returns-clause-middle_value_gains_energy c = middle-above
