use Rattle.tb_cuts.proofs.CutFields.{energy_kept}
use Rattle.tb_cuts.proofs.CutFluxes.{bound_kept}
use Rattle.tb_cuts.proofs.CutBalance.{balance_kept}
use Rattle.tb_cuts.proofs.cuts_keep_what_they_cut.Goals as goal

pub returns-clause-energy : goal.returns-clause-energy
returns-clause-energy c = energy_kept

pub returns-clause-bound : goal.returns-clause-bound
returns-clause-bound c = bound_kept

pub returns-clause-balance : goal.returns-clause-balance
returns-clause-balance c = balance_kept
