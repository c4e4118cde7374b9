use mathlib.Core.Path.{refl}
use Rattle.tb_cuts.proofs.CutForms.{spread_first, spread_second}
use Rattle.tb_cuts.proofs.CutTerms.{energy_shared, energy_across, surface_across, loss_along, loss_across, surface_loss_across}
use Rattle.tb_cuts.proofs.terms_add_up_at_a_cut.Goals as goal

pub returns-clause-cell_energy_along : goal.returns-clause-cell_energy_along
returns-clause-cell_energy_along c = energy_shared

pub returns-clause-cell_energy_across_first : goal.returns-clause-cell_energy_across_first
returns-clause-cell_energy_across_first c = λ s k w A d00 d10 d01 d11. energy_across s k w A _ _ _ _ _ refl refl (spread_first s d00 d10 d01 d11)

pub returns-clause-cell_energy_across_second : goal.returns-clause-cell_energy_across_second
returns-clause-cell_energy_across_second c = λ s k w A d00 d10 d01 d11. energy_across s k w A _ _ _ _ _ refl refl (spread_second s d00 d10 d01 d11)

pub returns-clause-surface_energy_first : goal.returns-clause-surface_energy_first
returns-clause-surface_energy_first c = λ s rs A d00 d10 d01 d11. surface_across s rs A _ _ _ _ _ refl refl (spread_first s d00 d10 d01 d11)

pub returns-clause-surface_energy_second : goal.returns-clause-surface_energy_second
returns-clause-surface_energy_second c = λ s rs A d00 d10 d01 d11. surface_across s rs A _ _ _ _ _ refl refl (spread_second s d00 d10 d01 d11)

pub returns-clause-cell_loss_along : goal.returns-clause-cell_loss_along
returns-clause-cell_loss_along c = loss_along

pub returns-clause-cell_loss_across : goal.returns-clause-cell_loss_across
returns-clause-cell_loss_across c = λ s k w A low high ratio. loss_across s k w A _ _ low high ratio refl refl

pub returns-clause-surface_loss_across : goal.returns-clause-surface_loss_across
returns-clause-surface_loss_across c = λ s rs A flow ratio. surface_loss_across s rs A _ _ flow ratio refl refl
