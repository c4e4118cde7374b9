use Rattle.tb_math.specs.Ceiling.{ceiling}
use Rattle.tb_math.proofs.SumInstances.{adds_ℤ}
use Rattle.tb_model.specs.Energy.{rounded_up}
use Rattle.tb_rows.proofs.Reordering.{mesh_by_cells}
use Rattle.tb_rows.proofs.laws.sums_go_by_cells.Goals as goal

pub returns : goal.returns
unfolding rounded_up
returns c = λ m t. mesh_by_cells adds_ℤ ceiling m t
