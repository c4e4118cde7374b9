use Rattle.tb_duality.proofs.CellLaws.{axis_above, axis_below}
use Rattle.tb_duality.proofs.cell_terms_bound_their_product.Goals as goal

pub returns-clause-above : goal.returns-clause-above
returns-clause-above c = axis_above

pub returns-clause-below : goal.returns-clause-below
returns-clause-below c = axis_below
