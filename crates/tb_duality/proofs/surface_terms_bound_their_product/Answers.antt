use Rattle.tb_duality.proofs.CellLaws.{surface_bounds}
use Rattle.tb_duality.proofs.surface_terms_bound_their_product.Goals as goal

pub returns : goal.returns
returns c = surface_bounds
