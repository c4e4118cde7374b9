use Rattle.tb_duality.proofs.CellLaws.{cell_carries}
use Rattle.tb_duality.proofs.cell_carries_off_its_products.Goals as goal

pub returns : goal.returns
returns c = cell_carries
