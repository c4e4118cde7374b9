use Rattle.tb_outside.proofs.Gathered.{gathers_both}
use Rattle.tb_outside.proofs.tests.CellsText.put.Goals as goal

pub returns : goal.returns
returns g c = gathers_both (gathers_both c.put.ensures.gathers c.put_cells.ensures) c.put-2.ensures.gathers
