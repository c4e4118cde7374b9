use Rattle.tb_geometry.proofs.Whole.{cell_in_box}
use Rattle.tb_geometry.proofs.laws.cells_lie_in_boxes.Goals as goal

pub returns : goal.returns
returns c = λ d g p is. cell_in_box d g p is.apart is.covered
